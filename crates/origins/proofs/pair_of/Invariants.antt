-- The loop's invariant in `origins::pair_of`, `PairLeft`, says where the pair stands among the pairs left to pass.
-- Assumes nothing.
use Prim.Native.Nat.{◌-◌}
use Rattle.origins.proofs.Finding.{PairLeft}
use Rattle.origins.proofs.pair_of.Given as goal

abbrev pub invariant-loop-lower : goal.invariant-loop-lower
invariant-loop-lower l = PairLeft l.n l.q l.lower l.left (l.n - 1 - l.lower)

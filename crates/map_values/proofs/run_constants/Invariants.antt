-- The loop's invariant in `map_values::run_constants`: s shares have run on.
-- Assumes nothing.
use Prim.Native.Nat.{◌+◌}
use Rattle.layout.specs.Layout.{constant_gates}
use Rattle.map_values.proofs.InPieces.{InPieces}
use Rattle.map_values.proofs.run_constants.Given as goal

abbrev pub invariant-loop-s : goal.invariant-loop-s
invariant-loop-s l =
    InPieces 1 l.w l.n (constant_gates l.value) l.initial.run (l.w + l.s) l.s l.run

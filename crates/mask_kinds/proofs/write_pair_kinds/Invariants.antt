-- The loop's invariant in `mask_kinds::write_pair_kinds`: the kinds of c pairs are written, the others follow them.
-- Assumes nothing.
use Prim.Native.Nat.{◌+◌, ◌*◌}
use Rattle.mask_kinds.specs.Kinds.{pair_kinds}
use Rattle.layout.proofs.Bytes.{PutPieces}
use Rattle.mask_kinds.proofs.write_pair_kinds.Given as goal

abbrev pub invariant-loop-c : goal.invariant-loop-c
invariant-loop-c l = PutPieces 5 l.at l.m (λ _. pair_kinds) l.initial.kinds (l.at + 5 * l.c) l.c l.kinds

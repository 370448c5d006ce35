-- The loop's invariant in `mask_kinds::write_rows_kinds`: the kinds of i rows are written, the others follow them.
-- Assumes nothing.
use Prim.Native.Nat.{◌+◌, ◌*◌}
use Rattle.mask_kinds.specs.Kinds.{row_kinds, XorsFrom}
use Rattle.layout.proofs.Bytes.{PutPieces}
use Rattle.mask_kinds.proofs.write_rows_kinds.Given as goal

abbrev pub invariant-loop-i : goal.invariant-loop-i
invariant-loop-i l =
    PutPieces l.n l.at l.n (λ _. row_kinds l.n) l.initial.kinds (l.at + l.n * l.i) l.i l.kinds
    × XorsFrom (l.at + l.n * l.i) l.kinds

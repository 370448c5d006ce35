-- The loop's invariant in `mask_rows::write_high_sums`: j sums are written, the others follow them, and `Upright`.
-- Assumes nothing.
use Prim.Native.Nat.{◌+◌, ◌*◌}
use Rattle.tables.specs.Tables.{pair_bytes}
use Rattle.construction.specs.Shares.{pair_at}
use Rattle.layout.specs.Layout.{sum_gates}
use Rattle.layout.proofs.Bytes.{PutPieces}
use Rattle.layout.proofs.Pieces.{Upright}
use Rattle.mask_rows.proofs.write_high_sums.Given as goal

abbrev pub invariant-loop-j : goal.invariant-loop-j
invariant-loop-j l =
    PutPieces 4 l.at l.i (λ m. pair_bytes (sum_gates l.last (λ j. l.w + 5 * pair_at l.n j l.i + l.form.high) m)) l.initial.ops
    (l.at + 4 * l.j) l.j l.ops
    × Upright l.n l.w l.i l.j l.z

-- The loop's invariant in `mask_rows::write_low_sums`: c sums are written, the others follow them.
-- Assumes nothing.
use Prim.Native.Nat.{◌+◌, ◌*◌}
use Rattle.tables.specs.Tables.{pair_bytes}
use Rattle.layout.specs.Layout.{sum_gates}
use Rattle.layout.proofs.Bytes.{PutPieces}
use Rattle.mask_rows.proofs.write_low_sums.Given as goal

abbrev pub invariant-loop-c : goal.invariant-loop-c
invariant-loop-c l =
    PutPieces 4 l.at l.m (λ m. pair_bytes (sum_gates l.last (λ c. l.z + 5 * c + l.form.low) m)) l.initial.ops (l.at + 4 * l.c) l.c l.ops

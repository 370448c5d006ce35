-- The loop's invariant in `mask_operands::write_constant`: s shares are written, and `left` is the next one's operand.
-- Assumes nothing.
use Prim.Native.Nat.{◌+◌, ◌*◌}
use Rattle.tables.specs.Tables.{pair_bytes}
use Rattle.layout.specs.Layout.{constant_gates}
use Rattle.layout.proofs.Bytes.{PutPieces}
use Rattle.mask_operands.proofs.write_constant.Given as goal

abbrev pub invariant-loop-s : goal.invariant-loop-s
invariant-loop-s l =
    PutPieces 4 l.at l.n (λ s. pair_bytes (constant_gates l.value s)) l.initial.ops (l.at + 4 * l.s) l.s l.ops

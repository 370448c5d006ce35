-- The loop's invariant in `mask_operands::write_xor`: s shares are written, the others follow them.
-- Assumes nothing.
use Prim.Native.Nat.{◌+◌, ◌*◌}
use Rattle.tables.specs.Tables.{pair_bytes}
use Rattle.layout.specs.Layout.{share_wires, xor_gates}
use Rattle.layout.proofs.Bytes.{PutPieces}
use Rattle.mask_operands.proofs.write_xor.Given as goal

abbrev pub invariant-loop-s : goal.invariant-loop-s
invariant-loop-s l =
    let n = l.reads.shares in
    let A = share_wires n l.reads.operands.left in
    let B = share_wires n l.reads.operands.right in
    PutPieces 4 l.at n (λ s. pair_bytes (xor_gates A B s)) l.initial.ops (l.at + 4 * l.s) l.s l.ops

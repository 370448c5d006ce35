-- The loop's invariant in `mask_rows::write_rows`: i rows are written, the others follow them.
-- Assumes nothing.
use Prim.Native.Nat.{◌+◌, ◌*◌}
use Rattle.tables.specs.Tables.{pair_bytes}
use Rattle.construction.specs.Gadgets.{gadget_of}
use Rattle.layout.specs.Layout.{share_wires, row_gates}
use Rattle.layout.proofs.Bytes.{PutPieces}
use Rattle.mask_rows.proofs.write_rows.Given as goal

abbrev pub invariant-loop-i : goal.invariant-loop-i
invariant-loop-i l =
    let n = l.reads.shares in
    let A = share_wires n l.reads.operands.left in
    let B = share_wires n l.reads.operands.right in
    PutPieces (4 * n) l.at n (λ i. pair_bytes (row_gates (gadget_of l.and) n l.w (l.v + n * i) A B i)) l.initial.ops
    (l.at + 4 * (n * l.i)) l.i l.ops

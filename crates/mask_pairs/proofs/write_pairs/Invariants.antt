-- The loop's invariant in `mask_pairs::write_pairs`: c pairs are written, and p is the pair that is number c.
-- Assumes nothing.
use Prim.Native.Nat.{◌+◌, ◌*◌, ◌<◌}
use Rattle.tables.specs.Tables.{pair_bytes}
use Rattle.construction.specs.Shares.{tri}
use Rattle.construction.specs.Gadgets.{gadget_of}
use Rattle.layout.specs.Layout.{share_wires, pair_gates}
use Rattle.mask_pairs.specs.PairRoom.{PairNo}
use Rattle.layout.proofs.Bytes.{PutPieces}
use Rattle.layout.proofs.Pieces.{pair_number}
use Rattle.mask_pairs.proofs.write_pairs.Given as goal

abbrev pub invariant-loop-c : goal.invariant-loop-c
invariant-loop-c l =
    let n = l.reads.shares in
    let A = share_wires n l.reads.operands.left in
    let B = share_wires n l.reads.operands.right in
    PutPieces 20 l.at (tri n) (λ m. pair_bytes (pair_gates (gadget_of l.and) A B (l.w + 5 * m) (pair_number n m))) l.initial.ops
    (l.at + 20 * l.c) l.c l.ops
    × (l.c < tri n → PairNo n l.c l.p)

-- `mask_rows::write_rows` meets its contract.
-- Assumes nothing.
use mathlib.Core.Path.{◌≡◌, refl}
use mathlib.Core.List.{List}
use Prim.Native.Nat.{ℕ, ◌+◌, ◌*◌, ◌<◌}
use native.Mathlib.Omega.{arith}
use lib.ListN.{length}
use Rattle.tables.specs.Tables.{pair_bytes}
use Rattle.tables.proofs.Format.{pairs_long}
use Rattle.construction.specs.Gadgets.{Gadget, gadget_of}
use Rattle.layout.specs.Layout.{share_wires, row_gates}
use Rattle.layout.proofs.Bytes.{pairs_pieces, put_pieces_start, put_pieces_turn, put_pieces_end}
use Rattle.layout.proofs.Pieces.{row_long}
use Rattle.mask_rows.proofs.write_rows.Goals as goal

-- the bytes of a row
row-bytes :
    (G : Gadget) (n w v : ℕ) (A B : List ℕ) (i : ℕ) → i < n → length (pair_bytes (row_gates G n w (v + n * i) A B i)) ≡ 4 * n
row-bytes G n w v A B i h = omega (arith, pairs_long (row_gates G n w (v + n * i) A B i), row_long G n w (v + n * i) A B i h)

pub loop-i-init : goal.loop-i-init
loop-i-init c =
    let a = c.args in
    let n = a.reads.shares in
    let A = share_wires n a.reads.operands.left in
    let B = share_wires n a.reads.operands.right in
    put_pieces_start _ a.at _ _ _ _ (row-bytes (gadget_of a.and) n a.w a.v A B)
    (omega arith) (omega (arith, c.requires.2))

pub loop-i-preserved : goal.loop-i-preserved
loop-i-preserved c =
    let a = c.args in
    let n = a.reads.shares in
    let A = share_wires n a.reads.operands.left in
    let B = share_wires n a.reads.operands.right in
    let long = row-bytes (gadget_of a.and) n a.w a.v A B _ c.loop-i-test.true in
    put_pieces_turn c.loop-i.invariant _ _ c.loop-i-test.true long refl c.write_row.ensures (omega arith)

pub returns : goal.returns
returns c = rw pairs_pieces (put_pieces_end c.loop-i.invariant (omega arith))

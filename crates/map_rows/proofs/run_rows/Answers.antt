-- `map_rows::run_rows` meets its contract.
-- Assumes nothing.
use native.Mathlib.Omega.{arith}
use Rattle.construction.specs.Gadgets.{gadget_of}
use Rattle.layout.specs.Layout.{share_wires}
use Rattle.map_values.proofs.InPieces.{pieces_start}
use Rattle.map_rows.proofs.Rows.{rows_turn}
use Rattle.map_rows.proofs.run_rows.Goals as goal

pub loop-i-init : goal.loop-i-init
loop-i-init c =
    let a = c.args in
    (pieces_start a.n a.v a.n _ _ (omega arith) c.requires.0, pieces_start a.n a.v a.n _ _ (omega arith) c.requires.1)

pub loop-i-preserved : goal.loop-i-preserved
loop-i-preserved c =
    let a = c.args in
    let G = gadget_of a.and in
    let A = share_wires a.n a.operands.left in
    let B = share_wires a.n a.operands.right in
    let inv = c.loop-i.invariant in
    let h = c.loop-i-test.true in (
      rows_turn G a.n a.w a.v A B _ inv.0 h c.run_row.ensures.0,
      rows_turn G a.n a.w a.v A B _ inv.1 h c.run_row.ensures.1,
    )

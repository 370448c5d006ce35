-- The loop's invariant in `map_rows::run_rows`, of each run: i rows have run on.
-- Assumes nothing.
use Prim.Native.Nat.{◌+◌, ◌*◌}
use Rattle.construction.specs.Gadgets.{gadget_of}
use Rattle.layout.specs.Layout.{share_wires}
use Rattle.map_rows.proofs.Rows.{InRows}
use Rattle.map_rows.proofs.run_rows.Given as goal

abbrev pub invariant-loop-i : goal.invariant-loop-i
invariant-loop-i l =
    InRows (gadget_of l.and) l.n l.w l.v (share_wires l.n l.operands.left) (share_wires l.n l.operands.right) l.initial.one
    (l.v + l.n * l.i) l.i l.one
    × InRows (gadget_of l.and) l.n l.w l.v (share_wires l.n l.operands.left) (share_wires l.n l.operands.right) l.initial.other
    (l.v + l.n * l.i) l.i l.other

-- The loop's invariant in `mask_parts::write_operands`: the operands from gate g on are left to write.
-- Assumes nothing.
use Rattle.tables.specs.Tables.{table_of}
use Rattle.construction.specs.Gadgets.{gadget_of}
use Rattle.mask_parts.proofs.Stretches.{OperandsLeft, operands_whole}
use Rattle.mask_parts.proofs.write_operands.Given as goal

abbrev pub invariant-loop-g : goal.invariant-loop-g
invariant-loop-g l =
    OperandsLeft (gadget_of l.and) (table_of l.planned.table.now) l.n
    (operands_whole (gadget_of l.and) (table_of l.planned.table.now) l.n l.from l.to l.w l.initial.ops)
    l.initial.ops l.to l.g l.next l.at l.ops

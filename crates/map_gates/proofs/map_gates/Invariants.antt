-- The loop's invariant in `map_gates::map_gates`: the gates from g on are left.
-- Assumes nothing.
use Rattle.tables.specs.Packing.{unpacked}
use Rattle.tables.specs.Tables.{table_of}
use Rattle.construction.specs.Gadgets.{gadget_of}
use Rattle.map_gates.proofs.AllGates.{Going}
use Rattle.map_gates.proofs.map_gates.Given as goal

abbrev pub invariant-loop-g : goal.invariant-loop-g
invariant-loop-g l =
    Going (gadget_of l.and) (table_of l.planned.table.now) l.n l.k (unpacked l.tape) l.at
    (unpacked l.initial.mapped) l.initial.one l.initial.other
    l.g l.w l.next (unpacked l.mapped) l.one l.other

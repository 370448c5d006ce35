-- The loop's invariant in `run_gates::run_gates`: the values so far are those of the whole run.
-- Assumes nothing.
use Rattle.tables.specs.Tables.{table_of}
use Rattle.tables.specs.Packing.{unpacked}
use Rattle.run_gates.proofs.Running.{Running}
use Rattle.run_gates.proofs.run_gates.Given as goal

abbrev pub invariant-loop-g : goal.invariant-loop-g
invariant-loop-g l = Running (table_of l.gates.table.now) (unpacked l.random) l.initial.values l.inputs l.values l.next l.g

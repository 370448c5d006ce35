-- The loop's invariant in `running::read_outputs`: the values from output o on are left to write.
-- Assumes nothing.
use Rattle.tables.specs.Tables.{table_of}
use Rattle.running.proofs.RunTable.{Reading}
use Rattle.running.proofs.read_outputs.Given as goal

abbrev pub invariant-loop-o : goal.invariant-loop-o
invariant-loop-o l = Reading (table_of l.outputs.table.now) l.values l.initial.out l.out l.o

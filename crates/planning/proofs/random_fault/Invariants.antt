-- The loop's invariant in `planning::random_fault`: what is left of the gates is searched.
-- Assumes nothing.
use Rattle.tables.specs.Tables.{table_of}
use Rattle.planning.proofs.Planning.{Searching}
use Rattle.planning.proofs.random_fault.Given as goal

abbrev pub invariant-loop-g : goal.invariant-loop-g
invariant-loop-g l = Searching (table_of l.gates.table.now) l.g

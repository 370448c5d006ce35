-- The loop's invariant in `origins::find_gate`, `Seeking`, says that the wire is among the new wires of the gates left.
-- Assumes nothing.
use Rattle.tables.specs.Tables.{table_of}
use Rattle.origins.proofs.Finding.{Seeking}
use Rattle.origins.proofs.find_gate.Given as goal

abbrev pub invariant-loop-g : goal.invariant-loop-g
invariant-loop-g l = Seeking (table_of l.planned.table.now) l.n l.wire l.g l.start

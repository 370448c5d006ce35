-- The loop's invariant in `listing::lines_long`: the lines from number j on are left.
-- Assumes nothing.
use Rattle.tables.specs.Tables.{table_of}
use Rattle.list_lines.specs.Lines.{table_lines}
use Rattle.listing.proofs.Loops.{Left}
use Rattle.listing.proofs.lines_long.Given as goal

abbrev pub invariant-loop-j : goal.invariant-loop-j
invariant-loop-j l = Left (table_lines (table_of l.lines.table.now)) l.j l.long

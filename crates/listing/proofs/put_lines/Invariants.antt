-- The loop's invariant in `listing::put_lines`: the lines from number j on are left.
-- Assumes nothing.
use Rattle.tables.specs.Tables.{table_of}
use Rattle.list_lines.specs.Lines.{table_lines}
use Rattle.listing.proofs.Loops.{Putting}
use Rattle.listing.proofs.put_lines.Given as goal

abbrev pub invariant-loop-j : goal.invariant-loop-j
invariant-loop-j l = Putting (table_lines (table_of l.lines.table.now)) l.initial.out l.out l.j l.at

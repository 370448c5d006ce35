-- The loop's invariant in `counts::count_three`: the counts are those of the gates before the next block.
-- Assumes nothing.
use mathlib.Core.Path.{◌≡◌}
use lib.ListN.{take}
use Rattle.tables.specs.Tables.{table_of}
use Rattle.counts.specs.Three.{three_of}
use Rattle.counts.proofs.count_three.Given as goal

abbrev pub invariant-loop-from : goal.invariant-loop-from
invariant-loop-from l = l.counts ≡ three_of l.kinds (take l.from (table_of l.gates.table.now).gates)

-- The loop's invariant in `counts::count_block`: of each of three kinds, the gates before the block and those counted in it make the gates
-- so far; and they stay few.
-- Assumes nothing.
use Prim.Native.Nat.{◌+◌, ◌≤◌}
use Rattle.tables.specs.Tables.{table_of}
use Rattle.counts.proofs.Counting.{Block}
use Rattle.counts.proofs.count_block.Given as goal

abbrev pub invariant-loop-g : goal.invariant-loop-g
invariant-loop-g l =
    Block l.kinds (table_of l.gates.table.now).gates l.from l.g l.counted l.first l.second l.third
    × (l.counted.first + l.first ≤ 65535) × (l.counted.second + l.second ≤ 65535) × (l.counted.third + l.third ≤ 65535)

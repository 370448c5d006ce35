-- `counts::count_kinds` meets its contract: where the first three kinds are all gates, there are none of the others.
-- Assumes nothing.
use native.Mathlib.Omega.{arith}
use Rattle.tables.specs.Tables.{table_of}
use Rattle.tables.proofs.Accept.{gates_are}
use Rattle.counts.proofs.Counting.{six_counted, three_small, none_further}
use Rattle.counts.proofs.count_kinds.Goals as goal

pub overflow_add-low : goal.overflow_add-low
overflow_add-low c = record { fits = omega (arith, three_small c.args.gates.now.all c.count_three-low.ensures) }

pub overflow_add-low-2 : goal.overflow_add-low-2
overflow_add-low-2 c = record { fits = omega (arith, three_small c.args.gates.now.all c.count_three-low.ensures) }

pub returns-then-low-gates : goal.returns-then-low-gates
returns-then-low-gates c =
    let gs = (table_of c.args.gates.now.table.now).gates in
    let low = c.count_three-low.ensures in
    six_counted gs low (none_further gs low (omega (arith, c.if-low-gates.true, gates_are c.args.gates.now.all)))

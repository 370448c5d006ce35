-- `counts::count_three` meets its contract: a block ends where the next begins, or with the gates.
-- Assumes nothing.
use mathlib.Core.Path.{◌≡◌}
use Prim.Native.Nat.{◌+◌}
use native.Mathlib.Omega.{arith}
use Rattle.tables.specs.Tables.{table_of}
use Rattle.tables.proofs.Accept.{gates_are}
use Rattle.counts.proofs.Counting.{none_counted, all_counted}
use Rattle.counts.proofs.count_three.Goals as goal

pub loop-from-init : goal.loop-from-init
loop-from-init c = none_counted c.args.kinds (table_of c.args.gates.now.table.now).gates

pub loop-from-preserved : goal.loop-from-preserved
loop-from-preserved c =
    let next : c.loop-from.from + c.min.result ≡ c.loop-from.from + 224 = omega (arith, c.min.ensures) in
    rw next at c.count_block-counts.ensures

pub returns : goal.returns
returns c =
    all_counted c.args.kinds _ c.loop-from.from c.loop-from.invariant
    (omega (arith, gates_are c.args.gates.now.all, c.loop-from-test.false))

pub returns-2 : goal.returns-2
returns-2 c =
    all_counted c.args.kinds _ (c.loop-from.from + c.min.result) c.count_block-counts.ensures
    (omega (arith, gates_are c.args.gates.now.all, c.min.ensures))

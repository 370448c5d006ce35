-- `map_gates::map_and` meets its contract: the pairs, then the rows of each run.
-- Assumes nothing.
use native.Mathlib.Omega.{arith}
use Rattle.construction.proofs.Lawful.{lawful}
use Rattle.map_gates.proofs.And.{rows_ready, and_ran}
use Rattle.map_gates.proofs.map_and.Goals as goal

pub run_rows-requires : goal.run_rows-requires
run_rows-requires c =
    let s = c.args in
    let ready = rows_ready (lawful s.and) s.n s.k s.w s.operands.left s.operands.right c.requires.2 c.map_pairs.ensures in
    rw c.pair_count.ensures (ready.0, ready.1, c.requires.0, omega arith, omega (arith, c.requires.1))

pub returns : goal.returns
returns c =
    let s = c.args in
    let is = c.pair_count.ensures in
    and_ran (lawful s.and) s.n s.k s.w s.operands.left s.operands.right c.requires.2 c.map_pairs.ensures
    (rw is at c.run_rows.ensures.0)
    (rw is at c.run_rows.ensures.1)

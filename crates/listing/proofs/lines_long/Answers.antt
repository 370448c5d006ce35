-- `listing::lines_long` meets its contract.
-- Assumes nothing.
use native.Mathlib.Omega.{arith}
use Rattle.listing.proofs.TableText.{lines_short}
use Rattle.listing.proofs.Loops.{left_most, left_turn, left_end}
use Rattle.listing.proofs.lines_long.Goals as goal

pub overflow_add-long : goal.overflow_add-long
overflow_add-long c =
    let lines = c.args.lines.now in
    omega (arith, left_most c.loop-j.invariant (omega arith), lines_short lines.table.now lines.listed)

pub loop-j-preserved : goal.loop-j-preserved
loop-j-preserved c = left_turn c.loop-j.invariant (omega arith) (omega arith)

pub returns : goal.returns
returns c = left_end c.loop-j.invariant (omega arith)

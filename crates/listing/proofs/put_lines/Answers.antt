-- `listing::put_lines` meets its contract.
-- Assumes nothing.
use native.Mathlib.Omega.{arith}
use Rattle.listing.proofs.Loops.{left_most, putting_turn, putting_end}
use Rattle.listing.proofs.put_lines.Goals as goal

pub put-at-requires : goal.put-at-requires
put-at-requires c = (omega arith, omega (arith, left_most c.loop-j.invariant.rest (omega arith)))

pub loop-j-preserved : goal.loop-j-preserved
loop-j-preserved c = putting_turn c.requires c.loop-j.invariant (omega arith) c.put-at.ensures

pub returns : goal.returns
returns c = putting_end c.requires c.loop-j.invariant (omega arith)

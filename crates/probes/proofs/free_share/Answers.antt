-- `probes::free_share` meets its contract: the smallest number that is not among those that the probes carry.
-- Assumes nothing.
use Rattle.secrecy.specs.Maps.{free_share}
use Rattle.probes.proofs.free_share.Goals as goal

pub returns : goal.returns
unfolding free_share
returns c = rw c.args.planned.now.ready.shares at (c.free_of.ensures _ c.mark_probes.ensures)

-- `running::read_outputs` meets its contract.
-- Assumes nothing.
use Rattle.running.proofs.RunTable.{reading_start, reading_turn, reading_end}
use Rattle.running.proofs.read_outputs.Goals as goal

pub loop-o-init : goal.loop-o-init
loop-o-init c = reading_start c.args.outputs.now.all c.requires

pub loop-o-preserved : goal.loop-o-preserved
loop-o-preserved c =
    reading_turn c.args.outputs.now.all c.requires c.loop-o.invariant c.loop-o-test.true c.at.ensures.0

pub returns : goal.returns
returns c = reading_end c.args.outputs.now.all c.requires c.loop-o.invariant c.loop-o-test.false

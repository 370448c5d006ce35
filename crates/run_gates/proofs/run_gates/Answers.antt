-- `run_gates::run_gates` meets its contract.
-- Assumes nothing.
use Rattle.run_gates.proofs.Running.{running_start, left_there, right_there, gate_ready, gate_turn, running_end}
use Rattle.run_gates.proofs.run_gates.Goals as goal

pub loop-g-init : goal.loop-g-init
loop-g-init c = running_start c.args.gates.now.all c.requires

pub bounds-values-gate : goal.bounds-values-gate
bounds-values-gate c = left_there c.args.gates.now.all c.loop-g.invariant c.loop-g-test.true c.at-gate.ensures

pub bounds-values-gate-in-loop-g : goal.bounds-values-gate-in-loop-g
bounds-values-gate-in-loop-g c = right_there c.args.gates.now.all c.loop-g.invariant c.loop-g-test.true c.at-gate.ensures

pub gate_value-turn-requires : goal.gate_value-turn-requires
gate_value-turn-requires c =
    gate_ready c.args.gates.now.all c.loop-g.invariant c.loop-g-test.true c.at-gate.ensures

pub loop-g-preserved : goal.loop-g-preserved
loop-g-preserved c =
    gate_turn c.args.gates.now.all c.loop-g.invariant c.loop-g-test.true c.at-gate.ensures c.gate_value-turn.ensures

pub returns : goal.returns
returns c = running_end c.args.gates.now.all c.loop-g.invariant c.loop-g-test.false

-- `check_gates::gates_fault` meets its contract: the gate that refuses is the first.
-- Assumes nothing.
use Rattle.check_gates.proofs.Gates.{gates_good_found}
use Rattle.check_gates.proofs.gates_fault.Goals as goal

pub returns-in-Err : goal.returns-in-Err
returns-in-Err c =
    gates_good_found c.args.gates.now.all c.loop-g.invariant c.loop-g-test.true c.at.ensures _ c.in-Err.ensures

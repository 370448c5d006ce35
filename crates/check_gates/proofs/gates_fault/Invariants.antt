-- The loop's invariant in `check_gates::gates_fault`: the gates before g are good.
-- Assumes nothing.
use Rattle.check_gates.proofs.Gates.{GatesGood}
use Rattle.check_gates.proofs.gates_fault.Given as goal

abbrev pub invariant-loop-g : goal.invariant-loop-g
invariant-loop-g l = GatesGood l.gates.table.now l.inputs l.g

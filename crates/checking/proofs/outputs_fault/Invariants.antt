-- The loop's invariant in `checking::outputs_fault`: the outputs before o are wires.
-- Assumes nothing.
use Rattle.checking.proofs.Checks.{OutputsGood}
use Rattle.checking.proofs.outputs_fault.Given as goal

abbrev pub invariant-loop-o : goal.invariant-loop-o
invariant-loop-o l = OutputsGood l.outputs.table.now l.wires l.o

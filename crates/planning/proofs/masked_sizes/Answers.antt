-- `planning::masked_sizes` meets its contract.
-- Assumes nothing.
use native.Mathlib.Omega.{arith}
use Rattle.planning.proofs.Planning.{few_times, few_total_wires}
use Rattle.planning.proofs.masked_sizes.Goals as goal

pub overflow_add-result : goal.overflow_add-result
overflow_add-result c =
    let few = few_total_wires c.requires.gates (omega (arith, c.requires.order)) c.gate_totals-all.ensures in
    record { fits = omega (arith, few, c.requires.inputs, few_times _ _ 31 c.requires.inputs c.requires.order) }

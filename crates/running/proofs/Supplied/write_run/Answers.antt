-- `running::Supplied::write_run` meets its contract: the inputs are put, the gates run, the outputs read.
-- Assumes nothing.
use native.Mathlib.Omega.{arith}
use Rattle.tables.proofs.Accept.{accepted_long, has_gates, has_outputs}
use Rattle.tables.proofs.RunFault.{run_good}
use Rattle.running.proofs.RunTable.{inputs_fit, wires_are, few_wires, run_ready, run_values, outputs_ready, run_outputs}
use Rattle.running.proofs.Supplied.write_run.Goals as goal

pub field-requires : goal.field-requires
field-requires c = omega (arith, accepted_long _ (run_good _ _ _ _ _ c.requires).accepted)

pub invariant_of-gates : goal.invariant_of-gates
invariant_of-gates c = record { all = has_gates _ (run_good _ _ _ _ _ c.requires).accepted c.field.ensures.0 }

pub put_bytes-requires : goal.put_bytes-requires
put_bytes-requires c = omega (arith, inputs_fit _ c.args.outputs.now (run_good _ _ _ _ _ c.requires))

pub run_gates-requires : goal.run_gates-requires
run_gates-requires c =
    run_ready _ c.args.outputs.now (run_good _ _ _ _ _ c.requires) c.put_bytes.ensures c.field.ensures.0

pub invariant_of-read : goal.invariant_of-read
invariant_of-read c = record { all = has_outputs _ (run_good _ _ _ _ _ c.requires).accepted c.field.ensures.0 c.field-2.ensures.0 }

pub read_outputs-requires : goal.read_outputs-requires
read_outputs-requires c =
    let good = run_good _ _ _ _ _ c.requires in
    let values = run_values _ c.args.outputs.now good c.put_bytes.ensures c.run_gates.ensures in
    outputs_ready _ c.args.outputs.now good values c.field-2.ensures.0

pub overflow_cast-result : goal.overflow_cast-result
overflow_cast-result c =
    let good = run_good _ _ _ _ _ c.requires in
    omega (arith, few_wires _ c.args.outputs.now good, wires_are _ c.args.outputs.now good c.field.ensures.0)

pub returns : goal.returns
returns c =
    let good = run_good _ _ _ _ _ c.requires in
    let values = run_values _ c.args.outputs.now good c.put_bytes.ensures c.run_gates.ensures in (
      wires_are _ c.args.outputs.now good c.field.ensures.0,
      values,
      run_outputs _ c.args.outputs.now good values c.read_outputs.ensures,
    )

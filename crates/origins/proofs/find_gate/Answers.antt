-- `origins::find_gate` meets its contract.
-- Assumes nothing.
use native.Mathlib.Omega.{arith}
use Rattle.planning.proofs.Planning.{plan_has_gates, plan_known}
use Rattle.origins.proofs.Finding.{seek_some}
use Rattle.origins.proofs.find_gate.Goals as goal

pub invariant_of-gates : goal.invariant_of-gates
invariant_of-gates c = record { all = plan_has_gates c.args.planned.now.ready }

pub known_kind-kind-requires : goal.known_kind-kind-requires
known_kind-kind-requires c = plan_known c.args.planned.now.ready c.loop-g-test.true c.at.ensures.kind

pub unreachable-requires : goal.unreachable-requires
unreachable-requires c = omega (arith, seek_some c.loop-g.invariant, c.args.planned.now.ready.gates)

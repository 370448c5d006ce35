-- `map_refusals::map_fault` meets its contract: nothing refuses where neither the plan nor what follows from its sizes does.
-- Assumes nothing.
use Rattle.map_refusals.proofs.Faults.{map_follows}
use Rattle.map_refusals.proofs.map_fault.Goals as goal

pub returns : goal.returns
returns c a =
    let planned = c.in_ok-planned.planned in
    let says = c.in_ok-planned.ensures a in
    let follows =
    map_follows a _ _ _ _ _ _ _ _ _ _ planned.plan _ planned.ready says.1.0 says.1.1 says.0 c.in_ok-call_fault.ensures in
    (follows, says.1)

-- `share_places::plain_wires` meets its contract.
-- Assumes nothing.
use mathlib.Core.Path.{refl}
use native.Mathlib.Omega.{arith}
use Rattle.share_places.proofs.Turns.{plan_sized}
use Rattle.share_places.proofs.plain_wires.Goals as goal

pub overflow_add-result : goal.overflow_add-result
overflow_add-result c = omega (arith, (plan_sized c.args.planned.now.ready).plain)

pub returns : goal.returns
returns c = (refl, (plan_sized c.args.planned.now.ready).plain)

-- `share_places::and_places` meets its contract: the last wires of an AND's rows.
-- Assumes nothing.
use native.Mathlib.Omega.{arith}
use Rattle.gate_costs.proofs.Figures.{tri_small}
use Rattle.share_places.proofs.Located.{and_places_are, and_places_small}
use Rattle.share_places.proofs.and_places.Goals as goal

pub overflow_add-result : goal.overflow_add-result
overflow_add-result c = omega (arith, tri_small c.args.n c.requires.1)

pub returns : goal.returns
returns c =
    let a = c.args in
    let at = c.and_first-head.ensures.1 in
    (and_places_are a.n a.w c.requires.0 at, λ h. and_places_small a.n a.w at h)

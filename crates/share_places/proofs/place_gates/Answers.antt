-- `share_places::place_gates` meets its contract.
-- Assumes nothing.
use mathlib.Core.Path.{◌∙◌, ap}
use Prim.Native.Nat.{ℕ}
use native.Mathlib.Omega.{arith}
use Rattle.tables.specs.Kinds.{kind_is}
use Rattle.construction.specs.Wires.{cost}
use Rattle.share_places.proofs.Turns.{turn, plan_sized}
use Rattle.share_places.proofs.Placing.{placing_start, placing_turn, placing_end}
use Rattle.share_places.proofs.place_gates.Goals as goal

pub new-costs-requires : goal.new-costs-requires
new-costs-requires c = (plan_sized c.args.planned.now.ready).few

pub overflow_mul-w : goal.overflow_mul-w
overflow_mul-w c = omega (arith, (plan_sized c.args.planned.now.ready).inputs)

pub loop-g-init : goal.loop-g-init
loop-g-init c = placing_start c.args.planned.now.ready c.requires.1

pub places_at-a-requires : goal.places_at-a-requires
places_at-a-requires c =
    let l = c.loop-g in
    let facts = turn c.args.planned.now.ready c.loop-g-test.true l.invariant.wire c.plain_gate-x.ensures in
    omega (arith, facts.left, l.invariant.noted.room, c.requires.0)

pub new_places-r-requires : goal.new_places-r-requires
new_places-r-requires c =
    let facts = turn c.args.planned.now.ready c.loop-g-test.true c.loop-g.invariant.wire c.plain_gate-x.ensures in
    let z = plan_sized c.args.planned.now.ready in
    (facts.plain, omega (arith, z.some), z.few, facts.fits, c.places_at-a.ensures.1)

pub overflow_add-w : goal.overflow_add-w
overflow_add-w c =
    let facts = turn c.args.planned.now.ready c.loop-g-test.true c.loop-g.invariant.wire c.plain_gate-x.ensures in
    omega (arith, facts.fits, c.of-w.ensures ∙ ap (λ (n : ℕ). cost (kind_is c.plain_gate-x.result.kind) n) c.new-costs.ensures)

pub loop-g-preserved : goal.loop-g-preserved
loop-g-preserved c =
    let l = c.loop-g in
    placing_turn c.args.planned.now.ready l.invariant c.loop-g-test.true c.plain_gate-x.ensures
    c.places_at-a.ensures.0
    c.new_places-r.ensures.0
    (omega (arith, l.invariant.noted.room, c.requires.0))
    c.put_places.ensures
    (c.of-w.ensures ∙ ap (λ (n : ℕ). cost (kind_is c.plain_gate-x.result.kind) n) c.new-costs.ensures)

pub returns : goal.returns
returns c = placing_end c.args.planned.now.ready c.loop-g.invariant (omega arith)

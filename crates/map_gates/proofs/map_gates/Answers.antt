-- `map_gates::map_gates` meets its contract.
-- Assumes nothing.
use mathlib.Core.Path.{refl, sym, ap, ◌∙◌}
use Prim.Native.Nat.{ℕ}
use native.Mathlib.Omega.{arith}
use Rattle.tables.specs.Kinds.{kind_is}
use Rattle.tables.proofs.Packing.{bytes_long}
use Rattle.construction.specs.Wires.{cost}
use Rattle.construction.proofs.Lawful.{lawful}
use Rattle.share_places.proofs.Turns.{plan_sized}
use Rattle.map_gates.proofs.AllGates.{steps_start, step_room, step_ready, step_turn, steps_end, steps_long}
use Rattle.map_gates.proofs.map_gates.Goals as goal

pub new-costs-requires : goal.new-costs-requires
new-costs-requires c = (plan_sized c.args.planned.now.ready).few

pub overflow_mul-w : goal.overflow_mul-w
overflow_mul-w c = omega (arith, (plan_sized c.args.planned.now.ready).inputs)

pub loop-g-init : goal.loop-g-init
loop-g-init c = steps_start (lawful c.args.and) c.args.k c.args.planned.now.ready refl c.requires.1

pub map_gate-requires : goal.map_gate-requires
map_gate-requires c =
    let L = lawful c.args.and in
    let R = c.args.planned.now.ready in
    let P = c.loop-g.invariant in
    let is = c.plain_gate-gate.ensures in
    let room = step_room L R P c.loop-g-test.true is c.requires.0 in
    (room.0, room.1, step_ready L R P c.loop-g-test.true is c.requires.0)

pub overflow_add-w : goal.overflow_add-w
overflow_add-w c =
    let R = c.args.planned.now.ready in
    let ready = step_ready (lawful c.args.and) R c.loop-g.invariant c.loop-g-test.true c.plain_gate-gate.ensures c.requires.0 in
    omega (arith, ready.wires, c.of-w.ensures ∙ ap (λ (n : ℕ). cost (kind_is c.plain_gate-gate.result.kind) n) c.new-costs.ensures)

pub kind_draws-next-requires : goal.kind_draws-next-requires
kind_draws-next-requires c = (plan_sized c.args.planned.now.ready).few

pub overflow_add-next : goal.overflow_add-next
overflow_add-next c =
    let R = c.args.planned.now.ready in
    let ready = step_ready (lawful c.args.and) R c.loop-g.invariant c.loop-g-test.true c.plain_gate-gate.ensures c.requires.0 in
    omega (arith, ready.both.few, c.kind_draws-next.ensures)

pub loop-g-preserved : goal.loop-g-preserved
loop-g-preserved c =
    step_turn (lawful c.args.and) c.args.planned.now.ready c.loop-g.invariant c.loop-g-test.true c.plain_gate-gate.ensures c.requires.0
    (c.map_gate.ensures c.loop-g.g)
    (omega arith)
    (c.of-w.ensures ∙ ap (λ (n : ℕ). cost (kind_is c.plain_gate-gate.result.kind) n) c.new-costs.ensures)
    c.kind_draws-next.ensures

pub shape_of-mapped : goal.shape_of-mapped
shape_of-mapped c =
    let s = c.args in
    let first = steps_long (steps_start (lawful s.and) s.k {at = s.at} s.planned.now.ready refl c.requires.1) in
    bytes_long c.loop-g.mapped s.mapped.now ((steps_long c.loop-g.invariant).0 ∙ sym first.0)

pub shape_of-one : goal.shape_of-one
shape_of-one c =
    let s = c.args in
    let first = steps_long (steps_start (lawful s.and) s.k {at = s.at} s.planned.now.ready refl c.requires.1) in
    (steps_long c.loop-g.invariant).1 ∙ sym first.1

pub shape_of-other : goal.shape_of-other
shape_of-other c =
    let s = c.args in
    let first = steps_long (steps_start (lawful s.and) s.k {at = s.at} s.planned.now.ready refl c.requires.1) in
    (steps_long c.loop-g.invariant).2 ∙ sym first.2

pub returns : goal.returns
returns c =
    let end = steps_end c.loop-g.invariant (omega (arith, c.args.planned.now.ready.gates)) in
    record { mapped = end.0; one = end.1; other = end.2 }

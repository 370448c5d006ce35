-- `mask_parts::write_operands` meets its contract.
-- Assumes nothing.
use mathlib.Core.Path.{refl, ap, ◌∙◌}
use Prim.Native.Nat.{ℕ, ◌+◌, ◌<◌}
use native.Mathlib.Omega.{arith}
use Rattle.tables.specs.Kinds.{kind_is}
use Rattle.construction.specs.Gadgets.{gadget_of}
use Rattle.construction.specs.Wires.{cost}
use Rattle.share_places.proofs.Turns.{plan_sized, located_room}
use Rattle.mask_parts.proofs.Stretches.{operands_start, operands_facts, operands_room}
use Rattle.mask_parts.proofs.Stretches.{operands_turn, operands_end, read_low}
use Rattle.mask_parts.proofs.write_operands.Goals as goal

pub new-costs-requires : goal.new-costs-requires
new-costs-requires c = (plan_sized c.args.planned.now.ready).few

pub loop-g-init : goal.loop-g-init
loop-g-init c = operands_start (gadget_of c.args.and) c.requires.3 c.requires.4

pub plain_gate-gate-requires : goal.plain_gate-gate-requires
plain_gate-gate-requires c = omega (arith, c.loop-g-test.true, c.requires.2)

pub write_operands_of-requires : goal.write_operands_of-requires
write_operands_of-requires c =
    let R = c.args.planned.now.ready in
    let P = c.loop-g.invariant in
    let h = c.loop-g-test.true in
    let L = c.requires.0 in
    let facts = operands_facts R P h c.requires.2 c.plain_gate-gate.ensures in
    let p = c.args.planned.now.plan in
    let left : c.plain_gate-gate.result.left < p.inputs + p.gates = omega (arith, facts.left, h, c.requires.2) in
    let right : c.plain_gate-gate.result.right < p.inputs + p.gates = omega (arith, facts.right, h, c.requires.2) in
    let z = plan_sized R in (
      located_room R L left,
      located_room R L right,
      record {
        small = c.plain_gate-gate.ensures.left_small;
        some = omega (arith, z.some);
        shares = record { few = z.few; left = read_low R L left refl; right = read_low R L right refl };
        wires = omega (arith, facts.fits);
        room = operands_room R P h c.requires.2 c.plain_gate-gate.ensures L;
      },
    )

pub overflow_add-next : goal.overflow_add-next
overflow_add-next c =
    let facts = operands_facts c.args.planned.now.ready c.loop-g.invariant c.loop-g-test.true c.requires.2 c.plain_gate-gate.ensures in
    omega (arith, facts.fits, c.of-new.ensures ∙ ap (λ (n : ℕ). cost (kind_is c.plain_gate-gate.result.kind) n) c.new-costs.ensures)

pub overflow_mul-at : goal.overflow_mul-at
overflow_mul-at c =
    let facts = operands_facts c.args.planned.now.ready c.loop-g.invariant c.loop-g-test.true c.requires.2 c.plain_gate-gate.ensures in
    omega (arith, facts.fits, c.of-new.ensures ∙ ap (λ (n : ℕ). cost (kind_is c.plain_gate-gate.result.kind) n) c.new-costs.ensures)

pub overflow_add-at : goal.overflow_add-at
overflow_add-at c =
    let R = c.args.planned.now.ready in
    let room = operands_room R c.loop-g.invariant c.loop-g-test.true c.requires.2 c.plain_gate-gate.ensures c.requires.0 in
    omega (
      arith,
      room,
      c.of-new.ensures ∙ ap (λ (n : ℕ). cost (kind_is c.plain_gate-gate.result.kind) n) c.new-costs.ensures,
      c.loop-g.invariant.long,
    )

pub loop-g-preserved : goal.loop-g-preserved
loop-g-preserved c =
    operands_turn c.args.planned.now.ready c.loop-g.invariant c.loop-g-test.true c.requires.2 c.plain_gate-gate.ensures c.requires.0
    (c.write_operands_of.ensures c.loop-g.g)
    (c.of-new.ensures ∙ ap (λ (n : ℕ). cost (kind_is c.plain_gate-gate.result.kind) n) c.new-costs.ensures)

pub shape_of-ops : goal.shape_of-ops
shape_of-ops c = c.loop-g.invariant.long

pub returns : goal.returns
returns c = operands_end c.loop-g.invariant c.loop-g-test.false

-- `mask_parts::write_kinds` meets its contract.
-- Assumes nothing.
use mathlib.Core.Path.{ap, ◌∙◌}
use Prim.Native.Nat.{ℕ}
use native.Mathlib.Omega.{arith}
use Rattle.tables.specs.Kinds.{kind_is}
use Rattle.construction.specs.Wires.{cost}
use Rattle.share_places.proofs.Turns.{plan_sized}
use Rattle.mask_parts.proofs.Stretches.{kinds_start, kinds_room, kinds_turn, kinds_end}
use Rattle.mask_parts.proofs.write_kinds.Goals as goal

pub new-costs-requires : goal.new-costs-requires
new-costs-requires c = (plan_sized c.args.planned.now.ready).few

pub loop-g-init : goal.loop-g-init
loop-g-init c = kinds_start c.requires.2 (c.fill.ensures.after (λ _ e. e))

pub plain_gate-gate-requires : goal.plain_gate-gate-requires
plain_gate-gate-requires c = omega (arith, c.loop-g-test.true, c.requires.1)

pub write_kinds_of-requires : goal.write_kinds_of-requires
write_kinds_of-requires c =
    let R = c.args.planned.now.ready in
    let z = plan_sized R in
    let room = kinds_room c.loop-g.invariant c.loop-g-test.true (omega (arith, c.requires.1, R.gates)) c.plain_gate-gate.ensures in
    (omega (arith, z.some), z.few, room, c.loop-g.invariant.xors)

pub overflow_add-at : goal.overflow_add-at
overflow_add-at c =
    let R = c.args.planned.now.ready in
    let room = kinds_room c.loop-g.invariant c.loop-g-test.true (omega (arith, c.requires.1, R.gates)) c.plain_gate-gate.ensures in
    omega (
      arith,
      room,
      c.of-at.ensures ∙ ap (λ (n : ℕ). cost (kind_is c.plain_gate-gate.result.kind) n) c.new-costs.ensures,
      c.loop-g.invariant.long,
    )

pub loop-g-preserved : goal.loop-g-preserved
loop-g-preserved c =
    kinds_turn c.loop-g.invariant c.loop-g-test.true (omega (arith, c.requires.1, c.args.planned.now.ready.gates)) c.plain_gate-gate.ensures
    c.write_kinds_of.ensures
    (c.of-at.ensures ∙ ap (λ (n : ℕ). cost (kind_is c.plain_gate-gate.result.kind) n) c.new-costs.ensures)

pub returns : goal.returns
returns c = kinds_end c.loop-g.invariant c.loop-g-test.false

-- `mask_parts::write_outputs` meets its contract.
-- Assumes nothing.
use mathlib.Core.Path.{◌∙◌}
use Prim.Native.Nat.{suc, ◌*◌, ◌≤◌}
use native.Mathlib.Nat.{mul-le-mul_left}
use native.Mathlib.Omega.{arith}
use Rattle.tables.specs.Tables.{table_of}
use Rattle.tables.proofs.Put.{put_zero}
use Rattle.layout.proofs.Bytes.{put_pieces_start, put_pieces_turn, put_pieces_end}
use Rattle.share_places.proofs.Turns.{plan_sized, located_room}
use Rattle.mask_parts.proofs.Stretches.{outputs_pieces, output_below, output_long, output_piece_lem, read_low}
use Rattle.mask_parts.proofs.write_outputs.Goals as goal

pub loop-o-init : goal.loop-o-init
loop-o-init c =
    put_pieces_start _ 0 _ _ _ _ (λ i h. output_long c.args.planned.now.ready c.requires.0 h) (omega arith) (omega (arith, c.requires.1))

pub invariant_of-outputs : goal.invariant_of-outputs
invariant_of-outputs c = record { all = (plan_sized c.args.planned.now.ready).outputs }

pub places_at-a-requires : goal.places_at-a-requires
places_at-a-requires c =
    let R = c.args.planned.now.ready in
    located_room R c.requires.0 (omega (arith, output_below R c.requires.0 c.loop-o-test.true, c.at.ensures.0))

pub write_shares-requires : goal.write_shares-requires
write_shares-requires c =
    let a = c.args.planned.now.plan in
    let R = c.args.planned.now.ready in
    let W = c.loop-o.invariant in
    let most : a.shares * suc c.loop-o.o ≤ a.shares * a.outputs = mul-le-mul_left a.shares c.loop-o-test.true in
    let z = plan_sized R in
    let below = output_below R c.requires.0 c.loop-o-test.true in (
      omega (arith, z.some),
      z.few,
      read_low R c.requires.0 (omega (arith, below, c.at.ensures.0)) c.places_at-a.ensures.0,
      omega (arith, most, W.place, W.long, c.requires.1),
    )

pub overflow_mul-at : goal.overflow_mul-at
overflow_mul-at c = omega (arith, (plan_sized c.args.planned.now.ready).few)

pub overflow_add-at : goal.overflow_add-at
overflow_add-at c =
    let a = c.args.planned.now.plan in
    let W = c.loop-o.invariant in
    let most : a.shares * suc c.loop-o.o ≤ a.shares * a.outputs = mul-le-mul_left a.shares c.loop-o-test.true in
    omega (arith, most, W.place, W.long, c.requires.1)

pub loop-o-preserved : goal.loop-o-preserved
loop-o-preserved c =
    let R = c.args.planned.now.ready in
    let h = c.loop-o-test.true in
    let piece = output_piece_lem R c.requires.0 h c.at.ensures.0 c.places_at-a.ensures.0 in
    put_pieces_turn c.loop-o.invariant _ _ h (output_long R c.requires.0 h) piece c.write_shares.ensures (omega arith)

pub shape_of-outs : goal.shape_of-outs
shape_of-outs c = c.loop-o.invariant.long

pub returns : goal.returns
returns c =
    let p = c.args.planned.now.plan in
    rw (outputs_pieces (table_of c.args.planned.now.table.now) p.shares p.outputs c.args.planned.now.ready.outputs)
    (put_pieces_end c.loop-o.invariant c.loop-o-test.false ∙ put_zero _ _)

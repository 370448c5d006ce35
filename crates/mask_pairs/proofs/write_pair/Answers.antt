-- `mask_pairs::write_pair` meets its contract: five gates, one after the other, by the form of the AND's pairs.
-- Assumes nothing.
use mathlib.Core.Path.{refl, ap, ◌∙◌}
use mathlib.Core.List.{List, ◌++◌}
use Prim.Native.Nat.{ℕ, ◌+◌}
use native.Mathlib.Omega.{arith}
use Rattle.tables.specs.Tables.{Gate, two, pair_bytes}
use Rattle.tables.specs.Inside.{put_at}
use Rattle.tables.proofs.Put.{put_then}
use Rattle.mask_pairs.proofs.write_pair.Goals as goal

pub returns : goal.returns
unfolding pair_bytes
returns c =
    let at = c.args.at in
    let w = c.args.w in
    let x = c.args.x in
    let f = c.pair_form-form.result in
    let b = c.args.ops.now in
    let room = c.requires.room in
    let random = two 0 ++ two 0 in
    let cross = two x.ai ++ two x.bj in
    let mixed = two (w + f.third.left) ++ two (w + f.third.right) in
    let back = two x.aj ++ two x.bi in
    let last = two (w + f.fifth.left) ++ two (w + f.fifth.right) in
    let to2 = put_then at random cross b (omega (arith, room)) c.put_gate.ensures refl c.put_gate-2.ensures in
    let to3 = put_then at (random ++ cross) mixed b (omega (arith, room)) to2 refl c.put_gate-3.ensures in
    let to4 = put_then at (random ++ cross ++ mixed) back b (omega (arith, room)) to3 refl c.put_gate-4.ensures in
    put_then at (random ++ cross ++ mixed ++ back) last b (omega (arith, room)) to4 refl c.put_gate-5.ensures
    ∙ ap {A = List Gate} {B = List ℕ} (λ gs. put_at at (pair_bytes gs) b)
    (c.pair_form-form.ensures.gates w x.ai x.bj x.aj x.bi)

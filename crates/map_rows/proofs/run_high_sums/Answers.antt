-- `map_rows::run_high_sums` meets its contract.
-- Assumes nothing.
use mathlib.Core.Path.{◌≡◌, refl}
use Prim.Native.Nat.{ℕ, ◌<◌, ◌+◌, ◌-◌, ◌*◌, ◌≤◌}
use native.Mathlib.Omega.{arith}
use Rattle.construction.specs.Shares.{tri, pair_at}
use Rattle.construction.specs.Gadgets.{Gadget}
use Rattle.ands.specs.declared.PairForm as DPairForm
use Rattle.ands.specs.Forms.{FormSays}
use Rattle.ands.proofs.Forms.{form_below}
use Rattle.layout.proofs.Pieces.{Upright, upright_start, upright_turn, upright_high, upright_within, upright_low}
use Rattle.map_rows.proofs.InSums.{sums_start, sums_room, sums_turn, sums_end}
use Rattle.map_rows.proofs.run_high_sums.Goals as goal

pub loop-j-init : goal.loop-j-init
loop-j-init c = (
  sums_start _ _ _ _ c.requires.0 refl,
  sums_start _ _ _ _ c.requires.1 refl,
  upright_start c.args.n c.args.w c.args.i,
)

-- the wire that the next sum adds stands before it
added_before :
    {G : Gadget} {r : DPairForm.PairForm} (n w i j z last : ℕ) → FormSays G r → j < i → i < n → Upright n w i j z → w + 5 * tri n ≤ last
    → z - 5 + r.high ≤ last + j
added_before n w i j z last F h k up low =
    omega (arith, form_below F, upright_high n w i j z h k up, upright_within n w i j z h k up, low)

pub run_sum-x-requires : goal.run_sum-x-requires
run_sum-x-requires c =
    let h = c.loop-j-test.true in
    let inv = c.loop-j.invariant in
    (sums_room inv.0 h, added_before _ _ _ c.loop-j.j _ _ c.pair_form-form.ensures h c.requires.2 inv.2 c.requires.4, inv.0.value)

pub run_sum-y-requires : goal.run_sum-y-requires
run_sum-y-requires c =
    let h = c.loop-j-test.true in
    let inv = c.loop-j.invariant in
    (sums_room inv.1 h, added_before _ _ _ c.loop-j.j _ _ c.pair_form-form.ensures h c.requires.2 inv.2 c.requires.4, inv.1.value)

pub loop-j-preserved : goal.loop-j-preserved
loop-j-preserved c =
    let form = c.pair_form-form.result in
    let j = c.loop-j.j in
    let h = c.loop-j-test.true in
    let inv = c.loop-j.invariant in
    let high = upright_high _ _ _ j _ h c.requires.2 inv.2 in
    let added : c.loop-j.z - 5 + form.high ≡ c.args.w + 5 * pair_at c.args.n j c.args.i + form.high =
    omega (arith, high) in (
      sums_turn inv.0 _ h added c.run_sum-x.ensures,
      sums_turn inv.1 _ h added c.run_sum-y.ensures,
      upright_turn _ _ _ j _ h c.requires.2 inv.2,
    )

pub returns : goal.returns
returns c =
    let inv = c.loop-j.invariant in
    let high = c.pair_form-form.ensures.high in (
      λ h. upright_low _ _ _ c.loop-j.j _ h (omega arith) inv.2,
      rw high at (sums_end inv.0 (omega arith)),
      rw high at (sums_end inv.1 (omega arith)),
    )

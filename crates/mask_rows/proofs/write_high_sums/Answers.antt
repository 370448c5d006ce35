-- `mask_rows::write_high_sums` meets its contract.
-- Assumes nothing.
use mathlib.Core.Path.{refl, ap, ◌∙◌}
use Prim.Native.Nat.{ℕ, ◌+◌, ◌-◌, ◌*◌}
use native.Mathlib.Omega.{arith}
use mathlib.Core.List.{List, ◌++◌}
use Rattle.tables.specs.Tables.{two, pair_bytes}
use Rattle.tables.specs.Inside.{put_at}
use Rattle.construction.specs.Shares.{pair_at}
use Rattle.ands.proofs.Forms.{form_below}
use Rattle.layout.specs.Layout.{pieces_from, sum_gates}
use Rattle.layout.proofs.Bytes.{pairs_pieces, put_pieces_start, put_pieces_turn, put_pieces_end}
use Rattle.layout.proofs.Pieces.{upright_start, upright_turn, upright_high, upright_within}
use Rattle.layout.proofs.Pieces.{upright_low}
use Rattle.mask_rows.proofs.write_high_sums.Goals as goal

pub loop-j-init : goal.loop-j-init
unfolding pair_bytes
loop-j-init c = (
  put_pieces_start 4 c.args.at _ _ _ _ (λ _ _. refl) (omega arith) c.requires.3,
  upright_start c.args.n c.args.w c.args.i,
)

pub put_gate-requires : goal.put_gate-requires
put_gate-requires c =
    let up = c.loop-j.invariant.1 in
    let high = upright_high _ _ _ c.loop-j.j _ (omega arith) c.requires.0 up in
    let within = upright_within _ _ _ c.loop-j.j _ (omega arith) c.requires.0 up in
    omega (arith, c.requires.2, form_below c.pair_form-form.ensures)

pub loop-j-preserved : goal.loop-j-preserved
unfolding pair_bytes
loop-j-preserved c =
    let j = c.loop-j.j in
    let up = c.loop-j.invariant.1 in
    let high = upright_high _ _ _ j _ (omega arith) c.requires.0 up in
    let form = c.pair_form-form.result in
    let piece = ap (λ (v : ℕ). two (c.args.last + j) ++ two v)
    {x = c.loop-j.z - 5 + form.high} {y = c.args.w + 5 * pair_at c.args.n j c.args.i + form.high} (omega (arith, high)) in (
      put_pieces_turn c.loop-j.invariant.0 _ _ (omega arith) refl piece c.put_gate.ensures (omega arith),
      upright_turn _ _ _ j _ (omega arith) c.requires.0 up,
    )

pub returns : goal.returns
returns c =
    let inv = c.loop-j.invariant in
    let a = c.args in
    let sums : ℕ → List ℕ = λ v. pair_bytes (pieces_from a.i 0 (sum_gates a.last (λ j. a.w + 5 * pair_at a.n j a.i + v))) in (
      λ h. upright_low _ _ _ c.loop-j.j _ h (omega (arith, inv.0.within)) inv.1,
      rw pairs_pieces (put_pieces_end inv.0 (omega arith))
          ∙ ap {A = ℕ} {B = List ℕ} (λ v. put_at c.args.at (sums v) c.args.ops.now) c.pair_form-form.ensures.high,
    )

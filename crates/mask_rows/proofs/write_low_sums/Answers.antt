-- `mask_rows::write_low_sums` meets its contract.
-- Assumes nothing.
use mathlib.Core.Path.{refl, ap, ◌∙◌}
use mathlib.Core.List.{List}
use Prim.Native.Nat.{ℕ, ◌+◌, ◌*◌}
use native.Mathlib.Omega.{arith}
use Rattle.tables.specs.Tables.{pair_bytes}
use Rattle.tables.specs.Inside.{put_at}
use Rattle.layout.specs.Layout.{pieces_from, sum_gates}
use Rattle.layout.proofs.Bytes.{pairs_pieces, put_pieces_start, put_pieces_turn, put_pieces_end}
use Rattle.mask_rows.proofs.write_low_sums.Goals as goal

pub loop-c-init : goal.loop-c-init
unfolding pair_bytes
loop-c-init c =
    put_pieces_start 4 c.args.at _ _ _ _ (λ _ _. refl) (omega arith) c.requires.2

pub loop-c-preserved : goal.loop-c-preserved
unfolding pair_bytes
loop-c-preserved c =
    put_pieces_turn c.loop-c.invariant _ _ (omega arith) refl refl c.put_gate.ensures (omega arith)

pub returns : goal.returns
returns c =
    let a = c.args in
    let sums : ℕ → List ℕ = λ v. pair_bytes (pieces_from a.m 0 (sum_gates a.last (λ c. a.z + 5 * c + v))) in
    rw pairs_pieces (put_pieces_end c.loop-c.invariant (omega arith))
    ∙ ap {A = ℕ} {B = List ℕ} (λ v. put_at a.at (sums v) a.ops.now)
    c.pair_form-form.ensures.low

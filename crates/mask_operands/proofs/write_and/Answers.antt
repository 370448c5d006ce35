-- `mask_operands::write_and` meets its contract: the pairs, then the rows.
-- Assumes nothing.
use mathlib.Core.Path.{◌≡◌, refl, ap, ◌∙◌}
use mathlib.Core.List.{List, ◌++◌}
use Prim.Native.Nat.{ℕ, ◌*◌}
use native.Mathlib.Omega.{arith}
use lib.ListN.{length}
use Rattle.tables.specs.Tables.{pair_bytes}
use Rattle.tables.proofs.Format.{pairs_long}
use Rattle.construction.specs.Shares.{in_turn, pairs, tri}
use Rattle.tables.specs.Inside.{put_at}
use Rattle.construction.specs.Gadgets.{Gadget, gadget_of}
use Rattle.layout.specs.Layout.{share_wires, pair_gates, rows_gates}
use Rattle.layout.proofs.Bytes.{pairs_append}
use Rattle.tables.proofs.Put.{put_then}
use Rattle.construction.proofs.Each.{in_turn_length}
use Rattle.construction.proofs.Costs.{all_of}
use Rattle.construction.proofs.Rows.{pairs_length}
use Rattle.mask_operands.proofs.write_and.Goals as goal

pub returns : goal.returns
returns c =
    let G : Gadget = gadget_of c.args.and in
    let n = c.args.reads.shares in
    let w = c.args.w in
    let A = share_wires n c.args.reads.operands.left in
    let B = share_wires n c.args.reads.operands.right in
    let at = c.args.at in
    let b = c.args.ops.now in
    let all = in_turn 5 w (pairs n) (pair_gates G A B) in
    let each = in_turn_length 5 w (pairs n) (pair_gates G A B) (all_of _ (λ _ _. refl) (pairs n)) in
    let long : length (pair_bytes all) ≡ 20 * tri n = omega (arith, pairs_long all, each, pairs_length n 0) in
    let next = c.write_pairs-v.ensures.0 in
    rw pairs_append
    (put_then at (pair_bytes all) (pair_bytes (rows_gates G n w _ A B)) b (omega (arith, c.requires.1)) c.write_pairs-v.ensures.1
    (omega (arith, long, next))
    c.write_rows.ensures
    ∙ ap {A = ℕ} {B = List ℕ} (λ v. put_at at (pair_bytes all ++ pair_bytes (rows_gates G n w v A B)) b) next)

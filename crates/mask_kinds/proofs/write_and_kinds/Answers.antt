-- `mask_kinds::write_and_kinds` meets its contract: the pairs, then the rows.
-- Assumes nothing.
use mathlib.Core.Path.{◌≡◌, refl, ap, ◌∙◌}
use mathlib.Core.List.{List, ◌++◌}
use Prim.Native.Nat.{ℕ, ◌*◌}
use native.Mathlib.Omega.{arith}
use lib.ListN.{length}
use Rattle.tables.specs.Inside.{put_at}
use Rattle.tables.proofs.Put.{put_then}
use Rattle.layout.specs.Layout.{pieces_from}
use Rattle.mask_kinds.specs.Kinds.{pair_kinds, row_kinds}
use Rattle.layout.proofs.Bytes.{pieces_long}
use Rattle.mask_kinds.proofs.GateKinds.{xors_after}
use Rattle.mask_kinds.proofs.write_and_kinds.Goals as goal

-- the kinds of m pairs
long : (m : ℕ) → length (pieces_from m 0 (λ _. pair_kinds)) ≡ 5 * m
long m = pieces_long 5 m 0 (λ _. pair_kinds) (λ _ _. refl)

pub write_rows_kinds-requires : goal.write_rows_kinds-requires
write_rows_kinds-requires c =
    let m = c.pair_count-m.result in (
      omega (arith, c.requires.1, c.pair_count-m.ensures),
      xors_after c.args.at (pieces_from m 0 (λ _. pair_kinds)) c.args.kinds.now c.requires.2
          (omega (arith, long m, c.requires.1, c.pair_count-m.ensures))
          c.write_pair_kinds.ensures
          (omega (arith, long m)),
    )

pub returns : goal.returns
returns c =
    let m = c.pair_count-m.result in
    let at = c.args.at in
    let b = c.args.kinds.now in
    let all = pieces_from c.args.n 0 (λ _. row_kinds c.args.n) in
    put_then at (pieces_from m 0 (λ _. pair_kinds)) all b (omega (arith, c.requires.1, long m, c.pair_count-m.ensures))
    c.write_pair_kinds.ensures (omega (arith, long m)) c.write_rows_kinds.ensures
    ∙ ap {A = ℕ} {B = List ℕ} (λ k. put_at at (pieces_from k 0 (λ _. pair_kinds) ++ all) b) c.pair_count-m.ensures

-- An AND in both runs: the pairs, then the rows of each run.
-- Assumes nothing.
use mathlib.Core.Path.{◌≡◌, sym, ap, ◌∙◌, subst}
use mathlib.Core.List.{List, [], ◌++◌, map, append-nil}
use Prim.Native.Nat.{ℕ, ◌+◌, ◌*◌}
use native.Mathlib.Omega.{arith}
use lib.ListN.{length, get_or, length-map}
use Rattle.tables.specs.Tables.{AND, Gate}
use Rattle.tables.specs.Runs.{randoms}
use Rattle.tables.specs.Inside.{ran_on, RunsTo}
use Rattle.construction.specs.Shares.{in_turn, pairs, tri}
use Rattle.construction.specs.Gadgets.{Gadget}
use Rattle.construction.specs.Wires.{cost}
use Rattle.construction.proofs.Rows.{pairs_length}
use Rattle.construction.proofs.Lawful.{Lawful}
use Rattle.secrecy.specs.Both.{wires_flip, BothFlip, BothReady}
use Rattle.secrecy.proofs.Both.{flips_after, flips_append, both_none, both_less}
use Rattle.layout.specs.declared.Places as DPlaces
use Rattle.layout.specs.Layout.{share_wires, pair_gates, row_gates, rows_gates}
use Rattle.layout.proofs.Bytes.{pieces_long}
use Rattle.layout.proofs.Pieces.{row_long}
use Rattle.map_all_pairs.specs.Pairing.{PairsRan}
use Rattle.map_all_pairs.proofs.Pairs.{pairs_long, pairs_draw}

module _ {G : Gadget} (L : Lawful G) (n k w : ℕ) (a b : DPlaces.Places) {ts : List ℕ} {at : ℕ} {m x y m₁ x₁ y₁ : List ℕ}
    (R : BothReady w (cost AND n) at (tri n) ts m x y)
    (ran : PairsRan G n k a b (pairs n) ts at w m m₁ x x₁ y y₁) where
  abbrev A : List ℕ
  A = share_wires n a

  abbrev B : List ℕ
  B = share_wires n b

  abbrev cross : List Gate
  cross = in_turn 5 w (pairs n) (pair_gates G A B)

  abbrev rows : List Gate
  rows = rows_gates G n w (w + 5 * tri n) A B

  abbrev flips : List ℕ
  flips = map (wires_flip G k A B (λ p. get_or x p 0) (λ p. get_or y p 0)) (pairs n)

  cross_long : length cross ≡ 5 * tri n
  cross_long = pairs_long G A B w (pairs n) ∙ ap (λ (c : ℕ). 5 * c) (pairs_length n 0)

  rows_long : length rows ≡ n * n
  rows_long =
      pieces_long n n 0 (λ i. row_gates G n w (w + 5 * tri n + n * i) A B i)
      (λ i h. row_long G n w (w + 5 * tri n + n * i) A B i (omega arith))

  flips_long : length flips ≡ tri n
  flips_long = length-map (pairs n) (wires_flip G k A B (λ p. get_or x p 0) (λ p. get_or y p 0)) ∙ pairs_length n 0

  flips_exact : length flips ≡ randoms cross
  flips_exact = flips_long ∙ sym (pairs_draw L A B w (pairs n) ∙ pairs_length n 0)

  all_ready : BothReady w (length cross + length rows) at (length flips + length {A = ℕ} []) ts m x y
  all_ready = both_less _ _ R (omega (arith, cross_long, rows_long)) (omega (arith, flips_long))

  -- after the pairs there is room for the rows
  pub rows_ready : RunsTo (w + 5 * tri n) (n * n) x₁ × RunsTo (w + 5 * tri n) (n * n) y₁
  rows_ready =
      let after = (flips_after cross rows flips [] all_ready flips_exact ran).left.ready in
      (rw (cross_long, rows_long) at after.one, rw (cross_long, rows_long) at after.other)

  pub and_ran :
      {x₂ y₂ : List ℕ} → x₂ ≡ ran_on rows [] (w + 5 * tri n) x₁ → y₂ ≡ ran_on rows [] (w + 5 * tri n) y₁
      → BothFlip (cross ++ rows) flips ts at w m m₁ x x₂ y y₂
  and_ran {x₂} {y₂} one other =
      let after : BothFlip rows [] ts (at + length flips) (w + length cross) m₁ m₁ x₁ x₂ y₁ y₂ =
      rw cross_long (both_none rows (at + length flips) (w + 5 * tri n) ts m₁ one other) in
      subst (λ (fs : List ℕ). BothFlip (cross ++ rows) fs ts at w m m₁ x x₂ y y₂) (append-nil flips)
      (flips_append cross rows flips [] all_ready flips_exact ran after)

-- A row in one run: its own product, the sums of the pairs before it, those of the pairs after it; and rows in turn.
-- Assumes nothing.
use mathlib.Core.Path.{◌≡◌, refl, sym, ◌∙◌}
use mathlib.Core.List.{List, [], ◌∷◌, ◌++◌}
use Prim.Native.Nat.{ℕ, zero, suc, ◌+◌, ◌-◌, ◌*◌, ◌<◌}
use native.Mathlib.Omega.{arith}
use lib.ListN.{length}
use Rattle.tables.specs.Tables.{AND, Gate, gate, total}
use Rattle.tables.specs.Runs.{drawn, randoms}
use Rattle.tables.specs.Inside.{ran_on, RunsTo}
use Rattle.tables.proofs.Lists.{bits_nil}
use Rattle.tables.proofs.Run.{total_append}
use Rattle.tables.proofs.Ran.{Ran, ran_start, ran_more, runs_less}
use Rattle.construction.specs.Shares.{pair_at}
use Rattle.construction.specs.Gadgets.{first, Gadget}
use Rattle.construction.specs.Wires.{share, pair_wire}
use Rattle.layout.specs.Layout.{pieces_from, sum_gates, high_gates, low_gates, row_gates}
use Rattle.layout.proofs.Bytes.{pieces_long}
use Rattle.layout.proofs.Pieces.{high_long, low_same, row_long}
use Rattle.map_values.proofs.InPieces.{InPieces, pieces_turn, xor_none}

-- gates that draw nothing, piece by piece
pieces_none_drawn : (c s : ℕ) (f : ℕ → List Gate) → ((i : ℕ) → randoms (f i) ≡ 0) → randoms (pieces_from c s f) ≡ 0
unfolding pieces_from total
pieces_none_drawn zero s f h = refl
pieces_none_drawn (suc c) s f h = total_append drawn (f s) (pieces_from c (suc s) f) ∙ omega (arith, h s, pieces_none_drawn c (suc s) f h)

sums_none : (last c s : ℕ) (z : ℕ → ℕ) → randoms (pieces_from c s (sum_gates last z)) ≡ 0
sums_none last c s z = pieces_none_drawn c s (sum_gates last z) (λ i. xor_none _ _)

-- a row draws nothing
row_none : (G : Gadget) (n w v : ℕ) (a b : List ℕ) (i : ℕ) → randoms (row_gates G n w v a b i) ≡ 0
unfolding total
row_none G n w v a b i =
    let low : ℕ → ℕ = λ j. pair_wire w G.low (pair_at n i (suc i + j)) in
    omega (
      arith,
      total_append drawn (high_gates G n w v i) (pieces_from (n - suc i) 0 (sum_gates (v + i) low)),
      sums_none v i 0 (λ j. pair_wire w G.high (pair_at n j i)),
      sums_none (v + i) (n - suc i) 0 low,
    )

module _ (G : Gadget) (w l r : ℕ) {n v i : ℕ} {b₀ : List ℕ} (R : RunsTo v n b₀) (h : i < n) where
  module _ {b₁ : List ℕ} (e₁ : b₁ ≡ ran_on (gate AND l r ∷ []) [] v b₀) where
    ran_own : Ran (gate AND l r ∷ []) [] v b₀ (v + 1) (n - 1) b₁
    unfolding total
    ran_own = ran_more (ran_start R) (gate AND l r ∷ []) [] (n - 1) refl bits_nil e₁ (omega arith) (omega arith)

    pub high_ready : RunsTo (v + 1) i b₁
    high_ready = runs_less i ran_own.ready (omega arith)

    module _ {b₂ : List ℕ} (e₂ : b₂ ≡ ran_on (high_gates G n w v i) [] (v + 1) b₁) where
      ran_high : Ran ((gate AND l r ∷ []) ++ high_gates G n w v i) [] v b₀ (v + i + 1) (n - 1 - i) b₂
      ran_high =
          let long = high_long G n w v i in
          ran_more ran_own (high_gates G n w v i) [] (n - 1 - i)
          (sym (sums_none v i 0 (λ j. pair_wire w G.high (pair_at n j i))))
          bits_nil
          e₂
          (omega arith)
          (omega arith)

      pub low_ready : RunsTo (v + i + 1) (n - 1 - i) b₂
      low_ready = ran_high.ready

      pub row_ran :
          {z : ℕ} {b₃ : List ℕ} (a b : List ℕ) → l ≡ share a i → r ≡ share b i
          → (suc i < n → z ≡ pair_wire w first (pair_at n i (suc i)))
          → b₃ ≡ ran_on (low_gates G z (v + i) (n - 1 - i)) [] (v + i + 1) b₂
          → b₃ ≡ ran_on (row_gates G n w v a b i) [] v b₀
      row_ran {z} a b el er low e₃ =
          let long : length (low_gates G z (v + i) (n - 1 - i)) ≡ 1 * (n - 1 - i) = pieces_long 1 (n - 1 - i) 0 _ (λ _ _. refl) in
          let all = ran_more ran_high (low_gates G z (v + i) (n - 1 - i)) [] {v' = v + n} 0
          (sym (sums_none (v + i) (n - 1 - i) 0 (pair_wire z G.low)))
          bits_nil
          e₃
          (omega arith)
          (omega arith) in
          rw (low_same G n w i z (v + i) (n - 1 - i) (omega arith) low, ← el, ← er) all.is

-- i rows have run on, and the next one begins at wire from
abbrev pub InRows : Gadget → ℕ → ℕ → ℕ → List ℕ → List ℕ → List ℕ → ℕ → ℕ → List ℕ → Type 0
InRows G n w v a b = InPieces n v n (λ i. row_gates G n w (v + n * i) a b i)

pub rows_turn :
    (G : Gadget) (n w v : ℕ) (a b : List ℕ) {b₀ : List ℕ} {i : ℕ} {c : List ℕ} (c' : List ℕ)
    → InRows G n w v a b b₀ (v + n * i) i c → i < n → c' ≡ ran_on (row_gates G n w (v + n * i) a b i) [] (v + n * i) c
    → InRows G n w v a b b₀ (v + n * (i + 1)) (i + 1) c'
rows_turn G n w v a b {i = i} c' P h ran =
    pieces_turn P c' h (row_long G n w (v + n * i) a b i h) (row_none G n w (v + n * i) a b i) refl ran (omega arith)

-- Shares, pairs of shares and rows (document 01, "Masking at order t"). A share is numbered 1 to n in the paper and counted
-- from 0 in these lists: share s of the paper stands at s − 1.
-- Assumes nothing.
use Rattle.std.specs.Prelude.{List, [], ◌∷◌, ◌++◌, ℕ, zero, suc, ◌+◌, ◌-◌, ◌*◌}

-- "n = 2t+1"
abbrev pub shares_of : ℕ → ℕ
shares_of t = suc (2 * t)

-- f at s, s + 1 and on, c values in all
unfoldable pub up_from : {A : Type 0} → ℕ → ℕ → (ℕ → A) → List A
up_from zero s f = []
up_from (suc c) s f = f s ∷ up_from c (suc s) f

-- blocks of wires one after another, each of the given size, the first from wire w on
unfoldable pub in_turn : {A B : Type 0} → ℕ → ℕ → List A → (ℕ → A → List B) → List B
in_turn size w [] f = []
in_turn size w (x ∷ xs) f = f w x ++ in_turn size (w + size) xs f

-- a pair of shares i < j
pub record Pair : Type 0 where
  pub lower : ℕ
  pub upper : ℕ

-- the pair of two shares
abbrev pub pair_of : ℕ → ℕ → Pair
pair_of i j = record { lower = i; upper = j }

-- "for each pair i<j, ordered (1,2), (1,3), .., (n−1,n)": the pairs among c shares from i on
unfoldable pub pairs_from : ℕ → ℕ → List Pair
pairs_from zero i = []
pairs_from (suc c) i = up_from c (suc i) (λ j. pair_of i j) ++ pairs_from c (suc i)

-- "ordered (1,2), (1,3), .., (n−1,n)"
abbrev pub pairs : ℕ → List Pair
pairs n = pairs_from n 0

-- "n(n−1)/2": the number of pairs
unfoldable pub tri : ℕ → ℕ
tri zero = 0
tri (suc n) = n + tri n

-- where the pair i < j stands among the pairs of n shares
unfoldable pub pair_at : ℕ → ℕ → ℕ → ℕ
pair_at zero i j = 0
pair_at (suc n) i zero = 0
pair_at (suc n) zero (suc j) = j
pair_at (suc n) (suc i) (suc j) = n + pair_at n i j

-- what row i adds, "for j rising, j≠i": from the pairs (j,i) with j < i what `high` gives, from the pairs (i,j) what `low` gives
unfoldable pub row : ℕ → (ℕ → ℕ) → (ℕ → ℕ) → ℕ → List ℕ
row n low high i =
    up_from i 0 (λ j. high (pair_at n j i)) ++ up_from (n - suc i) (suc i) (λ j. low (pair_at n i j))

-- Pairs and rows: where each pair stands, and the rows by recursion over the shares (`around`), with no test, so that the
-- rows together add each pair's two wires once.
-- Assumes nothing.
use mathlib.Core.Path.{◌≡◌, refl, ap, ◌∙◌}
use mathlib.Core.List.{List, [], ◌∷◌, ◌++◌}
use Prim.Native.Nat.{ℕ, zero, suc, ◌+◌, ◌-◌, ◌*◌, ◌≤◌, ◌<◌}
use native.Mathlib.Nat.{add-suc, add_assoc, zero-add, add-zero, suc-add}
use native.Mathlib.Omega.{arith}
use lib.ListN.{length, get_or, length-append, get_or-append}
use lib.Seq.{get_or-append-add}
use Rattle.tables.proofs.Lists.{All, all_append, all_map}
use Rattle.construction.specs.Shares.{up_from, Pair, pair_of, pairs_from, pairs, tri, pair_at, row}
use Rattle.construction.proofs.Sum.{sum_of, sum_append, sum_add, sum_cong, up_length, up_at}
use Rattle.construction.proofs.Sum.{up_shift, up_plus, up_append, up_all, up_ids, sum_from}

pub pairs_length : (c i : ℕ) → length (pairs_from c i) ≡ tri c
unfolding pairs_from tri
pairs_length zero i = refl
pairs_length (suc c) i =
    simp (length-append, up_length, pairs_length c (suc i))

pairs_from_in :
    (c i : ℕ) → All (λ p. (i ≤ p.lower) × (p.lower < p.upper) × (p.upper < i + c)) (pairs_from c i)
unfolding pairs_from All
pairs_from_in zero i = tt
pairs_from_in (suc c) i =
    all_append _ (up_from c (suc i) (λ j. pair_of i j)) (pairs_from c (suc i))
    (up_all _ c (suc i) (λ j. pair_of i j) (λ j a b. (omega arith, omega arith, omega arith)))
    (all_map _ _ (λ p a. (omega arith, omega arith, omega arith)) (pairs_from c (suc i)) (pairs_from_in c (suc i)))

pub pairs_in : (n : ℕ) → All (λ p. (p.lower < p.upper) × (p.upper < n)) (pairs n)
pairs_in n = all_map _ _ (λ p a. (omega arith, omega arith)) (pairs n) (pairs_from_in n 0)

pub pair_below : (n i j : ℕ) → i < j → j < n → pair_at n i j < tri n
unfolding pair_at tri
pair_below zero i j a b = absurd (omega arith)
pair_below (suc n) i zero a b = absurd (omega arith)
pair_below (suc n) zero (suc j) a b = omega arith
pair_below (suc n) (suc i) (suc j) a b = omega (arith, pair_below n i j (omega arith) (omega arith))

pair_from_at :
    (c k i j : ℕ) (d : Pair) → i < j → j < c → get_or (pairs_from c k) (pair_at c i j) d ≡ pair_of (k + i) (k + j)
unfolding pair_at pairs_from
pair_from_at zero k i j d a b = absurd (omega arith)
pair_from_at (suc c) k i zero d a b = absurd (omega arith)
pair_from_at (suc c) k zero (suc j) d a b =
    let first = up_from c (suc k) (λ m. pair_of k m) in
    let long : length first ≡ c = up_length c (suc k) (λ m. pair_of k m) in
    get_or-append first (pairs_from c (suc k)) d j (omega arith)
    ∙ up_at c (suc k) (λ m. pair_of k m) j d (omega arith)
    ∙ rw (suc-add, ← add-suc, add-zero)
pair_from_at (suc c) k (suc i) (suc j) d a b =
    let first = up_from c (suc k) (λ m. pair_of k m) in
    let long : length first ≡ c = up_length c (suc k) (λ m. pair_of k m) in
    let past = get_or-append-add first (pairs_from c (suc k)) (pair_at c i j) d in
    rw long at past ∙ pair_from_at c (suc k) i j d (omega arith) (omega arith) ∙ simp (suc-add, add-suc)

-- a pair stands where pair_at says
pub pair_at_lem :
    (n i j : ℕ) (d : Pair) → i < j → j < n
    → (pair_at n i j < tri n) × (get_or (pairs n) (pair_at n i j) d ≡ pair_of i j)
pair_at_lem n i j d a b = (pair_below n i j a b, pair_from_at n 0 i j d a b ∙ rw (zero-add, zero-add))

-- row i without a test, by recursion over the shares; the first pair among these shares is number p
unfoldable pub around : ℕ → (ℕ → ℕ) → (ℕ → ℕ) → ℕ → ℕ → List ℕ
around zero low high p i = []
around (suc n) low high p zero = up_from n p low
around (suc n) low high p (suc i) = high (p + i) ∷ around n low high (p + n) i

row_around_from :
    (n : ℕ) (low high : ℕ → ℕ) (p i : ℕ) → i < n
    → up_from i 0 (λ j. high (p + pair_at n j i)) ++ up_from (n - suc i) (suc i) (λ j. low (p + pair_at n i j))
    ≡ around n low high p i
unfolding up_from pair_at around
row_around_from zero low high p i h = absurd (omega arith)
row_around_from (suc n) low high p zero h =
    let e : suc n - 1 ≡ n = omega arith in
    rw (e, up_shift n 0 (λ j. low (p + pair_at (suc n) 0 j)), ← up_plus n p 0 low, add-zero)
row_around_from (suc n) low high p (suc i) h =
    let e : suc n - suc (suc i) ≡ n - suc i = omega arith in
    let next = row_around_from n low high (p + n) i (omega arith) in
    rw (
      e,
      up_shift i 0 (λ j. high (p + pair_at (suc n) j (suc i))),
      up_shift (n - suc i) (suc i) (λ j. low (p + pair_at (suc n) (suc i) j)),
      ← next,
    )
    (simp add_assoc)

row_around : (n : ℕ) (low high : ℕ → ℕ) (i : ℕ) → i < n → row n low high i ≡ around n low high 0 i
unfolding row
row_around n low high i h = simp zero-add at (row_around_from n low high 0 i h)

pub row_length : (n : ℕ) (low high : ℕ → ℕ) (i : ℕ) → i < n → suc (length (row n low high i)) ≡ n
unfolding row
row_length n low high i h = simp (length-append, up_length) (omega arith)

-- what row i adds comes from its own pairs
pub row_all :
    (P : ℕ → Type 0) (n : ℕ) (low high : ℕ → ℕ) (i : ℕ) → i < n
    → ((j : ℕ) → j < i → P (high (pair_at n j i)))
    → ((j : ℕ) → i < j → j < n → P (low (pair_at n i j)))
    → All P (row n low high i)
unfolding row
row_all P n low high i h below above =
    all_append P (up_from i 0 (λ j. high (pair_at n j i))) (up_from (n - suc i) (suc i) (λ j. low (pair_at n i j)))
    (up_all P i 0 (λ j. high (pair_at n j i)) (λ j a b. below j (omega arith)))
    (up_all P (n - suc i) (suc i) (λ j. low (pair_at n i j)) (λ j a b. above j (omega arith) (omega arith)))

around_sum :
    (n p : ℕ) (f low high : ℕ → ℕ)
    → sum_of (λ i. sum_of f (around n low high p i)) (up_from n 0 (λ i. i))
    ≡ sum_of (λ q. f (low q) + f (high q)) (up_from (tri n) p (λ q. q))
unfolding around up_from tri sum_of
around_sum zero p f low high = refl
around_sum (suc n) p f low high =
    let ups = up_from n 0 (λ i. i) in
    let both : ℕ → ℕ = λ q. f (low q) + f (high q) in
    let sums : ℕ → ℕ = λ i. sum_of f (around (suc n) low high p i) in
    let next : ℕ → ℕ = λ i. sum_of f (around n low high (p + n) i) in
    let moved : sum_of sums (up_from n 1 (λ i. i)) ≡ sum_of (λ i. f (high (p + i)) + next i) ups =
    ap {A = List ℕ} {B = ℕ} (sum_of sums) (up_shift n 0 (λ i. i)) ∙ up_ids sums n 0 suc in
    let highs : sum_of (λ q. f (high q)) (up_from n p (λ q. q)) ≡ sum_of (λ i. f (high (p + i))) ups =
    sum_from (λ q. f (high q)) n p in
    let lows : sum_of f (up_from n p low) ≡ sum_of (λ q. f (low q)) (up_from n p (λ q. q)) = up_ids f n p low in
    let split : sum_of both (up_from (n + tri n) p (λ q. q))
    ≡ sum_of both (up_from n p (λ q. q)) + sum_of both (up_from (tri n) (p + n) (λ q. q)) =
    rw (up_append n (tri n) p (λ q. q)) (sum_append both (up_from n p (λ q. q)) (up_from (tri n) (p + n) (λ q. q))) in
    let each = sum_add (λ i. f (high (p + i))) next ups in
    let all = sum_add (λ q. f (low q)) (λ q. f (high q)) (up_from n p (λ q. q)) in
    omega (arith, around_sum n (p + n) f low high)

-- the rows together add the low and the high of every pair once
pub rows_sum :
    (n : ℕ) (f low high : ℕ → ℕ)
    → sum_of (λ i. sum_of f (row n low high i)) (up_from n 0 (λ i. i))
    ≡ sum_of (λ q. f (low q) + f (high q)) (up_from (tri n) 0 (λ q. q))
rows_sum n f low high =
    sum_cong _ _ (up_from n 0 (λ i. i))
    (up_all _ n 0 (λ i. i) (λ i a b. ap {A = List ℕ} {B = ℕ} (sum_of f) (row_around n low high i (omega arith))))
    ∙ around_sum n 0 f low high

-- n(n−1)/2 with no division
pub tri_closed : (n : ℕ) → 2 * tri n + n ≡ n * n
unfolding tri
tri_closed zero = omega arith
tri_closed (suc n) = omega (arith, tri_closed n)

-- i·n − i(i+1)/2 + (j − i − 1) with no division and no subtraction
pub pair_closed :
    (n i j : ℕ) → i < j → j < n → 2 * pair_at n i j + i * i + 3 * i + 2 ≡ 2 * (n * i) + 2 * j
unfolding pair_at
pair_closed zero i j a b = absurd (omega arith)
pair_closed (suc n) i zero a b = absurd (omega arith)
pair_closed (suc n) zero (suc j) a b = omega arith
pair_closed (suc n) (suc i) (suc j) a b = omega (arith, pair_closed n i j (omega arith) (omega arith))

-- One sum over any list and the laws that move it: over appended lists, over counted lists, and over the pairs of a square.
-- Assumes nothing.
use mathlib.Core.Path.{◌≡◌, refl, ap, ◌∙◌}
use mathlib.Core.List.{List, [], ◌∷◌, ◌++◌}
use Prim.Native.Nat.{ℕ, zero, suc, ◌+◌, ◌*◌, ◌%◌, ◌≤◌, ◌<◌}
use native.Mathlib.Nat.{add-suc, suc-add, zero-add, add-zero}
use native.Mathlib.Omega.{arith}
use lib.ListN.{length, get_or}
use Rattle.tables.proofs.Lists.{All}
use Rattle.construction.specs.Shares.{up_from, Pair, pair_of, pairs_from}

unfoldable pub sum_of : {A : Type 0} → (A → ℕ) → List A → ℕ
sum_of f [] = 0
sum_of f (x ∷ xs) = f x + sum_of f xs

pub sum_append : {A : Type 0} (f : A → ℕ) (xs ys : List A) → sum_of f (xs ++ ys) ≡ sum_of f xs + sum_of f ys
unfolding sum_of
sum_append f [] ys = omega arith
sum_append f (x ∷ xs) ys = omega (arith, sum_append f xs ys)

pub sum_add : {A : Type 0} (f g : A → ℕ) (xs : List A) → sum_of (λ x. f x + g x) xs ≡ sum_of f xs + sum_of g xs
unfolding sum_of
sum_add f g [] = omega arith
sum_add f g (x ∷ xs) = omega (arith, sum_add f g xs)

sum_scale : {A : Type 0} (c : ℕ) (f : A → ℕ) (xs : List A) → sum_of (λ x. c * f x) xs ≡ c * sum_of f xs
unfolding sum_of
sum_scale c f [] = omega arith
sum_scale c f (x ∷ xs) = omega (arith, sum_scale c f xs)

sum_scale_right : {A : Type 0} (c : ℕ) (f : A → ℕ) (xs : List A) → sum_of (λ x. f x * c) xs ≡ sum_of f xs * c
unfolding sum_of
sum_scale_right c f [] = omega arith
sum_scale_right c f (x ∷ xs) = omega (arith, sum_scale_right c f xs)

pub sum_cong :
    {A : Type 0} (f g : A → ℕ) (xs : List A) → All (λ x. f x ≡ g x) xs → sum_of f xs ≡ sum_of g xs
unfolding sum_of All
sum_cong f g [] a = refl
sum_cong f g (x ∷ xs) a = omega (arith, a.0, sum_cong f g xs a.1)

pub sum_parity :
    {A : Type 0} (f g : A → ℕ) (xs : List A) → All (λ x. f x % 2 ≡ g x % 2) xs → sum_of f xs % 2 ≡ sum_of g xs % 2
unfolding sum_of All
sum_parity f g [] a = refl
sum_parity f g (x ∷ xs) a = omega (arith, a.0, sum_parity f g xs a.1)

pub up_length : {A : Type 0} (c s : ℕ) (f : ℕ → A) → length (up_from c s f) ≡ c
unfolding up_from
up_length zero s f = refl
up_length (suc c) s f = ap suc (up_length c (suc s) f)

pub up_at : {A : Type 0} (c s : ℕ) (f : ℕ → A) (i : ℕ) (d : A) → i < c → get_or (up_from c s f) i d ≡ f (s + i)
unfolding up_from
up_at zero s f i d h = absurd (omega arith)
up_at (suc c) s f zero d h = ap f {x = s} {y = s + 0} (omega arith)
up_at (suc c) s f (suc i) d h =
    up_at c (suc s) f i d (omega arith) ∙ ap f {x = suc s + i} {y = s + suc i} (omega arith)

pub up_shift : {A : Type 0} (c s : ℕ) (f : ℕ → A) → up_from c (suc s) f ≡ up_from c s (λ i. f (suc i))
unfolding up_from
up_shift zero s f = refl
up_shift (suc c) s f = rw (up_shift c (suc s) f)

pub up_plus : {A : Type 0} (c p s : ℕ) (f : ℕ → A) → up_from c (p + s) f ≡ up_from c s (λ i. f (p + i))
unfolding up_from
up_plus zero p s f = refl
up_plus (suc c) p s f = rw (← add-suc, up_plus c p (suc s) f)

pub up_append :
    {A : Type 0} (b c s : ℕ) (f : ℕ → A) → up_from (b + c) s f ≡ up_from b s f ++ up_from c (s + b) f
unfolding up_from
up_append zero c s f = rw (zero-add, add-zero)
up_append (suc b) c s f =
    let e : s + suc b ≡ suc s + b = omega arith in
    rw (suc-add b c, e, up_append b c (suc s) f)

pub up_cong :
    {A : Type 0} (c s : ℕ) (f g : ℕ → A) → ((i : ℕ) → s ≤ i → i < s + c → f i ≡ g i) → up_from c s f ≡ up_from c s g
unfolding up_from
up_cong zero s f g h = refl
up_cong (suc c) s f g h =
    rw (h s (omega arith) (omega arith), up_cong c (suc s) f g (λ i a b. h i (omega arith) (omega arith)))

pub up_all :
    {A : Type 0} (P : A → Type 0) (c s : ℕ) (f : ℕ → A) → ((i : ℕ) → s ≤ i → i < s + c → P (f i)) → All P (up_from c s f)
unfolding up_from All
up_all P zero s f h = tt
up_all P (suc c) s f h =
    (h s (omega arith) (omega arith), up_all P c (suc s) f (λ i a b. h i (omega arith) (omega arith)))

pub up_ids :
    {A : Type 0} (f : A → ℕ) (c s : ℕ) (g : ℕ → A)
    → sum_of f (up_from c s g) ≡ sum_of (λ i. f (g i)) (up_from c s (λ i. i))
unfolding up_from sum_of
up_ids f zero s g = refl
up_ids f (suc c) s g = ap (λ (m : ℕ). f (g s) + m) (up_ids f c (suc s) g)

-- a sum from p on, counted from 0
pub sum_from :
    (f : ℕ → ℕ) (c p : ℕ) → sum_of f (up_from c p (λ q. q)) ≡ sum_of (λ i. f (p + i)) (up_from c 0 (λ i. i))
sum_from f c p =
    let moved : up_from c p (λ q. q) ≡ up_from c 0 (λ i. p + i) = rw add-zero at (up_plus c p 0 (λ q. q)) in
    ap {A = List ℕ} {B = ℕ} (sum_of f) moved ∙ up_ids f c 0 (λ i. p + i)

-- a list's sum is the sum over its places
pub sum_by_index :
    {A : Type 0} (f : A → ℕ) (d : A) (xs : List A)
    → sum_of f xs ≡ sum_of (λ q. f (get_or xs q d)) (up_from (length xs) 0 (λ q. q))
unfolding up_from sum_of
sum_by_index f d [] = refl
sum_by_index f d (x ∷ xs) =
    let at : ℕ → ℕ = λ q. f (get_or (x ∷ xs) q d) in
    let moved : sum_of at (up_from (length xs) 1 (λ q. q)) ≡ sum_of (λ q. f (get_or xs q d)) (up_from (length xs) 0 (λ q. q)) =
    ap {A = List ℕ} {B = ℕ} (sum_of at) (up_shift (length xs) 0 (λ q. q)) ∙ up_ids at (length xs) 0 suc in
    omega (arith, sum_by_index f d xs)

-- the square: a product of sums is the diagonal and both ways across
pub square :
    (c i : ℕ) (f g : ℕ → ℕ)
    → sum_of f (up_from c i (λ s. s)) * sum_of g (up_from c i (λ s. s))
    ≡ sum_of (λ s. f s * g s) (up_from c i (λ s. s))
    + sum_of (λ p. f p.lower * g p.upper + f p.upper * g p.lower) (pairs_from c i)
unfolding up_from sum_of pairs_from
square zero i f g = omega arith
square (suc c) i f g =
    let both : Pair → ℕ = λ p. f p.lower * g p.upper + f p.upper * g p.lower in
    let ups = up_from c (suc i) (λ s. s) in
    let split : sum_of both (pairs_from (suc c) i)
    ≡ sum_of both (up_from c (suc i) (λ j. pair_of i j)) + sum_of both (pairs_from c (suc i)) =
    sum_append both (up_from c (suc i) (λ j. pair_of i j)) (pairs_from c (suc i)) in
    let across : sum_of both (up_from c (suc i) (λ j. pair_of i j)) ≡ f i * sum_of g ups + sum_of f ups * g i =
    up_ids both c (suc i) (λ j. pair_of i j)
    ∙ sum_add (λ j. f i * g j) (λ j. f j * g i) ups
    ∙ omega (arith, sum_scale (f i) g ups, sum_scale_right (g i) f ups) in
    omega (arith, square c (suc i) f g)

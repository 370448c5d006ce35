-- Share numbers joined: a number is among the joined ones just where it is in the list, and one number, however often, joins to
-- itself.
-- Assumes nothing.
use mathlib.Core.Path.{◌≡◌, refl, ap, ◌∙◌}
use mathlib.Core.Bool.{Bool, true, false, ◌||◌, cond}
use mathlib.Core.List.{List, [], ◌∷◌}
use Prim.Native.Nat.{ℕ}
use lib.Dec.{eqb, ltb}
use borrow.Author.Tests.{eqb-true, eq-eqb}
use Rattle.tables.specs.Runs.{of_each}
use Rattle.tables.proofs.Lists.{All}
use Rattle.construction.specs.Gadgets.{is_in}
use Rattle.construction.specs.Wires.{insert, joined}

-- a number that is there
insert_same : (m : ℕ) (xs : List ℕ) → insert m (m ∷ xs) ≡ m ∷ xs
unfolding insert
insert_same m xs = rw (eq-eqb m m refl)

or_twice : (a b : Bool) → a || b ≡ a || (a || b)
or_twice true b = refl
or_twice false b = refl

or_swap : (a b c : Bool) → a || (b || c) ≡ b || (a || c)
or_swap true true c = refl
or_swap true false c = refl
or_swap false b c = refl

insert_in : (k m : ℕ) (xs : List ℕ) → is_in k (insert m xs) ≡ eqb k m || is_in k xs
unfolding insert
insert_in k m [] = refl
insert_in k m (x ∷ xs) = go (eqb m x) refl (ltb m x) (insert_in k m xs)
  where
    go : (s : Bool) → eqb m x ≡ s → (t : Bool) → is_in k (insert m xs) ≡ eqb k m || is_in k xs
        → is_in k (cond s (x ∷ xs) (cond t (m ∷ x ∷ xs) (x ∷ insert m xs))) ≡ eqb k m || (eqb k x || is_in k xs)
    go true e t h = rw (eqb-true m x e) (or_twice (eqb k x) (is_in k xs))
    go false e true h = refl
    go false e false h = ap (λ (b : Bool). eqb k x || b) h ∙ or_swap (eqb k x) (eqb k m) (is_in k xs)

-- joining loses no number and adds none
pub joined_in : (k : ℕ) (ms : List ℕ) → is_in k (joined ms) ≡ is_in k ms
unfolding joined
joined_in k [] = refl
joined_in k (m ∷ ms) = insert_in k m (joined ms) ∙ ap (λ (b : Bool). eqb k m || b) (joined_in k ms)

-- one number, however often
joined_one : (m : ℕ) (ms : List ℕ) → All (λ x. x ≡ m) ms → joined (m ∷ ms) ≡ m ∷ []
unfolding joined insert All
joined_one m [] a = refl
joined_one m (x ∷ ms) a = rw (a.0, joined_one m ms a.1) (insert_same m [])

-- the numbers of wires of which each carries m alone
each_one : (M : ℕ → List ℕ) (m : ℕ) (qs : List ℕ) → All (λ q. M q ≡ m ∷ []) qs → All (λ x. x ≡ m) (of_each M qs)
unfolding of_each All
each_one M m [] a = tt
each_one M m (q ∷ qs) a = rw a.0 (refl, each_one M m qs a.1)

-- a wire and pins that carry m alone, joined
pub alone_joined :
    (M : ℕ → List ℕ) (m p : ℕ) (qs : List ℕ) → M p ≡ m ∷ [] → All (λ q. M q ≡ m ∷ []) qs → joined (of_each M (p ∷ qs)) ≡ m ∷ []
unfolding of_each
alone_joined M m p qs e a = rw e (joined_one m (of_each M qs) (each_one M m qs a))

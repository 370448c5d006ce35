-- The Boolean tests of the claims, on lists of bits, on probes and on equality, as the facts that they test.
-- Assumes nothing.
use mathlib.Core.Path.{◌≡◌, refl, sym, ◌∙◌}
use mathlib.Core.Bool.{Bool, true, false}
use mathlib.Core.List.{List, [], ◌∷◌}
use Prim.Native.Nat.{ℕ, suc, ◌<◌}
use lib.Dec.{eqb, ltb, leb}
use borrow.Author.Tests.{leb-true, le-leb, ltb-true, lt-ltb, eqb-true, eq-eqb}
use Rattle.tables.proofs.Tests.{and_true, and_intro}
use Rattle.tables.specs.Inside.{Bits}
use Rattle.tables.proofs.Lists.{bits_nil, bits_cons, All}
use Rattle.secrecy.specs.Claims.{all_bits, all_below, same}

pub all_bits_lem : (ts : List ℕ) → all_bits ts ≡ true → Bits ts
all_bits_lem [] h = bits_nil
all_bits_lem (b ∷ bs) h =
    let both = and_true (leb b 1) (all_bits bs) h in
    bits_cons b bs (leb-true b 1 both.0) (all_bits_lem bs both.1)

pub bits_all : (ts : List ℕ) → Bits ts → all_bits ts ≡ true
bits_all [] h = refl
bits_all (b ∷ bs) h = and_intro (leb b 1) (all_bits bs) (le-leb b 1 (h 0)) (bits_all bs (λ i. h (suc i)))

pub all_below_lem : (w : ℕ) (ps : List ℕ) → all_below w ps ≡ true → All (λ p. p < w) ps
unfolding All
all_below_lem w [] h = tt
all_below_lem w (p ∷ ps) h =
    let both = and_true (ltb p w) (all_below w ps) h in
    (ltb-true p w both.0, all_below_lem w ps both.1)

pub below_all : (w : ℕ) (ps : List ℕ) → All (λ p. p < w) ps → all_below w ps ≡ true
unfolding All
below_all w [] a = refl
below_all w (p ∷ ps) a = and_intro (ltb p w) (all_below w ps) (lt-ltb p w a.0) (below_all w ps a.1)

same_refl : (xs : List ℕ) → same xs xs ≡ true
same_refl [] = refl
same_refl (x ∷ xs) = and_intro (eqb x x) (same xs xs) (eq-eqb x x refl) (same_refl xs)

pub same_eq : (xs ys : List ℕ) → same xs ys ≡ true → xs ≡ ys
same_eq [] [] h = refl
same_eq [] (y ∷ ys) h = cc
same_eq (x ∷ xs) [] h = cc
same_eq (x ∷ xs) (y ∷ ys) h =
    let both = and_true (eqb x y) (same xs ys) h in
    cc (eqb-true x y both.0, same_eq xs ys both.1)

pub eq_same : (xs ys : List ℕ) → xs ≡ ys → same xs ys ≡ true
eq_same xs ys e = rw e (same_refl ys)

-- two tests of equality agree where each equation gives the other
pub same_both : (xs ys zs ws : List ℕ) → (xs ≡ ys → zs ≡ ws) → (zs ≡ ws → xs ≡ ys) → same xs ys ≡ same zs ws
same_both xs ys zs ws to from = go (same xs ys) (same zs ws) refl refl
  where
    go : (a c : Bool) → same xs ys ≡ a → same zs ws ≡ c → a ≡ c
    go true c ea ec = sym (eq_same zs ws (to (same_eq xs ys ea))) ∙ ec
    go false true ea ec = sym ea ∙ eq_same xs ys (from (same_eq zs ws ec))
    go false false ea ec = refl

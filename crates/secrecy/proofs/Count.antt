-- What is one-to-one keeps counts: each tape stands once among all of them, so a map that leads back takes those that pass a test to as
-- many others at least, those that fail it too, and both together are all.
-- Assumes nothing.
use mathlib.Core.Path.{◌≡◌, refl, ap, ap₂, sym, ◌∙◌}
use mathlib.Core.Bool.{Bool, true, false, ◌&&◌, cond, not}
use mathlib.Core.List.{List, [], ◌∷◌, ◌++◌, map}
use Prim.Native.Nat.{ℕ, zero, suc, ◌+◌, ◌≤◌}
use native.Mathlib.Omega.{arith}
use lib.Dec.{eqb}
use lib.ListN.{length}
use borrow.Author.Tests.{eqb-true, eq-eqb}
use Rattle.tables.proofs.Tests.{and_true, and_intro}
use Rattle.tables.proofs.Lists.{All, all_append, all_map}
use Rattle.secrecy.specs.Claims.{all_bits, is_bits, all_tapes, same, how_many, Tapes, in_bits, EachOnce, Indistinct}
use Rattle.secrecy.proofs.Bits.{all_bits_lem, same_eq, eq_same}

-- a tape of n bits
abbrev pub BitsOf : ℕ → List ℕ → Type 0
BitsOf n ts = (length ts ≡ n) × (all_bits ts ≡ true)

pub of_bits : (n : ℕ) (ts : List ℕ) → BitsOf n ts → is_bits n ts ≡ true
of_bits n ts b = and_intro (eqb (length ts) n) (all_bits ts) (eq-eqb _ _ b.0) b.1

pub bits_of : (n : ℕ) (ts : List ℕ) → is_bits n ts ≡ true → BitsOf n ts
bits_of n ts h =
    let a = and_true (eqb (length ts) n) (all_bits ts) h in
    (eqb-true _ _ a.0, a.1)

many_append : (f : List ℕ → Bool) (xs ys : List (List ℕ)) → how_many f (xs ++ ys) ≡ how_many f xs + how_many f ys
unfolding how_many
many_append f [] ys = omega arith
many_append f (x ∷ xs) ys = omega (arith, many_append f xs ys)

pub many_map :
    (f : List ℕ → Bool) (h : List ℕ → List ℕ) (xs : List (List ℕ))
    → how_many f (map h xs) ≡ how_many (λ ts. f (h ts)) xs
unfolding how_many
many_map f h [] = refl
many_map f h (x ∷ xs) = omega (arith, many_map f h xs)

-- tests of which one is passed where the other is
many_le :
    (f g : List ℕ → Bool) (xs : List (List ℕ)) → All (λ x. f x ≡ true → g x ≡ true) xs → how_many f xs ≤ how_many g xs
unfolding how_many All
many_le f g [] a = omega arith
many_le f g (x ∷ xs) a = go (f x) refl (many_le f g xs a.1)
  where
    go : (b : Bool) → f x ≡ b → how_many f xs ≤ how_many g xs
        → cond b 1 0 + how_many f xs ≤ cond (g x) 1 0 + how_many g xs
    go true e h = rw (a.0 e) (omega (arith, h))
    go false e h = omega (arith, h)

-- tests that agree count alike
pub many_same :
    (f g : List ℕ → Bool) (xs : List (List ℕ)) → All (λ x. f x ≡ g x) xs → how_many f xs ≡ how_many g xs
unfolding how_many All
many_same f g [] a = refl
many_same f g (x ∷ xs) a = rw (a.0, many_same f g xs a.1)

many_none : (xs : List (List ℕ)) → how_many (λ ts. false) xs ≡ 0
unfolding how_many
many_none [] = refl
many_none (x ∷ xs) = omega (arith, many_none xs)

-- those that pass and those that fail are all
many_not : (f : List ℕ → Bool) (xs : List (List ℕ)) → how_many f xs + how_many (λ ts. not (f ts)) xs ≡ length xs
unfolding how_many
many_not f [] = refl
many_not f (x ∷ xs) = go (f x) (many_not f xs)
  where
    go : (b : Bool) → how_many f xs + how_many (λ ts. not (f ts)) xs ≡ length xs
        → cond b 1 0 + how_many f xs + (cond (not b) 1 0 + how_many (λ ts. not (f ts)) xs) ≡ suc (length xs)
    go true h = omega arith
    go false h = omega arith

-- where as many pass as there are, all pass
many_all : (f : List ℕ → Bool) (xs : List (List ℕ)) → how_many f xs ≡ length xs → All (λ x. f x ≡ true) xs
unfolding how_many All
many_all f [] h = tt
many_all f (x ∷ xs) h = go (f x) refl h (many_all f xs)
  where
    go : (b : Bool) → f x ≡ b → cond b 1 0 + how_many f xs ≡ suc (length xs)
        → (how_many f xs ≡ length xs → All (λ x. f x ≡ true) xs) → All (λ x. f x ≡ true) (x ∷ xs)
    go true e k rest = (e, rest (omega (arith, k)))
    go false e k rest = absurd (omega (arith, k, many_not f xs))

-- and the other way
pub all_many : (f : List ℕ → Bool) (xs : List (List ℕ)) → All (λ x. f x ≡ true) xs → how_many f xs ≡ length xs
unfolding how_many All
all_many f [] a = refl
all_many f (x ∷ xs) a = rw a.0 (omega (arith, all_many f xs a.1))

-- the sum over a list of tapes
unfoldable total : (List ℕ → ℕ) → List (List ℕ) → ℕ
total v [] = 0
total v (x ∷ xs) = v x + total v xs

total_le : (v u : List ℕ → ℕ) (xs : List (List ℕ)) → All (λ x. v x ≤ u x) xs → total v xs ≤ total u xs
unfolding total All
total_le v u [] a = omega arith
total_le v u (x ∷ xs) a = omega (arith, a.0, total_le v u xs a.1)

many_total : (f : List ℕ → Bool) (xs : List (List ℕ)) → how_many f xs ≡ total (λ x. cond (f x) 1 0) xs
unfolding how_many total
many_total f [] = refl
many_total f (x ∷ xs) = omega (arith, many_total f xs)

total_zero : (xs : List (List ℕ)) → total (λ x. 0) xs ≡ 0
unfolding total
total_zero [] = refl
total_zero (x ∷ xs) = omega (arith, total_zero xs)

total_add : (v u : List ℕ → ℕ) (xs : List (List ℕ)) → total (λ x. v x + u x) xs ≡ total v xs + total u xs
unfolding total
total_add v u [] = refl
total_add v u (x ∷ xs) = omega (arith, total_add v u xs)

-- the pairs that pass a test, counted in either order
total_swap :
    (r : List ℕ → List ℕ → Bool) (xs ys : List (List ℕ))
    → total (λ x. how_many (λ y. r x y) ys) xs ≡ total (λ y. how_many (λ x. r x y) xs) ys
unfolding total how_many
total_swap r [] ys = sym (total_zero ys)
total_swap r (x ∷ xs) ys =
    ap₂ (λ (a b : ℕ). a + b) (many_total (λ y. r x y) ys) (total_swap r xs ys)
    ∙ sym (total_add (λ y. cond (r x y) 1 0) (λ y. how_many (λ x. r x y) xs) ys)

-- a map of tapes that stand once each, and leads back
module _
    (T : Tapes) (E : EachOnce T) (to back : List ℕ → List ℕ)
    (a_tape : (ts : List ℕ) → T.is_one ts ≡ true → T.is_one (to ts) ≡ true)
    (leads : (ts : List ℕ) → T.is_one ts ≡ true → back (to ts) ≡ ts)
  where
    tapes : All (λ ts. T.is_one ts ≡ true) T.all
    tapes = many_all T.is_one T.all E.only

    -- no list stands twice
    not_twice : (us : List ℕ) → how_many (λ ts. same us ts) T.all ≤ 1
    not_twice us = go (T.is_one us) refl
      where
        go : (b : Bool) → T.is_one us ≡ b → how_many (λ ts. same us ts) T.all ≤ 1
        go true e = omega (arith, E.once us e)
        go false e =
            omega (
              arith,
              many_none T.all,
              many_le (λ ts. same us ts) (λ ts. false) T.all
                  (all_map _ _ (λ ts h s. cc (ap T.is_one (same_eq us ts s), e, h)) T.all tapes),
            )

    -- at most one tape is taken to us
    from_one : (us : List ℕ) → how_many (λ ts. same (to ts) us) T.all ≤ 1
    from_one us =
        omega (
          arith,
          not_twice (back us),
          many_le (λ ts. same (to ts) us) (λ ts. same (back us) ts) T.all
              (all_map _ _ (λ ts h s. eq_same (back us) ts (ap back (sym (same_eq (to ts) us s)) ∙ leads ts h)) T.all tapes),
        )

    -- so as many pass a test as their images pass another, at least
    at_least :
        (f g : List ℕ → Bool) → ((ts : List ℕ) → T.is_one ts ≡ true → f ts ≡ g (to ts))
        → how_many f T.all ≤ how_many g T.all
    at_least f g agree =
        omega (
          arith,
          many_total f T.all,
          total_le (λ ts. cond (f ts) 1 0) (λ ts. how_many (λ us. same (to ts) us && g us) T.all) T.all
              (all_map _ _ (λ ts h. image ts h (f ts) refl) T.all tapes),
          total_swap (λ ts us. same (to ts) us && g us) T.all T.all,
          total_le (λ us. how_many (λ ts. same (to ts) us && g us) T.all) (λ us. cond (g us) 1 0) T.all
              (all_map _ _ (λ us h. source us (g us)) T.all tapes),
          many_total g T.all,
        )
      where
        image : (ts : List ℕ) → T.is_one ts ≡ true → (b : Bool) → f ts ≡ b
            → cond b 1 0 ≤ how_many (λ us. same (to ts) us && g us) T.all
        image ts h true e =
            omega (
              arith,
              E.once (to ts) (a_tape ts h),
              many_le (λ us. same (to ts) us) (λ us. same (to ts) us && g us) T.all
                  (all_map _ _
                  (λ us k s.
                  and_intro (same (to ts) us) (g us) s (ap g (sym (same_eq (to ts) us s)) ∙ sym (agree ts h) ∙ e))
                  T.all
                  tapes),
            )
        image ts h false e = omega arith

        source : (us : List ℕ) (b : Bool) → how_many (λ ts. same (to ts) us && b) T.all ≤ cond b 1 0
        source us true =
            omega (
              arith,
              from_one us,
              many_le (λ ts. same (to ts) us && true) (λ ts. same (to ts) us) T.all
                  (all_map _ _ (λ ts h s. (and_true (same (to ts) us) true s).0) T.all tapes),
            )
        source us false =
            omega (
              arith,
              many_none T.all,
              many_le (λ ts. same (to ts) us && false) (λ ts. false) T.all
                  (all_map _ _ (λ ts h s. (and_true (same (to ts) us) false s).1) T.all tapes),
            )

    same_count :
        (f g : List ℕ → Bool) → ((ts : List ℕ) → T.is_one ts ≡ true → f ts ≡ g (to ts))
        → how_many f T.all ≡ how_many g T.all
    same_count f g agree =
        omega (
          arith,
          at_least f g agree,
          at_least (λ ts. not (f ts)) (λ ts. not (g ts)) (λ ts h. ap not (agree ts h)),
          many_not f T.all,
          many_not g T.all,
        )

    -- what keeps what is seen then tells nothing
    pub indistinct :
        (seen seen' : List ℕ → List ℕ) → ((ts : List ℕ) → T.is_one ts ≡ true → seen' (to ts) ≡ seen ts)
        → Indistinct T.is_one T.all to back seen seen'
    indistinct seen seen' same_seen =
        record {
          a_tape = a_tape;
          leads_back = leads;
          same_seen = same_seen;
          as_many = λ pattern.
              same_count _ _ (λ ts h. ap (λ (l : List ℕ). same l pattern) (sym (same_seen ts h)));
        }

-- everything among the tapes of n bits is such a tape
all_mapped :
    (P Q : List ℕ → Type 0) (h : List ℕ → List ℕ) → ((ts : List ℕ) → P ts → Q (h ts)) → (xs : List (List ℕ)) → All P xs
    → All Q (map h xs)
unfolding All
all_mapped P Q h f [] a = tt
all_mapped P Q h f (x ∷ xs) a = (f x a.0, all_mapped P Q h f xs a.1)

pub all_tapes_lem : (n : ℕ) → All (BitsOf n) (all_tapes n)
unfolding all_tapes All
all_tapes_lem zero = ((refl, refl), tt)
all_tapes_lem (suc n) =
    all_append (BitsOf (suc n)) (map (λ ts. 0 ∷ ts) (all_tapes n)) (map (λ ts. 1 ∷ ts) (all_tapes n))
    (all_mapped _ _ (λ ts. 0 ∷ ts) (λ ts b. (ap suc b.0, b.1)) (all_tapes n) (all_tapes_lem n))
    (all_mapped _ _ (λ ts. 1 ∷ ts) (λ ts b. (ap suc b.0, b.1)) (all_tapes n) (all_tapes_lem n))

-- every list of n bits stands exactly once among them
once : (n : ℕ) (ts : List ℕ) → BitsOf n ts → how_many (λ us. same ts us) (all_tapes n) ≡ 1
unfolding all_tapes how_many
once zero [] b = refl
once zero (t ∷ ts) b = absurd (omega (arith, b.0))
once (suc n) [] b = absurd (omega (arith, b.0))
once (suc n) (zero ∷ ts) b =
    many_append (λ us. same (0 ∷ ts) us) (map (λ ts. 0 ∷ ts) (all_tapes n)) (map (λ ts. 1 ∷ ts) (all_tapes n))
    ∙ omega (
      arith,
      many_map (λ us. same (0 ∷ ts) us) (λ ts. 0 ∷ ts) (all_tapes n),
      many_map (λ us. same (0 ∷ ts) us) (λ ts. 1 ∷ ts) (all_tapes n),
      many_none (all_tapes n),
      once n ts (omega (arith, b.0), b.1),
    )
once (suc n) (suc zero ∷ ts) b =
    many_append (λ us. same (1 ∷ ts) us) (map (λ ts. 0 ∷ ts) (all_tapes n)) (map (λ ts. 1 ∷ ts) (all_tapes n))
    ∙ omega (
      arith,
      many_map (λ us. same (1 ∷ ts) us) (λ ts. 0 ∷ ts) (all_tapes n),
      many_map (λ us. same (1 ∷ ts) us) (λ ts. 1 ∷ ts) (all_tapes n),
      many_none (all_tapes n),
      once n ts (omega (arith, b.0), b.1),
    )
once (suc n) (suc (suc t) ∷ ts) b = absurd (omega (arith, all_bits_lem (suc (suc t) ∷ ts) b.1 0))

pub bits_once : (n : ℕ) → EachOnce (in_bits n)
bits_once n =
    record {
      only = all_many (is_bits n) (all_tapes n) (all_map _ _ (of_bits n) (all_tapes n) (all_tapes_lem n));
      once = λ ts h. once n ts (bits_of n ts h);
    }

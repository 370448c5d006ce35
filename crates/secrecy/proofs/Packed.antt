-- Packed tapes and tapes of bits stand one to one, so that what holds of the map of bits holds of the map of packed tapes.
-- Assumes nothing.
use mathlib.Core.Path.{◌≡◌, refl, sym, ap, ◌∙◌, subst}
use mathlib.Core.Bool.{Bool, true, ◌&&◌}
use mathlib.Core.List.{List}
use Prim.Native.Nat.{ℕ, ◌<◌}
use native.Mathlib.Omega.{arith}
use borrow.Author.Tests.{eqb-true, eq-eqb}
use lib.Dec.{eqb}
use lib.ListN.{length, length-map}
use Rattle.tables.specs.Packing.{bytes_for, packed, tape_of, spare}
use Rattle.tables.proofs.Tests.{and_true, and_intro}
use Rattle.tables.proofs.Lists.{All, all_map}
use Rattle.tables.proofs.Packing.{packed_length, tape_packed, packed_tape, packed_bytes, packed_spare, tape_long_lem, tape_bits}
use Rattle.secrecy.specs.Claims.{all_below, all_tapes, same, in_bits, EachOnce, Hidden}
use Rattle.secrecy.specs.Packed.{is_packed, in_bytes, Packs}
use Rattle.secrecy.proofs.Bits.{all_bits_lem, bits_all, all_below_lem, below_all, same_both}
use Rattle.secrecy.proofs.Count.{BitsOf, of_bits, bits_of, many_map, many_same, all_many, all_tapes_lem, bits_once, indistinct}

-- what the test says
record Accepted (n : ℕ) (s : List ℕ) : Type 0 where
  long : length s ≡ bytes_for n
  bytes : All (λ v. v < 256) s
  unused : spare n s ≡ 0

is_accepted : (n : ℕ) (s : List ℕ) → is_packed n s ≡ true → Accepted n s
is_accepted n s h =
    let a = and_true (eqb (length s) (bytes_for n)) (all_below 256 s && eqb (spare n s) 0) h in
    let b = and_true (all_below 256 s) (eqb (spare n s) 0) a.1 in
    record {
      long = eqb-true (length s) (bytes_for n) a.0;
      bytes = all_below_lem 256 s b.0;
      unused = eqb-true (spare n s) 0 b.1;
    }

module _ (n : ℕ) (s : List ℕ) (h : is_packed n s ≡ true) where
  pub tape_held : BitsOf n (tape_of n s)
  tape_held =
      (tape_long_lem n s (omega (arith, (is_accepted n s h).long)), bits_all (tape_of n s) (tape_bits n s))

  pub packed_held : packed (tape_of n s) ≡ s
  packed_held = let a = is_accepted n s h in packed_tape n s a.long a.bytes a.unused

module _ (n : ℕ) (bs : List ℕ) (b : BitsOf n bs) where
  pub packed_accepted : is_packed n (packed bs) ≡ true
  packed_accepted =
      let bits = all_bits_lem bs b.1 in
      let long : length (packed bs) ≡ bytes_for n = packed_length bs ∙ ap (λ (k : ℕ). bytes_for k) b.0 in
      let unused : spare n (packed bs) ≡ 0 = subst (λ (k : ℕ). spare k (packed bs) ≡ 0) b.0 (packed_spare bs bits) in
      and_intro (eqb (length (packed bs)) (bytes_for n)) (all_below 256 (packed bs) && eqb (spare n (packed bs)) 0)
      (eq-eqb (length (packed bs)) (bytes_for n) long)
      (and_intro (all_below 256 (packed bs)) (eqb (spare n (packed bs)) 0) (below_all 256 (packed bs) (packed_bytes bs bits))
      (eq-eqb (spare n (packed bs)) 0 unused))

  pub tape_again : tape_of n (packed bs) ≡ bs
  tape_again = subst (λ (k : ℕ). tape_of k (packed bs) ≡ bs) b.0 (tape_packed bs (all_bits_lem bs b.1))

pub packs : Packs
packs =
    record {
      bytes = packed_length;
      packs = λ bs h. packed_accepted (length bs) bs (refl, h);
      unpacked = λ bs h. tape_again (length bs) bs (refl, h);
      bits = λ n s h. of_bits n (tape_of n s) (tape_held n s h);
      packed_again = packed_held;
    }

-- each packed tape stands once among them
pub bytes_once : (n : ℕ) → EachOnce (in_bytes n)
bytes_once n =
    record {
      only =
          many_map (is_packed n) packed (all_tapes n)
          ∙ all_many (λ bs. is_packed n (packed bs)) (all_tapes n) (all_map _ _ (packed_accepted n) (all_tapes n) (all_tapes_lem n))
          ∙ sym (length-map (all_tapes n) packed);
      once = λ s h.
          many_map (λ us. same s us) packed (all_tapes n)
          ∙ many_same _ (λ bs. same (tape_of n s) bs) (all_tapes n)
          (all_map _ _
          (λ bs b.
          same_both s (packed bs) (tape_of n s) bs
          (λ e. ap (tape_of n) e ∙ tape_again n bs b)
          (λ e. sym (packed_held n s h) ∙ ap packed e))
          (all_tapes n)
          (all_tapes_lem n))
          ∙ (bits_once n).once (tape_of n s) (of_bits n (tape_of n s) (tape_held n s h));
    }

-- what is hidden with tapes of bits is hidden with packed tapes
pub in_bytes_lem :
    (n : ℕ) (areSecret : List ℕ → Bool) (map : List ℕ → List ℕ → List ℕ → List ℕ) (see : List ℕ → List ℕ → List ℕ)
    → Hidden (in_bits n) areSecret map see → Hidden (in_bytes n) areSecret map see
in_bytes_lem n areSecret map see H xs ys hx hy =
    indistinct (in_bytes n) (bytes_once n) (λ s. packed (map xs ys (tape_of n s))) (λ s. packed (map ys xs (tape_of n s)))
    (λ s h. packed_accepted n _ (image s h))
    (λ s h.
    ap (λ (us : List ℕ). packed (map ys xs us)) (tape_again n _ (image s h))
    ∙ ap packed ((H xs ys hx hy).leads_back (tape_of n s) (held s h))
    ∙ packed_held n s h)
    (λ s. see xs (tape_of n s))
    (λ s. see ys (tape_of n s))
    (λ s h. ap (see ys) (tape_again n _ (image s h)) ∙ (H xs ys hx hy).same_seen (tape_of n s) (held s h))
  where
    held : (s : List ℕ) → is_packed n s ≡ true → (in_bits n).is_one (tape_of n s) ≡ true
    held s h = of_bits n (tape_of n s) (tape_held n s h)

    image : (s : List ℕ) → is_packed n s ≡ true → BitsOf n (map xs ys (tape_of n s))
    image s h = bits_of n (map xs ys (tape_of n s)) ((H xs ys hx hy).a_tape (tape_of n s) (held s h))

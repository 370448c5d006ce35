-- Packed tapes: bits to bytes and back, and a bit among the bytes.
-- Assumes nothing.
use mathlib.Core.Path.{◌≡◌, refl, sym, ap, ap₂, ◌∙◌}
use mathlib.Core.Bool.{Bool, true, false}
use mathlib.Core.List.{List, [], ◌∷◌, ◌++◌, append_assoc}
use Prim.Native.Nat.{ℕ, zero, suc, ◌+◌, ◌-◌, ◌*◌, ◌/◌, ◌%◌, ◌^◌, ◌≤◌, ◌<◌}
use native.Mathlib.Nat.{mod-lt, mul_assoc, zero-div, div-eq_of_lt}
use native.Mathlib.Omega.{arith}
use lib.ListN.{length, get_or, take, drop, set, length-append}
use lib.ListN.{length-set, length-take, length-drop, take-append-drop, get_or-append, get_or-eq_default}
use borrow.Author.Tests.{ltb-true, ltb-false, eqb-true, eqb-false}
use lib.Bits.{bit_xor, shifted_even, xor_shr, xor_mod}
use lib.Dec.{eqb, ltb}
use lib.Pow.{pow_pos, pow_mono, pow-add, shl_lt, shl-shr, shr-shr, split}
use lib.Seq.{length-take-le, take_all, take_at, drop_at, take-append-le, take-append-add, get_or-append-add, get_or-set_same, get_or-set_other}
use lib.Seq.{drop-append-le, drop-drop, drop-nil, get_or-drop, ext_get_or}
use Rattle.tables.specs.Runs.{xor}
use Rattle.tables.specs.Inside.{Bits}
use Rattle.tables.specs.Says.{over}
use Rattle.tables.specs.Packing.{bytes_for, number_of, digits_of, pack_from, packed, unpacked, tape_of, spare}
use Rattle.tables.proofs.Lists.{All, bits_take, bits_drop}
use Rattle.tables.proofs.Run.{bit_xor_lem}

two_pow : (k : ℕ) → 2 ^ suc k ≡ 2 * 2 ^ k
two_pow k = omega arith

pub number_lt : (bs : List ℕ) → Bits bs → number_of bs < 2 ^ length bs
unfolding number_of
number_lt [] h = omega arith
number_lt (b ∷ bs) h =
    rw (two_pow (length bs)) (omega (arith, h 0, number_lt bs (λ i. h (suc i))))

pub digits_length : (k v : ℕ) → length (digits_of k v) ≡ k
unfolding digits_of
digits_length zero v = refl
digits_length (suc k) v = ap suc (digits_length k (v / 2))

-- the bits of the number that bits are
digits_number : (bs : List ℕ) → Bits bs → digits_of (length bs) (number_of bs) ≡ bs
unfolding digits_of number_of
digits_number [] h = refl
digits_number (b ∷ bs) h =
    let low : (b + 2 * number_of bs) % 2 ≡ b = omega (arith, h 0) in
    let rest : (b + 2 * number_of bs) / 2 ≡ number_of bs = omega (arith, h 0) in
    rw (low, rest) (ap (λ (l : List ℕ). b ∷ l) (digits_number bs (λ i. h (suc i))))

-- the number that a number's bits are
number_digits : (k v : ℕ) → v < 2 ^ k → number_of (digits_of k v) ≡ v
unfolding digits_of number_of
number_digits zero v h = omega arith
number_digits (suc k) v h =
    let half : v / 2 < 2 ^ k = omega (arith, rw (two_pow k) at h) in
    rw (number_digits k (v / 2) half) (omega arith)

digits_take : (k n v : ℕ) → k ≤ n → take k (digits_of n v) ≡ digits_of k v
unfolding digits_of
digits_take zero n v h = refl
digits_take (suc k) zero v h = absurd (omega arith)
digits_take (suc k) (suc n) v h = ap (λ (l : List ℕ). v % 2 ∷ l) (digits_take k n (v / 2) (omega arith))

digits_get_or : (k v i : ℕ) → i < k → get_or (digits_of k v) i 0 ≡ v / 2 ^ i % 2
unfolding digits_of
digits_get_or zero v i h = absurd (omega arith)
digits_get_or (suc k) v zero h = omega arith
digits_get_or (suc k) v (suc i) h =
    digits_get_or k (v / 2) i (omega arith)
    ∙ ap (λ (x : ℕ). x % 2) (shr-shr v 1 i ∙ ap (λ (x : ℕ). v / 2 ^ x) {x = 1 + i} {y = suc i} (omega arith))

pub unpacked_length : (s : List ℕ) → length (unpacked s) ≡ 8 * length s
unfolding unpacked
unpacked_length [] = refl
unpacked_length (v ∷ s) =
    omega (arith, length-append (digits_of 8 v) (unpacked s), digits_length 8 v, unpacked_length s)

-- as many bits, as many bytes
pub bytes_long : (s r : List ℕ) → length (unpacked s) ≡ length (unpacked r) → length s ≡ length r
bytes_long s r e = omega (arith, unpacked_length s, unpacked_length r)

pub unpacked_append : (s r : List ℕ) → unpacked (s ++ r) ≡ unpacked s ++ unpacked r
unfolding unpacked
unpacked_append [] r = refl
unpacked_append (v ∷ s) r =
    ap (λ (l : List ℕ). digits_of 8 v ++ l) (unpacked_append s r) ∙ sym (append_assoc (digits_of 8 v) (unpacked s) (unpacked r))

-- bit i is in byte i / 8
abbrev bit_in : List ℕ → ℕ → ℕ
bit_in s i = get_or s (i / 8) 0 / 2 ^ (i % 8) % 2

bit_step :
    (v : ℕ) (s : List ℕ) (i : ℕ) (t : Bool) → ltb i 8 ≡ t → ((j : ℕ) → get_or (unpacked s) j 0 ≡ bit_in s j)
    → get_or (digits_of 8 v ++ unpacked s) i 0 ≡ bit_in (v ∷ s) i
bit_step v s i true h rest =
    let low = ltb-true i 8 h in
    let byte : i / 8 ≡ 0 = omega arith in
    let same : i % 8 ≡ i = omega arith in
    rw (byte, same)
    (get_or-append (digits_of 8 v) (unpacked s) 0 i (omega (arith, digits_length 8 v)) ∙ digits_get_or 8 v i low)
bit_step v s i false h rest =
    let far = ltb-false i 8 h in
    let j = i - 8 in
    let at : i ≡ length (digits_of 8 v) + j = omega (arith, digits_length 8 v) in
    let byte : i / 8 ≡ suc (j / 8) = omega arith in
    let same : i % 8 ≡ j % 8 = omega arith in
    ap (λ (x : ℕ). get_or (digits_of 8 v ++ unpacked s) x 0) at
    ∙ get_or-append-add (digits_of 8 v) (unpacked s) j 0
    ∙ rest j
    ∙ ap₂ (λ (x y : ℕ). get_or (v ∷ s) x 0 / 2 ^ y % 2) (sym byte) (sym same)

pub bit_at : (s : List ℕ) (i : ℕ) → get_or (unpacked s) i 0 ≡ get_or s (i / 8) 0 / 2 ^ (i % 8) % 2
unfolding unpacked
bit_at [] i = sym (ap (λ (x : ℕ). x % 2) (zero-div (2 ^ (i % 8))))
bit_at (v ∷ s) i = bit_step v s i (ltb i 8) refl (bit_at s)

pub unpacked_bits : (s : List ℕ) → Bits (unpacked s)
unpacked_bits s i = rw (bit_at s i) (omega arith)

pub tape_long_lem : (n : ℕ) (s : List ℕ) → n ≤ 8 * length s → length (tape_of n s) ≡ n
unfolding tape_of
tape_long_lem n s h = length-take-le n (unpacked s) (omega (arith, unpacked_length s))

pub tape_bits : (n : ℕ) (s : List ℕ) → Bits (tape_of n s)
unfolding tape_of
tape_bits n s = bits_take n (unpacked s) (unpacked_bits s)

from_length : (k : ℕ) (bs : List ℕ) → length (pack_from k bs) ≡ k
unfolding pack_from
from_length zero bs = refl
from_length (suc k) bs = ap suc (from_length k (drop 8 bs))

-- "the number of bytes is the bits' number rounded up"
pub packed_length : (bs : List ℕ) → length (packed bs) ≡ bytes_for (length bs)
unfolding packed
packed_length bs = from_length (bytes_for (length bs)) bs

-- the bits of a byte of at most eight bits
byte_bits : (bs : List ℕ) → Bits bs → length bs ≤ 8 → take (length bs) (digits_of 8 (number_of bs)) ≡ bs
byte_bits bs h l = digits_take (length bs) 8 (number_of bs) l ∙ digits_number bs h

-- unpacking k bytes of bits
from_step :
    (k : ℕ) (bs : List ℕ) (t : Bool) → ltb 8 (length bs) ≡ t → Bits bs
    → (length (drop 8 bs) ≤ 8 * k → take (length (drop 8 bs)) (unpacked (pack_from k (drop 8 bs))) ≡ drop 8 bs)
    → length bs ≤ 8 * suc k
    → take (length bs) (digits_of 8 (number_of (take 8 bs)) ++ unpacked (pack_from k (drop 8 bs))) ≡ bs
from_step k bs true e h rest l =
    let many = ltb-true 8 (length bs) e in
    let front : length (take 8 bs) ≡ 8 = length-take-le 8 bs (omega arith) in
    let size : length bs ≡ length (digits_of 8 (number_of (take 8 bs))) + length (drop 8 bs) =
    omega (arith, digits_length 8 (number_of (take 8 bs)), length-drop 8 bs) in
    let byte : digits_of 8 (number_of (take 8 bs)) ≡ take 8 bs =
    ap (λ (x : ℕ). digits_of x (number_of (take 8 bs))) (sym front) ∙ digits_number (take 8 bs) (bits_take 8 bs h) in
    ap (λ (x : ℕ). take x (digits_of 8 (number_of (take 8 bs)) ++ unpacked (pack_from k (drop 8 bs)))) size
    ∙ take-append-add (digits_of 8 (number_of (take 8 bs))) (unpacked (pack_from k (drop 8 bs))) (length (drop 8 bs))
    ∙ ap₂ (λ (x y : List ℕ). x ++ y) byte (rest (omega (arith, length-drop 8 bs)))
    ∙ take-append-drop 8 bs
from_step k bs false e h rest l =
    let few = ltb-false 8 (length bs) e in
    let whole : take 8 bs ≡ bs = take_all 8 bs few in
    take-append-le (length bs) (digits_of 8 (number_of (take 8 bs))) _ (omega (arith, digits_length 8 (number_of (take 8 bs))))
    ∙ rw whole (byte_bits bs h few)

from_bits : (k : ℕ) (bs : List ℕ) → Bits bs → length bs ≤ 8 * k → take (length bs) (unpacked (pack_from k bs)) ≡ bs
unfolding pack_from unpacked
from_bits zero [] h l = refl
from_bits zero (b ∷ bs) h l = absurd (omega arith)
from_bits (suc k) bs h l = from_step k bs (ltb 8 (length bs)) refl h (from_bits k (drop 8 bs) (bits_drop 8 bs h)) l

-- "unpacking what is packed gives the bits"
pub tape_packed : (bs : List ℕ) → Bits bs → tape_of (length bs) (packed bs) ≡ bs
unfolding tape_of packed
tape_packed bs h = from_bits (bytes_for (length bs)) bs h (omega arith)

-- a byte whose high bits are 0
low_byte : (v n : ℕ) → v / 2 ^ n ≡ 0 → v < 2 ^ n
low_byte v n e =
    let whole : v / 2 ^ n * 2 ^ n + v % 2 ^ n ≡ v = split v n in
    omega (arith, mod-lt v (pow_pos n), rw e at whole)

-- packing the bits of bytes
pack_step :
    (n v : ℕ) (s : List ℕ) (t : Bool) → ltb n 8 ≡ t → suc (length s) ≡ bytes_for n → v < 256
    → spare n (v ∷ s) ≡ 0
    → ((m : ℕ) → length s ≡ bytes_for m → spare m s ≡ 0 → pack_from (length s) (take m (unpacked s)) ≡ s)
    → pack_from (suc (length s)) (take n (digits_of 8 v ++ unpacked s)) ≡ v ∷ s
unfolding pack_from spare
pack_step n v s true e long h none rest =
    let few = ltb-true n 8 e in
    let last : length s ≡ 0 = omega arith in
    let byte : n / 8 ≡ 0 = omega arith in
    let same : n % 8 ≡ n = omega arith in
    let low : v < 2 ^ n = low_byte v n (rw (byte, same) at none) in
    let bits : take n (digits_of 8 v ++ unpacked s) ≡ digits_of n v =
    take-append-le n (digits_of 8 v) (unpacked s) (omega (arith, digits_length 8 v)) ∙ digits_take n 8 v (omega arith) in
    let whole : take 8 (digits_of n v) ≡ digits_of n v = take_all 8 (digits_of n v) (omega (arith, digits_length n v)) in
    rw (bits, whole, number_digits n v low) (ap (λ (l : List ℕ). v ∷ l) (pack_none s (drop 8 (digits_of n v)) last))
  where
    pack_none : (s bs : List ℕ) → length s ≡ 0 → pack_from (length s) bs ≡ s
    pack_none [] bs l = refl
    pack_none (w ∷ s) bs l = absurd (omega arith)
pack_step n v s false e long h none rest =
    let many = ltb-false n 8 e in
    let m = n - 8 in
    let byte : n / 8 ≡ suc (m / 8) = omega arith in
    let same : n % 8 ≡ m % 8 = omega arith in
    let ds = digits_of 8 v in
    let size : n ≡ length ds + m = omega (arith, digits_length 8 v) in
    let bits : take n (ds ++ unpacked s) ≡ ds ++ take m (unpacked s) =
    ap (λ (x : ℕ). take x (ds ++ unpacked s)) size ∙ take-append-add ds (unpacked s) m in
    let front : take 8 (ds ++ take m (unpacked s)) ≡ ds = take_at ds (take m (unpacked s)) 8 (digits_length 8 v) in
    let back : drop 8 (ds ++ take m (unpacked s)) ≡ take m (unpacked s) = drop_at ds (take m (unpacked s)) 8 (digits_length 8 v) in
    let left : spare m s ≡ 0 = rw (byte, same) at none in
    rw (bits, front, back, number_digits 8 v h) (ap (λ (l : List ℕ). v ∷ l) (rest m (omega arith) left))

pack_bits :
    (n : ℕ) (s : List ℕ) → length s ≡ bytes_for n → All (λ v. v < 256) s → spare n s ≡ 0
    → pack_from (length s) (take n (unpacked s)) ≡ s
unfolding All pack_from unpacked
pack_bits n [] long h none = refl
pack_bits n (v ∷ s) long h none =
    pack_step n v s (ltb n 8) refl long h.0 none (λ m. λ l. λ e. pack_bits m s l h.1 e)

-- "packing what is unpacked gives the bytes"
pub packed_tape :
    (n : ℕ) (s : List ℕ) → length s ≡ bytes_for n → All (λ v. v < 256) s → spare n s ≡ 0 → packed (tape_of n s) ≡ s
unfolding packed tape_of
packed_tape n s long h none =
    let size : bytes_for (length (take n (unpacked s))) ≡ length s =
    omega (arith, length-take-le n (unpacked s) (omega (arith, unpacked_length s))) in
    rw size (pack_bits n s long h none)

from_bytes : (k : ℕ) (bs : List ℕ) → Bits bs → All (λ v. v < 256) (pack_from k bs)
unfolding All pack_from
from_bytes zero bs h = tt
from_bytes (suc k) bs h =
    let few : length (take 8 bs) ≤ 8 = omega (arith, length-take 8 bs) in
    let low = number_lt (take 8 bs) (bits_take 8 bs h) in
    (omega (arith, low, pow_mono {i = length (take 8 bs)} {j = 8} few), from_bytes k (drop 8 bs) (bits_drop 8 bs h))

pub packed_bytes : (bs : List ℕ) → Bits bs → All (λ v. v < 256) (packed bs)
unfolding packed
packed_bytes bs h = from_bytes (bytes_for (length bs)) bs h

from_get_or : (k : ℕ) (bs : List ℕ) (j : ℕ) → length bs ≤ 8 * k → get_or (pack_from k bs) j 0 ≡ number_of (take 8 (drop (8 * j) bs))
unfolding pack_from number_of
from_get_or zero [] j h = rw drop-nil refl
from_get_or zero (b ∷ bs) j h = absurd (omega arith)
from_get_or (suc k) bs zero h = refl
from_get_or (suc k) bs (suc j) h =
    from_get_or k (drop 8 bs) j (omega (arith, length-drop 8 bs))
    ∙ ap (λ (l : List ℕ). number_of (take 8 l)) (drop-drop (8 * j) 8 bs ∙ ap (λ (x : ℕ). drop x bs) {x = 8 + 8 * j} {y = 8 * suc j} (omega arith))

-- the unused bits of what is packed are 0
pub packed_spare : (bs : List ℕ) → Bits bs → spare (length bs) (packed bs) ≡ 0
unfolding spare packed
packed_spare bs h =
    let n = length bs in
    let last = take 8 (drop (8 * (n / 8)) bs) in
    let long : length last ≡ n % 8 = omega (arith, length-take 8 (drop (8 * (n / 8)) bs), length-drop (8 * (n / 8)) bs) in
    let low : number_of last < 2 ^ (n % 8) = rw (← long) (number_lt last (bits_take 8 (drop (8 * (n / 8)) bs) (bits_drop (8 * (n / 8)) bs h))) in
    rw (from_get_or (bytes_for n) bs (n / 8) (omega arith)) (div-eq_of_lt low)

-- nothing stands above the last bit of what is packed
pub padding : (bs : List ℕ) → Bits bs → (i : ℕ) → length bs ≤ i → get_or (unpacked (packed bs)) i 0 ≡ 0
unfolding packed
padding bs h i l =
    let j = i / 8 in
    let last = take 8 (drop (8 * j) bs) in
    let few : length last ≤ i % 8 = omega (arith, length-take 8 (drop (8 * j) bs), length-drop (8 * j) bs) in
    let low : number_of last < 2 ^ length last = number_lt last (bits_take 8 (drop (8 * j) bs) (bits_drop (8 * j) bs h)) in
    let none : number_of last / 2 ^ (i % 8) ≡ 0 = div-eq_of_lt (omega (arith, low, pow_mono {i = length last} {j = i % 8} few)) in
    bit_at (pack_from (bytes_for (length bs)) bs) i
    ∙ rw (from_get_or (bytes_for (length bs)) bs j (omega arith), none)

-- nor above bits that fill their bytes
pub spare_past : (n : ℕ) (s : List ℕ) → length s ≤ n / 8 → spare n s ≡ 0
unfolding spare
spare_past n s h =
    ap (λ (v : ℕ). v / 2 ^ (n % 8)) (get_or-eq_default s 0 {n = n / 8} h) ∙ zero-div (2 ^ (n % 8))

-- bytes are known by their bits
packed_all : (s : List ℕ) → All (λ v. v < 256) s → packed (unpacked s) ≡ s
unfolding tape_of
packed_all s h =
    let n = 8 * length s in
    let all : take n (unpacked s) ≡ unpacked s = take_all n (unpacked s) (omega (arith, unpacked_length s)) in
    sym (ap packed all) ∙ packed_tape n s (omega arith) h (spare_past n s (omega arith))

pub bytes_same :
    (s r : List ℕ) → All (λ v. v < 256) s → All (λ v. v < 256) r → unpacked s ≡ unpacked r → s ≡ r
bytes_same s r h l e = sym (packed_all s h) ∙ ap packed e ∙ packed_all r l

-- bit j of an XOR
xor_at : (v w j : ℕ) → bit_xor v w / 2 ^ j % 2 ≡ xor (v / 2 ^ j % 2) (w / 2 ^ j % 2)
xor_at v w j =
    ap (λ (x : ℕ). x % 2) (xor_shr v w j)
    ∙ xor_mod (v / 2 ^ j) (w / 2 ^ j) 1
    ∙ bit_xor_lem (v / 2 ^ j % 2) (w / 2 ^ j % 2) (omega arith) (omega arith)

-- bit j of a bit at place k
shifted_off : (f j k : ℕ) → f ≤ 1 → (j ≡ k → ⊥) → f * 2 ^ k / 2 ^ j % 2 ≡ 0
shifted_off f j k h n = go (ltb j k) refl
  where
    go : (t : Bool) → ltb j k ≡ t → f * 2 ^ k / 2 ^ j % 2 ≡ 0
    go true e =
        let less = ltb-true j k e in
        let m = k - suc j in
        let split_up : f * 2 ^ k ≡ f * 2 ^ suc m * 2 ^ j =
        ap (λ (x : ℕ). f * 2 ^ x) {x = k} {y = suc m + j} (omega arith)
        ∙ ap (λ (x : ℕ). f * x) (pow-add 2 (suc m) j)
        ∙ sym (mul_assoc f (2 ^ suc m) (2 ^ j)) in
        ap (λ (x : ℕ). x / 2 ^ j % 2) split_up
        ∙ ap (λ (x : ℕ). x % 2) (shl-shr (f * 2 ^ suc m) j)
        ∙ shifted_even f m
    go false e =
        let more = ltb-false j k e in
        let small : f * 2 ^ k < 2 ^ (1 + k) = shl_lt 1 k (omega arith) in
        let none : f * 2 ^ k / 2 ^ j ≡ 0 =
        div-eq_of_lt (omega (arith, small, pow_mono {i = 1 + k} {j = j} (omega (arith, n)))) in
        rw none

-- a byte in which a bit is flipped where f is 1, at that bit, at another, and another byte
module _ (s : List ℕ) (i f : ℕ) (there : i / 8 < length s) (l : f ≤ 1) where
  abbrev byte : ℕ
  byte = bit_xor (get_or s (i / 8) 0) (f * 2 ^ (i % 8))

  abbrev after : List ℕ
  after = set s (i / 8) byte

  flips_here : get_or (unpacked after) i 0 ≡ xor (get_or (unpacked s) i 0) f
  flips_here =
      let bit : f * 2 ^ (i % 8) / 2 ^ (i % 8) % 2 ≡ f = ap (λ (x : ℕ). x % 2) (shl-shr f (i % 8)) ∙ omega arith in
      bit_at after i
      ∙ rw (get_or-set_same s (i / 8) byte 0 there, xor_at (get_or s (i / 8) 0) (f * 2 ^ (i % 8)) (i % 8), bit)
      (ap (λ (x : ℕ). xor x f) (sym (bit_at s i)))

  keeps_other : (j : ℕ) → (j ≡ i → ⊥) → get_or (unpacked after) j 0 ≡ get_or (unpacked s) j 0
  keeps_other j n = bit_at after j ∙ go (eqb (j / 8) (i / 8)) refl ∙ sym (bit_at s j)
    where
      go : (t : Bool) → eqb (j / 8) (i / 8) ≡ t → bit_in after j ≡ bit_in s j
      go true e =
          let same = eqb-true (j / 8) (i / 8) e in
          let off : j % 8 ≡ i % 8 → ⊥ = λ q. n (omega arith) in
          rw (same, get_or-set_same s (i / 8) byte 0 there, xor_at (get_or s (i / 8) 0) (f * 2 ^ (i % 8)) (j % 8))
          (ap (λ (x : ℕ). xor (get_or s (i / 8) 0 / 2 ^ (j % 8) % 2) x) (shifted_off f (j % 8) (i % 8) l off) ∙ omega arith)
      go false e = ap (λ (x : ℕ). x / 2 ^ (j % 8) % 2) (get_or-set_other s (i / 8) (j / 8) byte 0 (eqb-false (j / 8) (i / 8) e))

  flips_each :
      (j : ℕ) (t : Bool) → eqb j i ≡ t → i < length (unpacked s)
      → get_or (unpacked after) j 0 ≡ get_or (set (unpacked s) i (xor (get_or (unpacked s) i 0) f)) j 0
  flips_each j true e h =
      let same = eqb-true j i e in
      rw same (flips_here ∙ sym (get_or-set_same (unpacked s) i (xor (get_or (unpacked s) i 0) f) 0 h))
  flips_each j false e h =
      let n = eqb-false j i e in
      keeps_other j n ∙ sym (get_or-set_other (unpacked s) i j (xor (get_or (unpacked s) i 0) f) 0 n)

-- a bit of packed bytes that is flipped where f is 1
pub bit_flipped :
    (s : List ℕ) (i f : ℕ) → i < length (unpacked s) → f ≤ 1
    → unpacked (set s (i / 8) (bit_xor (get_or s (i / 8) 0) (f * 2 ^ (i % 8))))
    ≡ set (unpacked s) i (xor (get_or (unpacked s) i 0) f)
bit_flipped s i f h l =
    let there : i / 8 < length s = omega (arith, unpacked_length s) in
    let v = bit_xor (get_or s (i / 8) 0) (f * 2 ^ (i % 8)) in
    let long : length (unpacked (set s (i / 8) v)) ≡ length (set (unpacked s) i (xor (get_or (unpacked s) i 0) f)) =
    unpacked_length (set s (i / 8) v)
    ∙ ap (λ (n : ℕ). 8 * n) (length-set s (i / 8) v)
    ∙ sym (length-set (unpacked s) i (xor (get_or (unpacked s) i 0) f) ∙ unpacked_length s) in
    ext_get_or 0 _ _ long (λ j _. flips_each s i f there l j (eqb j i) refl h)

-- other bits packed over the same bytes are other bits over the same bits
pub packed_over :
    (xs ys b : List ℕ) → Bits xs → Bits ys → length ys ≡ length xs
    → unpacked (over (packed ys) b) ≡ over ys (unpacked (over (packed xs) b))
unfolding tape_of
packed_over xs ys b hx hy e =
    let n = length ys in
    let us = unpacked (packed xs) in
    let vs = unpacked (packed ys) in
    let rest = drop (length (packed xs)) b in
    let same : length (packed ys) ≡ length (packed xs) =
    packed_length ys ∙ ap (λ (k : ℕ). bytes_for k) e ∙ sym (packed_length xs) in
    let long : length vs ≡ length us =
    unpacked_length (packed ys) ∙ ap (λ (k : ℕ). 8 * k) same ∙ sym (unpacked_length (packed xs)) in
    let fits : n ≤ length us = omega (arith, unpacked_length (packed xs), packed_length xs) in
    let zero_at : (zs : List ℕ) → Bits zs → length zs ≡ n → (j : ℕ) → get_or (drop n (unpacked (packed zs))) j 0 ≡ 0 =
    λ zs h l j. get_or-drop n (unpacked (packed zs)) j 0 ∙ padding zs h (n + j) (omega arith) in
    let pads : drop n vs ≡ drop n us =
    ext_get_or 0 _ _ (length-drop n vs ∙ ap (λ (k : ℕ). k - n) long ∙ sym (length-drop n us))
    (λ j _. zero_at ys hy refl j ∙ sym (zero_at xs hx (sym e) j)) in
    let front : vs ≡ ys ++ drop n us =
    sym (take-append-drop n vs) ∙ ap₂ (λ (x y : List ℕ). x ++ y) (tape_packed ys hy) pads in
    ap (λ (k : ℕ). unpacked (packed ys ++ drop k b)) same
    ∙ unpacked_append (packed ys) rest
    ∙ ap (λ (l : List ℕ). l ++ unpacked rest) front
    ∙ append_assoc ys (drop n us) (unpacked rest)
    ∙ ap (λ (l : List ℕ). ys ++ l)
    (sym (ap (drop n) (unpacked_append (packed xs) rest) ∙ drop-append-le n us (unpacked rest) fits))

-- bytes by their values
pub bytes_all : (s : List ℕ) → ((i : ℕ) → get_or s i 0 < 256) → All (λ v. v < 256) s
unfolding All
bytes_all [] h = tt
bytes_all (v ∷ s) h = (h 0, bytes_all s (λ i. h (suc i)))

-- The tape bits of the inputs under the map: flipping is undone by flipping again, and as an input's flips add up to what its
-- secrets differ by, the encodings of both secrets agree off the free share.
-- Assumes nothing.
use mathlib.Core.Path.{◌≡◌, refl, sym, ap, ap₂, ◌∙◌}
use mathlib.Core.Bool.{Bool, true, false, cond}
use mathlib.Core.List.{List, [], ◌∷◌, ◌++◌}
use Prim.Native.Nat.{ℕ, zero, suc, ◌+◌, ◌*◌, ◌%◌, ◌≤◌, ◌<◌}
use native.Mathlib.Nat.{mul-zero}
use native.Mathlib.Omega.{arith}
use lib.Dec.{eqb, ltb}
use lib.ListN.{length, get_or, take, drop, length-append, length-drop, get_or-append}
use lib.Seq.{length-take-le, get_or_at, take_at, drop_at, drop-append-add}
use borrow.Author.Tests.{ltb-true, ltb-false, eqb-true, eqb-false, eq-eqb, ne_eqb}
use Rattle.tables.specs.Runs.{xor}
use Rattle.tables.specs.Inside.{Bits}
use Rattle.tables.proofs.Lists.{bits_cons, bits_take, bits_drop}
use Rattle.construction.specs.Shares.{shares_of, up_from}
use Rattle.construction.specs.Codes.{xor_all, encode}
use Rattle.construction.proofs.Sum.{sum_of, up_length, up_at, up_append}
use Rattle.construction.proofs.Codes.{xor_all_lem, group, group_length, encode_cons, bits_of, bits_long, encode_get}
use Rattle.secrecy.specs.Maps.{flipped, each_flip, input_flips}

pub flipped_length : (ts fs : List ℕ) → length (flipped ts fs) ≡ length ts
unfolding flipped
flipped_length [] fs = refl
flipped_length (t ∷ ts) [] = refl
flipped_length (t ∷ ts) (f ∷ fs) = ap suc (flipped_length ts fs)

pub flipped_bits : (ts fs : List ℕ) → Bits ts → Bits (flipped ts fs)
unfolding flipped
flipped_bits [] fs h = h
flipped_bits (t ∷ ts) [] h = h
flipped_bits (t ∷ ts) (f ∷ fs) h = bits_cons (xor t f) (flipped ts fs) (omega arith) (flipped_bits ts fs (λ i. h (suc i)))

pub flipped_append :
    (ts us fs gs : List ℕ) → length ts ≡ length fs → flipped (ts ++ us) (fs ++ gs) ≡ flipped ts fs ++ flipped us gs
unfolding flipped
flipped_append [] us [] gs e = refl
flipped_append [] us (f ∷ fs) gs e = absurd (omega arith)
flipped_append (t ∷ ts) us [] gs e = absurd (omega arith)
flipped_append (t ∷ ts) us (f ∷ fs) gs e = ap (λ (l : List ℕ). xor t f ∷ l) (flipped_append ts us fs gs (omega arith))

pub flipped_nil : (ts : List ℕ) → flipped ts [] ≡ ts
unfolding flipped
flipped_nil [] = refl
flipped_nil (t ∷ ts) = refl

pub flipped_take : (n : ℕ) (ts fs : List ℕ) → take n (flipped ts fs) ≡ flipped (take n ts) (take n fs)
unfolding flipped
flipped_take zero ts fs = refl
flipped_take (suc n) [] fs = refl
flipped_take (suc n) (t ∷ ts) [] = refl
flipped_take (suc n) (t ∷ ts) (f ∷ fs) = ap (λ (l : List ℕ). xor t f ∷ l) (flipped_take n ts fs)

pub flipped_drop : (n : ℕ) (ts fs : List ℕ) → drop n (flipped ts fs) ≡ flipped (drop n ts) (drop n fs)
unfolding flipped
flipped_drop zero ts fs = refl
flipped_drop (suc n) [] fs = refl
flipped_drop (suc n) (t ∷ ts) [] = sym (flipped_nil (drop n ts))
flipped_drop (suc n) (t ∷ ts) (f ∷ fs) = flipped_drop n ts fs

pub flipped_at :
    (ts fs : List ℕ) (i : ℕ) → i < length ts → i < length fs
    → get_or (flipped ts fs) i 0 ≡ xor (get_or ts i 0) (get_or fs i 0)
unfolding flipped
flipped_at [] fs i h k = absurd (omega arith)
flipped_at (t ∷ ts) [] i h k = absurd (omega arith)
flipped_at (t ∷ ts) (f ∷ fs) zero h k = refl
flipped_at (t ∷ ts) (f ∷ fs) (suc i) h k = flipped_at ts fs i (omega arith) (omega arith)

pub flipped_twice : (ts fs : List ℕ) → Bits ts → flipped (flipped ts fs) fs ≡ ts
unfolding flipped
flipped_twice [] fs h = refl
flipped_twice (t ∷ ts) [] h = refl
flipped_twice (t ∷ ts) (f ∷ fs) h =
    let bit = h 0 in
    let back : xor (xor t f) f ≡ t = omega arith in
    rw (back, flipped_twice ts fs (λ i. h (suc i)))

-- where two tapes differ, the one is flipped into the other
pub flipped_between : (ts us : List ℕ) → Bits us → length us ≡ length ts → flipped ts (flipped ts us) ≡ us
unfolding flipped
flipped_between [] [] h e = refl
flipped_between [] (u ∷ us) h e = absurd (omega arith)
flipped_between (t ∷ ts) [] h e = absurd (omega arith)
flipped_between (t ∷ ts) (u ∷ us) h e =
    let bit = h 0 in
    let back : xor t (xor t u) ≡ u = omega arith in
    rw (back, flipped_between ts us (λ i. h (suc i)) (omega arith))

pub flipped_none : (ts fs : List ℕ) → Bits ts → ((i : ℕ) → get_or fs i 0 ≡ 0) → flipped ts fs ≡ ts
unfolding flipped
flipped_none [] fs h none = refl
flipped_none (t ∷ ts) [] h none = refl
flipped_none (t ∷ ts) (f ∷ fs) h none =
    let same : xor t f ≡ t = omega (arith, h 0, none 0) in
    rw (same, flipped_none ts fs (λ i. h (suc i)) (λ i. none (suc i)))

-- flips are added, modulo 2
flipped_adds :
    (ts fs : List ℕ) → length ts ≡ length fs
    → sum_of (λ b. b) (flipped ts fs) % 2 ≡ (sum_of (λ b. b) ts + sum_of (λ b. b) fs) % 2
unfolding flipped sum_of
flipped_adds [] [] e = refl
flipped_adds [] (f ∷ fs) e = absurd (omega arith)
flipped_adds (t ∷ ts) [] e = absurd (omega arith)
flipped_adds (t ∷ ts) (f ∷ fs) e = omega (arith, flipped_adds ts fs (omega arith))

-- d at number k, and 0 elsewhere
abbrev pub only_at : ℕ → ℕ → ℕ → ℕ
only_at k d s = cond (eqb s k) d 0

pub only_not : (k d s : ℕ) → (s ≡ k → ⊥) → only_at k d s ≡ 0
only_not k d s n = rw (ne_eqb s k n)

only_none : (k s : ℕ) → only_at k 0 s ≡ 0
only_none k s = go (eqb s k)
  where
    go : (t : Bool) → ◌≡◌ {A = ℕ} (cond t 0 0) 0
    go true = refl
    go false = refl

-- from number s on they add up to nothing where k is past, and to d where k is still to come
only_past : (c s k d : ℕ) → k < s → sum_of (λ b. b) (up_from c s (only_at k d)) ≡ 0
unfolding up_from sum_of
only_past zero s k d h = refl
only_past (suc c) s k d h =
    omega (arith, only_not k d s (λ e. omega arith), only_past c (suc s) k d (omega arith))

only_adds : (c s k d : ℕ) → s ≤ k → k < s + c → sum_of (λ b. b) (up_from c s (only_at k d)) ≡ d
unfolding up_from sum_of
only_adds zero s k d h l = absurd (omega arith)
only_adds (suc c) s k d h l = go (eqb s k) refl (only_adds c (suc s) k d)
  where
    go :
        (t : Bool) → eqb s k ≡ t
        → (suc s ≤ k → k < suc s + c → sum_of (λ b. b) (up_from c (suc s) (only_at k d)) ≡ d)
        → cond t d 0 + sum_of (λ b. b) (up_from c (suc s) (only_at k d)) ≡ d
    go true e f =
        let here = eqb-true s k e in
        omega (arith, only_past c (suc s) k d (omega arith))
    go false e f =
        let other = eqb-false s k e in
        omega (arith, f (omega arith) (omega arith))

-- they are none where k is past, and where it is not reached
pub only_after : (c s k d : ℕ) → k < s → (i : ℕ) → get_or (up_from c s (only_at k d)) i 0 ≡ 0
unfolding up_from
only_after zero s k d h i = refl
only_after (suc c) s k d h zero = only_not k d s (λ e. omega arith)
only_after (suc c) s k d h (suc i) = only_after c (suc s) k d (omega arith) i

pub only_before : (c s k d : ℕ) → s + c ≤ k → (i : ℕ) → get_or (up_from c s (only_at k d)) i 0 ≡ 0
unfolding up_from
only_before zero s k d h i = refl
only_before (suc c) s k d h zero = only_not k d s (λ e. omega arith)
only_before (suc c) s k d h (suc i) = only_before c (suc s) k d (omega arith) i

only_zero : (c s k i : ℕ) → get_or (up_from c s (only_at k 0)) i 0 ≡ 0
unfolding up_from
only_zero zero s k i = refl
only_zero (suc c) s k zero = only_none k s
only_zero (suc c) s k (suc i) = only_zero c (suc s) k i

-- nothing flipped by either part
pub zero_append :
    (xs ys : List ℕ) → ((i : ℕ) → get_or xs i 0 ≡ 0) → ((i : ℕ) → get_or ys i 0 ≡ 0) → (i : ℕ) → get_or (xs ++ ys) i 0 ≡ 0
zero_append [] ys hx hy i = hy i
zero_append (x ∷ xs) ys hx hy zero = hx 0
zero_append (x ∷ xs) ys hx hy (suc i) = zero_append xs ys (λ j. hx (suc j)) hy i

-- what one input flips
abbrev pub flips_of : ℕ → ℕ → ℕ → ℕ → List ℕ
flips_of o k x y = up_from (2 * o) 1 (λ s. cond (eqb s k) (xor x y) 0)

pub flips_long : (o k x y : ℕ) → length (flips_of o k x y) ≡ 2 * o
flips_long o k x y = up_length (2 * o) 1 (only_at k (xor x y))

pub input_flips_length :
    (o k : ℕ) (xs ys : List ℕ) → length xs ≡ length ys → length (input_flips o k xs ys) ≡ 2 * o * length xs
unfolding each_flip
input_flips_length o k [] ys e = omega arith
input_flips_length o k (x ∷ xs) [] e = absurd (omega arith)
input_flips_length o k (x ∷ xs) (y ∷ ys) e =
    omega (
      arith,
      length-append (flips_of o k x y) (input_flips o k xs ys),
      flips_long o k x y,
      input_flips_length o k xs ys (omega arith),
    )

pub input_flips_sym :
    (o k : ℕ) (xs ys : List ℕ) → length xs ≡ length ys → input_flips o k xs ys ≡ input_flips o k ys xs
unfolding each_flip
input_flips_sym o k [] [] e = refl
input_flips_sym o k [] (y ∷ ys) e = absurd (omega arith)
input_flips_sym o k (x ∷ xs) [] e = absurd (omega arith)
input_flips_sym o k (x ∷ xs) (y ∷ ys) e =
    let turn : xor x y ≡ xor y x = omega arith in
    simp turn (rw (input_flips_sym o k xs ys (omega arith)))

-- equal secrets flip nothing
pub input_flips_none : (o k : ℕ) (xs : List ℕ) (i : ℕ) → get_or (input_flips o k xs xs) i 0 ≡ 0
unfolding each_flip
input_flips_none o k [] i = refl
input_flips_none o k (x ∷ xs) i =
    let none : xor x x ≡ 0 = omega arith in
    simp none
    (zero_append (up_from (2 * o) 1 (only_at k 0)) (input_flips o k xs xs) (only_zero (2 * o) 1 k) (input_flips_none o k xs) i)

-- the flips of input i
input_flips_of :
    (o k : ℕ) (xs ys : List ℕ) (i : ℕ) → length xs ≡ length ys → i < length xs
    → bits_of o (input_flips o k xs ys) i ≡ flips_of o k (get_or xs i 0) (get_or ys i 0)
unfolding each_flip
input_flips_of o k [] ys i e h = absurd (omega arith)
input_flips_of o k (x ∷ xs) [] i e h = absurd (omega arith)
input_flips_of o k (x ∷ xs) (y ∷ ys) zero e h =
    rw (mul-zero (2 * o)) (take_at (flips_of o k x y) (input_flips o k xs ys) (2 * o) (flips_long o k x y))
input_flips_of o k (x ∷ xs) (y ∷ ys) (suc i) e h =
    let step : 2 * o * suc i ≡ length (flips_of o k x y) + 2 * o * i = omega (arith, flips_long o k x y) in
    rw (step, drop-append-add (flips_of o k x y) (input_flips o k xs ys) (2 * o * i))
    (input_flips_of o k xs ys i (omega arith) (omega arith))

-- the tape bits of input i, mapped
pub input_bits_lem :
    (o k : ℕ) (xs ys ts : List ℕ) (i : ℕ) → length xs ≡ length ys → i < length xs
    → bits_of o (flipped ts (input_flips o k xs ys)) i ≡ flipped (bits_of o ts i) (flips_of o k (get_or xs i 0) (get_or ys i 0))
input_bits_lem o k xs ys ts i e h =
    let fs = input_flips o k xs ys in
    rw (
      flipped_drop (2 * o * i) ts fs,
      flipped_take (2 * o) (drop (2 * o * i) ts) (drop (2 * o * i) fs),
      input_flips_of o k xs ys i e h,
    )

-- one input: where one of the bits is flipped, the last share stays
last_kept :
    (o k x y : ℕ) (bs : List ℕ) → 1 ≤ k → k ≤ 2 * o → length bs ≡ 2 * o → x ≤ 1 → y ≤ 1
    → xor_all x bs ≡ xor_all y (flipped bs (flips_of o k x y))
last_kept o k x y bs h l long hx hy =
    let fs = flips_of o k x y in
    let adds : sum_of (λ b. b) fs ≡ xor x y = only_adds (2 * o) 1 k (xor x y) h (omega arith) in
    let all : sum_of (λ b. b) (flipped bs fs) % 2 ≡ (sum_of (λ b. b) bs + sum_of (λ b. b) fs) % 2 =
    flipped_adds bs fs (long ∙ sym (flips_long o k x y)) in
    xor_all_lem x bs hx ∙ omega arith ∙ sym (xor_all_lem y (flipped bs fs) hy)

xor_swap : (x y n : ℕ) → x ≤ 1 → (y + n) % 2 ≡ ((x + n) % 2 + (x + y) % 2) % 2
xor_swap zero y n h = omega arith
xor_swap (suc zero) y n h = omega arith
xor_swap (suc (suc x)) y n h = absurd (omega arith)

-- one input: the last share is flipped where it is share k
last_flipped :
    (o k x y : ℕ) (bs : List ℕ) → 1 ≤ k → k ≤ shares_of o → x ≤ 1 → y ≤ 1 → Bits bs → length bs ≡ 2 * o
    → xor_all y (flipped bs (flips_of o k x y)) ≡ xor (xor_all x bs) (only_at k (xor x y) (1 + 2 * o))
last_flipped o k x y bs h l hx hy hb long = go (ltb (2 * o) k) refl
  where
    go : (t : Bool) → ltb (2 * o) k ≡ t → xor_all y (flipped bs (flips_of o k x y)) ≡ xor (xor_all x bs) (only_at k (xor x y) (1 + 2 * o))
    go true e =
        let last : 1 + 2 * o ≡ k = omega (arith, ltb-true (2 * o) k e) in
        let none = flipped_none bs (flips_of o k x y) hb (only_before (2 * o) 1 k (xor x y) (omega arith)) in
        let all : only_at k (xor x y) (1 + 2 * o) ≡ xor x y = rw (eq-eqb (1 + 2 * o) k last) in
        rw (none, all)
        (xor_all_lem y bs hy ∙ xor_swap x y (sum_of (λ b. b) bs) hx ∙ ap (λ (v : ℕ). xor v (xor x y)) (sym (xor_all_lem x bs hx)))
    go false e =
        let off : only_at k (xor x y) (1 + 2 * o) ≡ 0 = only_not k (xor x y) (1 + 2 * o) (λ q. omega (arith, ltb-false (2 * o) k e)) in
        sym (last_kept o k x y bs h (ltb-false (2 * o) k e) long hx hy) ∙ omega (arith, off, xor_all_lem x bs hx)

-- one input: share k of its group is flipped where the secrets differ, and no other
pub group_flipped :
    (o k x y : ℕ) (bs : List ℕ) → 1 ≤ k → k ≤ shares_of o → x ≤ 1 → y ≤ 1 → Bits bs → length bs ≡ 2 * o
    → group y (flipped bs (flips_of o k x y)) ≡ flipped (group x bs) (up_from (shares_of o) 1 (only_at k (xor x y)))
unfolding up_from flipped
group_flipped o k x y bs h l hx hy hb long =
    let fs = flips_of o k x y in
    let f = only_at k (xor x y) in
    let more : up_from (shares_of o) 1 f ≡ fs ++ (f (1 + 2 * o) ∷ []) =
    ap (λ (c : ℕ). up_from c 1 f) {x = shares_of o} {y = 2 * o + 1} (omega arith) ∙ up_append (2 * o) 1 1 f in
    ap (λ (v : ℕ). flipped bs fs ++ (v ∷ [])) (last_flipped o k x y bs h l hx hy hb long)
    ∙ sym (ap (flipped (group x bs)) more ∙ flipped_append bs (xor_all x bs ∷ []) fs (f (1 + 2 * o) ∷ []) (long ∙ sym (flips_long o k x y)))

-- one input: off share k the groups agree
group_off :
    (o k x y : ℕ) (bs : List ℕ) → 1 ≤ k → k ≤ shares_of o → x ≤ 1 → y ≤ 1 → Bits bs → length bs ≡ 2 * o
    → (s : ℕ) → s < shares_of o → (suc s ≡ k → ⊥)
    → get_or (group x bs) s 0 ≡ get_or (group y (flipped bs (flips_of o k x y))) s 0
group_off o k x y bs h l hx hy hb long s hs off = go (ltb s (2 * o)) refl
  where
    fs : List ℕ
    fs = flips_of o k x y

    go : (t : Bool) → ltb s (2 * o) ≡ t → get_or (group x bs) s 0 ≡ get_or (group y (flipped bs fs)) s 0
    go true e =
        let low = ltb-true s (2 * o) e in
        let none : get_or fs s 0 ≡ 0 =
        up_at (2 * o) 1 (only_at k (xor x y)) s 0 low
        ∙ ap (only_at k (xor x y)) {x = 1 + s} {y = suc s} (omega arith)
        ∙ only_not k (xor x y) (suc s) off in
        let kept : get_or (flipped bs fs) s 0 ≡ get_or bs s 0 =
        flipped_at bs fs s (omega arith) (omega (arith, flips_long o k x y)) ∙ omega (arith, hb s) in
        get_or-append bs (xor_all x bs ∷ []) 0 s (omega arith)
        ∙ sym kept
        ∙ sym (get_or-append (flipped bs fs) (xor_all y (flipped bs fs) ∷ []) 0 s (omega (arith, flipped_length bs fs)))
    go false e =
        let high = ltb-false s (2 * o) e in
        get_or_at bs (xor_all x bs) [] 0 s (omega arith)
        ∙ last_kept o k x y bs h (omega arith) long hx hy
        ∙ sym (get_or_at (flipped bs fs) (xor_all y (flipped bs fs)) [] 0 s (omega (arith, flipped_length bs fs)))

-- off share k the encodings agree: k is the free share
pub encode_off :
    (o k : ℕ) (xs ys ts : List ℕ) → 1 ≤ k → k ≤ shares_of o → length xs ≡ length ys → Bits xs → Bits ys → Bits ts
    → length ts ≡ 2 * o * length xs → (i s : ℕ) → i < length xs → s < shares_of o → (suc s ≡ k → ⊥)
    → get_or (encode o xs ts) (shares_of o * i + s) 0
    ≡ get_or (encode o ys (flipped ts (input_flips o k xs ys))) (shares_of o * i + s) 0
encode_off o k xs ys ts h l e hx hy ht long i s hi hs off =
    let us = flipped ts (input_flips o k xs ys) in
    let us_long : length us ≡ 2 * o * length ys = flipped_length ts _ ∙ long ∙ rw e in
    let bits : Bits (bits_of o ts i) = bits_take (2 * o) (drop (2 * o * i) ts) (bits_drop (2 * o * i) ts ht) in
    encode_get o xs ts i long hi s hs
    ∙ group_off o k (get_or xs i 0) (get_or ys i 0) (bits_of o ts i) h l (hx i) (hy i) bits (bits_long o xs ts i long hi) s hs off
    ∙ ap (λ (bs : List ℕ). get_or (group (get_or ys i 0) bs) s 0) (sym (input_bits_lem o k xs ys ts i e hi))
    ∙ sym (encode_get o ys us i us_long (omega arith) s hs)

-- the second encoding is the first with share k of each input flipped where the secrets differ
pub encode_flipped :
    (o k : ℕ) (xs ys ts : List ℕ) → 1 ≤ k → k ≤ shares_of o → length ys ≡ length xs → Bits xs → Bits ys → Bits ts
    → length ts ≡ 2 * o * length xs
    → encode o ys (flipped ts (input_flips o k xs ys)) ≡ flipped (encode o xs ts) (each_flip (shares_of o) k xs ys)
unfolding encode each_flip flipped
encode_flipped o k [] [] ts h l e hx hy ht long = refl
encode_flipped o k [] (y ∷ ys) ts h l e hx hy ht long = absurd (omega arith)
encode_flipped o k (x ∷ xs) [] ts h l e hx hy ht long = absurd (omega arith)
encode_flipped o k (x ∷ xs) (y ∷ ys) ts h l e hx hy ht long =
    let fs = flips_of o k x y in
    let es = input_flips o k xs ys in
    let bs = take (2 * o) ts in
    let rest = drop (2 * o) ts in
    let ups = up_from (shares_of o) 1 (only_at k (xor x y)) in
    let bits_due : length bs ≡ 2 * o = length-take-le (2 * o) ts (omega arith) in
    let front : take (2 * o) (flipped ts (fs ++ es)) ≡ flipped bs fs =
    flipped_take (2 * o) ts (fs ++ es) ∙ ap (flipped bs) (take_at fs es (2 * o) (flips_long o k x y)) in
    let back : drop (2 * o) (flipped ts (fs ++ es)) ≡ flipped rest es =
    flipped_drop (2 * o) ts (fs ++ es) ∙ ap (flipped rest) (drop_at fs es (2 * o) (flips_long o k x y)) in
    let one = group_flipped o k x y bs h l (hx 0) (hy 0) (bits_take (2 * o) ts ht) bits_due in
    let others =
    encode_flipped o k xs ys rest h l (omega arith) (λ i. hx (suc i)) (λ i. hy (suc i)) (bits_drop (2 * o) ts ht)
    (length-drop (2 * o) ts ∙ omega arith) in
    let same : length (group x bs) ≡ length ups = group_length x bs ∙ ap suc bits_due ∙ sym (up_length (shares_of o) 1 _) in
    encode_cons o y ys (flipped ts (fs ++ es))
    ∙ ap₂ (λ (a b : List ℕ). group y a ++ encode o ys b) front back
    ∙ ap₂ (λ (a b : List ℕ). a ++ b) one others
    ∙ sym
    (ap (λ (a : List ℕ). flipped a (ups ++ each_flip (shares_of o) k xs ys)) (encode_cons o x xs ts)
    ∙ flipped_append (group x bs) (encode o xs rest) ups (each_flip (shares_of o) k xs ys) same)

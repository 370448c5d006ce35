-- An encoding is the groups of its inputs' shares, one after another; a group adds up to its secret, and decoding adds up the
-- groups, all modulo 2.
-- Assumes nothing.
use mathlib.Core.Path.{◌≡◌, refl, sym, ap, ◌∙◌}
use mathlib.Core.List.{List, [], ◌∷◌, ◌++◌, map, flatten}
use Prim.Native.Nat.{ℕ, zero, suc, ◌+◌, ◌*◌, ◌/◌, ◌%◌, ◌≤◌, ◌<◌}
use native.Mathlib.Nat.{zero-add, mul-zero, mul-le-mul_left, div-eq_of_eq-mul_right}
use native.Mathlib.Omega.{arith}
use lib.ListN.{length, get_or, take, drop, length-append, length-drop, get_or-append}
use lib.Seq.{length-take-le, append_snoc, drop-drop, get_or-drop, take_at, drop_at, drop-append-add, drop-cons}
use Rattle.tables.specs.Runs.{xor}
use Rattle.tables.specs.Inside.{Bits}
use Rattle.tables.proofs.Lists.{All, bits_nil, bits_cons, bits_append, bits_take, bits_drop}
use Rattle.construction.specs.Shares.{shares_of}
use Rattle.construction.specs.Codes.{xor_all, encode, decode_from, decode}
use Rattle.construction.proofs.Sum.{sum_of, sum_append}

pub xor_all_lem : (v : ℕ) (bs : List ℕ) → v ≤ 1 → xor_all v bs ≡ (v + sum_of (λ b. b) bs) % 2
unfolding xor_all sum_of
xor_all_lem v [] h = omega arith
xor_all_lem v (b ∷ bs) h = xor_all_lem (xor v b) bs (omega arith) ∙ omega arith

xor_all_bit : (v : ℕ) (bs : List ℕ) → v ≤ 1 → xor_all v bs ≤ 1
xor_all_bit v bs h = omega (arith, xor_all_lem v bs h)

-- the n shares of the secret x, whose first 2t are bs
abbrev pub group : ℕ → List ℕ → List ℕ
group x bs = bs ++ (xor_all x bs ∷ [])

pub group_length : (x : ℕ) (bs : List ℕ) → length (group x bs) ≡ suc (length bs)
group_length x bs = length-append bs _ ∙ omega arith

group_adds : (x : ℕ) (bs : List ℕ) → x ≤ 1 → sum_of (λ b. b) (group x bs) % 2 ≡ x
unfolding sum_of
group_adds x bs h = omega (arith, sum_append (λ b. b) bs (xor_all x bs ∷ []), xor_all_lem x bs h)

pub encode_cons :
    (o x : ℕ) (xs ts : List ℕ)
    → encode o (x ∷ xs) ts ≡ group x (take (2 * o) ts) ++ encode o xs (drop (2 * o) ts)
unfolding encode
encode_cons o x xs ts = sym (append_snoc (take (2 * o) ts) _ _)

-- a tape for one input more has its 2t bits in front
module _ (o x : ℕ) (xs ts : List ℕ) (long : length ts ≡ 2 * o * length (x ∷ xs)) where
  tape_front : length (take (2 * o) ts) ≡ 2 * o
  tape_front = length-take-le (2 * o) ts (omega arith)

  tape_rest : length (drop (2 * o) ts) ≡ 2 * o * length xs
  tape_rest = length-drop (2 * o) ts ∙ omega arith

  group_long : length (group x (take (2 * o) ts)) ≡ shares_of o
  group_long = omega (arith, group_length x (take (2 * o) ts), tape_front)

pub encode_length :
    (o : ℕ) (xs ts : List ℕ) → length ts ≡ 2 * o * length xs → length (encode o xs ts) ≡ shares_of o * length xs
unfolding encode
encode_length o [] ts long = omega arith
encode_length o (x ∷ xs) ts long =
    omega (
      arith,
      length-append (take (2 * o) ts) (xor_all x (take (2 * o) ts) ∷ encode o xs (drop (2 * o) ts)),
      tape_front o x xs ts long,
      encode_length o xs (drop (2 * o) ts) (tape_rest o x xs ts long),
    )

pub encode_bits : (o : ℕ) (xs ts : List ℕ) → Bits xs → Bits ts → Bits (encode o xs ts)
unfolding encode
encode_bits o [] ts hx ht = bits_nil
encode_bits o (x ∷ xs) ts hx ht =
    bits_append (take (2 * o) ts) _
    (bits_take (2 * o) ts ht)
    (bits_cons (xor_all x (take (2 * o) ts)) (encode o xs (drop (2 * o) ts))
    (xor_all_bit x (take (2 * o) ts) (hx 0))
    (encode_bits o xs (drop (2 * o) ts) (λ i. hx (suc i)) (bits_drop (2 * o) ts ht)))

-- what follows the groups of the first i inputs is the encoding of the others
encode_drop :
    (o : ℕ) (xs ts : List ℕ) (i : ℕ) → length ts ≡ 2 * o * length xs → i ≤ length xs
    → drop (shares_of o * i) (encode o xs ts) ≡ encode o (drop i xs) (drop (2 * o * i) ts)
encode_drop o xs ts zero long h = simp mul-zero
encode_drop o [] ts (suc i) long h = absurd (omega arith)
encode_drop o (x ∷ xs) ts (suc i) long h =
    let front = group x (take (2 * o) ts) in
    let rest = encode o xs (drop (2 * o) ts) in
    let step : shares_of o * suc i ≡ length front + shares_of o * i = omega (arith, group_long o x xs ts long) in
    let bits : 2 * o + 2 * o * i ≡ 2 * o * suc i = omega arith in
    rw (encode_cons o x xs ts, step, drop-append-add front rest (shares_of o * i))
    (encode_drop o xs (drop (2 * o) ts) i (tape_rest o x xs ts long) (omega arith)
    ∙ ap (λ (us : List ℕ). encode o (drop i xs) us) (drop-drop (2 * o * i) (2 * o) ts ∙ rw bits))

-- the 2t tape bits of input i
abbrev pub bits_of : ℕ → List ℕ → ℕ → List ℕ
bits_of o ts i = take (2 * o) (drop (2 * o * i) ts)

module _ (o : ℕ) (xs ts : List ℕ) (i : ℕ) (long : length ts ≡ 2 * o * length xs) (h : i < length xs) where
  pub bits_long : length (bits_of o ts i) ≡ 2 * o
  bits_long =
      let room : 2 * o * suc i ≤ 2 * o * length xs = mul-le-mul_left (2 * o) h in
      length-take-le (2 * o) (drop (2 * o * i) ts) (omega (arith, length-drop (2 * o * i) ts))

  group_long_at : length (group (get_or xs i 0) (bits_of o ts i)) ≡ shares_of o
  group_long_at = omega (arith, group_length (get_or xs i 0) (bits_of o ts i), bits_long)

  -- the encoding from input i on: its group and the others
  encode_at :
      drop (shares_of o * i) (encode o xs ts)
      ≡ group (get_or xs i 0) (bits_of o ts i) ++ encode o (drop (suc i) xs) (drop (2 * o) (drop (2 * o * i) ts))
  encode_at =
      encode_drop o xs ts i long (omega arith)
      ∙ rw (drop-cons xs i 0 h) (encode_cons o (get_or xs i 0) (drop (suc i) xs) (drop (2 * o * i) ts))

  -- share s of input i, in its group
  pub encode_get :
      (s : ℕ) → s < shares_of o
      → get_or (encode o xs ts) (shares_of o * i + s) 0 ≡ get_or (group (get_or xs i 0) (bits_of o ts i)) s 0
  encode_get s hs =
      sym (get_or-drop (shares_of o * i) (encode o xs ts) s 0)
      ∙ rw encode_at (get_or-append (group (get_or xs i 0) (bits_of o ts i)) _ 0 s (omega (arith, group_long_at)))

  -- the n shares of input i are its group
  encode_group : take (shares_of o) (drop (shares_of o * i) (encode o xs ts)) ≡ group (get_or xs i 0) (bits_of o ts i)
  encode_group = rw encode_at (take_at (group (get_or xs i 0) (bits_of o ts i)) _ (shares_of o) group_long_at)

-- the n shares of input i add up to the secret, modulo 2
pub encode_adds :
    (o : ℕ) (xs ts : List ℕ) (i : ℕ) → length ts ≡ 2 * o * length xs → Bits xs → i < length xs
    → sum_of (λ b. b) (take (shares_of o) (drop (shares_of o * i) (encode o xs ts))) % 2 ≡ get_or xs i 0
encode_adds o xs ts i long hx h = rw (encode_group o xs ts i long h) (group_adds (get_or xs i 0) (bits_of o ts i) (hx i))

flatten_length :
    {A : Type 0} (n : ℕ) (gs : List (List A)) → All (λ g. length g ≡ n) gs → length (flatten gs) ≡ n * length gs
unfolding flatten All
flatten_length n [] a = omega arith
flatten_length n (g ∷ gs) a = omega (arith, length-append g (flatten gs), a.0, flatten_length n gs a.1)

-- the groups are decoded one by one
decode_from_groups :
    (n : ℕ) (gs : List (List ℕ)) → All (λ g. length g ≡ n) gs
    → decode_from (length gs) n (flatten gs) ≡ map (λ g. sum_of (λ b. b) g % 2) gs
unfolding flatten All decode_from
decode_from_groups n [] a = refl
decode_from_groups n (g ∷ gs) a =
    let adds : xor_all 0 g ≡ sum_of (λ b. b) g % 2 = xor_all_lem 0 g (omega arith) ∙ rw (zero-add (sum_of (λ b. b) g)) in
    rw (take_at g (flatten gs) n a.0, drop_at g (flatten gs) n a.0, adds, decode_from_groups n gs a.1)

pub decode_groups :
    (o : ℕ) (gs : List (List ℕ)) → All (λ g. length g ≡ shares_of o) gs
    → decode o (flatten gs) ≡ map (λ g. sum_of (λ b. b) g % 2) gs
unfolding decode
decode_groups o gs a =
    rw (div-eq_of_eq-mul_right {n = suc (2 * o)} {k = length gs} (omega arith) (flatten_length (shares_of o) gs a))
    (decode_from_groups (shares_of o) gs a)

pub decode_from_length : (c n : ℕ) (bs : List ℕ) → length (decode_from c n bs) ≡ c
unfolding decode_from
decode_from_length zero n bs = refl
decode_from_length (suc c) n bs = ap suc (decode_from_length c n (drop n bs))

pub decode_length : (o : ℕ) (bs : List ℕ) → length (decode o bs) ≡ length bs / suc (2 * o)
unfolding decode
decode_length o bs = decode_from_length _ _ bs

-- the groups of an encoding
unfoldable pub groups : ℕ → List ℕ → List ℕ → List (List ℕ)
groups o [] ts = []
groups o (x ∷ xs) ts = group x (take (2 * o) ts) ∷ groups o xs (drop (2 * o) ts)

encode_groups : (o : ℕ) (xs ts : List ℕ) → encode o xs ts ≡ flatten (groups o xs ts)
unfolding encode groups flatten
encode_groups o [] ts = refl
encode_groups o (x ∷ xs) ts = encode_cons o x xs ts ∙ rw (encode_groups o xs (drop (2 * o) ts))

pub groups_long :
    (o : ℕ) (xs ts : List ℕ) → length ts ≡ 2 * o * length xs → All (λ g. length g ≡ shares_of o) (groups o xs ts)
unfolding groups All
groups_long o [] ts long = tt
groups_long o (x ∷ xs) ts long =
    (group_long o x xs ts long, groups_long o xs (drop (2 * o) ts) (tape_rest o x xs ts long))

pub groups_add :
    (o : ℕ) (xs ts : List ℕ) → Bits xs → map (λ g. sum_of (λ b. b) g % 2) (groups o xs ts) ≡ xs
unfolding groups
groups_add o [] ts hx = refl
groups_add o (x ∷ xs) ts hx =
    rw (group_adds x (take (2 * o) ts) (hx 0), groups_add o xs (drop (2 * o) ts) (λ i. hx (suc i)))

pub decode_encode :
    (o : ℕ) (xs ts : List ℕ) → Bits xs → Bits ts → length ts ≡ 2 * o * length xs → decode o (encode o xs ts) ≡ xs
decode_encode o xs ts hx ht long =
    rw (encode_groups o xs ts) (decode_groups o (groups o xs ts) (groups_long o xs ts long) ∙ groups_add o xs ts hx)

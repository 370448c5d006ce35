-- Encoding bit by bit: one secret's shares while its tape bits are copied, and all shares secret by secret.
-- Assumes nothing.
use mathlib.Core.Path.{◌≡◌, refl, sym, ap, ◌∙◌}
use mathlib.Core.List.{List, [], ◌∷◌, ◌++◌, append_assoc}
use Prim.Native.Nat.{ℕ, suc, ◌+◌, ◌-◌, ◌*◌, ◌≤◌, ◌<◌}
use native.Mathlib.Nat.{zero-add, mul-zero, mul-le-mul_left}
use native.Mathlib.Numerals.{add-one}
use native.Mathlib.Omega.{arith}
use lib.Bits.{bit_xor}
use lib.ListN.{length, get_or, take, drop, set, length-append, length-drop}
use lib.Seq.{length-take-le, take-suc, drop-drop, take-take, get_or-take, get_or-drop}
use borrow.Rule.Slice.PartMut.{mid_of, put_mid, mid_len}
use Rattle.std.specs.Prelude.{Ok}
use Rattle.tables.specs.Refusals.{none}
use Rattle.tables.specs.Packing.{unpacked, tape_of}
use Rattle.tables.specs.Runs.{xor}
use Rattle.tables.specs.Says.{over}
use Rattle.tables.specs.Refusing.{answer_of}
use Rattle.tables.specs.Inside.{put_at, Bits}
use Rattle.tables.proofs.Lists.{part, part_long, part_take}
use Rattle.tables.proofs.Put.{put_zero, put_set, put_append, part_put, over_length}
use Rattle.construction.specs.Shares.{shares_of}
use Rattle.tables.proofs.Answers.{none_passed, writes_done}
use Rattle.tables.proofs.Packing.{unpacked_length, tape_long_lem}
use Rattle.construction.specs.Codes.{xor_all, encode}
use Rattle.construction.specs.Says.{encode_fault, EncodeSays}
use Rattle.construction.proofs.CodeFaults.{encode_passed}
use Rattle.tables.proofs.Run.{bit_xor_lem}
use Rattle.construction.proofs.Codes.{group, encode_length}

-- a piece more at the front of a buffer
over_append :
    (xs ys b : List ℕ) {at : ℕ} → at ≡ length xs → at + length ys ≤ length b
    → put_at at ys (over xs b) ≡ over (xs ++ ys) b
over_append xs ys b e h =
    let put = put_append 0 xs ys b (omega arith) in
    rw (e, ← put_zero xs b, ← put_zero (xs ++ ys) b) (rw zero-add at put)

over_next :
    (xs : List ℕ) (v : ℕ) (b : List ℕ) {at : ℕ} → at ≡ length xs → at < length b
    → set (over xs b) at v ≡ over (xs ++ (v ∷ [])) b
over_next xs v b {at} e h =
    put_set at v (over xs b) (omega (arith, over_length xs b (omega arith)))
    ∙ over_append xs (v ∷ []) b e (omega arith)

xor_all_next : (v : ℕ) (bs : List ℕ) (b : ℕ) → xor_all v (bs ++ (b ∷ [])) ≡ xor (xor_all v bs) b
unfolding xor_all
xor_all_next v [] b = refl
xor_all_next v (c ∷ bs) b = xor_all_next (xor v c) bs b

-- the 2t tape bits of one secret, of which those before s are written and added up
module _ (o from : ℕ) (us b₀ : List ℕ) (tape : from + 2 * o ≤ length us) (room : 2 * o < length b₀) where
  abbrev bits : List ℕ
  bits = part (2 * o) from us

  long : length bits ≡ 2 * o
  long = part_long (2 * o) from us tape

  next : (s : ℕ) → s < 2 * o → take (s + 1) bits ≡ take s bits ++ (get_or us (from + s) 0 ∷ [])
  next s h =
      let at : get_or bits s 0 ≡ get_or us (from + s) 0 = get_or-take (2 * o) (drop from us) s 0 h ∙ get_or-drop from us s 0 in
      rw add-one (take-suc bits s 0 (omega (arith, long)) ∙ rw at)

  pub copying_turn :
      (s last x bit : ℕ) → s < 2 * o → last ≤ 1 → last ≡ xor_all x (take s bits)
      → (bit ≡ get_or us (from + s) 0) × (bit ≤ 1)
      → (set (over (take s bits) b₀) s bit ≡ over (take (s + 1) bits) b₀)
      × (bit_xor last bit ≡ xor_all x (take (s + 1) bits))
      × (bit_xor last bit ≤ 1)
  copying_turn s last x bit h low sum e =
      let front : s ≡ length (take s bits) = sym (length-take-le s bits (omega (arith, long))) in
      let add : bit_xor last bit ≡ xor last bit = bit_xor_lem last bit low e.1 in
      rw (next s h, ← e.0, xor_all_next x (take s bits) bit, add)
      (over_next (take s bits) bit b₀ front (omega arith), ap (λ (v : ℕ). xor v bit) sum, omega arith)

  pub copying_end :
      (x : ℕ)
      → set (over (take (2 * o) bits) b₀) (2 * o) (xor_all x (take (2 * o) bits))
      ≡ over (encode o (x ∷ []) (drop from us)) b₀
  unfolding encode
  copying_end x =
      rw (take-take (2 * o) (2 * o) (drop from us) (omega arith))
      (over_next bits (xor_all x bits) b₀ (sym long) room)

-- the shares of the first secrets take as many bits from the front of the tape
encode_long :
    (o : ℕ) (xs ts : List ℕ) → 2 * o * length xs ≤ length ts → length (encode o xs ts) ≡ shares_of o * length xs
unfolding encode
encode_long o [] ts h = omega arith
encode_long o (x ∷ xs) ts h =
    let bits = take (2 * o) ts in
    let rest = drop (2 * o) ts in
    let fits : 2 * o * length xs ≤ length rest = omega (arith, length-drop (2 * o) ts) in
    omega (
      arith,
      length-append bits (xor_all x bits ∷ encode o xs rest),
      length-take-le (2 * o) ts (omega arith),
      encode_long o xs rest fits,
    )

encode_append :
    (o : ℕ) (xs ys ts : List ℕ)
    → encode o (xs ++ ys) ts ≡ encode o xs ts ++ encode o ys (drop (2 * o * length xs) ts)
unfolding encode
encode_append o [] ys ts = rw mul-zero refl
encode_append o (x ∷ xs) ys ts =
    let step : 2 * o * length (x ∷ xs) ≡ 2 * o + 2 * o * length xs = omega arith in
    rw (step, ← drop-drop (2 * o * length xs) (2 * o) ts, append_assoc)
    (ap (λ (l : List ℕ). take (2 * o) ts ++ (xor_all x (take (2 * o) ts) ∷ l)) (encode_append o xs ys (drop (2 * o) ts)))

-- the shares of one secret take their bits from the front of a longer tape
one_front :
    (o x from k : ℕ) (us : List ℕ) → from + 2 * o ≤ k
    → encode o (x ∷ []) (drop from us) ≡ encode o (x ∷ []) (drop from (take k us))
unfolding encode
one_front o x from k us h = ap (group x) (sym (part_take (2 * o) from k us h))

-- between two secrets: the shares of the first i are written
module _ (o : ℕ) (xs tape b₀ : List ℕ) (i : ℕ) where
  abbrev k : ℕ
  k = 2 * o * length xs

  abbrev us : List ℕ
  us = unpacked tape

  abbrev so_far : List ℕ
  so_far = encode o (take i xs) (tape_of k tape)

  abbrev at : ℕ
  at = shares_of o * i

  abbrev one : List ℕ
  one = encode o (get_or xs i 0 ∷ []) (drop (2 * o * i) us)

  module _ (h : i < length xs) (bits : k ≤ 8 * length tape) (room : shares_of o * length xs ≤ length b₀) where
    more : suc i ≤ length xs
    more = omega arith

    bits_left : 2 * o * i + 2 * o ≤ k
    bits_left = omega (arith, mul-le-mul_left (2 * o) more)

    room_left : at + shares_of o ≤ length b₀
    room_left = omega (arith, mul-le-mul_left (shares_of o) more)

    before : length (take i xs) ≡ i
    before = length-take-le i xs (omega arith)

    so_far_long : at ≡ length so_far
    so_far_long =
        let most : 2 * o * length (take i xs) ≤ length (tape_of k tape) =
        rw before (omega (arith, bits_left, tape_long_lem k tape bits)) in
        rw (encode_long o (take i xs) (tape_of k tape) most, before) refl

    one_long : length one ≡ shares_of o
    one_long =
        let most : 2 * o * length (get_or xs i 0 ∷ []) ≤ length (drop (2 * o * i) us) =
        omega (arith, bits_left, bits, unpacked_length tape, length-drop (2 * o * i) us) in
        omega (arith, encode_long o (get_or xs i 0 ∷ []) (drop (2 * o * i) us) most)

    over_long : length (over so_far b₀) ≡ length b₀
    over_long = over_length so_far b₀ (omega (arith, so_far_long, room_left))

    put_one : put_at at one (over so_far b₀) ≡ over (encode o (take (i + 1) xs) (tape_of k tape)) b₀
    unfolding tape_of
    put_one =
        let same : one ≡ encode o (get_or xs i 0 ∷ []) (drop (2 * o * i) (tape_of k tape)) =
        one_front o (get_or xs i 0) (2 * o * i) k us bits_left in
        let next : encode o (take (i + 1) xs) (tape_of k tape) ≡ so_far ++ one =
        rw (add-one, take-suc xs i 0 h, same)
        (encode_append o (take i xs) (get_or xs i 0 ∷ []) (tape_of k tape) ∙ rw before refl) in
        rw next (over_append so_far one b₀ so_far_long (omega (arith, one_long, room_left)))

    module _ {n : ℕ} {b : List ℕ} (e : n ≡ shares_of o) (done : b ≡ over so_far b₀) where
      end : n * i + n ≤ length b
      end = rw (e, done) (omega (arith, over_long, room_left))

      -- what writing one secret's shares into a part that was lent, of n bytes, asks for
      pub encoding_room :
          (2 * o * i + 2 * o ≤ length us) × (2 * o * i + 2 * o ≤ length b) × (2 * o < length (mid_of (n * i) (n * i + n - n * i) b))
      encoding_room = (
        omega (arith, bits_left, bits, unpacked_length tape),
        omega (arith, room_left, over_long, ap length done),
        omega (arith, e, mid_len (n * i) (n * i + n) b end),
      )

      -- the part comes back with one secret's shares more
      pub encoding_turn :
          {b' : List ℕ} → b' ≡ over one (mid_of (n * i) (n * i + n - n * i) b)
          → put_mid (n * i) (n * i + n - n * i) b b' ≡ over (encode o (take (i + 1) xs) (tape_of k tape)) b₀
      encoding_turn put =
          let size : length one ≤ n * i + n - n * i = rw e (omega (arith, one_long)) in
          part_put (n * i) (n * i + n) one b (omega arith) end size put ∙ rw (e, done) put_one

-- an encoding that nothing refuses: what writing asks for, and what the call then says
pub encode_ready :
    (o : ℕ) (xs ts : List ℕ) (room : ℕ) → encode_fault o xs ts room ≡ none
    → (o ≤ 15) × (2 * o * length xs ≤ 8 * length ts) × (shares_of o * length xs ≤ room) × Bits xs
encode_ready o xs ts room h =
    let passes = encode_passed o xs ts room (none_passed h) in
    (passes.order.1, omega (arith, passes.long), passes.fits, passes.secrets)

pub encode_small : (o : ℕ) (xs ts : List ℕ) (room : ℕ) → encode_fault o xs ts room ≡ none → (2 * o + 1) * length xs < 65536
encode_small o xs ts room h =
    let passes = encode_passed o xs ts room (none_passed h) in omega (arith, passes.few)

pub encode_writes :
    (o : ℕ) (xs ts b : List ℕ) {b' : List ℕ} → encode_fault o xs ts (length b) ≡ none
    → b' ≡ over (encode o xs (tape_of (2 * o * length xs) ts)) b
    → EncodeSays o xs ts b b' (answer_of (Ok ((2 * o + 1) * length xs)))
encode_writes o xs ts b h e =
    let bits = tape_of (2 * o * length xs) ts in
    let fits = (encode_ready o xs ts (length b) h).1 in
    let long = encode_length o xs bits (tape_long_lem (2 * o * length xs) ts fits) in
    writes_done (encode o xs bits) b h (omega (arith, long)) e

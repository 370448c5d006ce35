-- Putting text: a number's digits, pieces one after the other, and how long they are.
-- Assumes nothing.
use mathlib.Core.Path.{◌≡◌, refl, sym, ap, ◌∙◌, subst}
use mathlib.Core.Bool.{Bool, true, false}
use mathlib.Core.List.{List, [], ◌∷◌, ◌++◌}
use Prim.Native.Nat.{ℕ, zero, suc, ◌+◌, ◌/◌, ◌%◌, ◌^◌, ◌≤◌, ◌<◌}
use native.Mathlib.Nat.{zero-add}
use native.Mathlib.Omega.{arith}
use borrow.Author.Tests.{lt-ltb, le-ltb}
use lib.Dec.{ltb}
use lib.ListN.{length, take, drop, length-append}
use lib.Seq.{take_at}
use Rattle.std.specs.Fmt as Fmt
use Rattle.std.proofs.lemmas.Fmt.{AppendsLastDigit, decimal_from_appends, length-decimal-le}
use Rattle.tables.proofs.Put.{put_length, put_zero, put_append}
use Rattle.text.specs.Text.{digits, decimal, line_of, refusal_line, Puts, PutsAll}

digits_long : (c v : ℕ) → length (digits c v) ≤ c
unfolding digits
digits_long zero v = omega arith
digits_long (suc c) v = go (ltb v 10) refl (digits_long c (v / 10))
  where
    go : (t : Bool) → ltb v 10 ≡ t → length (digits c (v / 10)) ≤ c → length (digits (suc c) v) ≤ suc c
    go true e h = rw (e, digits) (omega arith)
    go false e h = rw (e, digits) (omega (arith, h, length-append (digits c (v / 10)) ((48 + v % 10) ∷ [])))

-- the last digit stands after the others
appends : AppendsLastDigit digits
unfolding digits
appends = record { one = λ k n h. rw (lt-ltb n 10 h, digits); more = λ k n h. rw (le-ltb n 10 h, digits) }

-- the library's digits are these
pub decimal_is : (v : ℕ) → v < 2 ^ 32 → decimal v ≡ Fmt.decimal v
decimal_is v h = decimal_from_appends digits appends 10 v (omega arith) (length-decimal-le 10 v (omega arith) (omega arith) (omega arith))

-- what is formatted is v, so the bytes are v's digits
pub formatted :
    (v : ℕ) {w : ℕ} {text bytes : List ℕ} → w ≡ v → text ≡ Fmt.decimal w → bytes ≡ text → v < 2 ^ 32 → bytes ≡ decimal v
formatted v same e f h = f ∙ e ∙ ap Fmt.decimal same ∙ sym (decimal_is v h)

-- the same bytes
pub puts_as : {at m : ℕ} {xs ys b c : List ℕ} → xs ≡ ys → Puts at xs b c m → Puts at ys b c m
puts_as {at} {m} {xs} {ys} {b} {c} e P = subst (λ (zs : List ℕ). Puts at zs b c m) e P

-- a piece is put, and another after it
module _ {at m : ℕ} {xs b c : List ℕ} (ys : List ℕ) (room : at + length (xs ++ ys) ≤ length b) (P : Puts at xs b c m) where
  first_room : at + length xs ≤ length b
  first_room = omega (arith, room, length-append xs ys)

  pub next_room : m + length ys ≤ length c
  next_room =
      let same = ap length P.bytes ∙ put_length at xs b first_room in
      omega (arith, room, length-append xs ys, P.next, same)

  pub puts_then : {r : ℕ} {d : List ℕ} → Puts m ys c d r → Puts at (xs ++ ys) b d r
  puts_then Q =
      record {
        bytes = Q.bytes ∙ rw (P.next, P.bytes) (put_append at xs ys b first_room);
        next = omega (arith, Q.next, P.next, length-append xs ys);
      }

-- all of xs, or nothing
pub all_short : (xs b : List ℕ) → length b < length xs → PutsAll xs b b 0
all_short xs b h = let e = lt-ltb (length b) (length xs) h in record { bytes = rw e; length_is = rw e }

pub all_put : {xs b b' : List ℕ} {r : ℕ} → length xs ≤ length b → Puts 0 xs b b' r → PutsAll xs b b' r
all_put {xs} {b} h P =
    let e = le-ltb (length b) (length xs) h in
    record { bytes = rw e (P.bytes ∙ put_zero xs b); length_is = rw e (P.next ∙ zero-add _) }

-- what was put at the front of a buffer, and then all of it elsewhere
pub put_elsewhere :
    {xs b c out out' : List ℕ} {n r : ℕ} → Puts 0 xs b c n → PutsAll (take n c) out out' r → PutsAll xs out out' r
put_elsewhere {xs} {b} {c} {out} {out'} {n} {r} P A =
    let e : take n c ≡ xs =
    ap {A = List ℕ} {B = List ℕ} (take n) (P.bytes ∙ put_zero xs b)
    ∙ take_at xs (drop (length xs) b) n (sym (P.next ∙ zero-add _)) in
    subst (λ (ys : List ℕ). PutsAll ys out out' r) e A

-- what is written lies within the lent bytes
pub all_fits : {xs b b' : List ℕ} {r : ℕ} → PutsAll xs b b' r → r ≤ length b'
all_fits {xs} {b} {b'} {r} A = go (ltb (length b) (length xs)) refl
  where
    go : (t : Bool) → ltb (length b) (length xs) ≡ t → r ≤ length b'
    go true e = let none : r ≡ 0 = rw e at A.length_is in omega (arith, none)
    go false e =
        let all : r ≡ length xs = rw e at A.length_is in
        let put : b' ≡ xs ++ drop (length xs) b = rw e at A.bytes in
        omega (arith, all, ap length put, length-append xs (drop (length xs) b))

-- a number and what follows it
pub number_long : (v : ℕ) (ys : List ℕ) → length (decimal v ++ ys) ≤ 10 + length ys
number_long v ys = omega (arith, length-append (decimal v) ys, digits_long 10 v)

pub refusal_long : (n p : ℕ) → length (refusal_line n p) ≤ 64
unfolding line_of
refusal_long n p =
    omega (arith, number_long n (32 ∷ (decimal p ++ (10 ∷ []))), number_long p (10 ∷ []))

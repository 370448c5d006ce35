-- The first byte above 1: of lists joined, and what it says where there is none.
-- Assumes nothing.
use mathlib.Core.Path.{◌≡◌, refl}
use mathlib.Core.Bool.{Bool, true, false, cond}
use mathlib.Core.List.{List, [], ◌∷◌, ◌++◌}
use Prim.Native.Nat.{ℕ, suc, ◌+◌, ◌≤◌}
use native.Mathlib.Nat.{add-zero, add-suc, suc-add}
use native.Mathlib.Omega.{arith}
use lib.Bits.{bit_or, and_le_l, and_le_r, or_add_and}
use lib.Dec.{leb}
use lib.ListN.{length}
use borrow.Author.Tests.{leb-true}
use Rattle.tables.specs.Refusals.{fault, passed, or_else, bad_bit}
use Rattle.tables.specs.Inside.{Bits}
use Rattle.tables.proofs.Lists.{bits_nil, bits_cons}
use Rattle.tables.proofs.Accept.{cond_passed}

pub bad_append :
    (i : ℕ) (xs ys : List ℕ) → bad_bit i (xs ++ ys) ≡ or_else (bad_bit i xs) (bad_bit (i + length xs) ys)
unfolding bad_bit
bad_append i [] ys = rw add-zero
bad_append i (x ∷ xs) ys = go (leb x 1) (bad_append (suc i) xs ys)
  where
    go :
        (t : Bool) → bad_bit (suc i) (xs ++ ys) ≡ or_else (bad_bit (suc i) xs) (bad_bit (suc i + length xs) ys)
        → cond t (bad_bit (suc i) (xs ++ ys)) (fault 11 i)
        ≡ or_else (cond t (bad_bit (suc i) xs) (fault 11 i)) (bad_bit (i + suc (length xs)) ys)
    go true e = rw (add-suc, ← suc-add i (length xs)) e
    go false e = refl

-- bits where no byte is above 1
pub bad_bits : (i : ℕ) (bs : List ℕ) → passed (bad_bit i bs) ≡ true → Bits bs
unfolding bad_bit
bad_bits i [] h = bits_nil
bad_bits i (b ∷ bs) h =
    let a = cond_passed (leb b 1) (bad_bit (suc i) bs) 11 i refl h in
    bits_cons b bs (leb-true b 1 a.0) (bad_bits (suc i) bs a.1)

-- no bit of a number is lost by `or`
pub or_covers : (a b m : ℕ) → bit_or a b ≤ m → (a ≤ m) × (b ≤ m)
or_covers a b m h =
    let whole = or_add_and a b in
    let at_most_a = and_le_l a b in
    let at_most_b = and_le_r a b in
    (omega arith, omega arith)

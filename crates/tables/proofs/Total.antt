-- Totals over the gates: counting the gates of a kind, and figures that are the kinds' own.
-- Assumes nothing.
use mathlib.Core.Path.{◌≡◌, refl, ap}
use mathlib.Core.Bool.{Bool, true, false, cond}
use mathlib.Core.List.{List, [], ◌∷◌}
use Prim.Native.Nat.{ℕ, zero, suc, ◌+◌, ◌*◌, ◌≤◌, ◌<◌}
use native.Mathlib.Omega.{arith}
use lib.Dec.{eqb}
use lib.ListN.{length, get_or, take, drop, drop_of_length-le}
use lib.Seq.{drop-cons}
use borrow.Author.Tests.{ne_eqb}
use Rattle.tables.specs.Refusals.{none}
use Rattle.tables.specs.Tables.{Kind, NOT, XOR, AND, RANDOM, CONSTANT, OR, UNKNOWN, kind_of, Gate, no_gate}
use Rattle.tables.specs.Tables.{Table, gate_of, is_random, random_fault, total}
use Rattle.tables.specs.Counted.{of_kind}
use Rattle.tables.specs.Runs.{drawn, randoms}

-- a byte that is a kind, and one that is not
pub kind_same : (k b : ℕ) → b ≤ 5 → k ≡ b → 1 ≡ of_kind b (kind_of k)
kind_same k zero h e = rw e
kind_same k (suc zero) h e = rw e
kind_same k (suc (suc zero)) h e = rw e
kind_same k (suc (suc (suc zero))) h e = rw e
kind_same k (suc (suc (suc (suc zero)))) h e = rw e
kind_same k (suc (suc (suc (suc (suc zero))))) h e = rw e
kind_same k (suc (suc (suc (suc (suc (suc b)))))) h e = absurd (omega arith)

pub kind_other : (k b : ℕ) → (k ≡ b → ⊥) → 0 ≡ of_kind b (kind_of k)
kind_other zero b h = rw (ne_eqb b 0 (λ e. h (omega (arith, e))))
kind_other (suc zero) b h = rw (ne_eqb b 1 (λ e. h (omega (arith, e))))
kind_other (suc (suc zero)) b h = rw (ne_eqb b 2 (λ e. h (omega (arith, e))))
kind_other (suc (suc (suc zero))) b h = rw (ne_eqb b 3 (λ e. h (omega (arith, e))))
kind_other (suc (suc (suc (suc zero)))) b h = rw (ne_eqb b 4 (λ e. h (omega (arith, e))))
kind_other (suc (suc (suc (suc (suc zero))))) b h = rw (ne_eqb b 5 (λ e. h (omega (arith, e))))
kind_other (suc (suc (suc (suc (suc (suc k)))))) b h = refl

-- the total of the gates from number i on
pub total_next :
    (f : Kind → ℕ) (t : Table) (i : ℕ) → i < length t.gates
    → total f (drop i t.gates) ≡ f (gate_of t i).kind + total f (drop (suc i) t.gates)
unfolding total
total_next f t i h = ap {A = List Gate} {B = ℕ} (total f) (drop-cons t.gates i no_gate h)

pub total_none : (f : Kind → ℕ) (t : Table) (i : ℕ) → length t.gates ≤ i → total f (drop i t.gates) ≡ 0
unfolding total
total_none f t i h = ap {A = List Gate} {B = ℕ} (total f) (drop_of_length-le t.gates {i = i} h)

-- the total of the gates before number i, and of one more
pub total_take :
    (f : Kind → ℕ) (gs : List Gate) (i : ℕ) → i < length gs
    → total f (take (suc i) gs) ≡ total f (take i gs) + f (get_or gs i no_gate).kind
unfolding total
total_take f [] i h = absurd (omega arith)
total_take f (g ∷ gs) zero h = omega arith
total_take f (g ∷ gs) (suc i) h = omega (arith, total_take f gs i (omega arith))

-- totals of figures that are equal, or bounded, kind by kind
pub total_same : (f g : Kind → ℕ) → ((k : Kind) → f k ≡ g k) → (gs : List Gate) → total f gs ≡ total g gs
unfolding total
total_same f g e [] = refl
total_same f g e (x ∷ xs) = omega (arith, e x.kind, total_same f g e xs)

pub total_below : (f g : Kind → ℕ) → ((k : Kind) → f k ≤ g k) → (gs : List Gate) → total f gs ≤ total g gs
unfolding total
total_below f g h [] = omega arith
total_below f g h (x ∷ xs) = omega (arith, h x.kind, total_below f g h xs)

pub total_small :
    (f : Kind → ℕ) (m : ℕ) → ((k : Kind) → f k ≤ m) → (gs : List Gate) → total f gs ≤ m * length gs
unfolding total
total_small f m h [] = omega arith
total_small f m h (x ∷ xs) = omega (arith, h x.kind, total_small f m h xs)

-- "one bit for each random gate"
pub count_randoms : (gs : List Gate) → total (of_kind 3) gs ≡ randoms gs
count_randoms = total_same (of_kind 3) drawn drawn_kind
  where
    drawn_kind : (k : Kind) → of_kind 3 k ≡ drawn k
    drawn_kind NOT = refl
    drawn_kind XOR = refl
    drawn_kind AND = refl
    drawn_kind RANDOM = refl
    drawn_kind CONSTANT = refl
    drawn_kind OR = refl
    drawn_kind (UNKNOWN k) = refl

-- a table with no gate of kind 3 is plain
pub count_plain : (i : ℕ) (gs : List Gate) → total (of_kind 3) gs ≡ 0 → random_fault i gs ≡ none
unfolding total random_fault
count_plain i [] e = refl
count_plain i (g ∷ gs) e =
    let few : of_kind 3 g.kind ≡ 0 = omega (arith, e) in
    let plain = count_plain (suc i) gs (omega (arith, e)) in
    rw (not_random g.kind few) plain
  where
    not_random : (k : Kind) → of_kind 3 k ≡ 0 → is_random k ≡ false
    not_random NOT h = refl
    not_random XOR h = refl
    not_random AND h = refl
    not_random RANDOM h = absurd (omega (arith, h))
    not_random CONSTANT h = refl
    not_random OR h = refl
    not_random (UNKNOWN k) h = refl

-- no kind has more gates than there are
pub count_small : (b : ℕ) (gs : List Gate) → total (of_kind b) gs ≤ length gs
count_small b gs = omega (arith, total_small (of_kind b) 1 at_most_one gs)
  where
    one : (t : Bool) → cond t 1 0 ≤ 1
    one true = omega arith
    one false = omega arith

    at_most_one : (k : Kind) → of_kind b k ≤ 1
    at_most_one NOT = one (eqb b 0)
    at_most_one XOR = one (eqb b 1)
    at_most_one AND = one (eqb b 2)
    at_most_one RANDOM = one (eqb b 3)
    at_most_one CONSTANT = one (eqb b 4)
    at_most_one OR = one (eqb b 5)
    at_most_one (UNKNOWN k) = omega arith

-- Looking for the first byte above 1.
-- Assumes nothing.
use mathlib.Core.Path.{◌≡◌, refl}
use mathlib.Core.List.{List, [], ◌∷◌}
use Prim.Native.Nat.{ℕ, zero, suc, ◌+◌, ◌≤◌, ◌<◌}
use native.Mathlib.Nat.{add-zero, add-suc, suc-add}
use native.Mathlib.Omega.{arith}
use lib.Bits.{bit_or}
use lib.ListN.{length, get_or}
use borrow.Author.Count.{below_more}
use borrow.Author.Tests.{le-leb, lt-leb}
use Rattle.std.specs.Prelude.{Option, Some, None, MatchOption}
use Rattle.std.specs.List.{AllWithin, HoldsAt}
use Rattle.tables.specs.Refusals.{fault, none, bad_bit}
use Rattle.tables.proofs.Bad.{or_covers}
use Rattle.bits.specs.Scan.{FirstBad}

-- no byte before r is above m
abbrev pub AtMost : List ℕ → ℕ → ℕ → Type 0
AtMost bs m r = (k : ℕ) → k < r → get_or bs k 0 ≤ m

pub at_most_step :
    (bs : List ℕ) (m r : ℕ) → AtMost bs m r → AtMost bs (bit_or m (get_or bs r 0)) (r + 1)
at_most_step bs m r h =
    let both = or_covers m (get_or bs r 0) (bit_or m (get_or bs r 0)) (omega arith) in
    below_more (λ k. get_or bs k 0 ≤ bit_or m (get_or bs r 0)) r (λ k q. omega (arith, h k q, both.0)) both.1

pub bad_none : (bs : List ℕ) → AtMost bs 1 (length bs) → (i : ℕ) → bad_bit i bs ≡ none
unfolding bad_bit
bad_none [] h i = refl
bad_none (b ∷ bs) h i =
    rw (le-leb b 1 (h 0 (omega arith))) (bad_none bs (λ k q. h (suc k) (omega arith)) (suc i))

pub bad_found :
    (bs : List ℕ) (r : ℕ) → r < length bs → AtMost bs 1 r → 1 < get_or bs r 0 → (i : ℕ)
    → bad_bit i bs ≡ fault 11 (i + r)
unfolding bad_bit
bad_found [] r l h a i = absurd (omega arith)
bad_found (b ∷ bs) zero l h a i = rw (lt-leb b 1 a, add-zero) refl
bad_found (b ∷ bs) (suc r) l h a i =
    rw (le-leb b 1 (h 0 (omega arith)), add-suc, ← suc-add i r)
    (bad_found bs r (omega arith) (λ k q. h (suc k) (omega arith)) a (suc i))

pub first_found :
    (bs : List ℕ) (r : Option ℕ)
    → MatchOption r
    (AllWithin (λ b. b ≤ 1) bs 0 (length bs))
    (λ i. (i < length bs) × HoldsAt (λ b. 1 < b) bs i × AllWithin (λ b. b ≤ 1) bs 0 i)
    → FirstBad bs r
first_found bs None h = bad_none bs (λ k q. h k 0 (omega arith) q)
first_found bs (Some r) h = (h.0, bad_found bs r h.0 (λ k q. h.2 k 0 (omega arith) q) (h.1 0))

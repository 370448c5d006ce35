-- Answers and refusals: how an answer follows from the first check that refuses.
-- Assumes nothing.
use mathlib.Core.Path.{◌≡◌, refl, ap, ◌∙◌}
use mathlib.Core.Bool.{Bool, true, false}
use mathlib.Core.List.{List}
use Prim.Native.Nat.{ℕ, ◌≤◌}
use native.Mathlib.Omega.{arith}
use lib.ListN.{length, drop, length-append}
use borrow.Author.Tests.{ne_eqb}
use Rattle.std.specs.Prelude.{Ok, Err}
use Rattle.tables.specs.declared.Answer as DAnswer
use Rattle.tables.specs.declared.Refusal as DRefusal
use Rattle.tables.specs.declared.Refusal.TheVariants as Refusal
use Rattle.tables.specs.Refusals.{Fault, none, passed, or_else}
use Rattle.tables.specs.Refusing.{fault_of, answer_of}
use Rattle.tables.specs.Says.{Answered, over, after_call, Writes}
use Rattle.tables.proofs.Tests.{first_passed, first_refused}

-- a refusal is no success
pub refusal_fails : (e : DRefusal.Refusal) → passed (fault_of e) ≡ false
refusal_fails Refusal.Length = refl
refusal_fails Refusal.Sizes = refl
refusal_fails (Refusal.Kind gate) = refl
refusal_fails (Refusal.Operands gate) = refl
refusal_fails (Refusal.Output output) = refl
refusal_fails Refusal.Order = refl
refusal_fails (Refusal.Random gate) = refl
refusal_fails Refusal.TooLarge = refl
refusal_fails Refusal.NoRoom = refl
refusal_fails Refusal.Counts = refl
refusal_fails (Refusal.NotBit place) = refl
refusal_fails Refusal.TooManyProbes = refl
refusal_fails (Refusal.NoWire probe) = refl

pub refused_fails : {f : Fault} (e : DRefusal.Refusal) → f ≡ fault_of e → passed f ≡ false
refused_fails e h = rw h (refusal_fails e)

pub none_passed : {f : Fault} → f ≡ none → passed f ≡ true
none_passed h = rw h refl

-- a chain of two checks, of which the first refuses, by whatever number and place; by one of the code's refusals; or not
pub first_of : {f h : Fault} (g : Fault) → f ≡ h → (h.number ≡ 0 → ⊥) → or_else f g ≡ h
first_of {f} {h} g e n = first_refused f g (rw e (ne_eqb h.number 0 n)) ∙ e

pub refused_first : {f : Fault} (g : Fault) (e : DRefusal.Refusal) → f ≡ fault_of e → or_else f g ≡ fault_of e
refused_first {f} g e h = first_refused f g (refused_fails e h) ∙ h

pub second_of : {f g h : Fault} → f ≡ none → g ≡ h → or_else f g ≡ h
second_of {f} {g} p h = first_passed f g (none_passed p) ∙ h

-- a call that is refused, and one that is done
pub answered_refused :
    {f : Fault} {v : ℕ} (e : DRefusal.Refusal) → f ≡ fault_of e → Answered f v (answer_of (Err e))
answered_refused e h = record { number = rw h refl; place = rw h refl; value = rw (refused_fails e h) refl }

pub answered_done : {f : Fault} {v : ℕ} → f ≡ none → Answered f v (answer_of (Ok v))
answered_done h = rw h (record { number = refl; place = refl; value = refl })

-- what a lent buffer holds after a refusal and after a success
pub after_refused : {f : Fault} (e : DRefusal.Refusal) → f ≡ fault_of e → (xs b : List ℕ) → b ≡ after_call f xs b
after_refused e h xs b = rw (refused_fails e h) refl

pub after_passed :
    (f : Fault) {b' : List ℕ} (xs b : List ℕ) → f ≡ none → b' ≡ over xs b → b' ≡ after_call f xs b
after_passed f xs b e w = rw e w

-- a call that writes into one lent buffer: refused, and done
pub writes_refused :
    {f : Fault} (e : DRefusal.Refusal) (xs b : List ℕ) → f ≡ fault_of e → Writes f xs b b (answer_of (Err e))
writes_refused e xs b h = record { answer = answered_refused e h; written = after_refused e h xs b }

pub writes_done :
    {f : Fault} {v : ℕ} {b' : List ℕ} (xs b : List ℕ) → f ≡ none → v ≡ length xs → b' ≡ over xs b
    → Writes f xs b b' (answer_of (Ok v))
writes_done {f} xs b h l w = rw l (record { answer = answered_done h; written = after_passed f xs b h w })

-- what is written lies within the lent bytes
pub writes_fits : {f : Fault} {xs b b' : List ℕ} {r : DAnswer.Answer} → Writes f xs b b' r → r.value ≤ length b'
writes_fits {f} {xs} {b} {b'} {r} W = go (passed f) refl
  where
    go : (t : Bool) → passed f ≡ t → r.value ≤ length b'
    go true e =
        let value : r.value ≡ length xs = rw e at W.answer.value in
        let put : b' ≡ over xs b = rw e at W.written in
        omega (arith, value, ap length put, length-append xs (drop (length xs) b))
    go false e = let value : r.value ≡ 0 = rw e at W.answer.value in omega (arith, value)

-- A tape with some bits flipped from a place on: lengths, flips one after the other, a single bit, and flips that are none.
-- Assumes nothing.
use mathlib.Core.Path.{◌≡◌, refl, sym, ap, ◌∙◌}
use mathlib.Core.Bool.{Bool, true, false}
use mathlib.Core.List.{List, [], ◌∷◌, ◌++◌}
use Prim.Native.Nat.{ℕ, zero, suc, ◌+◌, ◌-◌, ◌≤◌, ◌<◌}
use native.Mathlib.Omega.{arith}
use lib.ListN.{length, get_or, take, drop, set, length-append, length-drop, take-append-drop}
use lib.Seq.{length-take-le, take_at, drop-cons, drop-drop, take-add, take-set-lt}
use lib.Dec.{eqb}
use borrow.Author.Tests.{eqb-true, eqb-false}
use Rattle.tables.specs.Runs.{xor}
use Rattle.tables.specs.Says.{over}
use Rattle.tables.specs.Inside.{Bits, put_at}
use Rattle.tables.proofs.Lists.{bits_cons, bits_take, bits_drop, part_take}
use Rattle.tables.proofs.Put.{put_length, put_zero, put_append, put_nil, put_set, put_past, over_over}
use Rattle.construction.specs.Shares.{up_from}
use Rattle.construction.proofs.Sum.{up_length}
use Rattle.secrecy.specs.Maps.{flipped}
use Rattle.secrecy.specs.Both.{bits_for, flips_at}
use Rattle.secrecy.proofs.Inputs.{flipped_length, flipped_append, flipped_none, only_at, only_after}

pub bits_for_long : (fs : List ℕ) (at : ℕ) (ts : List ℕ) → at + length fs ≤ length ts → length (bits_for fs at ts) ≡ length fs
bits_for_long fs at ts h = length-take-le (length fs) (drop at ts) (omega (arith, length-drop at ts))

pub flipped_long :
    (fs : List ℕ) (at : ℕ) (ts : List ℕ) → at + length fs ≤ length ts → length (flipped (bits_for fs at ts) fs) ≡ length fs
flipped_long fs at ts h = flipped_length (bits_for fs at ts) fs ∙ bits_for_long fs at ts h

pub bits_for_append :
    (fs es : List ℕ) (at : ℕ) (ts : List ℕ)
    → bits_for (fs ++ es) at ts ≡ bits_for fs at ts ++ bits_for es (at + length fs) ts
bits_for_append fs es at ts =
    ap (λ (c : ℕ). take c (drop at ts)) (length-append fs es)
    ∙ take-add (length fs) (length es) (drop at ts)
    ∙ rw drop-drop

pub bits_for_bits : (fs : List ℕ) (at : ℕ) (ts : List ℕ) → Bits ts → Bits (bits_for fs at ts)
bits_for_bits fs at ts h = bits_take (length fs) (drop at ts) (bits_drop at ts h)

pub flips_at_length : (at : ℕ) (fs ts : List ℕ) → at + length fs ≤ length ts → length (flips_at at fs ts) ≡ length ts
unfolding flips_at
flips_at_length at fs ts h =
    put_length at (flipped (bits_for fs at ts) fs) ts (omega (arith, flipped_long fs at ts h))

pub flips_at_nil : (at : ℕ) (ts : List ℕ) → flips_at at [] ts ≡ ts
unfolding flips_at flipped
flips_at_nil at ts = put_nil at ts

-- one after the other
pub flips_at_append :
    (at : ℕ) (fs es ts : List ℕ) → at + length fs ≤ length ts
    → flips_at (at + length fs) es (flips_at at fs ts) ≡ flips_at at (fs ++ es) ts
unfolding flips_at
flips_at_append at fs es ts h =
    let front = flipped (bits_for fs at ts) fs in
    let long : length front ≡ length fs = flipped_long fs at ts h in
    let later : bits_for es (at + length fs) (put_at at front ts) ≡ bits_for es (at + length fs) ts =
    ap (take (length es))
    (ap (λ (n : ℕ). drop (at + n) (put_at at front ts)) (sym long)
    ∙ put_past at front ts (omega arith)
    ∙ ap (λ (n : ℕ). drop (at + n) ts) long) in
    let back = flipped (bits_for es (at + length fs) ts) es in
    ap (λ (l : List ℕ). put_at (at + length fs) (flipped l es) (put_at at front ts)) later
    ∙ ap (λ (n : ℕ). put_at (at + n) back (put_at at front ts)) (sym long)
    ∙ put_append at front back ts (omega arith)
    ∙ ap (λ (l : List ℕ). put_at at l ts)
    (sym
    (ap (λ (l : List ℕ). flipped l (fs ++ es)) (bits_for_append fs es at ts)
    ∙ flipped_append (bits_for fs at ts) (bits_for es (at + length fs) ts) fs es (bits_for_long fs at ts h)))

-- a single bit
pub flips_at_one :
    (at f : ℕ) (ts : List ℕ) → at < length ts → set ts at (xor (get_or ts at 0) f) ≡ flips_at at (f ∷ []) ts
unfolding flips_at flipped
flips_at_one at f ts h =
    put_set at (xor (get_or ts at 0) f) ts h
    ∙ ap (λ (l : List ℕ). put_at at (flipped l (f ∷ [])) ts) (sym (ap (take 1) (drop-cons ts at 0 h)))

-- flips that are 0, where the first n are bits
pub flips_at_none :
    (at n : ℕ) (fs ts : List ℕ) → at + length fs ≤ n → n ≤ length ts → Bits (take n ts) → ((i : ℕ) → get_or fs i 0 ≡ 0)
    → flips_at at fs ts ≡ ts
unfolding flips_at put_at
flips_at_none at n fs ts h l bits none =
    let here = bits_for fs at ts in
    let are : Bits here = rw (← part_take (length fs) at n ts h) (bits_take (length fs) (drop at (take n ts)) (bits_drop at (take n ts) bits)) in
    let long = bits_for_long fs at ts (omega arith) in
    let far : at + length here ≡ at + length fs = ap (λ (c : ℕ). at + c) long in
    rw (flipped_none here fs are none, far, ← drop-drop (length fs) at ts, take-append-drop (length fs) (drop at ts)) (take-append-drop at ts)

-- flips of the front of a buffer
pub flips_at_front :
    (fs ts b : List ℕ) → length fs ≡ length ts → flips_at 0 fs (over ts b) ≡ over (flipped ts fs) b
unfolding flips_at
flips_at_front fs ts b e =
    let here : bits_for fs 0 (over ts b) ≡ ts = take_at ts (drop (length ts) b) (length fs) (sym e) in
    ap (λ (l : List ℕ). put_at 0 (flipped l fs) (over ts b)) here
    ∙ put_zero (flipped ts fs) (over ts b)
    ∙ over_over ts (flipped ts fs) b (omega (arith, flipped_length ts fs))

-- the first n stay bits
bits_set : (v : ℕ) (i : ℕ) (bs : List ℕ) → v ≤ 1 → Bits bs → Bits (set bs i v)
bits_set v i [] h hs = hs
bits_set v zero (b ∷ bs) h hs = bits_cons v bs h (λ j. hs (suc j))
bits_set v (suc i) (b ∷ bs) h hs = bits_cons b (set bs i v) (hs 0) (bits_set v i bs h (λ j. hs (suc j)))

pub flips_at_bits :
    (at f n : ℕ) (ts : List ℕ) → at < n → n ≤ length ts → Bits (take n ts) → Bits (take n (flips_at at (f ∷ []) ts))
flips_at_bits at f n ts h l bits =
    rw (← flips_at_one at f ts (omega arith), take-set-lt n ts at (xor (get_or ts at 0) f) h)
    (bits_set (xor (get_or ts at 0) f) at (take n ts) (omega arith) bits)

zeros : (i : ℕ) → ◌≡◌ {A = ℕ} (get_or (0 ∷ []) i 0) 0
zeros zero = refl
zeros (suc i) = refl

-- number k alone
pub flips_at_only :
    (c s k d at n : ℕ) (ts : List ℕ) → s ≤ k → k < s + c → at + c ≤ n → n ≤ length ts → Bits (take n ts)
    → flips_at at (up_from c s (only_at k d)) ts ≡ flips_at (at + (k - s)) (d ∷ []) ts
unfolding up_from
flips_at_only zero s k d at n ts h l room fits bits = absurd (omega arith)
flips_at_only (suc c) s k d at n ts h l room fits bits =
    go (eqb s k) refl (λ past. flips_at_only c (suc s) k d (at + 1) n ts (omega arith) (omega arith) (omega arith) fits bits)
  where
    rest : List ℕ
    rest = up_from c (suc s) (only_at k d)

    later : (f : ℕ) → flips_at (at + 1) rest (flips_at at (f ∷ []) ts) ≡ flips_at at (f ∷ rest) ts
    later f = flips_at_append at (f ∷ []) rest ts (omega arith)

    long : length rest ≡ c
    long = up_length c (suc s) (only_at k d)

    go :
        (t : Bool) → eqb s k ≡ t → (s < k → flips_at (at + 1) rest ts ≡ flips_at (at + 1 + (k - suc s)) (d ∷ []) ts)
        → flips_at at (only_at k d s ∷ rest) ts ≡ flips_at (at + (k - s)) (d ∷ []) ts
    go true e next =
        let here : s ≡ k = eqb-true s k e in
        let value : only_at k d s ≡ d = rw e in
        let one = flips_at at (d ∷ []) ts in
        ap (λ (f : ℕ). flips_at at (f ∷ rest) ts) value
        ∙ sym (later d)
        ∙ flips_at_none (at + 1) n rest one
        (omega (arith, long))
        (omega (arith, flips_at_length at (d ∷ []) ts (omega arith)))
        (flips_at_bits at d n ts (omega arith) fits bits)
        (only_after c (suc s) k d (omega arith))
        ∙ ap (λ (p : ℕ). flips_at p (d ∷ []) ts) {x = at} {y = at + (k - s)} (omega arith)
    go false e next =
        let past = eqb-false s k e in
        let value : only_at k d s ≡ 0 = rw e in
        ap (λ (f : ℕ). flips_at at (f ∷ rest) ts) value
        ∙ sym (later 0)
        ∙ ap (flips_at (at + 1) rest) (flips_at_none at n (0 ∷ []) ts (omega arith) fits bits zeros)
        ∙ next (omega (arith, past))
        ∙ ap (λ (p : ℕ). flips_at p (d ∷ []) ts) {x = at + 1 + (k - suc s)} {y = at + (k - s)} (omega arith)

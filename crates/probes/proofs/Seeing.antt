-- The free share: the smallest number that is not seen, where the numbers seen are those that the probes carry.
-- Assumes nothing.
use mathlib.Core.Path.{◌≡◌, refl, sym, ◌∙◌}
use mathlib.Core.Bool.{Bool, true, false, ◌||◌}
use mathlib.Core.List.{List, [], ◌∷◌, ◌++◌, append_assoc, append-nil}
use Prim.Native.Nat.{ℕ, zero, suc, ◌+◌, ◌≤◌, ◌<◌}
use native.Mathlib.Nat.{add-zero, add-suc, suc-add}
use native.Mathlib.Numerals.{add-one}
use native.Mathlib.Omega.{arith}
use lib.Dec.{eqb}
use lib.ListN.{length, get_or, take, drop, set, length-set, replicate, length-replicate, get_or-replicate, length-drop}
use lib.Seq.{get_or-set_same, get_or-set_other, get_or-take, get_or-drop, take-suc, length-take-le}
use borrow.Author.Tests.{eqb-true, eqb-false}
use Rattle.std.specs.Prelude.{Option, Some, None, MatchOption}
use Rattle.std.specs.Option.{unwrap_or}
use Rattle.std.specs.List.{AllWithin, HoldsAt}
use Rattle.tables.specs.Runs.{of_each}
use Rattle.tables.proofs.Lists.{all_get_d}
use Rattle.construction.specs.Gadgets.{is_in}
use Rattle.construction.specs.declared.Carried as DCarried
use Rattle.origins.specs.Origins.{second_in, CarriedSays}
use Rattle.secrecy.specs.Maps.{free_from}
use Rattle.secrecy.specs.Claims.{all_below}
use Rattle.secrecy.proofs.Bits.{all_below_lem}
use Rattle.secrecy.proofs.Free.{free_past, free_here, is_in_join}
use Rattle.probes.specs.Seeing.{Seen}

-- the first of c numbers from k on that is not in the list is i numbers further
free_at :
    (c k i : ℕ) (cs : List ℕ) → i ≤ c → ((j : ℕ) → j < i → is_in (k + j) cs ≡ true) → (i < c → is_in (k + i) cs ≡ false)
    → free_from c k cs ≡ k + i
unfolding free_from
free_at zero k i cs h before here = omega arith
free_at (suc c) k zero cs h before here = free_here c k cs (rw add-zero at (here (omega arith))) ∙ omega arith
free_at (suc c) k (suc i) cs h before here =
    let next : k + suc i ≡ suc k + i = omega arith in
    let first : is_in k cs ≡ true = rw add-zero at (before 0 (omega arith)) in
    free_past c k cs first
    ∙ rw next
    (free_at c (suc k) i cs (omega arith)
    (λ j l. rw (suc-add, ← add-suc) (before (suc j) (omega arith)))
    (λ l. rw (suc-add, ← add-suc) (here (omega arith))))

-- what is found among the flags of 1 to n
module _ (cs : List ℕ) (seen : List Bool) (S : Seen cs seen) (n : ℕ) (few : n ≤ 31) (w : ℕ) (e : w ≡ n) where
  abbrev flags : List Bool
  flags = take w (drop 1 seen)

  flag : (j : ℕ) → j < n → get_or flags j false ≡ is_in (1 + j) cs
  flag j h =
      get_or-take w (drop 1 seen) j false (omega arith)
      ∙ get_or-drop 1 seen j false
      ∙ S.marked (1 + j) (omega arith) (omega arith)

  long : length flags ≡ n
  long = length-take-le w (drop 1 seen) (omega (arith, S.long, length-drop 1 seen)) ∙ e

  pub free_found :
      {m : ℕ} (r : Option ℕ)
      → MatchOption r
      (AllWithin (λ b. b ≡ true) flags 0 (length flags))
      (λ i. (i < length flags) × HoldsAt (λ b. b ≡ false) flags i × AllWithin (λ b. b ≡ true) flags 0 i)
      → m ≡ unwrap_or r n + 1 → m ≡ free_from n 1 cs
  free_found None h e =
      let found =
      free_at n 1 n cs (omega arith) (λ j l. sym (flag j l) ∙ h j false (omega arith) (omega (arith, long)))
      (λ l. absurd (omega arith)) in
      omega (arith, found, e)
  free_found (Some i) h e =
      let within : i < n = omega (arith, h.0, long) in
      let found =
      free_at n 1 i cs (omega arith) (λ j l. sym (flag j (omega arith)) ∙ h.2 j false (omega arith) l)
      (λ l. sym (flag i l) ∙ h.1 false) in
      omega (arith, found, e)

-- a number marked
mark_one :
    (seen : List Bool) (m i : ℕ) → i < length seen → get_or (set seen m true) i false ≡ eqb i m || get_or seen i false
mark_one seen m i h = go (eqb i m) refl
  where
    go : (t : Bool) → eqb i m ≡ t → get_or (set seen m true) i false ≡ t || get_or seen i false
    go true e = rw (← eqb-true i m e) (get_or-set_same seen i true false h)
    go false e = get_or-set_other seen m i true false (eqb-false i m e)

-- both numbers of a wire marked, a single one twice
mark_both :
    (seen : List Bool) (ms : List ℕ) (i : ℕ) → length ms ≤ 2 → 1 ≤ i → i < length seen
    → get_or (set (set seen (get_or ms 0 0) true) (unwrap_or (second_in ms) (get_or ms 0 0)) true) i false
    ≡ is_in i ms || get_or seen i false
mark_both seen [] i few h l =
    get_or-set_other (set seen 0 true) 0 i true false (λ e. omega arith) ∙ get_or-set_other seen 0 i true false (λ e. omega arith)
mark_both seen (a ∷ []) i few h l =
    mark_one (set seen a true) a i (simp length-set l) ∙ rw (mark_one seen a i l) (twice (eqb i a) (get_or seen i false))
  where
    twice : (t v : Bool) → t || (t || v) ≡ (t || false) || v
    twice true v = refl
    twice false v = refl
mark_both seen (a ∷ b ∷ []) i few h l =
    mark_one (set seen a true) b i (simp length-set l)
    ∙ rw (mark_one seen a i l) (swap (eqb i a) (eqb i b) (get_or seen i false))
  where
    swap : (t u v : Bool) → u || (t || v) ≡ (t || (u || false)) || v
    swap true true v = refl
    swap true false v = refl
    swap false true v = refl
    swap false false v = refl
mark_both seen (a ∷ b ∷ c ∷ ms) i few h l = absurd (omega arith)

-- nothing is marked yet
pub marking_start : Seen [] (replicate 256 false)
marking_start = record { long = length-replicate 256 false; marked = λ i h l. get_or-replicate 256 i false false l }

-- one probe more
of_each_next :
    (f : ℕ → List ℕ) (ps : List ℕ) (j : ℕ) → j < length ps → of_each f (take (j + 1) ps) ≡ of_each f (take j ps) ++ f (get_or ps j 0)
unfolding of_each
of_each_next f ps j h = rw (add-one, take-suc ps j 0 h) (go (take j ps))
  where
    go : (qs : List ℕ) → of_each f (qs ++ (get_or ps j 0 ∷ [])) ≡ of_each f qs ++ f (get_or ps j 0)
    go [] = append-nil (f (get_or ps j 0))
    go (q ∷ qs) = rw (go qs) (sym (append_assoc (f q) (of_each f qs) (f (get_or ps j 0))))

or_swap : (t u : Bool) → t || u ≡ u || t
or_swap true true = refl
or_swap true false = refl
or_swap false true = refl
or_swap false false = refl

pub marking_turn :
    (f : ℕ → List ℕ) (ps : List ℕ) (seen : List Bool) (j : ℕ) {r : DCarried.Carried} {b : ℕ} {t : Bool}
    → Seen (of_each f (take j ps)) seen → j < length ps → length (f (get_or ps j 0)) ≤ 2
    → CarriedSays (f (get_or ps j 0)) r → b ≡ unwrap_or r.second r.first → t ≡ true
    → Seen (of_each f (take (j + 1) ps)) (set (set seen r.first true) b t)
marking_turn f ps seen j {r} {b} S h two C e on =
    let ms = f (get_or ps j 0) in
    record {
      long = simp length-set S.long;
      marked = λ i l m.
          let both = mark_both seen ms i two l (omega (arith, S.long)) in
          rw (e, on, C.first, C.second, both, of_each_next f ps j h, is_in_join i (of_each f (take j ps)) ms, S.marked i l m)
          (or_swap (is_in i ms) (is_in i (of_each f (take j ps))));
    }

-- a probe is a wire
pub probe_below : (w : ℕ) (ps : List ℕ) (j : ℕ) → all_below w ps ≡ true → j < length ps → get_or ps j 0 < w
probe_below w ps j h l = all_get_d (λ p. p < w) ps j 0 (all_below_lem w ps h) l

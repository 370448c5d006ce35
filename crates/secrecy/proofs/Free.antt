-- A free share exists: of n numbers fewer than n are carried, so looking from the first one finds one that is not.
-- The count is of numbers and not of marks, so that a number carried twice counts once.
-- Assumes nothing.
use mathlib.Core.Path.{◌≡◌, refl, sym, ◌∙◌}
use mathlib.Core.Bool.{Bool, true, false, ◌||◌, cond}
use mathlib.Core.List.{List, [], ◌∷◌, ◌++◌}
use Prim.Native.Nat.{ℕ, zero, suc, ◌+◌, ◌*◌, ◌≤◌, ◌<◌}
use native.Mathlib.Omega.{arith}
use lib.Dec.{eqb}
use lib.ListN.{length, length-append}
use borrow.Author.Tests.{eqb-true, eqb-false, ne_eqb}
use Rattle.tables.specs.Runs.{of_each}
use Rattle.tables.proofs.Tests.{or_false}
use Rattle.tables.proofs.Lists.{All}
use Rattle.construction.specs.Shares.{shares_of}
use Rattle.construction.specs.Gadgets.{is_in, Gadget}
use Rattle.construction.specs.Wires.{Part, pair, own, sum, left_not, right_not, last_not, in_and, Origin, input_share, not_of, xor_share, and_part}
use Rattle.construction.specs.Wires.{constant_share, or_part, part_marks, marks}
use Rattle.construction.proofs.Lawful.{Lawful}
use Rattle.secrecy.specs.Maps.{free_from}
use Rattle.secrecy.specs.Laws.{Free}

-- how many of the c numbers from k on are in the list
unfoldable pub carried_count : ℕ → ℕ → List ℕ → ℕ
carried_count zero k cs = 0
carried_count (suc c) k cs = cond (is_in k cs) 1 0 + carried_count c (suc k) cs

-- looking goes on past a number that is in the list, and ends at one that is not
pub free_past : (c k : ℕ) (cs : List ℕ) → is_in k cs ≡ true → free_from (suc c) k cs ≡ free_from c (suc k) cs
unfolding free_from
free_past c k cs e = rw (e, free_from)

pub free_here : (c k : ℕ) (cs : List ℕ) → is_in k cs ≡ false → free_from (suc c) k cs ≡ k
unfolding free_from
free_here c k cs e = rw (e, free_from)

-- where fewer than c of the c numbers from k on are in the list, the number found is one of them that is not in the list, and
-- every smaller one is
free_found :
    (c k : ℕ) (cs : List ℕ) → carried_count c k cs < c
    → (k ≤ free_from c k cs)
    × (free_from c k cs < k + c)
    × (is_in (free_from c k cs) cs ≡ false)
    × ((i : ℕ) → k ≤ i → i < free_from c k cs → is_in i cs ≡ true)
unfolding carried_count
free_found zero k cs h = absurd (omega arith)
free_found (suc c) k cs h = go (is_in k cs) refl h (free_found c (suc k) cs)
  where
    go :
        (t : Bool) → is_in k cs ≡ t → cond t 1 0 + carried_count c (suc k) cs < suc c
        → (carried_count c (suc k) cs < c
        → (suc k ≤ free_from c (suc k) cs)
        × (free_from c (suc k) cs < suc k + c)
        × (is_in (free_from c (suc k) cs) cs ≡ false)
        × ((i : ℕ) → suc k ≤ i → i < free_from c (suc k) cs → is_in i cs ≡ true))
        → (k ≤ free_from (suc c) k cs)
        × (free_from (suc c) k cs < k + suc c)
        × (is_in (free_from (suc c) k cs) cs ≡ false)
        × ((i : ℕ) → k ≤ i → i < free_from (suc c) k cs → is_in i cs ≡ true)
    go true e few later =
        let found = later (omega arith) in
        rw (free_past c k cs e) (omega (arith, found.0), omega (arith, found.1), found.2, λ i h l. at i h l (eqb k i) refl)
      where
        at : (i : ℕ) → k ≤ i → i < free_from c (suc k) cs → (t : Bool) → eqb k i ≡ t → is_in i cs ≡ true
        at i h l true q = rw (← eqb-true k i q) e
        at i h l false q = (later (omega arith)).3 i (omega (arith, eqb-false k i q)) l
    go false e few later = rw (free_here c k cs e) (omega arith, omega arith, e, λ i h l. absurd (omega arith))

pub is_in_join : (k : ℕ) (xs ys : List ℕ) → is_in k (xs ++ ys) ≡ is_in k xs || is_in k ys
is_in_join k [] ys = refl
is_in_join k (x ∷ xs) ys = go (eqb k x) (is_in_join k xs ys)
  where
    go : (t : Bool) → is_in k (xs ++ ys) ≡ is_in k xs || is_in k ys → t || is_in k (xs ++ ys) ≡ (t || is_in k xs) || is_in k ys
    go true e = refl
    go false e = e

is_in_append : (k : ℕ) (xs ys : List ℕ) → is_in k (xs ++ ys) ≡ false → (is_in k xs ≡ false) × (is_in k ys ≡ false)
is_in_append k xs ys h = or_false (is_in k xs) (is_in k ys) (sym (is_in_join k xs ys) ∙ h)

count_append :
    (c k : ℕ) (xs ys : List ℕ) → carried_count c k (xs ++ ys) ≤ carried_count c k xs + carried_count c k ys
unfolding carried_count
count_append zero k xs ys = omega arith
count_append (suc c) k xs ys =
    let one = cond_or (is_in k xs) (is_in k ys) in
    let rest = count_append c (suc k) xs ys in
    rw (is_in_join k xs ys) (omega arith)
  where
    cond_or : (a b : Bool) → cond {A = ℕ} (a || b) 1 0 ≤ cond a 1 0 + cond b 1 0
    cond_or true b = omega arith
    cond_or false b = omega arith

count_nil : (c k : ℕ) → carried_count c k [] ≡ 0
unfolding carried_count
count_nil zero k = refl
count_nil (suc c) k = omega (arith, count_nil c (suc k))

-- a number before k is none of those counted
count_before : (c k x : ℕ) → x < k → carried_count c k (x ∷ []) ≡ 0
unfolding carried_count
count_before zero k x h = refl
count_before (suc c) k x h =
    let other : eqb k x ≡ false = ne_eqb k x (λ e. omega arith) in
    rw other (omega (arith, count_before c (suc k) x (omega arith)))

-- a number is counted at most once
count_one : (c k x : ℕ) → carried_count c k (x ∷ []) ≤ 1
unfolding carried_count
count_one zero k x = omega arith
count_one (suc c) k x = go (eqb k x) refl (count_one c (suc k) x)
  where
    go :
        (t : Bool) → eqb k x ≡ t → carried_count c (suc k) (x ∷ []) ≤ 1
        → cond (t || false) 1 0 + carried_count c (suc k) (x ∷ []) ≤ 1
    go true e h = omega (arith, eqb-true k x e, count_before c (suc k) x (omega (arith, eqb-true k x e)))
    go false e h = omega arith

count_length : (c k : ℕ) (cs : List ℕ) → carried_count c k cs ≤ length cs
count_length c k [] = omega (arith, count_nil c k)
count_length c k (x ∷ cs) =
    omega (arith, count_append c k (x ∷ []) cs, count_one c k x, count_length c k cs)

-- each probe gives at most m numbers
each_length :
    (f : ℕ → List ℕ) (m : ℕ) (ps : List ℕ) → All (λ p. length (f p) ≤ m) ps → length (of_each f ps) ≤ m * length ps
unfolding of_each All
each_length f m [] few = omega arith
each_length f m (p ∷ ps) few = simp length-append (omega (arith, few.0, each_length f m ps few.1))

-- a number that no probe gives is given by none of them
pub uncarried_each :
    (f : ℕ → List ℕ) (k : ℕ) (ps : List ℕ) → is_in k (of_each f ps) ≡ false → All (λ p. is_in k (f p) ≡ false) ps
unfolding of_each All
uncarried_each f k [] h = tt
uncarried_each f k (p ∷ ps) h =
    let both = is_in_append k (f p) (of_each f ps) h in
    (both.0, uncarried_each f k ps both.1)

part_marks_two : {G : Gadget} → Lawful G → (p : Part) → length (part_marks G p) ≤ 2
part_marks_two L (pair f i j) = L.few_marks (suc i) (suc j) f
part_marks_two L (own i) = omega arith
part_marks_two L (sum i m) = omega arith

-- a wire of a masked table has one or two marks
pub marks_two : {G : Gadget} → Lawful G → (x : Origin) → length (marks G x) ≤ 2
marks_two L (input_share i s) = omega arith
marks_two L (not_of g) = omega arith
marks_two L (xor_share g s) = omega arith
marks_two L (and_part g p) = part_marks_two L p
marks_two L (constant_share g s) = omega arith
marks_two L (or_part g left_not) = omega arith
marks_two L (or_part g right_not) = omega arith
marks_two L (or_part g last_not) = omega arith
marks_two L (or_part g (in_and p)) = part_marks_two L p

-- where fewer than n of the numbers 1 to n are carried, the free share is one of them
pub free_laws : (n : ℕ) (cs : List ℕ) → carried_count n 1 cs < n → Free n cs (free_from n 1 cs)
free_laws n cs few =
    let found = free_found n 1 cs few in
    record { from_1 = found.0; to_n = omega (arith, found.1); uncarried = found.2; smallest = found.3 }

-- t probes with at most two marks each carry at most 2t of the 2t + 1 share numbers
pub few_carried :
    (f : ℕ → List ℕ) (o : ℕ) (ps : List ℕ) → All (λ p. length (f p) ≤ 2) ps → length ps ≤ o
    → carried_count (shares_of o) 1 (of_each f ps) < shares_of o
few_carried f o ps two h = omega (arith, count_length (shares_of o) 1 (of_each f ps), each_length f 2 ps two)

-- The marks of a probe are those of the wires that it reads: two at most, ascending, none lost and none added.
-- Assumes nothing.
use mathlib.Core.Path.{◌≡◌, refl, sym, ◌∙◌}
use mathlib.Core.Bool.{Bool, true, false, ◌&&◌, cond}
use mathlib.Core.List.{List, [], ◌∷◌}
use Prim.Native.Nat.{ℕ, ◌<◌}
use native.Mathlib.Omega.{arith}
use lib.Dec.{eqb, ltb}
use borrow.Author.Tests.{eqb-false, ltb-false, lt-ltb}
use Rattle.tables.specs.Tables.{Table, wires}
use Rattle.tables.specs.Runs.{probe_reads, of_each}
use Rattle.tables.proofs.Tests.{and_true, and_intro}
use Rattle.tables.proofs.Accept.{Plain}
use Rattle.construction.specs.Gadgets.{Gadget}
use Rattle.construction.specs.Wires.{masked_table, insert, joined, wire_marks, probe_marks}
use Rattle.construction.proofs.Lawful.{Lawful}
use Rattle.construction.proofs.Joined.{joined_in}
use Rattle.construction.proofs.Pins.{probe_marks_lem}
use Rattle.secrecy.specs.Laws.{rising, Joins}

-- a number before all of an ascending list
abbrev before : ℕ → List ℕ → Bool
before x [] = true
before x (y ∷ ys) = ltb x y

rising_cons : (x : ℕ) (xs : List ℕ) → rising (x ∷ xs) ≡ before x xs && rising xs
rising_cons x [] = refl
rising_cons x (y ∷ ys) = refl

insert_before : (x m : ℕ) (xs : List ℕ) → x < m → before x xs ≡ true → before x (insert m xs) ≡ true
unfolding insert
insert_before x m [] h e = lt-ltb x m h
insert_before x m (y ∷ ys) h e = go (eqb m y) (ltb m y)
  where
    go : (s t : Bool) → before x (cond s (y ∷ ys) (cond t (m ∷ y ∷ ys) (y ∷ insert m ys))) ≡ true
    go true t = e
    go false true = lt-ltb x m h
    go false false = e

insert_rising : (m : ℕ) (xs : List ℕ) → rising xs ≡ true → rising (insert m xs) ≡ true
unfolding insert
insert_rising m [] h = refl
insert_rising m (x ∷ xs) h = go (eqb m x) refl (ltb m x) refl (insert_rising m xs)
  where
    go : (s : Bool) → eqb m x ≡ s → (t : Bool) → ltb m x ≡ t → (rising xs ≡ true → rising (insert m xs) ≡ true)
        → rising (cond s (x ∷ xs) (cond t (m ∷ x ∷ xs) (x ∷ insert m xs))) ≡ true
    go true e t f later = h
    go false e true f later = and_intro (ltb m x) (rising (x ∷ xs)) f h
    go false e false f later =
        let both = and_true (before x xs) (rising xs) (sym (rising_cons x xs) ∙ h) in
        let past : x < m = omega (arith, eqb-false m x e, ltb-false m x f) in
        rising_cons x (insert m xs) ∙ and_intro _ _ (insert_before x m xs past both.0) (later both.1)

joined_rising : (ms : List ℕ) → rising (joined ms) ≡ true
unfolding joined
joined_rising [] = refl
joined_rising (m ∷ ms) = insert_rising m (joined ms) (joined_rising ms)

pub joins :
    {G : Gadget} (L : Lawful G) (o : ℕ) (t : Table) → Plain t → (w : ℕ) → w < wires (masked_table G o t)
    → Joins (of_each (wire_marks G o t) (probe_reads (masked_table G o t) w)) (probe_marks G o t w)
unfolding probe_marks
joins {G} L o t P w h =
    let cs = of_each (wire_marks G o t) (probe_reads (masked_table G o t) w) in
    record { two = (probe_marks_lem L o t P w h).1; ascending = joined_rising cs; same = λ k. joined_in k cs }

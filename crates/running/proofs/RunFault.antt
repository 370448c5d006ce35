-- The refusals of a run, by the sizes and counts that the code reads.
-- Assumes nothing.
use mathlib.Core.Path.{◌≡◌, refl, ap, ◌∙◌}
use mathlib.Core.Bool.{true, false, ◌&&◌, ◌||◌}
use mathlib.Core.List.{List, [], ◌∷◌}
use Prim.Native.Nat.{ℕ, ◌+◌, ◌≤◌, ◌<◌}
use native.Mathlib.Omega.{arith}
use lib.Dec.{eqb, ltb}
use lib.ListN.{length}
use borrow.Author.Tests.{eq-eqb, ne_eqb, lt-ltb, le-ltb}
use Rattle.tables.specs.Refusals.{fault, none, passed, or_else, bad_bit}
use Rattle.tables.specs.Tables.{wires, word, table_of, table_fault}
use Rattle.tables.specs.Runs.{randoms}
use Rattle.tables.specs.Packing.{bytes_for, spare_fault}
use Rattle.tables.specs.Says.{supplied_fault, lent_fault}
use mathlib.Core.Bool.{Bool}
use Rattle.tables.proofs.Accept.{accepted_long, has_gates, inputs_of, gates_of_length, outputs_of_length, wires_of, accepted_few}
use Rattle.tables.proofs.Total.{count_randoms, count_small}
use Rattle.counts.specs.declared.ThreeKinds as DThreeKinds
use Rattle.tables.specs.declared.Kind as DKind
use Rattle.tables.specs.declared.Kind.TheVariants.{Random, Constant, Or}
use Rattle.counts.specs.Three.{three_of}

and_false : (b : Bool) → b && false ≡ false
and_false true = refl
and_false false = refl

or_true : (b : Bool) → b || true ≡ true
or_true true = refl
or_true false = refl

-- the kinds of which the first is the random one
abbrev pub random_first : List DKind.Kind
random_first = Random ∷ Constant ∷ Or ∷ []

-- an accepted table has few random gates
pub few_randoms :
    (s : List ℕ) {c : DThreeKinds.ThreeKinds} → passed (table_fault s) ≡ true → c ≡ three_of random_first (table_of s).gates
    → c.first ≤ 65535
few_randoms s h e =
    omega (
      arith,
      ap (λ (x : DThreeKinds.ThreeKinds). x.first) e,
      count_small 3 (table_of s).gates,
      gates_of_length s,
      accepted_few s h,
    )

pub randoms_are :
    (s : List ℕ) {c : DThreeKinds.ThreeKinds} → c ≡ three_of random_first (table_of s).gates → c.first ≡ randoms (table_of s).gates
randoms_are s e = ap (λ (x : DThreeKinds.ThreeKinds). x.first) e ∙ count_randoms (table_of s).gates

-- the inputs are counted wrong, the random bits are, or neither
pub inputs_wrong : (s xs rs : List ℕ) → (length xs ≡ word s 0 → ⊥) → supplied_fault (table_of s) xs rs ≡ fault 10 0
unfolding supplied_fault
inputs_wrong s xs rs h = rw (inputs_of s, ne_eqb (length xs) (word s 0) h)

pub random_wrong :
    (s xs rs : List ℕ) {c : DThreeKinds.ThreeKinds} → c ≡ three_of random_first (table_of s).gates
    → (length rs ≡ bytes_for c.first → ⊥) → supplied_fault (table_of s) xs rs ≡ fault 10 0
unfolding supplied_fault
random_wrong s xs rs {c} e h =
    let n = randoms (table_of s).gates in
    let wrong : eqb (length rs) (bytes_for n) ≡ false = rw (← randoms_are s e) (ne_eqb (length rs) (bytes_for c.first) h) in
    rw (wrong, and_false (eqb (length xs) (table_of s).inputs))

pub counted_right :
    (s xs rs : List ℕ) {c : DThreeKinds.ThreeKinds} → c ≡ three_of random_first (table_of s).gates
    → length xs ≡ word s 0 → length rs ≡ bytes_for c.first
    → supplied_fault (table_of s) xs rs ≡ or_else (bad_bit 0 xs) (spare_fault (length xs) c.first rs)
unfolding supplied_fault
counted_right s xs rs {c} e i r =
    rw (inputs_of s, ← randoms_are s e, eq-eqb (length xs) (word s 0) i, eq-eqb (length rs) (bytes_for c.first) r)

pub ruleset supplied_laws = (accepted_long, has_gates, inputs_wrong, random_wrong, counted_right)

-- buffers that are too short, and long enough
pub values_short : (s : List ℕ) (a b : ℕ) → a < word s 0 + word s 2 → lent_fault (table_of s) a b ≡ fault 9 0
unfolding lent_fault
values_short s a b h = rw (wires_of s, lt-ltb a (word s 0 + word s 2) h)

pub outputs_short : (s : List ℕ) (a b : ℕ) → b < word s 4 → lent_fault (table_of s) a b ≡ fault 9 0
unfolding lent_fault
outputs_short s a b h = rw (outputs_of_length s, lt-ltb b (word s 4) h, or_true (ltb a (wires (table_of s))))

pub long_enough : (s : List ℕ) (a b : ℕ) → word s 0 + word s 2 ≤ a → word s 4 ≤ b → lent_fault (table_of s) a b ≡ none
unfolding lent_fault
long_enough s a b h k = rw (wires_of s, outputs_of_length s, le-ltb a (word s 0 + word s 2) h, le-ltb b (word s 4) k)

pub ruleset lent_laws = (accepted_long, values_short, outputs_short, long_enough)

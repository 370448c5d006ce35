-- What an accepted table is: the checks that passed, read as facts on its sizes, its gates and its outputs.
-- Assumes nothing.
use mathlib.Core.Path.{◌≡◌, refl, ap}
use mathlib.Core.Bool.{Bool, true, false, ◌&&◌, ◌||◌, not, cond}
use mathlib.Core.List.{List, [], ◌∷◌}
use Prim.Native.Nat.{ℕ, zero, suc, ◌+◌, ◌≤◌, ◌<◌}
use native.Mathlib.Omega.{arith}
use lib.Dec.{eqb, ltb}
use lib.ListN.{length, drop}
use borrow.Author.Tests.{ltb-true, ltb-false, eqb-true, eqb-false, not-false}
use Rattle.tables.specs.Refusals.{Fault, fault, none, passed, or_else, refused_if}
use Rattle.tables.specs.Tables.{Kind, Gate, Table, wires}
use Rattle.tables.specs.Tables.{word, gates_from, words_from, table_of, table_long, known, Operands, none_read, left_read}
use Rattle.tables.specs.Tables.{both_read, value_stated, operands_of, operands_ok, gate_fault, gates_fault, outputs_fault}
use Rattle.tables.specs.Tables.{sizes_bad, table_fault, is_random, random_fault}
use Rattle.tables.specs.Inside.{HasGates, HasOutputs}
use Rattle.tables.proofs.Tests.{and_true, or_false, both_passed, not_refused}
use Rattle.tables.proofs.Lists.{All}
use Rattle.tables.proofs.Run.{ReadBefore, Reads, Earlier}

-- a kind that a plain table may have
abbrev pub is_plain : Kind → Bool
is_plain k = known k && not (is_random k)

-- a fact of what passed a test
abbrev pub Given : Bool → Type 0 → Type 0
Given true A = A
Given false A = ⊥

-- a plain gate that drives wire w
abbrev pub PlainGate : ℕ → Kind → ℕ → ℕ → Type 0
PlainGate w k l r = Given (is_plain k) (Reads w k l r)

-- plain gates that drive the wires from w on
unfoldable pub PlainGates : ℕ → List Gate → Type 0
PlainGates w [] = Unit {0}
PlainGates w (g ∷ gs) = PlainGate w g.kind g.left g.right × PlainGates (suc w) gs

-- a table that can be masked
pub record Plain (t : Table) : Type 0 where
  pub some_input : 1 ≤ t.inputs
  pub some_output : 1 ≤ length t.outputs
  pub gates : PlainGates t.inputs t.gates
  pub outputs : All (λ o. o < wires t) t.outputs

pub given : (b : Bool) {A : Type 0} → Given b A → (b ≡ true) × A
given true h = (refl, h)
given false h = absurd h

pub plain_reads : (w : ℕ) (k : Kind) (l r : ℕ) → PlainGate w k l r → Reads w k l r
plain_reads w k l r h = (given (is_plain k) h).1

pub plain_earlier : (w : ℕ) (gs : List Gate) → PlainGates w gs → Earlier w gs
unfolding PlainGates Earlier
plain_earlier w [] h = tt
plain_earlier w (g ∷ gs) h =
    (plain_reads w g.kind g.left g.right h.0, plain_earlier (suc w) gs h.1)

gates_length : (n : ℕ) (ks ps : List ℕ) → length (gates_from n ks ps) ≡ n
unfolding gates_from
gates_length zero ks ps = refl
gates_length (suc n) ks ps = ap suc (gates_length n (drop 1 ks) (drop 4 ps))

words_length : (n : ℕ) (s : List ℕ) → length (words_from n s) ≡ n
unfolding words_from
words_length zero s = refl
words_length (suc n) s = ap suc (words_length n (drop 2 s))

pub inputs_of : (s : List ℕ) → (table_of s).inputs ≡ word s 0
unfolding table_of
inputs_of s = refl

pub gates_of_length : (s : List ℕ) → length (table_of s).gates ≡ word s 2
unfolding table_of
gates_of_length s = gates_length (word s 2) _ _

pub outputs_of_length : (s : List ℕ) → length (table_of s).outputs ≡ word s 4
unfolding table_of
outputs_of_length s = words_length (word s 4) _

-- the numbers of gates and outputs that were read
pub gates_are : {s : List ℕ} {g : ℕ} → HasGates s g → length (table_of s).gates ≡ g
gates_are {s} {g} H = omega (arith, gates_of_length s, H.stated)

pub outputs_are : {s : List ℕ} {g q : ℕ} → HasOutputs s g q → length (table_of s).outputs ≡ q
outputs_are {s} {g} {q} H = omega (arith, outputs_of_length s, H.outputs)

pub wires_of : (s : List ℕ) → wires (table_of s) ≡ word s 0 + word s 2
wires_of s = omega (arith, inputs_of s, gates_of_length s)

-- what the checks of a table that passed say
pub record Accepted (s : List ℕ) : Type 0 where
  pub some_input : 1 ≤ (table_of s).inputs
  pub some_output : 1 ≤ length (table_of s).outputs
  pub few_wires : wires (table_of s) ≤ 65535
  pub long : length s ≡ table_long (length (table_of s).gates) (length (table_of s).outputs)
  pub gates : passed (gates_fault 0 (table_of s).inputs (table_of s).gates) ≡ true
  pub outputs : passed (outputs_fault 0 (wires (table_of s)) (table_of s).outputs) ≡ true

pub sizes_good : (n g o : ℕ) → sizes_bad n g o ≡ false → (1 ≤ n) × ((1 ≤ o) × (n + g ≤ 65535))
sizes_good n g o h =
    let a = or_false (eqb n 0) (eqb o 0 || ltb 65535 (n + g)) h in
    let b = or_false (eqb o 0) (ltb 65535 (n + g)) a.1 in (
      omega (arith, eqb-false n 0 a.0),
      (omega (arith, eqb-false o 0 b.0), ltb-false 65535 (n + g) b.1),
    )

pub accepted : (s : List ℕ) → passed (table_fault s) ≡ true → Accepted s
unfolding table_fault
accepted s h =
    let n = word s 0 in
    let g = word s 2 in
    let o = word s 4 in
    let sizes = sizes_bad n g o in
    let long = eqb (length s) (table_long g o) in
    let gates = gates_fault 0 n (table_of s).gates in
    let outputs = outputs_fault 0 (n + g) (table_of s).outputs in
    let inner = or_else gates outputs in
    let mid = or_else (refused_if (not long) 1) inner in
    let a = both_passed (refused_if (ltb (length s) 6) 1) (or_else (refused_if sizes 2) mid) h in
    let b = both_passed (refused_if sizes 2) mid a.1 in
    let d = both_passed (refused_if (not long) 1) inner b.1 in
    let e = both_passed gates outputs d.1 in
    let z = sizes_good n g o (not_refused sizes 2 refl b.0) in
    let l = eqb-true (length s) (table_long g o) (not-false long (not_refused (not long) 1 refl d.0)) in
    record {
      some_input = rw inputs_of z.0;
      some_output = rw outputs_of_length z.1.0;
      few_wires = rw wires_of z.1.1;
      long = rw (gates_of_length, outputs_of_length) l;
      gates = rw inputs_of e.0;
      outputs = rw wires_of e.1;
    }

-- the same of the fields that the bytes have
module _ (s : List ℕ) (h : passed (table_fault s) ≡ true) where
  pub accepted_long : length s ≡ table_long (word s 2) (word s 4)
  accepted_long = omega (arith, (accepted s h).long, gates_of_length s, outputs_of_length s)

  pub accepted_few : word s 0 + word s 2 ≤ 65535
  accepted_few = omega (arith, (accepted s h).few_wires, wires_of s)

  pub has_gates : {g : ℕ} → g ≡ word s 2 → HasGates s g
  has_gates e = record { stated = e; long = omega (arith, accepted_long, e); few = omega (arith, accepted_few, e) }

  pub has_outputs : {g q : ℕ} → g ≡ word s 2 → q ≡ word s 4 → HasOutputs s g q
  has_outputs e f = record { gates = e; outputs = f; long = omega (arith, accepted_long, e, f) }

-- a test that refuses where it fails, then the check f
pub cond_passed :
    (b : Bool) (f : Fault) (n i : ℕ) → eqb n 0 ≡ false → passed (cond b f (fault n i)) ≡ true
    → (b ≡ true) × (passed f ≡ true)
cond_passed true f n i e h = (refl, h)
cond_passed false f n i e h = (cc, cc)

-- a test that refuses where it holds, then the check f
pub cond_refused :
    (b : Bool) (f : Fault) (n i : ℕ) → eqb n 0 ≡ false → passed (cond b (fault n i) f) ≡ true
    → (b ≡ false) × (passed f ≡ true)
cond_refused true f n i e h = (cc, cc)
cond_refused false f n i e h = (refl, h)

-- the two tests of a gate that passed
pub gate_passed :
    (i w : ℕ) (g : Gate) → passed (gate_fault i w g) ≡ true
    → (known g.kind ≡ true) × (operands_ok w (operands_of g.kind) g.left g.right ≡ true)
gate_passed i w g h =
    let ok = operands_ok w (operands_of g.kind) g.left g.right in
    let a = cond_passed (known g.kind) (cond ok none (fault 4 i)) 3 i refl h in
    (a.0, (cond_passed ok none 4 i refl a.1).0)

-- good operands that are read are earlier wires, and a value that is stated is a bit
pub operands_read : (w : ℕ) (o : Operands) (l r : ℕ) → operands_ok w o l r ≡ true → ReadBefore w o l r
operands_read w none_read l r h = tt
operands_read w left_read l r h = ltb-true l w (and_true (ltb l w) (eqb r 0) h).0
operands_read w both_read l r h =
    let a = and_true (ltb l w) (ltb r w) h in (ltb-true l w a.0, ltb-true r w a.1)
operands_read w value_stated l r h = omega (arith, ltb-true l 2 (and_true (ltb l 2) (eqb r 0) h).0)

-- read or not, no operand is after wire w, which is no input; only a value that is stated can be w
pub operands_below : (w : ℕ) (o : Operands) (l r : ℕ) → 1 ≤ w → operands_ok w o l r ≡ true → (l ≤ w) × (r < w)
operands_below w none_read l r p h =
    let a = and_true (eqb l 0) (eqb r 0) h in
    (omega (arith, eqb-true l 0 a.0), omega (arith, eqb-true r 0 a.1))
operands_below w left_read l r p h =
    let a = and_true (ltb l w) (eqb r 0) h in
    (omega (arith, ltb-true l w a.0), omega (arith, eqb-true r 0 a.1))
operands_below w both_read l r p h =
    let a = operands_read w both_read l r h in (omega (arith, a.0), a.1)
operands_below w value_stated l r p h =
    let a = and_true (ltb l 2) (eqb r 0) h in
    (omega (arith, ltb-true l 2 a.0), omega (arith, eqb-true r 0 a.1))

given_by : (b : Bool) {A : Type 0} → b ≡ true → A → Given b A
given_by true e a = a
given_by false e a = let z : ◌≡◌ {A = ℕ} 0 1 = cc in omega arith

gates_plain :
    (i j w : ℕ) (gs : List Gate) → passed (gates_fault i w gs) ≡ true → passed (random_fault j gs) ≡ true
    → PlainGates w gs
unfolding gates_fault random_fault PlainGates
gates_plain i j w [] h e = tt
gates_plain i j w (g ∷ gs) h e =
    let a = both_passed (gate_fault i w g) (gates_fault (suc i) (suc w) gs) h in
    let good = gate_passed i w g a.0 in
    let b = cond_refused (is_random g.kind) (random_fault (suc j) gs) 7 j refl e in (
      given_by (is_plain g.kind) (rw (good.0, b.0)) (operands_read w (operands_of g.kind) g.left g.right good.1),
      gates_plain (suc i) (suc j) (suc w) gs a.1 b.1,
    )

pub outputs_passed : (i w : ℕ) (os : List ℕ) → passed (outputs_fault i w os) ≡ true → All (λ o. o < w) os
unfolding outputs_fault All
outputs_passed i w [] h = tt
outputs_passed i w (o ∷ os) h =
    let a = cond_passed (ltb o w) (outputs_fault (suc i) w os) 5 i refl h in
    (ltb-true o w a.0, outputs_passed (suc i) w os a.1)

pub accepted_plain :
    (s : List ℕ) → passed (table_fault s) ≡ true → passed (random_fault 0 (table_of s).gates) ≡ true
    → Plain (table_of s)
accepted_plain s h e =
    let c = accepted s h in
    record {
      some_input = c.some_input;
      some_output = c.some_output;
      gates = gates_plain 0 0 (table_of s).inputs (table_of s).gates c.gates e;
      outputs = outputs_passed 0 (wires (table_of s)) (table_of s).outputs c.outputs;
    }

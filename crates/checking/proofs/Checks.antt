-- Checking a table, step by step: what each test that the code makes says of the definition's chain of refusals.
-- Assumes nothing.
use mathlib.Core.Path.{◌≡◌, refl, ◌∙◌}
use mathlib.Core.Bool.{true, false, cond}
use mathlib.Core.List.{List}
use Prim.Native.Nat.{ℕ, suc, ◌+◌, ◌≤◌, ◌<◌}
use native.Mathlib.Numerals.{add-one}
use native.Mathlib.Omega.{arith}
use lib.Dec.{ltb}
use lib.ListN.{length, get_or, drop, drop_of_length-le}
use lib.Seq.{drop-cons}
use borrow.Author.Tests.{lt-ltb, le-ltb, eq-eqb, ne_eqb}
use Rattle.std.specs.Prelude.{Ok, Err}
use Rattle.tables.specs.declared.Refusal as DRefusal
use Rattle.tables.specs.Refusals.{fault, none, or_else}
use Rattle.tables.specs.Refusing.{fault_of, answer_of}
use Rattle.tables.specs.Tables.{word, table_of, table_long, gates_fault, outputs_fault, sizes_bad, table_fault}
use Rattle.tables.specs.Says.{CheckSays}
use Rattle.tables.specs.Inside.{HasOutputs}
use Rattle.tables.proofs.Accept.{outputs_are, accepted_long, wires_of}
use Rattle.tables.proofs.Answers.{none_passed, answered_refused, answered_done}

-- the outputs before o are wires: the others answer
pub record OutputsGood (s : List ℕ) (w o : ℕ) : Type 0 where
  pub others : outputs_fault 0 w (table_of s).outputs ≡ outputs_fault o w (drop o (table_of s).outputs)

pub outputs_good_start : (s : List ℕ) (w : ℕ) → OutputsGood s w 0
outputs_good_start s w = record { others = refl }

-- output o as it was read
module _ {s : List ℕ} {g q w o : ℕ} (all : HasOutputs s g q) (good : OutputsGood s w o) (more : o < q) where
  at_output :
      outputs_fault 0 w (table_of s).outputs
      ≡ cond (ltb (get_or (table_of s).outputs o 0) w) (outputs_fault (suc o) w (drop (suc o) (table_of s).outputs)) (fault 5 o)
  unfolding outputs_fault
  at_output =
      good.others ∙ rw (drop-cons (table_of s).outputs o 0 (omega (arith, outputs_are all)))

  pub outputs_good_step : get_or (table_of s).outputs o 0 < w → OutputsGood s w (o + 1)
  outputs_good_step h = record { others = at_output ∙ rw (lt-ltb (get_or (table_of s).outputs o 0) w h, add-one) }

  pub outputs_good_found : w ≤ get_or (table_of s).outputs o 0 → outputs_fault 0 w (table_of s).outputs ≡ fault 5 o
  outputs_good_found h = at_output ∙ rw (le-ltb (get_or (table_of s).outputs o 0) w h)

pub outputs_good_end :
    {s : List ℕ} {g q w o : ℕ} → HasOutputs s g q → OutputsGood s w o → q ≤ o
    → outputs_fault 0 w (table_of s).outputs ≡ none
unfolding outputs_fault
outputs_good_end {s} {g} {q} {w} {o} all good h =
    good.others ∙ rw (drop_of_length-le (table_of s).outputs {i = o} (omega (arith, outputs_are all)))

pub ruleset outputs_laws = (outputs_good_start, outputs_good_step, outputs_good_found, outputs_good_end)

-- the chain of a table's checks
pub table_short : (s : List ℕ) → length s < 6 → table_fault s ≡ fault 1 0
unfolding table_fault
table_short s h = rw (lt-ltb (length s) 6 h)

-- with six bytes or more, whose sizes are n, g and o
module _
    {n g o : ℕ}
    (s : List ℕ)
    (six : 6 ≤ length s)
    (inputs : n ≡ word s 0)
    (gates : g ≡ word s 2)
    (outputs : o ≡ word s 4) where
  pub table_sizes : sizes_bad n g o ≡ true → table_fault s ≡ fault 2 0
  unfolding table_fault
  table_sizes bad = rw (le-ltb (length s) 6 six, ← inputs, ← gates, ← outputs, bad)

  module _ (good : sizes_bad n g o ≡ false) where
    pub table_long_lem : (length s ≡ table_long g o → ⊥) → table_fault s ≡ fault 1 0
    unfolding table_fault
    table_long_lem l = rw (le-ltb (length s) 6 six, ← inputs, ← gates, ← outputs, good, ne_eqb (length s) (table_long g o) l)

    pub table_rest :
        length s ≡ table_long g o
        → table_fault s ≡ or_else (gates_fault 0 n (table_of s).gates) (outputs_fault 0 (n + g) (table_of s).outputs)
    unfolding table_fault
    table_rest l = rw (le-ltb (length s) 6 six, ← inputs, ← gates, ← outputs, good, eq-eqb (length s) (table_long g o) l)

pub ruleset table_laws = (table_short, table_sizes, table_long_lem, table_rest)

-- an accepted table
pub accepted_six : (s : List ℕ) → table_fault s ≡ none → 6 ≤ length s
accepted_six s e = omega (arith, accepted_long s (none_passed e))

pub check_done : (s : List ℕ) (v : ℕ) → table_fault s ≡ none → v ≡ word s 0 + word s 2 → CheckSays s (answer_of (Ok v))
check_done s v e h = record { answer = rw (h, ← wires_of s) (answered_done e) }

pub check_refused : (s : List ℕ) (e : DRefusal.Refusal) → table_fault s ≡ fault_of e → CheckSays s (answer_of (Err e))
check_refused s e h = record { answer = answered_refused e h }

pub ruleset check_laws = (accepted_six, check_done, check_refused)

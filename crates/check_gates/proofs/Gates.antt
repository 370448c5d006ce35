-- Checking the gates of a table: what each test that the code makes says of the definition's refusals.
-- Assumes nothing.
use mathlib.Core.Path.{◌≡◌, refl, ◌∙◌}
use mathlib.Core.Bool.{true, cond, ◌||◌}
use mathlib.Core.List.{List}
use Prim.Native.Nat.{ℕ, zero, suc, ◌+◌, ◌/◌, ◌≤◌, ◌<◌}
use native.Mathlib.Nat.{add-zero, add-suc}
use native.Mathlib.Numerals.{add-one}
use native.Mathlib.Omega.{arith}
use lib.Bits.{bit_or}
use lib.Dec.{eqb}
use lib.ListN.{length, drop, drop_of_length-le}
use lib.Seq.{drop-cons}
use borrow.Author.Tests.{lt-ltb, eq-eqb}
use Rattle.tables.specs.declared.GateFields as DGateFields
use Rattle.tables.specs.declared.Refusal as DRefusal
use Rattle.tables.specs.Refusals.{none, or_else}
use Rattle.tables.specs.Refusing.{fault_of}
use Rattle.tables.specs.Tables.{kind_of, gate, no_gate, gate_of, table_of, operands_of, operands_ok, gate_fault, gates_fault}
use Rattle.tables.specs.Inside.{GateIs, HasGates}
use Rattle.tables.proofs.Accept.{gates_are}
use Rattle.tables.proofs.Answers.{refused_first}
use Rattle.tables.proofs.Bad.{or_covers}

-- an `or` is 0 only where each part is
pub or_none : (a b : ℕ) → bit_or a b ≡ 0 → (a ≡ 0) × (b ≡ 0)
or_none a b z =
    let both = or_covers a b 0 (omega (arith, z)) in
    (omega (arith, both.0), omega (arith, both.1))

-- a gate's flaws: an operand that is not read and not 0, a constant that is no bit
pub unused_none :
    (k l r w : ℕ) → k ≤ 5 → l < w → r < w → cond (eqb k 0 || eqb k 3 || eqb k 4) r 0 ≡ 0 → cond (eqb k 3) l 0 ≡ 0
    → cond (eqb k 4) (l / 2) 0 ≡ 0 → operands_ok w (operands_of (kind_of k)) l r ≡ true
unused_none zero l r w h i j x y z = rw (lt-ltb l w i, eq-eqb r 0 x)
unused_none (suc zero) l r w h i j x y z = rw (lt-ltb l w i, lt-ltb r w j)
unused_none (suc (suc zero)) l r w h i j x y z = rw (lt-ltb l w i, lt-ltb r w j)
unused_none (suc (suc (suc zero))) l r w h i j x y z = rw (eq-eqb l 0 y, eq-eqb r 0 x)
unused_none (suc (suc (suc (suc zero)))) l r w h i j x y z = rw (lt-ltb l 2 (omega (arith, z)), eq-eqb r 0 x)
unused_none (suc (suc (suc (suc (suc zero))))) l r w h i j x y z = rw (lt-ltb l w i, lt-ltb r w j)
unused_none (suc (suc (suc (suc (suc (suc k)))))) l r w h i j x y z = absurd (omega arith)

-- a gate of a known kind whose operands are good
pub gate_good :
    (k l r w : ℕ) → k ≤ 5 → operands_ok w (operands_of (kind_of k)) l r ≡ true → (i : ℕ)
    → gate_fault i w (gate (kind_of k) l r) ≡ none
gate_good zero l r w h e i = rw e
gate_good (suc zero) l r w h e i = rw e
gate_good (suc (suc zero)) l r w h e i = rw e
gate_good (suc (suc (suc zero))) l r w h e i = rw e
gate_good (suc (suc (suc (suc zero)))) l r w h e i = rw e
gate_good (suc (suc (suc (suc (suc zero))))) l r w h e i = rw e
gate_good (suc (suc (suc (suc (suc (suc k)))))) l r w h e i = absurd (omega arith)

-- the gates before g are good: the others answer
pub record GatesGood (s : List ℕ) (w g : ℕ) : Type 0 where
  pub others : gates_fault 0 w (table_of s).gates ≡ gates_fault g (w + g) (drop g (table_of s).gates)

pub gates_good_start : (s : List ℕ) (w : ℕ) → GatesGood s w 0
gates_good_start s w = record { others = rw add-zero }

-- gate g as it was read
module _
    {s : List ℕ}
    {n w g : ℕ}
    {x : DGateFields.GateFields}
    (all : HasGates s n)
    (good : GatesGood s w g)
    (more : g < n)
    (is : GateIs (gate_of (table_of s) g) x) where
  gates_good_here :
      gates_fault 0 w (table_of s).gates
      ≡ or_else
      (gate_fault g (w + g) (gate (kind_of x.kind) x.left x.right))
      (gates_fault (suc g) (suc (w + g)) (drop (suc g) (table_of s).gates))
  unfolding gates_fault
  gates_good_here =
      let there : g < length (table_of s).gates = omega (arith, gates_are all) in
      good.others ∙ rw (drop-cons (table_of s).gates g no_gate there, is.kind, is.left, is.right) refl

  pub gates_good_step : gate_fault g (w + g) (gate (kind_of x.kind) x.left x.right) ≡ none → GatesGood s w (g + 1)
  gates_good_step z = record { others = gates_good_here ∙ rw (z, add-one, add-suc) refl }

  pub gates_good_found :
      (e : DRefusal.Refusal) → gate_fault g (w + g) (gate (kind_of x.kind) x.left x.right) ≡ fault_of e
      → gates_fault 0 w (table_of s).gates ≡ fault_of e
  gates_good_found e h = gates_good_here ∙ refused_first _ e h

pub gates_good_end :
    {s : List ℕ} {n w g : ℕ} → HasGates s n → GatesGood s w g → n ≤ g → gates_fault 0 w (table_of s).gates ≡ none
unfolding gates_fault
gates_good_end {s} {n} {w} {g} all good h =
    good.others ∙ rw (drop_of_length-le (table_of s).gates {i = g} (omega (arith, gates_are all)))

-- what the proofs of both loops over the gates cite
pub ruleset loop_laws = (or_none, gates_good_start, gates_good_step, gates_good_end)

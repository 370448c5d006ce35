-- The refusals of mapping: the first probe that is no wire.
-- Assumes nothing.
use mathlib.Core.Path.{◌≡◌, refl, ◌∙◌}
use mathlib.Core.Bool.{Bool, true, false, cond}
use mathlib.Core.List.{List, [], ◌∷◌}
use Prim.Native.Nat.{ℕ, zero, suc, ◌+◌, ◌≤◌, ◌<◌}
use native.Mathlib.Nat.{add-zero, add-suc, suc-add, zero-add}
use native.Mathlib.Omega.{arith}
use borrow.Author.Tests.{lt-ltb, le-ltb, leb-true, leb-false, ltb-false}
use lib.Dec.{leb, ltb}
use lib.ListN.{length, get_or}
use Rattle.std.specs.Prelude.{Option, Some, None, position}
use Rattle.std.specs.List.{position_or_len}
use Rattle.std.proofs.lemmas.List.Sums.{fails_before_first}
use Rattle.std.proofs.lemmas.List.Quantifiers.{position-Some}
use Rattle.tables.specs.declared.Refusal as DRefusal
use Rattle.tables.specs.Refusals.{Fault, fault, none}
use Rattle.tables.specs.Refusing.{fault_of}
use Rattle.tables.specs.Tables.{wires, table_of}
use Rattle.tables.proofs.Answers.{refused_first, second_of}
use Rattle.construction.specs.declared.And as DAnd
use Rattle.construction.specs.Gadgets.{gadget_of}
use Rattle.construction.specs.Wires.{masked_table, tape_long}
use Rattle.construction.specs.Says.{plain_fault}
use Rattle.planning.specs.declared.Plan as DPlan
use Rattle.planning.specs.Plans.{PlanReady}
use Rattle.secrecy.specs.Says.{bad_probe, probes_fault, call_fault, map_fault}

probe_none : (ps : List ℕ) (w : ℕ) → ((k : ℕ) → k < length ps → get_or ps k 0 < w) → (i : ℕ) → bad_probe i w ps ≡ none
unfolding bad_probe
probe_none [] w h i = refl
probe_none (p ∷ ps) w h i =
    rw (lt-ltb p w (h 0 (omega arith))) (probe_none ps w (λ k q. h (suc k) (omega arith)) (suc i))

probe_found :
    (ps : List ℕ) (w j : ℕ) → j < length ps → ((k : ℕ) → k < j → get_or ps k 0 < w) → w ≤ get_or ps j 0 → (i : ℕ)
    → bad_probe i w ps ≡ fault 13 (i + j)
unfolding bad_probe
probe_found [] w j l h a i = absurd (omega arith)
probe_found (p ∷ ps) w zero l h a i = rw (le-ltb p w a, add-zero) refl
probe_found (p ∷ ps) w (suc j) l h a i =
    rw (lt-ltb p w (h 0 (omega arith)), add-suc, ← suc-add i j)
    (probe_found ps w j (omega arith) (λ k q. h (suc k) (omega arith)) a (suc i))

-- no position
position_none : (t : Bool) (j : ℕ) → ◌≡◌ {A = Option ℕ} (cond t (Some j) None) None → t ≡ false
position_none true j e = cc
position_none false j e = refl

-- the first probe that is no wire, of no more probes than the order
module _ (o w : ℕ) (ps : List ℕ) (few : length ps ≤ o) where
  abbrev outside : ℕ → Bool
  outside p = leb w p

  some_few : probes_fault o w ps ≡ bad_probe 0 w ps
  unfolding probes_fault
  some_few = rw (le-ltb o (length ps) few)

  pub all_wires : position outside ps ≡ None → probes_fault o w ps ≡ none
  all_wires e =
      let j = position_or_len outside ps in
      let far : length ps ≤ j = ltb-false j (length ps) (position_none (ltb j (length ps)) j e) in
      some_few
      ∙ probe_none ps w (λ k q. leb-false w (get_or ps k 0) (fails_before_first outside ps k 0 (omega arith))) 0

  pub one_outside : (j : ℕ) → position outside ps ≡ Some j → probes_fault o w ps ≡ fault 13 j
  one_outside j e =
      let first = position-Some outside ps j 0 e in
      some_few
      ∙ (rw zero-add at
      (probe_found ps w j first.0 (λ k q. leb-false w (get_or ps k 0) (first.2 k q)) (leb-true w (get_or ps j 0) first.1) 0))

-- the whole chain: the plan's refusal, or what follows from the plan's sizes
module _ (A : DAnd.And) (s : List ℕ) (o : ℕ) (xs ys ts ps : List ℕ) (a b c : ℕ) where
  pub map_stopped :
      (e : DRefusal.Refusal) → plain_fault (gadget_of A) s o ≡ fault_of e
      → map_fault (gadget_of A) s o xs ys ts ps a b c ≡ fault_of e
  unfolding map_fault
  map_stopped e h = refused_first _ e h

  pub map_follows :
      (s' : List ℕ) (p : DPlan.Plan) (f : Fault)
      → PlanReady s' p → s' ≡ s → p.order ≡ o → plain_fault (gadget_of A) s o ≡ none
      → call_fault o p.inputs p.tape p.wires xs ys ts ps a b c ≡ f
      → map_fault (gadget_of A) s o xs ys ts ps a b c ≡ f
  unfolding map_fault
  map_follows s' p f R es eo h e =
      let S : PlanReady s p = rw es at R in
      let wires_are : p.wires ≡ wires (masked_table (gadget_of A) o (table_of s)) = rw eo at (S.wires A) in
      let tape_is : p.tape ≡ tape_long (gadget_of A) o (table_of s) = rw eo at (S.tape A) in
      second_of h (rw (S.inputs, wires_are, tape_is) at e)

-- From a plan to masking's answer: the plan's refusal, 9, or the masked table written.
-- Assumes nothing.
use mathlib.Core.Path.{◌≡◌, refl, sym, ap, ap₂, ◌∙◌}
use mathlib.Core.Bool.{false}
use mathlib.Core.List.{List, [], ◌∷◌}
use Prim.Native.Nat.{ℕ, zero, suc, ◌≤◌, ◌<◌}
use native.Mathlib.Omega.{arith}
use borrow.Author.Tests.{lt-ltb, le-ltb}
use Rattle.std.specs.Prelude.{Ok, Err}
use lib.ListN.{length, get_or, take, drop}
use Rattle.tables.specs.declared.Refusal as DRefusal
use Rattle.tables.specs.declared.Refusal.TheVariants as Refusal
use Rattle.tables.specs.Refusals.{Fault, none, passed, or_else}
use Rattle.tables.specs.Refusing.{fault_of, answer_of}
use Rattle.tables.specs.Tables.{table_fault}
use Rattle.tables.specs.Says.{over}
use Rattle.tables.proofs.Tests.{first_refused}
use Rattle.tables.proofs.Answers.{refused_first, second_of, writes_refused, writes_done}
use Rattle.tables.proofs.Cut.{cut_fault, cut_refused}
use Rattle.construction.specs.declared.And as DAnd
use Rattle.construction.specs.Gadgets.{Gadget, gadget_of}
use Rattle.construction.specs.Says.{plain_fault, masked_bytes, mask_fault, MaskSays}
use Rattle.planning.specs.declared.Plan as DPlan
use Rattle.planning.specs.Plans.{PlanReady, plan_bytes}
use Rattle.masking.specs.Input.{and_of}
use Rattle.planning.proofs.Planning.{plan_bytes_lem}

-- the plan is refused; a buffer too short; and the masked table written
pub mask_refused :
    (G : Gadget) (s : List ℕ) (o : ℕ) (b : List ℕ) (e : DRefusal.Refusal) → plain_fault G s o ≡ fault_of e
    → MaskSays G s o b b (answer_of (Err e))
unfolding mask_fault
mask_refused G s o b e h = writes_refused e (masked_bytes G s o) b (refused_first _ e h)

module _ (a : DAnd.And) (s : List ℕ) (o : ℕ) (s' : List ℕ) (p : DPlan.Plan)
    (R : PlanReady s' p) (es : s' ≡ s) (eo : p.order ≡ o) (none_wrong : plain_fault (gadget_of a) s o ≡ none) where
  abbrev bytes : List ℕ
  bytes = masked_bytes (gadget_of a) s o

  bytes_are : masked_bytes (gadget_of a) s' p.order ≡ bytes
  bytes_are = ap₂ (λ (x : List ℕ) (y : ℕ). masked_bytes (gadget_of a) x y) es eo

  long : length bytes ≡ plan_bytes p
  long = rw (ap length bytes_are) at (plan_bytes_lem R a)

  pub mask_short : (b : List ℕ) → length b < plan_bytes p → MaskSays (gadget_of a) s o b b (answer_of (Err Refusal.NoRoom))
  unfolding mask_fault
  mask_short b h =
      writes_refused Refusal.NoRoom bytes b
      (second_of none_wrong (rw (lt-ltb (length b) (length bytes) (omega (arith, h, long))) refl))

  pub mask_done :
      (b : List ℕ) {b' : List ℕ} → plan_bytes p ≤ length b → b' ≡ over (masked_bytes (gadget_of a) s' p.order) b
      → MaskSays (gadget_of a) s o b b' (answer_of (Ok (plan_bytes p)))
  unfolding mask_fault
  mask_done b h w =
      writes_done bytes b
      (second_of none_wrong (rw (le-ltb (length b) (length bytes) (omega (arith, h, long))) refl))
      (sym long) (w ∙ ap (λ (xs : List ℕ). over xs b) bytes_are)

-- an input of more than two bytes and the longest table, and the first m bytes of it, have the same refusal
two_refused : (f g h : Fault) → passed f ≡ false → or_else (or_else f g) h ≡ f
two_refused f g h e = ap (λ (x : Fault). or_else x h) (first_refused f g e) ∙ first_refused f h e

cut_table :
    (G : Gadget) (m : ℕ) (s : List ℕ) (o room : ℕ) → ((i : ℕ) → get_or s i 0 < 256) → 458746 < m → m ≤ length s
    → mask_fault G (take m s) o room ≡ mask_fault G s o room
unfolding mask_fault plain_fault
cut_table G m s o room bytes h k =
    let e = cut_fault m s bytes h k in
    let bad = cut_refused m s bytes h k in
    two_refused (table_fault (take m s)) _ _ (ap passed e ∙ bad) ∙ e ∙ sym (two_refused (table_fault s) _ _ bad)

cut_ordered :
    (G : Gadget) (m : ℕ) (s : List ℕ) (room : ℕ) → ((i : ℕ) → get_or s i 0 < 256) → 458747 < m → m ≤ length s
    → mask_fault G (drop 1 (take m s)) (get_or (take m s) 0 0) room ≡ mask_fault G (drop 1 s) (get_or s 0 0) room
cut_ordered G m [] room bytes h k = absurd (omega arith)
cut_ordered G zero (x ∷ s) room bytes h k = absurd (omega arith)
cut_ordered G (suc m) (x ∷ s) room bytes h k = cut_table G m s x room (λ i. bytes (suc i)) (omega arith) (omega arith)

-- the refusal of an input
abbrev input_fault : List ℕ → ℕ → Fault
input_fault s room = mask_fault (gadget_of (and_of (get_or s 0 0))) (drop 1 (drop 1 s)) (get_or (drop 1 s) 0 0) room

pub cut_masked :
    (m : ℕ) (s : List ℕ) (room : ℕ) → ((i : ℕ) → get_or s i 0 < 256) → 458748 < m → m ≤ length s
    → input_fault (take m s) room ≡ input_fault s room
cut_masked m [] room bytes h k = absurd (omega arith)
cut_masked zero (x ∷ s) room bytes h k = absurd (omega arith)
cut_masked (suc m) (x ∷ s) room bytes h k =
    cut_ordered (gadget_of (and_of x)) m s room (λ i. bytes (suc i)) (omega arith) (omega arith)

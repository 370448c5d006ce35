-- From the refusals of mapping to its answer: the refusal, or the free share, the mapped tape and both runs.
-- Assumes nothing.
use mathlib.Core.Path.{◌≡◌, refl, sym, ap, ◌∙◌}
use mathlib.Core.Bool.{true}
use mathlib.Core.List.{List}
use Prim.Native.Nat.{ℕ, ◌≤◌, ◌<◌}
use native.Mathlib.Omega.{arith}
use lib.Dec.{leb}
use Rattle.std.specs.Prelude.{Ok, Err}
use lib.ListN.{length}
use Rattle.tables.specs.declared.Answer as DAnswer
use Rattle.tables.specs.declared.Refusal as DRefusal
use Rattle.tables.specs.Refusals.{Fault, none}
use Rattle.tables.specs.Refusing.{fault_of, answer_of}
use Rattle.tables.specs.Tables.{wires, table_of}
use Rattle.tables.specs.Packing.{bytes_for, tape_of, spare}
use Rattle.tables.proofs.Tests.{and_true}
use Rattle.tables.proofs.Answers.{answered_refused, answered_done, after_refused}
use Rattle.construction.specs.Shares.{shares_of}
use Rattle.construction.specs.declared.And as DAnd
use Rattle.construction.specs.Gadgets.{gadget_of}
use Rattle.construction.specs.Wires.{masked_table, tape_long, probe_marks}
use Rattle.construction.proofs.Lawful.{lawful}
use Rattle.construction.proofs.Hiding.{hiding}
use Rattle.construction.proofs.Passed.{plain_passed}
use Rattle.planning.specs.declared.Plan as DPlan
use Rattle.planning.specs.Plans.{PlanReady}
use Rattle.planning.proofs.Planning.{plan_fits}
use Rattle.secrecy.specs.Maps.{carried, free_share}
use Rattle.secrecy.specs.Claims.{all_below}
use Rattle.secrecy.specs.Laws.{Free}
use Rattle.secrecy.specs.Says.{map_fault, MapDone}
use Rattle.secrecy.proofs.Faults.{MapGood, map_good}
use Rattle.secrecy.proofs.Begun.{secrets_are}
use Rattle.secrecy.proofs.Whole.{covers_pins, free_of}
use Rattle.map_runs.specs.Working.{WorkReady, WorkSays}

-- a mapping call; a, b and c are the lengths lent
module _ (A : DAnd.And) (s : List ℕ) (o : ℕ) (xs ys ts ps : List ℕ) (a b c : ℕ) where
  abbrev all : Fault
  all = map_fault (gadget_of A) s o xs ys ts ps a b c

  abbrev Done : List ℕ → List ℕ → List ℕ → List ℕ → List ℕ → List ℕ → DAnswer.Answer → Type 0
  Done x x' y y' z z' q =
      MapDone all (gadget_of A) (probe_marks (gadget_of A)) (table_of s) o xs ys
      (tape_of (tape_long (gadget_of A) o (table_of s)) ts) ps x x' y y' z z' q

  -- it is refused
  pub map_refused : (x y z : List ℕ) (e : DRefusal.Refusal) → all ≡ fault_of e → Done x x y y z z (answer_of (Err e))
  map_refused x y z e h =
      record {
        answer = answered_refused e h;
        mapped_tape = after_refused e h _ x;
        first_run = after_refused e h _ y;
        second_run = after_refused e h _ z;
      }

  -- it is not refused
  module _ {s' : List ℕ} {p : DPlan.Plan} (R : PlanReady s' p) (es : s' ≡ s) (eo : p.order ≡ o) (none_wrong : all ≡ none) where
    plan : PlanReady s p
    plan = rw es at R

    good : MapGood (gadget_of A) s o xs ys ts ps a b c
    good = map_good (gadget_of A) s o xs ys ts ps a b c (rw none_wrong refl)

    -- the plan's sizes at the order of the call
    wires_are : p.wires ≡ wires (masked_table (gadget_of A) o (table_of s))
    wires_are = rw eo at (plan.wires A)

    tape_are : p.tape ≡ tape_long (gadget_of A) o (table_of s)
    tape_are = rw eo at (plan.tape A)

    probes : (leb (length ps) o ≡ true) × (all_below (wires (masked_table (gadget_of A) o (table_of s))) ps ≡ true)
    probes = and_true (leb (length ps) o) _ good.probes

    pub probes_ready : all_below p.wires ps ≡ true
    probes_ready = rw wires_are probes.1

    free :
        Free (shares_of o)
        (carried (probe_marks (gadget_of A)) o (table_of s) ps)
        (free_share (probe_marks (gadget_of A)) o (table_of s) ps)
    free =
        let table = (plain_passed (gadget_of A) s o good.plain).plain in
        free_of (hiding A) (table_of s) o (covers_pins (lawful A) (table_of s) o table) table ps good.probes

    module _ {k : ℕ} (e : k ≡ free_share (probe_marks (gadget_of A)) p.order (table_of s') ps) where
      free_is : k ≡ free_share (probe_marks (gadget_of A)) o (table_of s) ps
      free_is = rw (es, eo) at e

      free_few : k ≤ p.shares
      free_few = omega (arith, free_is, free.to_n, plan.shares, eo)

      pub free_small : k < 4294967296
      free_small = omega (arith, free_few, (plan_fits plan).shares)

      pub work_ready : {x y z : List ℕ} → a ≡ length x → b ≡ length y → c ≡ length z → WorkReady p k xs ys ts x y z
      work_ready ex ey ez =
          let first = secrets_are (table_of s) xs good.first in
          let second = secrets_are (table_of s) ys good.second in
          record {
            from_1 = omega (arith, free_is, free.from_1);
            to_n = free_few;
            first = first.0 ∙ sym plan.inputs;
            second = second.0 ∙ sym plan.inputs;
            tape = good.long ∙ ap (λ (l : ℕ). bytes_for l) (sym tape_are);
            unused = ap (λ (l : ℕ). spare l ts) tape_are ∙ good.unused;
            first_bits_lem = first.1;
            second_bits_lem = second.1;
            mapped = omega (arith, good.mapped, tape_are);
            one = omega (arith, good.one, wires_are);
            other = omega (arith, good.other, wires_are);
          }

      pub map_done :
          {x x' y y' z z' : List ℕ} → WorkSays (gadget_of A) s' p.order k xs ys ts x x' y y' z z'
          → Done x x' y y' z z' (answer_of (Ok k))
      map_done W =
          let U = rw (es, eo, free_is) at W in
          record {
            answer = rw free_is (answered_done none_wrong);
            mapped_tape = rw none_wrong U.mapped;
            first_run = rw none_wrong U.one;
            second_run = rw none_wrong U.other;
          }

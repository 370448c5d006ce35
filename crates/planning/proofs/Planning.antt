-- Which of refusals 1 to 8 answers for a plain table and an order, and the sizes where none does.
-- Assumes nothing.
use mathlib.Core.Path.{◌≡◌, refl, sym, ap, ◌∙◌}
use mathlib.Core.Bool.{Bool, true, false, ◌||◌, not}
use mathlib.Core.List.{List}
use Prim.Native.Nat.{ℕ, zero, suc, ◌+◌, ◌*◌, ◌≤◌, ◌<◌}
use native.Mathlib.Nat.{mul-le-mul}
use native.Mathlib.Numerals.{add-one}
use native.Mathlib.Omega.{arith}
use borrow.Author.Tests.{not-false}
use lib.Dec.{ltb}
use lib.ListN.{length, drop, drop_of_length-le}
use lib.Seq.{drop-cons}
use Rattle.tables.specs.declared.Refusal as DRefusal
use Rattle.tables.specs.Refusals.{Fault, fault, none, passed, or_else, refused_if}
use Rattle.tables.specs.Tables.{Kind, NOT, XOR, AND, RANDOM, CONSTANT, OR, UNKNOWN, kind_of, Gate, no_gate, gate_of, Table, wires, table_of}
use Rattle.tables.specs.Tables.{table_bytes, table_fault, is_random, random_fault}
use Rattle.tables.specs.Refusing.{fault_of}
use Rattle.tables.proofs.Answers.{none_passed, refused_first, second_of}
use Rattle.tables.specs.Counted.{counts_of}
use Rattle.tables.proofs.Tests.{first_passed, not_refused, or_else_assoc}
use Rattle.tables.proofs.Total.{count_plain, total_below, total_small}
use Rattle.tables.proofs.Format.{table_long_lem, passed_sound_gates, sound_at, known_byte}
use Rattle.tables.proofs.Accept.{accepted_long, gates_are, gates_of_length, outputs_of_length, accepted_few, has_gates, has_outputs}
use Rattle.tables.specs.Inside.{HasGates}
use Rattle.tables.specs.declared.Counts as DCounts
use Rattle.planning.specs.declared.Totals as DTotals
use Rattle.planning.specs.declared.Plan as DPlan
use Rattle.planning.specs.declared.Tally as DTally
use Rattle.planning.specs.declared.Masked as DMasked
use Rattle.construction.specs.Shares.{shares_of}
use Rattle.construction.specs.declared.And as DAnd
use Rattle.construction.specs.declared.And.TheVariants.{Isw}
use Rattle.construction.specs.Gadgets.{Gadget, isw, gadget_of}
use Rattle.construction.specs.Wires.{cost, masked_table, tape_long}
use Rattle.construction.specs.Says.{order_ok, order_fault, too_many, plain_fault}
use Rattle.construction.specs.Counts.{draws, counted, figures_by}
use Rattle.planning.specs.Maskable.{maskable_fault}
use Rattle.planning.specs.Plans.{Maskable, FewGates, TotalsSay, Countable, TallyOf, Tallied, MaskedBy, too_large}
use Rattle.planning.specs.Plans.{PlanReady, PlanFits, plan_bytes}
use Rattle.construction.proofs.Passed.{PlainPassed, plain_passed}
use Rattle.construction.proofs.Orders.{order_range}
use Rattle.construction.proofs.Lawful.{lawful}
use Rattle.construction.proofs.Placed.{masked_outputs}
use Rattle.construction.proofs.Costs.{masked_wires_lem, masked_tape}
use Rattle.gate_costs.proofs.Figures.{cost_small, draws_small, draws_below}
use Rattle.construction.proofs.Counted.{figures_of, total_counted, wires_counted, tape_counted, masked_inputs}

-- the search for a random gate, at gate i: what is left of the gates
pub record Searching (t : Table) (i : ℕ) : Type 0 where
  pub rest : random_fault 0 t.gates ≡ random_fault i (drop i t.gates)

kind_random : (b : ℕ) → b ≡ 3 → is_random (kind_of b) ≡ true
kind_random b e = rw e

other_random : (b : ℕ) → (b ≡ 3 → ⊥) → is_random (kind_of b) ≡ false
other_random zero h = refl
other_random (suc zero) h = refl
other_random (suc (suc zero)) h = refl
other_random (suc (suc (suc zero))) h = absurd (h refl)
other_random (suc (suc (suc (suc zero)))) h = refl
other_random (suc (suc (suc (suc (suc zero))))) h = refl
other_random (suc (suc (suc (suc (suc (suc b)))))) h = refl

module _ {t : Table} {i b : ℕ} (S : Searching t i) (h : i < length t.gates) (e : kind_of b ≡ (gate_of t i).kind) where
  pub search_found : b ≡ 3 → random_fault 0 t.gates ≡ fault 7 i
  unfolding random_fault
  search_found z = S.rest ∙ rw (drop-cons t.gates i no_gate h, ← e, kind_random b z)

  pub search_turn : (b ≡ 3 → ⊥) → Searching t (i + 1)
  unfolding random_fault
  search_turn z =
      rw add-one (record { rest = S.rest ∙ rw (drop-cons t.gates i no_gate h, ← e, other_random b z) })

pub search_end : {t : Table} {i : ℕ} → Searching t i → length t.gates ≤ i → random_fault 0 t.gates ≡ none
unfolding random_fault
search_end {t} {i} S h = S.rest ∙ rw (drop_of_length-le t.gates {i = i} h)

pub ruleset search_laws = (count_plain, gates_are, search_found, search_turn, search_end)

-- so many gates, inputs or outputs, times what is at most m
pub few_times : (c v m : ℕ) → c ≤ 65535 → v ≤ m → c * v ≤ 65535 * m
few_times c v m h k = mul-le-mul {n₂ = 65535} {m₂ = m} h k

-- so many gates of a kind, times what is at most m
many_times : (c v m : ℕ) → v ≤ m → c * v ≤ c * m
many_times c v m h = mul-le-mul {n₂ = c} {m₂ = m} (omega arith) h

-- the totals of counts that a table can have
module _ {c : DCounts.Counts} {n : ℕ} {r : DTotals.Totals} (F : FewGates c) (few : n ≤ 31) (T : TotalsSay c n r) where
  pub few_total_wires : r.wires ≤ 65535 * 3289
  few_total_wires =
      omega (
        arith,
        F.all,
        T.wires,
        many_times c.nots (cost NOT n) 3289 (cost_small NOT n few),
        many_times c.xors (cost XOR n) 3289 (cost_small XOR n few),
        many_times c.ands (cost AND n) 3289 (cost_small AND n few),
        many_times c.constants (cost CONSTANT n) 3289 (cost_small CONSTANT n few),
        many_times c.ors (cost OR n) 3289 (cost_small OR n few),
      )

  pub few_total_draws : r.draws ≤ 65535 * 465
  few_total_draws =
      omega (
        arith,
        F.all,
        T.draws,
        many_times c.ands (draws AND n) 465 (draws_small AND n few),
        many_times c.ors (draws OR n) 465 (draws_small OR n few),
      )

pub few_shares : {s : List ℕ} {o : ℕ} → Maskable s o → shares_of o ≤ 31
few_shares {o = o} M = omega (arith, (order_range o M.order).1)

-- a plain table's gates of each kind are no more than all of them
abbrev plain_one : Kind → ℕ
plain_one NOT = 1
plain_one XOR = 1
plain_one AND = 1
plain_one RANDOM = 0
plain_one CONSTANT = 1
plain_one OR = 1
plain_one (UNKNOWN k) = 0

one_at_most : (k : Kind) → plain_one k ≤ 1
one_at_most NOT = omega arith
one_at_most XOR = omega arith
one_at_most AND = omega arith
one_at_most RANDOM = omega arith
one_at_most CONSTANT = omega arith
one_at_most OR = omega arith
one_at_most (UNKNOWN k) = omega arith

counts_few : (gs : List Gate) → length gs ≤ 65535 → FewGates (counts_of gs)
counts_few gs h =
    record { all = omega (arith, h, total_counted plain_one (λ k. refl) gs, total_small plain_one 1 one_at_most gs) }

-- the counts of an accepted table, at an order that 6 accepts
pub countable :
    {s : List ℕ} {o i q : ℕ} {c : DCounts.Counts} → Maskable s o → i < 65536 → q < 65536 → c ≡ counts_of (table_of s).gates
    → Countable o i q c
countable {s} {o} M hi hq e =
    record {
      order = few_shares M;
      inputs = omega (arith, hi);
      outputs = omega (arith, hq);
      gates = rw e
          (counts_few (table_of s).gates (omega (arith, gates_of_length s, accepted_few s M.table)));
    }

-- what 1 to 7 accept, and its tally
pub tallied :
    {s : List ℕ} {o : ℕ} {y : DTally.Tally} → table_fault s ≡ none → order_fault o ≡ none
    → random_fault 0 (table_of s).gates ≡ none → TallyOf (table_of s) y → y.inputs < 65536 → y.outputs < 65536
    → (maskable_fault s o ≡ none) × Tallied s o y
tallied {s} {o} t p r T hi ho =
    let accepted : Maskable s o = record {
      table = none_passed t;
      order = not-false (order_ok o) (not_refused (not (order_ok o)) 6 refl (none_passed p));
      plain = none_passed r;
    } in
    (rw (t, p, r), record { accepted = accepted; tally = T; countable = countable accepted hi ho T.counts })

pub ruleset tally_laws = (refused_first, second_of, none_passed, accepted_long, has_gates)

pub maskable_passed : {s : List ℕ} {o : ℕ} → Maskable s o → passed (maskable_fault s o) ≡ true
maskable_passed M = rw (M.table, M.order, M.plain)

eight_last :
    (G : Gadget) (s : List ℕ) (o : ℕ)
    → plain_fault G s o ≡ or_else (maskable_fault s o) (refused_if (too_many G o (table_of s)) 8)
unfolding plain_fault
eight_last G s o =
    let random = random_fault 0 (table_of s).gates in
    let many = refused_if (too_many G o (table_of s)) 8 in
    ap (λ (f : Fault). or_else (table_fault s) f) (or_else_assoc (order_fault o) random many)
    ∙ or_else_assoc (table_fault s) (or_else (order_fault o) random) many

-- masked sizes are small
pub record MaskedFits (m : DMasked.Masked) : Type 0 where
  pub shares : m.shares ≤ 31
  pub gates : m.gates ≤ 65535 * 3289
  pub wires : m.wires ≤ 65535 * 3320
  pub outputs : m.outputs ≤ 65535 * 31
  pub tape : m.tape ≤ 65535 * 496

pub masked_fits : {o i q : ℕ} {c : DCounts.Counts} {m : DMasked.Masked} → Countable o i q c → MaskedBy o i q c m → MaskedFits m
masked_fits {o} {i} {q} {c} {m} C M =
    let r : DTotals.Totals = record { wires = m.gates; draws = counted (λ k. draws k (shares_of o)) c } in
    let T : TotalsSay c (shares_of o) r = record { wires = M.gates; draws = refl } in
    let gates = few_total_wires C.gates C.order T in
    let inputs = few_times i (shares_of o) 31 C.inputs C.order in
    record {
      shares = omega (arith, M.shares, C.order);
      gates = gates;
      wires = omega (arith, M.wires, M.gates, gates, inputs);
      outputs = omega (arith, M.outputs, few_times q (shares_of o) 31 C.outputs C.order);
      tape = omega (arith, M.tape, few_total_draws C.gates C.order T, inputs);
    }

-- the masked sizes of a table by its tally
module _ {t : Table} {y : DTally.Tally} {o : ℕ} {m : DMasked.Masked}
    (T : TallyOf t y) (M : MaskedBy o y.inputs y.outputs y.counts m) where
  tally_wires : m.wires ≡ (figures_of o t).wires
  tally_wires = M.wires ∙ (λ j. (figures_by o (T.inputs j) (T.outputs j) (T.counts j)).wires)

  pub tally_outputs : m.outputs ≡ shares_of o * length t.outputs
  tally_outputs = M.outputs ∙ (λ j. shares_of o * T.outputs j)

  module _ (a : DAnd.And) where
    pub wires_masked : m.wires ≡ wires (masked_table (gadget_of a) o t)
    wires_masked = tally_wires ∙ sym (wires_counted (gadget_of a) o t)

    pub gates_masked : m.gates ≡ length (masked_table (gadget_of a) o t).gates
    gates_masked =
        let inputs : shares_of o * y.inputs ≡ shares_of o * t.inputs = λ j. shares_of o * T.inputs j in
        omega (arith, wires_masked, M.wires, M.gates, inputs, masked_inputs (gadget_of a) o t)

    pub tape_masked : m.tape ≡ tape_long (gadget_of a) o t
    tape_masked =
        M.tape
        ∙ (λ j. (figures_by o (T.inputs j) (T.outputs j) (T.counts j)).tape)
        ∙ sym (tape_counted (gadget_of a) o t (lawful a))

    pub large_many : too_large m ≡ too_many (gadget_of a) o t
    large_many = λ j. ltb 65535 (wires_masked j) || ltb 65535 (tally_outputs j)

-- a tape has fewer bits than the masked table has wires
tape_below : (a : DAnd.And) (o : ℕ) (t : Table) → tape_long (gadget_of a) o t ≤ wires (masked_table (gadget_of a) o t)
tape_below a o t =
    omega (
      arith,
      masked_wires_lem (gadget_of a) o t,
      masked_tape (lawful a) o t,
      total_below (λ k. draws k (shares_of o)) (λ k. cost k (shares_of o)) (λ k. draws_below k (shares_of o)) t.gates,
    )

-- what holds of a plan, with whichever AND
module _ {s : List ℕ} {p : DPlan.Plan} (R : PlanReady s p) where
  few_outputs : p.shares * p.outputs ≡ shares_of p.order * length (table_of s).outputs
  few_outputs = rw (R.shares, R.outputs)

  -- 1 to 7 accept, and the sizes are small
  pub plan_passed : PlainPassed isw s p.order
  plan_passed = plain_passed isw s p.order (rw (R.none Isw))

  -- the bytes have all the gates, and each gate is of a kind that there is
  pub plan_has_gates : HasGates s p.gates
  plan_has_gates = has_gates s plan_passed.table (R.gates ∙ gates_of_length s)

  pub plan_known : {g b : ℕ} → g < p.gates → kind_of b ≡ (gate_of (table_of s) g).kind → b ≤ 5
  plan_known {g} {b} h e =
      let sound = sound_at (table_of s).inputs (table_of s).gates g (passed_sound_gates s plan_passed.table) (omega (arith, R.gates)) in
      known_byte b (rw e sound.0)

  module _ (a : DAnd.And) where
    pub plan_inputs : p.shares * p.inputs ≡ (masked_table (gadget_of a) p.order (table_of s)).inputs
    plan_inputs = rw (R.shares, R.inputs) (sym (masked_inputs (gadget_of a) p.order (table_of s)))

    -- the bytes of the masked table
    pub plan_bytes_lem : length (table_bytes (masked_table (gadget_of a) p.order (table_of s))) ≡ plan_bytes p
    plan_bytes_lem =
        let m = masked_table (gadget_of a) p.order (table_of s) in
        let outputs = (masked_outputs (gadget_of a) p.order (table_of s) plan_passed.plain).0 in
        omega (arith, table_long_lem m, outputs, few_outputs, plan_inputs, R.wires a)

  pub plan_fits : PlanFits p
  plan_fits =
      let q = plan_passed in
      record {
        shares = omega (arith, R.shares, (order_range p.order q.order).1);
        inputs = omega (arith, plan_inputs Isw, R.wires Isw);
        wires = omega (arith, R.wires Isw, q.few_wires);
        outputs = omega (arith, few_outputs, q.few_outputs);
        tape = omega (arith, R.wires Isw, R.tape Isw, tape_below Isw p.order (table_of s));
      }

-- the refusals 1 to 7 of a tally, then 8 by the masked sizes
pub seven_refused :
    (s : List ℕ) (o : ℕ) (e : DRefusal.Refusal) → maskable_fault s o ≡ fault_of e
    → (a : DAnd.And) → plain_fault (gadget_of a) s o ≡ fault_of e
seven_refused s o e h a = eight_last (gadget_of a) s o ∙ refused_first _ e h

module _ {s : List ℕ} {o : ℕ} {y : DTally.Tally} {m : DMasked.Masked}
    (T : Tallied s o y) (M : MaskedBy o y.inputs y.outputs y.counts m) where
  pub plain_by : (a : DAnd.And) → plain_fault (gadget_of a) s o ≡ refused_if (too_large m) 8
  plain_by a =
      eight_last (gadget_of a) s o
      ∙ first_passed (maskable_fault s o) _ (maskable_passed T.accepted)
      ∙ ap (λ (x : Bool). refused_if x 8) (sym (large_many T.tally M a))

  pub eight_refused : too_large m ≡ true → (a : DAnd.And) → plain_fault (gadget_of a) s o ≡ fault 8 0
  eight_refused e a = plain_by a ∙ ap (λ (x : Bool). refused_if x 8) e

  -- the plan of a table that 8 does not refuse either
  pub planned_ready :
      too_large m ≡ false → PlanReady s (record {
        order = o;
        inputs = y.inputs;
        gates = y.gates;
        outputs = y.outputs;
        shares = m.shares;
        wires = m.wires;
        tape = m.tape;
      })
  planned_ready e = record {
    none = λ a. plain_by a ∙ ap (λ (x : Bool). refused_if x 8) e;
    inputs = T.tally.inputs;
    gates = T.tally.gates;
    outputs = T.tally.outputs;
    shares = M.shares;
    wires = wires_masked T.tally M;
    tape = tape_masked T.tally M;
  }

-- For contracts inside the library only: no promise of a call cites this. What a plain table and an order come to: the refusal
-- that answers, or the sizes of the masked table.
-- Assumes nothing.
use Rattle.std.specs.Prelude.{◌≡◌, Bool, true, ◌||◌, List, ℕ, ◌+◌, ◌-◌, ◌*◌, ◌≤◌, ltb, length, Result}
use Rattle.tables.specs.declared.Counts as DCounts
use Rattle.planning.specs.declared.Plan as DPlan
use Rattle.planning.specs.declared.Totals as DTotals
use Rattle.planning.specs.declared.Tally as DTally
use Rattle.planning.specs.declared.Masked as DMasked
use Rattle.tables.specs.declared.Refusal as DRefusal
use Rattle.tables.specs.Refusals.{none, passed}
use Rattle.tables.specs.Tables.{Table, wires, table_of, table_fault, random_fault, table_long}
use Rattle.tables.specs.Counted.{counts_of}
use Rattle.tables.specs.Inside.{Outcome}
use Rattle.construction.specs.Shares.{shares_of}
use Rattle.construction.specs.declared.And as DAnd
use Rattle.construction.specs.Gadgets.{gadget_of}
use Rattle.construction.specs.Wires.{cost, masked_table, tape_long}
use Rattle.construction.specs.Says.{order_ok, plain_fault}
use Rattle.construction.specs.Counts.{draws, counted, figures_by}
use Rattle.planning.specs.Maskable.{maskable_fault}

-- no more gates than a plain table can have
pub record FewGates (c : DCounts.Counts) : Type 0 where
  pub all : c.nots + c.xors + c.ands + c.constants + c.ors ≤ 65535

-- what so many gates of each kind cost and draw at n shares
pub record TotalsSay (c : DCounts.Counts) (n : ℕ) (r : DTotals.Totals) : Type 0 where
  pub wires : r.wires ≡ counted (λ k. cost k n) c
  pub draws : r.draws ≡ counted (λ k. draws k n) c

-- an order that 6 accepts, and sizes and counts that a table can have
pub record Countable (o i q : ℕ) (c : DCounts.Counts) : Type 0 where
  pub order : shares_of o ≤ 31
  pub inputs : i ≤ 65535
  pub outputs : q ≤ 65535
  pub gates : FewGates c

-- a table and an order that 1 to 7 accept
pub record Maskable (s : List ℕ) (o : ℕ) : Type 0 where
  pub table : passed (table_fault s) ≡ true
  pub order : order_ok o ≡ true
  pub plain : passed (random_fault 0 (table_of s).gates) ≡ true

-- the sizes of a plain table, and its gates of each kind
pub record TallyOf (t : Table) (y : DTally.Tally) : Type 0 where
  pub inputs : y.inputs ≡ t.inputs
  pub gates : y.gates ≡ length t.gates
  pub outputs : y.outputs ≡ length t.outputs
  pub counts : y.counts ≡ counts_of t.gates

-- what is tallied of a table that 1 to 7 accept at the order o: its sizes and its gates of each kind
pub record Tallied (s : List ℕ) (o : ℕ) (y : DTally.Tally) : Type 0 where
  pub accepted : Maskable s o
  pub tally : TallyOf (table_of s) y
  pub countable : Countable o y.inputs y.outputs y.counts

-- the first of 1 to 7, or the sizes and the gates of each kind of a table that they accept
abbrev pub TalliedSays : List ℕ → ℕ → Result DTally.Tally DRefusal.Refusal → Type 0
TalliedSays s o r = Outcome (maskable_fault s o) (Tallied s o) r

-- the masked sizes by the formula, of i inputs, q outputs and the counts c
pub record MaskedBy (o i q : ℕ) (c : DCounts.Counts) (m : DMasked.Masked) : Type 0 where
  pub shares : m.shares ≡ (figures_by o i q c).shares
  pub gates : m.gates ≡ counted (λ k. cost k (shares_of o)) c
  pub wires : m.wires ≡ (figures_by o i q c).wires
  pub outputs : m.outputs ≡ shares_of o * q
  pub tape : m.tape ≡ (figures_by o i q c).tape

-- 8 refuses masked sizes
abbrev pub too_large : DMasked.Masked → Bool
too_large m = ltb 65535 m.wires || ltb 65535 m.outputs

-- none of 1 to 8 refuses at the plan's order, and these are the sizes of the plain table and of its masked table, with whichever AND
pub record PlanReady (s : List ℕ) (p : DPlan.Plan) : Type 0 where
  pub none : (a : DAnd.And) → plain_fault (gadget_of a) s p.order ≡ none
  pub inputs : p.inputs ≡ (table_of s).inputs
  pub gates : p.gates ≡ length (table_of s).gates
  pub outputs : p.outputs ≡ length (table_of s).outputs
  pub shares : p.shares ≡ shares_of p.order
  pub wires : (a : DAnd.And) → p.wires ≡ wires (masked_table (gadget_of a) p.order (table_of s))
  pub tape : (a : DAnd.And) → p.tape ≡ tape_long (gadget_of a) p.order (table_of s)

-- the length of the masked table of a plan
abbrev pub plan_bytes : DPlan.Plan → ℕ
plan_bytes p = table_long (p.wires - p.shares * p.inputs) (p.shares * p.outputs)

-- the sizes of a plan are small
pub record PlanFits (p : DPlan.Plan) : Type 0 where
  pub shares : p.shares ≤ 31
  pub inputs : p.shares * p.inputs ≤ p.wires
  pub wires : p.wires ≤ 65535
  pub outputs : p.shares * p.outputs ≤ 65535
  pub tape : p.tape ≤ p.wires

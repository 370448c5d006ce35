-- What a plan that is ready says of a plain gate: its kind, its operands and its wires.
-- Assumes nothing.
use mathlib.Core.Path.{◌≡◌, refl, sym, ◌∙◌}
use mathlib.Core.Bool.{true, false}
use mathlib.Core.List.{List, [], ◌∷◌}
use Prim.Native.Nat.{ℕ, zero, suc, ◌+◌, ◌*◌, ◌≤◌, ◌<◌}
use native.Mathlib.Omega.{arith}
use lib.ListN.{length, get_or}
use Rattle.tables.specs.declared.Kind as DKind
use Rattle.tables.specs.declared.Kind.TheVariants as Named
use Rattle.tables.specs.Kinds.{kind_is}
use Rattle.tables.specs.Refusals.{passed}
use Rattle.tables.specs.Tables.{CONSTANT, kind_of, Gate, no_gate, gate_of, table_of, known, operands_of, is_random, random_fault, total}
use Rattle.tables.specs.Inside.{HasGates, HasOutputs}
use Rattle.tables.proofs.Run.{Reads}
use Rattle.tables.proofs.Accept.{accepted, operands_read, operands_below, cond_refused, has_gates, has_outputs, gates_of_length}
use Rattle.tables.proofs.Accept.{outputs_of_length}
use Rattle.tables.proofs.Format.{gates_passed, sound_at}
use Rattle.construction.specs.Shares.{up_from}
use Rattle.construction.specs.declared.And.TheVariants.{Isw}
use Rattle.construction.specs.Gadgets.{isw}
use Rattle.construction.specs.Wires.{cost}
use Rattle.construction.proofs.Costs.{masked_wires_lem}
use Rattle.construction.proofs.Orders.{order_range}
use Rattle.construction.proofs.Placed.{placed_at, placed_inputs, placed_after, share_below}
use Rattle.construction.proofs.Sum.{up_length}
use Rattle.planning.specs.declared.Plan as DPlan
use Rattle.planning.specs.Plans.{PlanReady}
use Rattle.planning.proofs.Planning.{plan_passed, plan_fits}
use Rattle.layout.specs.Layout.{LowShares}
use Rattle.share_places.specs.declared.KeptPlaces as DKeptPlaces
use Rattle.share_places.specs.declared.PlainGate as DPlainGate
use Rattle.share_places.specs.Located.{PlainGateIs, places_at, Room, Located, all_shares, gate_wire}
use Rattle.share_places.proofs.Located.{all_shares_length, gate_wire_left, gate_wire_next}

random_at :
    (i : ℕ) (gs : List Gate) (g : ℕ) → passed (random_fault i gs) ≡ true → g < length gs → is_random (get_or gs g no_gate).kind ≡ false
unfolding random_fault
random_at i [] g p h = absurd (omega arith)
random_at i (x ∷ xs) zero p h = (cond_refused (is_random x.kind) (random_fault (suc i) xs) 7 i refl p).0
random_at i (x ∷ xs) (suc g) p h =
    random_at (suc i) xs g (cond_refused (is_random x.kind) (random_fault (suc i) xs) 7 i refl p).1 (omega arith)

pub known_below : (k : ℕ) → known (kind_of k) ≡ true → k ≤ 5
known_below zero p = omega arith
known_below (suc zero) p = omega arith
known_below (suc (suc zero)) p = omega arith
known_below (suc (suc (suc zero))) p = omega arith
known_below (suc (suc (suc (suc zero)))) p = omega arith
known_below (suc (suc (suc (suc (suc zero))))) p = omega arith
known_below (suc (suc (suc (suc (suc (suc k)))))) p = let z : ◌≡◌ {A = ℕ} 0 1 = cc in absurd (omega arith)

-- at gate g, which is read as r and whose first masked wire is w
pub record Turn (I n g w : ℕ) (r : DPlainGate.PlainGate) : Type 0 where
  pub plain : is_random (kind_is r.kind) ≡ false
  pub left : r.left ≤ I + g
  pub right : r.right < I + g
  pub reads : Reads (I + g) (kind_is r.kind) r.left r.right
  pub fits : w + cost (kind_is r.kind) n ≤ 65535

-- the left operand of a constant is its value, that of any other gate an earlier wire
early_left :
    (k : DKind.Kind) (l r w : ℕ) → is_random (kind_is k) ≡ false → Reads w (kind_is k) l r → (kind_is k ≡ CONSTANT → ⊥) → l < w
early_left Named.Not l r w p h c = h
early_left Named.Xor l r w p h c = h.0
early_left Named.And l r w p h c = h.0
early_left Named.Random l r w p h c = let z : ◌≡◌ {A = ℕ} 0 1 = cc in absurd (omega arith)
early_left Named.Constant l r w p h c = absurd (c refl)
early_left Named.Or l r w p h c = h.0

module _ {I n g w : ℕ} {r : DPlainGate.PlainGate} (T : Turn I n g w r) where
  pub turn_early : (kind_is r.kind ≡ CONSTANT → ⊥) → r.left < I + g
  turn_early c = early_left r.kind r.left r.right (I + g) T.plain T.reads c

  pub turn_value : kind_is r.kind ≡ CONSTANT → r.left ≤ 1
  turn_value e = rw e at T.reads

-- the numbers of a plan
pub record Sized (s : List ℕ) (p : DPlan.Plan) : Type 0 where
  pub some : 3 ≤ p.shares
  pub few : p.shares ≤ 31
  pub plain : p.inputs + p.gates ≤ 65535
  pub inputs : p.shares * p.inputs ≤ 65535
  pub gates : HasGates s p.gates
  pub outputs : HasOutputs s p.gates p.outputs

module _ {s : List ℕ} {p : DPlan.Plan} (R : PlanReady s p) where
  pub plan_sized : Sized s p
  plan_sized =
      let q = plan_passed R in
      let f = plan_fits R in
      let gates = R.gates ∙ gates_of_length s in
      record {
        some = omega (arith, R.shares, (order_range p.order q.order).0);
        few = f.shares;
        plain = omega (arith, (accepted s q.table).few_wires, R.inputs, R.gates);
        inputs = omega (arith, f.inputs, f.wires);
        gates = has_gates s q.table gates;
        outputs = has_outputs s q.table gates (R.outputs ∙ outputs_of_length s);
      }

  -- the masked wires, as the gates cost them
  pub plan_wires : p.shares * (table_of s).inputs + total (λ k. cost k p.shares) (table_of s).gates ≡ p.wires
  plan_wires = rw R.shares (sym (R.wires Isw ∙ masked_wires_lem isw p.order (table_of s)))

  -- gate g is sound and not random
  module _ {g : ℕ} (h : g < p.gates) where
    inside : g < length (table_of s).gates
    inside = omega (arith, R.gates)

    abbrev this : Gate
    this = gate_of (table_of s) g

    pub turn_known : known this.kind ≡ true
    turn_known = (sound_at (table_of s).inputs (table_of s).gates g (gates_passed 0 _ _ (accepted s (plan_passed R).table).gates) inside).0

    pub turn_plain : is_random this.kind ≡ false
    turn_plain = random_at 0 (table_of s).gates g (plan_passed R).random inside

    pub turn :
        {w : ℕ} {r : DPlainGate.PlainGate} → w ≡ gate_wire p.shares (table_of s) g → PlainGateIs this r → Turn p.inputs p.shares g w r
    turn {w} {r} e is =
        let t = table_of s in
        let n = p.shares in
        let a = accepted s (plan_passed R).table in
        let sound = sound_at t.inputs t.gates g (gates_passed 0 _ _ a.gates) inside in
        let below = operands_below (t.inputs + g) (operands_of this.kind) this.left this.right (omega (arith, a.some_input)) sound.1 in
        record {
          plain = rw is.kind is.plain;
          left = omega (arith, below.0, is.left, R.inputs);
          right = omega (arith, below.1, is.right, R.inputs);
          reads = rw (is.kind, is.left, is.right, R.inputs)
              (operands_read (t.inputs + g) (operands_of this.kind) this.left this.right sound.1);
          fits =
              rw is.kind
              (omega (arith, e, gate_wire_next n t g inside, gate_wire_left n t (suc g), plan_wires, (plan_fits R).wires));
        }

  -- the wires of a plain wire's shares are 16-bit numbers
  pub located_low :
      {places : List DKeptPlaces.KeptPlaces} → Located (table_of s) p.shares places → (q : ℕ) → q < p.inputs + p.gates
      → LowShares p.shares (places_at places q)
  located_low L q h i k =
      let t = table_of s in
      let n = p.shares in
      let inside : q < length (all_shares n t) = omega (arith, all_shares_length n t, R.inputs, R.gates) in
      let placed =
      placed_after n (n * t.inputs) _ t.gates (omega arith)
      (rw (up_length t.inputs 0 (λ i. up_from n (n * i) (λ w. w))) (plan_passed R).plain.gates)
      (placed_inputs n t.inputs) in
      let below = share_below n _ _ (placed_at n _ (all_shares n t) q placed inside) i k in
      omega (arith, plan_wires, (plan_fits R).wires, rw (← L.holds q inside) at below)

  -- the array has the places of a plain wire
  pub located_room :
      {places : List DKeptPlaces.KeptPlaces} → Located (table_of s) p.shares places → {q : ℕ} → q < p.inputs + p.gates
      → Room (q + 1) places
  located_room L h = omega (arith, L.room, R.inputs, R.gates)

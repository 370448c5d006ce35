-- All gates in both runs: the gates from g on are left, their shares are where the array says.
-- Assumes nothing.
use mathlib.Core.Path.{◌≡◌, sym, ap, ◌∙◌, subst, subst₂}
use mathlib.Core.List.{List, [], ◌∷◌, ◌++◌, map}
use Prim.Native.Nat.{ℕ, suc, ◌+◌, ◌*◌, ◌≤◌, ◌<◌}
use native.Mathlib.Numerals.{add-one}
use native.Mathlib.Omega.{arith}
use lib.ListN.{length, get_or, take, drop, drop_of_length-le}
use lib.Seq.{drop-cons}
use Rattle.tables.specs.Kinds.{kind_is}
use Rattle.tables.specs.Tables.{Gate, no_gate, Table, gate_of, table_of, operands_of, total}
use Rattle.tables.specs.Inside.{ran_on}
use Rattle.tables.proofs.Run.{read_left, read_right}
use Rattle.construction.specs.Gadgets.{Gadget}
use Rattle.construction.specs.Wires.{driver_of, share, new_wires, new_shares, cost, masked, input_shares, shares_after}
use Rattle.construction.specs.Counts.{draws}
use Rattle.construction.proofs.Lawful.{Lawful}
use Rattle.construction.proofs.Placed.{placed_at, placed_inputs, share_below, new_wires_read}
use Rattle.planning.specs.declared.Plan as DPlan
use Rattle.planning.specs.Plans.{PlanReady}
use Rattle.planning.proofs.Planning.{plan_passed}
use Rattle.secrecy.specs.Maps.{flipped, gate_flips, map_gates}
use Rattle.secrecy.specs.Both.{BothFlip, flips_at}
use Rattle.construction.proofs.Placed.{plain_inputs}
use Rattle.secrecy.proofs.Flips.{gate_flips_read}
use Rattle.secrecy.proofs.Both.{left_long}
use Rattle.secrecy.proofs.MapGates.{GatesLeft, gates_start, gates_ready, gates_more, gates_end}
use Rattle.layout.specs.declared.Operands as DOperands
use Rattle.layout.specs.Layout.{share_wires}
use Rattle.share_places.specs.declared.KeptPlaces as DKeptPlaces
use Rattle.share_places.specs.declared.PlainGate as DPlainGate
use Rattle.share_places.specs.Located.{PlainGateIs, operands_at, Room, Located, shares_to, gate_wire}
use Rattle.share_places.proofs.Located.{gate_wire_next, shares_to_next, shares_to_length, located_at}
use Rattle.share_places.proofs.Turns.{Turn, turn, turn_early, turn_value, plan_sized, located_room}
use Rattle.map_gates.specs.Steps.{StepReady, GateRan, GatesReady}

-- the gates from g on are left, from wire w and from a place of the tape on; then the buffers are M, A and B
pub record Stepping (G : Gadget) (t : Table) (n k : ℕ) (ts M A B : List ℕ) (g w at : ℕ) (m x y : List ℕ) : Type 0 where
  pub wire : w ≡ gate_wire n t g
  pub left : GatesLeft G n k g w (shares_to n t g) (drop g t.gates) ts at M A B m x y

-- the masked gates, and both runs' random bits, as `GatesRan` has them
abbrev pub all_gates : Gadget → Table → ℕ → List Gate
all_gates G t n = map driver_of (masked G n 0 (n * t.inputs) (input_shares n t.inputs) t.gates)

abbrev pub first_bits : Table → ℕ → List ℕ → ℕ → List ℕ
first_bits t n ts at = take (total (λ kd. draws kd n) t.gates) (drop at ts)

abbrev pub second_bits : Gadget → Table → ℕ → ℕ → List ℕ → ℕ → List ℕ → List ℕ → List ℕ
second_bits G t n k ts at x y =
    let w = n * t.inputs in
    map_gates G n k 0 w (input_shares n t.inputs) t.gates (first_bits t n ts at) (take w x) (take w y)

-- the gates are left that began with the buffers m₀, x₀ and y₀
abbrev pub Going : Gadget → Table → ℕ → ℕ → List ℕ → ℕ → List ℕ → List ℕ → List ℕ → ℕ → ℕ → ℕ → List ℕ → List ℕ → List ℕ → Type 0
Going G t n k ts at₀ m₀ x₀ y₀ g w at m x y =
    let w₀ = n * t.inputs in
    let rs = first_bits t n ts at₀ in
    let ss = second_bits G t n k ts at₀ x₀ y₀ in
    Stepping G t n k ts (flips_at at₀ (flipped rs ss) m₀)
    (ran_on (all_gates G t n) rs w₀ x₀)
    (ran_on (all_gates G t n) ss w₀ y₀)
    g w at m x y

pub steps_start :
    {G : Gadget} → Lawful G → {s : List ℕ} {p : DPlan.Plan} (k : ℕ) {w at : ℕ} {ts m x y : List ℕ} → PlanReady s p → w ≡ p.shares * p.inputs
    → GatesReady p.shares (table_of s) ts at m x y
    → Going G (table_of s) p.shares k ts at m x y 0 w at m x y
unfolding shares_after total
steps_start L {s} {p} k {w} R e both =
    let t = table_of s in
    let n = p.shares in
    let wire : w ≡ n * t.inputs = e ∙ ap (λ (i : ℕ). n * i) R.inputs in
    rw wire
    (record {
      wire = omega arith;
      left =
          gates_start L n k 0 (n * t.inputs) (input_shares n t.inputs) t.gates both
          (omega (arith, (plan_sized R).some))
          (plain_inputs n t (plan_passed R).plain)
          (placed_inputs n t.inputs);
    })

-- at gate g, whose fields are r, where the array says where its operands' shares are
module _ {G : Gadget} (L : Lawful G) {s : List ℕ} {p : DPlan.Plan} {k : ℕ} {ts M A B : List ℕ}
    {g w at : ℕ} {m x y : List ℕ} {r : DPlainGate.PlainGate}
    {places : List DKeptPlaces.KeptPlaces}
    (R : PlanReady s p)
    (P : Stepping G (table_of s) p.shares k ts M A B g w at m x y)
    (h : g < p.gates)
    (is : PlainGateIs (gate_of (table_of s) g) r)
    (Z : Located (table_of s) p.shares places) where
  abbrev t : Table
  t = table_of s

  abbrev n : ℕ
  n = p.shares

  abbrev o : DOperands.Operands
  o = operands_at places r.left r.right

  abbrev this : Gate
  this = gate_of t g

  abbrev S : List (List ℕ)
  S = shares_to n t g

  inside : g < length t.gates
  inside = omega (arith, R.gates)

  facts : Turn p.inputs n g w r
  facts = turn R h P.wire is

  left_are : r.left < p.inputs + g → get_or S this.left [] ≡ share_wires n o.left
  left_are h = rw (← is.left) (located_at Z g r.left (omega (arith, inside)) (omega (arith, h, R.inputs)))

  right_are : r.right < p.inputs + g → get_or S this.right [] ≡ share_wires n o.right
  right_are h = rw (← is.right) (located_at Z g r.right (omega (arith, inside)) (omega (arith, h, R.inputs)))

  -- the gates that are left: this one, and those after it
  here : GatesLeft G n k g w S (this ∷ drop (suc g) t.gates) ts at M A B m x y
  here = subst (λ (gs : List Gate). GatesLeft G n k g w S gs ts at M A B m x y) (drop-cons t.gates g no_gate inside) P.left

  -- the shares of a plain wire so far come before wire w
  before : (q : ℕ) → q < p.inputs + g → (i : ℕ) → i < n → share (get_or S q []) i < w
  before q k i l =
      share_below n w (get_or S q [])
      (placed_at n w S q here.placed (omega (arith, shares_to_length n t g (omega (arith, inside)), R.inputs))) i l

  -- the array has both operands
  pub step_room : Room (r.left + 1) places × Room (r.right + 1) places
  step_room = (
    located_room R Z (omega (arith, facts.left)),
    located_room R Z (omega (arith, facts.right)),
  )

  pub step_ready : StepReady (kind_is r.kind) r.left n w o ts at m x y
  step_ready =
      let z = plan_sized R in
      record {
        value = turn_value facts;
        some = omega (arith, z.some);
        shares = λ c. record {
          few = z.few;
          low = omega (arith, facts.fits);
          left = λ i l.
              subst (λ (ws : List ℕ). share ws i < w) (left_are (turn_early facts c))
              (before this.left (omega (arith, turn_early facts c, is.left)) i l);
          right = λ i l.
              subst (λ (ws : List ℕ). share ws i < w) (right_are facts.right)
              (before this.right (omega (arith, facts.right, is.right)) i l);
        };
        wires = facts.fits;
        both = rw is.kind (gates_ready L here);
      }

  -- the gate has run with the share j, which is the free one
  pub step_turn :
      {c d j : ℕ} {m' x' y' : List ℕ} → GateRan G (kind_is r.kind) r.left n j g w o ts at m m' x x' y y' → j ≡ k
      → c ≡ cost (kind_is r.kind) n → d ≡ draws (kind_is r.kind) n → Stepping G t n k ts M A B (g + 1) (w + c) (at + d) m' x' y'
  step_turn {c} {d} {j} {m'} {x'} {y'} ran free size bits =
      let ran_free = subst (λ (i : ℕ). GateRan G (kind_is r.kind) r.left n i g w o ts at m m' x x' y y') free ran in
      let kind = this.kind in
      let l = get_or S this.left [] in
      let e = get_or S this.right [] in
      let v : ℕ → ℕ = λ q. get_or x q 0 in
      let u : ℕ → ℕ = λ q. get_or y q 0 in
      let read = read_left (operands_of (kind_is r.kind)) (p.inputs + g) r.left r.right facts.reads (λ h. sym (left_are h)) in
      let read' = read_right (operands_of (kind_is r.kind)) (p.inputs + g) r.left r.right facts.reads (λ h. sym (right_are h)) in
      let gates : map driver_of (new_wires G (kind_is r.kind) r.left n g w (share_wires n o.left) (share_wires n o.right))
      ≡ map driver_of (new_wires G kind this.left n g w l e) =
      ap (map driver_of) (new_wires_read G (kind_is r.kind) r.left n g w _ l _ e read read')
      ∙ rw (is.kind, is.left) in
      let flips : gate_flips G (kind_is r.kind) n k (share_wires n o.left) (share_wires n o.right) v u ≡ gate_flips G kind n k l e v u =
      gate_flips_read G (kind_is r.kind) n k _ l _ e v u read read' ∙ rw is.kind in
      let of_shares
      : BothFlip (map driver_of (new_wires G kind this.left n g w l e)) (gate_flips G kind n k l e v u) ts at w m m' x x' y y' =
      subst₂ (λ (gs : List Gate) (fs : List ℕ). BothFlip gs fs ts at w m m' x x' y y') gates flips ran_free in
      let next : S ++ (new_shares kind n w (get_or S this.left []) ∷ []) ≡ shares_to n t (suc g) =
      rw P.wire (sym (shares_to_next n t g inside)) in
      rw (add-one, size, bits, is.kind)
      (record {
        wire = omega (arith, P.wire, gate_wire_next n t g inside);
        left =
            subst
            (λ (Q : List (List ℕ)). GatesLeft G n k (suc g) (w + cost kind n) Q (drop (suc g) t.gates) ts (at + draws kind n)
            M A B m' x' y')
            next
            (gates_more L here of_shares);
      })

-- no gate is left
pub steps_end :
    {G : Gadget} {t : Table} {n k : ℕ} {ts M A B : List ℕ} {g w at : ℕ} {m x y : List ℕ} → Stepping G t n k ts M A B g w at m x y
    → length t.gates ≤ g → (m ≡ M) × (x ≡ A) × (y ≡ B)
steps_end {G} {t} {n} {k} {ts} {M} {A} {B} {g} {w} {at} {m} {x} {y} P h =
    gates_end
    (subst (λ (gs : List Gate). GatesLeft G n k g w (shares_to n t g) gs ts at M A B m x y) (drop_of_length-le t.gates h) P.left)

-- the buffers keep their lengths
pub steps_long :
    {G : Gadget} {t : Table} {n k : ℕ} {ts M A B : List ℕ} {g w at : ℕ} {m x y : List ℕ} → Stepping G t n k ts M A B g w at m x y
    → (length m ≡ length M) × (length x ≡ length A) × (length y ≡ length B)
steps_long P = left_long P.left.left

-- The loops that note where shares are: the inputs, and then each gate by its kind.
-- Assumes nothing.
use mathlib.Core.Path.{◌≡◌, sym, ap, ◌∙◌, subst}
use mathlib.Core.List.{List, [], ◌∷◌, ◌++◌}
use Prim.Native.Nat.{ℕ, suc, ◌+◌, ◌*◌, ◌≤◌, ◌<◌}
use native.Mathlib.Nat.{zero-add}
use native.Mathlib.Numerals.{add-one}
use native.Mathlib.Omega.{arith}
use lib.ListN.{length, get_or, replicate, length-replicate}
use Rattle.tables.specs.Kinds.{kind_is}
use Rattle.tables.specs.Tables.{Table, gate_of, table_of, operands_of, total}
use Rattle.tables.proofs.Run.{OfLeft, read_left}
use Rattle.layout.specs.declared.Places as DPlaces
use Rattle.construction.specs.Shares.{up_from}
use Rattle.construction.specs.Wires.{cost, new_shares, input_shares, shares_after}
use Rattle.construction.proofs.Sum.{up_length, up_append}
use Rattle.construction.proofs.Placed.{new_shares_read}
use Rattle.planning.specs.declared.Plan as DPlan
use Rattle.planning.specs.Plans.{PlanReady}
use Rattle.layout.specs.Layout.{share_wires}
use Rattle.share_places.specs.declared.KeptPlaces as DKeptPlaces
use Rattle.share_places.specs.declared.PlainGate as DPlainGate
use Rattle.share_places.specs.Located.{PlainGateIs, places_at, Room, Put, Holds, Noted, Located, shares_to, all_shares, gate_wire}
use Rattle.share_places.proofs.Located.{with_places, shares_run, noted_start, noted_next, shares_to_all, shares_to_length}
use Rattle.share_places.proofs.Located.{gate_wire_next, shares_to_next}
use Rattle.share_places.proofs.Turns.{turn}

-- a cleared array has room
pub room_of : (c k : ℕ) (a : DKeptPlaces.KeptPlaces) → c ≤ k → Room c (replicate k a)
room_of c k a h = omega (arith, length-replicate k a)

-- the array once the shares are noted
pub plan_located :
    {s : List ℕ} {p : DPlan.Plan} {L L' : List DKeptPlaces.KeptPlaces} → PlanReady s p → Room (p.inputs + p.gates) L
    → Noted p.shares (all_shares p.shares (table_of s)) L L' → Located (table_of s) p.shares L'
plan_located R r N = record { room = omega (arith, N.room, R.inputs, R.gates); holds = N.holds }

-- first the plain wires of S, then those of a longer list
pub noted_both :
    {n : ℕ} {S Z : List (List ℕ)} {L₀ L₁ L₂ : List DKeptPlaces.KeptPlaces} → Noted n S L₀ L₁ → Noted n Z L₁ L₂
    → length S ≤ length Z → Noted n Z L₀ L₂
noted_both N M h = record { holds = M.holds; past = λ q k. M.past q k ∙ N.past q (omega arith); room = M.room ∙ N.room }

up_suc : {A : Type 0} (c : ℕ) (f : ℕ → A) → up_from (suc c) 0 f ≡ up_from c 0 f ++ (f c ∷ [])
unfolding up_from
up_suc c f = rw (add-one, zero-add) at (up_append c 1 0 f)

-- the inputs before number i are noted, and the next one's first share is on wire w
pub record Inputs (n : ℕ) (L₀ L : List DKeptPlaces.KeptPlaces) (i w : ℕ) : Type 0 where
  pub noted : Noted n (input_shares n i) L₀ L
  pub at : w ≡ n * i

pub inputs_start : {n : ℕ} {L : List DKeptPlaces.KeptPlaces} → Inputs n L L 0 0
unfolding up_from
inputs_start = record { noted = noted_start (λ q h. absurd (omega arith)); at = omega arith }

pub inputs_turn :
    {n : ℕ} {L₀ L L' : List DKeptPlaces.KeptPlaces} {i w : ℕ} → Inputs n L₀ L i w → 1 ≤ n → Room (i + 1) L
    → Put i (with_places w (w + 1) 1) L L' → Inputs n L₀ L' (i + 1) (w + n)
inputs_turn {n} {i = i} {w = w} P some room W =
    let f : ℕ → List ℕ = λ j. up_from n (n * j) (λ x. x) in
    let one : share_wires n (with_places w (w + 1) 1) ≡ f i =
    shares_run n w some ∙ ap {A = ℕ} {B = List ℕ} (λ v. up_from n v (λ x. x)) P.at in
    rw add-one
    (record { noted = rw (up_suc i f, ← one) (noted_next P.noted (sym (up_length i 0 f)) room W); at = omega (arith, P.at) })

-- the gates before number g are noted, and gate g begins at wire w
pub record Placing (t : Table) (n : ℕ) (L₀ L : List DKeptPlaces.KeptPlaces) (g w : ℕ) : Type 0 where
  pub noted : Noted n (shares_to n t g) L₀ L
  pub wire : w ≡ gate_wire n t g

module _ {s : List ℕ} {p : DPlan.Plan} (R : PlanReady s p) where
  pub placing_start :
      {L : List DKeptPlaces.KeptPlaces} → Holds p.shares (input_shares p.shares p.inputs) L
      → Placing (table_of s) p.shares L L 0 (p.shares * p.inputs)
  unfolding shares_after total
  placing_start {L} h = record {
    noted = noted_start (subst (λ (i : ℕ). Holds p.shares (input_shares p.shares i) L) R.inputs h);
    wire = ap (λ (i : ℕ). p.shares * i) R.inputs ∙ omega arith;
  }

  module _ {L₀ L : List DKeptPlaces.KeptPlaces} {g w : ℕ} (P : Placing (table_of s) p.shares L₀ L g w) where
    pub placing_end : g ≡ p.gates → Noted p.shares (all_shares p.shares (table_of s)) L₀ L
    placing_end h = rw (← shares_to_all p.shares (table_of s) g (h ∙ R.gates)) P.noted

    pub placing_turn :
        {L' : List DKeptPlaces.KeptPlaces} {u : ℕ} {x : DPlainGate.PlainGate} {a r : DPlaces.Places} → g < p.gates
        → PlainGateIs (gate_of (table_of s) g) x
        → a ≡ places_at L x.left → share_wires p.shares r ≡ new_shares (kind_is x.kind) p.shares w (share_wires p.shares a)
        → Room (p.inputs + g + 1) L → Put (p.inputs + g) r L L' → u ≡ cost (kind_is x.kind) p.shares
        → Placing (table_of s) p.shares L₀ L' (g + 1) (w + u)
    placing_turn {L'} {u} {x} {a} {r} h is places new room W e =
        let t = table_of s in
        let n = p.shares in
        let inside : g < length t.gates = omega (arith, R.gates) in
        let S = shares_to n t g in
        let long : length S ≡ t.inputs + g = shares_to_length n t g (omega arith) in
        let old : OfLeft (operands_of (kind_is x.kind)) (share_wires n a ≡ get_or S (gate_of t g).left []) =
        read_left (operands_of (kind_is x.kind)) (p.inputs + g) x.left x.right (turn R h P.wire is).reads
        (λ k. rw (places, ← is.left) (P.noted.holds x.left (omega (arith, long, R.inputs)))) in
        let one : share_wires n r ≡ new_shares (gate_of t g).kind n (gate_wire n t g) (get_or S (gate_of t g).left []) =
        subst (λ (v : ℕ). share_wires n r ≡ new_shares (gate_of t g).kind n v (get_or S (gate_of t g).left [])) P.wire
        (rw is.kind at (new ∙ new_shares_read (kind_is x.kind) n w (share_wires n a) (get_or S (gate_of t g).left []) old)) in
        rw add-one
        (record {
          noted = rw (shares_to_next n t g inside, ← one) (noted_next P.noted (omega (arith, long, R.inputs)) room W);
          wire = rw (e, is.kind) (omega (arith, P.wire, gate_wire_next n t g inside));
        })

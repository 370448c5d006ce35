-- Two searches, by what is left to pass: which pair of shares stands at a place, and which plain gate has a wire.
-- Assumes nothing.
use mathlib.Core.Path.{◌≡◌, refl, sym, ap, ◌∙◌}
use mathlib.Core.List.{List, [], ◌∷◌, ◌++◌, map}
use Prim.Native.Nat.{ℕ, zero, suc, ◌+◌, ◌-◌, ◌*◌, ◌≤◌, ◌<◌}
use native.Mathlib.Numerals.{add-one}
use native.Mathlib.Omega.{arith}
use lib.ListN.{length, get_or, drop, get_or-append}
use lib.Seq.{get_or-append-add, drop-cons}
use Rattle.tables.specs.declared.Kind as DKind
use Rattle.tables.specs.Kinds.{kind_is}
use Rattle.tables.specs.Tables.{no_gate, Table, gate_of, table_of, total}
use Rattle.tables.proofs.Total.{total_next, total_none}
use Rattle.planning.specs.declared.Plan as DPlan
use Rattle.construction.specs.Shares.{shares_of, up_from, pair_of, pairs_from, pairs, tri}
use Rattle.construction.specs.declared.And.TheVariants.{Isw}
use Rattle.construction.specs.Gadgets.{Gadget, isw}
use Rattle.construction.specs.Wires.{origin_of, cost, new_shares, input_shares, masked}
use Rattle.construction.specs.Wires.{origins, origin_at}
use Rattle.planning.specs.Plans.{PlanReady}
use Rattle.origins.specs.Origins.{PairSays, NewWireSays}
use Rattle.construction.proofs.Sum.{up_length, up_at}
use Rattle.construction.proofs.Costs.{masked_wires_lem}
use Rattle.construction.proofs.Origins.{origins_gate, masked_here, masked_past}

-- the pair at place q of n shares is at place `left` of those from share `lower` on, which has `after` shares after it
pub record PairLeft (n q lower left after : ℕ) : Type 0 where
  pub shares : n ≡ lower + suc after
  pub few : left < tri (suc after)
  pub same : get_or (pairs n) q (pair_of 0 0) ≡ get_or (pairs_from (suc after) lower) left (pair_of 0 0)

pub pair_start : (n q : ℕ) → q < tri n → PairLeft n q 0 q (n - 1)
unfolding tri
pair_start zero q h = absurd (omega arith)
pair_start (suc c) q h =
    let e : suc c - 1 ≡ c = omega arith in
    rw e (record { shares = omega arith; few = h; same = refl })

-- where its place is past the pairs of share `lower`, there are some
pub pair_some : {n q lower left : ℕ} (after : ℕ) → PairLeft n q lower left after → after ≤ left → 1 ≤ after
unfolding tri
pair_some zero L h = absurd (omega (arith, L.few))
pair_some (suc after) L h = omega arith

-- the pairs of share `lower` are passed
pub pair_turn :
    {n q lower left : ℕ} (after : ℕ) → PairLeft n q lower left after → after ≤ left
    → PairLeft n q (lower + 1) (left - after) (after - 1)
unfolding tri pairs_from
pair_turn zero L h = absurd (omega (arith, L.few))
pair_turn {n} {q} {lower} {left} (suc after) L h =
    let mine = up_from (suc after) (suc lower) (λ j. pair_of lower j) in
    let long : length mine ≡ suc after = up_length (suc after) (suc lower) (λ j. pair_of lower j) in
    let past : left ≡ length mine + (left - suc after) = omega arith in
    let one : suc after - 1 ≡ after = omega arith in
    let next : get_or (mine ++ pairs_from (suc after) (suc lower)) left (pair_of 0 0)
    ≡ get_or (pairs_from (suc after) (suc lower)) (left - suc after) (pair_of 0 0) =
    ap (λ (y : ℕ). get_or (mine ++ pairs_from (suc after) (suc lower)) y (pair_of 0 0)) past
    ∙ get_or-append-add mine (pairs_from (suc after) (suc lower)) (left - suc after) (pair_of 0 0) in
    rw (one, add-one) (record { shares = omega (arith, L.shares); few = omega (arith, L.few); same = L.same ∙ next })

pub pair_end :
    {n q lower left after : ℕ} → PairLeft n q lower left after → left < after
    → pair_of lower (lower + 1 + left) ≡ get_or (pairs n) q (pair_of 0 0)
unfolding pairs_from
pair_end {n} {q} {lower} {left} {after} L h =
    let mine = up_from after (suc lower) (λ j. pair_of lower j) in
    let long : length mine ≡ after = up_length after (suc lower) (λ j. pair_of lower j) in
    sym
    (L.same
    ∙ get_or-append mine (pairs_from after (suc lower)) (pair_of 0 0) left (omega arith)
    ∙ up_at after (suc lower) (λ j. pair_of lower j) left (pair_of 0 0) h
    ∙ rw add-one)

-- the same as the code counts: how many shares stand after share `lower` follows from `lower`
pub pair_first : {n q after : ℕ} → q < tri n → after ≡ n - 1 - 0 → PairLeft n q 0 q after
pair_first {n} {q} h e = let same : n - 1 - 0 ≡ n - 1 = omega arith in rw (e, same) (pair_start n q h)

pub pair_next :
    {n q lower left after next : ℕ} → PairLeft n q lower left after → after ≤ left → next ≡ n - 1 - (lower + 1)
    → PairLeft n q (lower + 1) (left - after) next
pair_next {n} {q} {lower} {left} {after} L h e =
    let same : n - 1 - (lower + 1) ≡ after - 1 = omega (arith, L.shares) in rw (e, same) (pair_turn after L h)

pub pair_found :
    {n q lower left after upper : ℕ} → PairLeft n q lower left after → left < after → upper ≡ lower + 1 + left
    → PairSays n q (record { lower = lower; upper = upper })
pair_found L h e =
    rw e (record { is = pair_end L h; ordered = omega arith; inside = omega (arith, L.shares) })

-- the search for the plain gate of a wire, at gate g, whose first new wire is `start`: the wire is among the new wires of the
-- gates left
pub record Seeking (t : Table) (n wire g start : ℕ) : Type 0 where
  pub shares : List (List ℕ)
  pub past : start ≤ wire
  pub ahead : wire < start + total (λ k. cost k n) (drop g t.gates)
  pub same :
      (G : Gadget) (o : ℕ) → n ≡ shares_of o
      → origin_at (origins G o t) wire
      ≡ origin_at (map origin_of (masked G n g start shares (drop g t.gates))) (wire - start)

pub seek_start :
    {s : List ℕ} {p : DPlan.Plan} {wire : ℕ} → PlanReady s p → p.shares * p.inputs ≤ wire → wire < p.wires
    → Seeking (table_of s) p.shares wire 0 (p.shares * p.inputs)
seek_start {s} {p} {wire} R h k =
    let n = p.shares in
    let m = (table_of s).inputs in
    let long = masked_wires_lem isw p.order (table_of s) in
    rw R.inputs
    (record {
      shares = input_shares n m;
      past = rw R.inputs at h;
      ahead = omega (arith, R.wires Isw, rw (← R.shares) at long);
      same = λ G o e.
          let past : wire ≡ shares_of o * m + (wire - shares_of o * m) = omega (arith, rw (R.inputs, e) at h) in
          rw e (ap (origin_at (origins G o (table_of s))) past ∙ origins_gate G o (table_of s) (wire - shares_of o * m));
    })

module _ {t : Table} {n wire g start : ℕ} (S : Seeking t n wire g start) where
  pub seek_some : g < length t.gates
  seek_some =
      let some : length t.gates ≤ g → ⊥ =
      λ e. omega (arith, S.past, S.ahead, total_none (λ k. cost k n) t g e) in
      omega (arith, some)

  same_wires :
      (G : Gadget) (o : ℕ) → n ≡ shares_of o
      → origin_at (origins G o t) wire
      ≡ origin_at (map origin_of (masked G n g start S.shares (gate_of t g ∷ drop (suc g) t.gates))) (wire - start)
  same_wires G o e = rw (drop-cons t.gates g no_gate seek_some) at (S.same G o e)

  -- gate g and its c new wires are passed
  pub seek_turn :
      {c : ℕ} (b : DKind.Kind) → kind_is b ≡ (gate_of t g).kind → c ≡ cost (kind_is b) n → start + c ≤ wire
      → Seeking t n wire (g + 1) (start + c)
  seek_turn {c} b k e h =
      let x = gate_of t g in
      let costs : c ≡ cost x.kind n = rw (← k) e in
      rw (costs, add-one)
      (record {
        shares = S.shares ++ (new_shares x.kind n start (get_or S.shares x.left []) ∷ []);
        past = omega arith;
        ahead = omega (arith, S.ahead, total_next (λ k. cost k n) t g seek_some);
        same = λ G o en.
            same_wires G o en
            ∙ masked_past G n g start S.shares x (drop (suc g) t.gates) (wire - start)
            (wire - (start + cost x.kind n))
            (omega arith);
      })

  -- the wire is one of gate g's c new wires
  pub seek_end :
      {b : DKind.Kind} {c o : ℕ} → n ≡ shares_of o → kind_is b ≡ (gate_of t g).kind → c ≡ cost (kind_is b) n
      → wire < start + c
      → (G : Gadget) → NewWireSays G t o wire (record { gate = g; kind = b; place = wire - start })
  seek_end {b} {c} {o} en k e h G =
      let x = gate_of t g in
      let costs : c ≡ cost x.kind n = rw (← k) e in
      record {
        start = start;
        operand = (gate_of t g).left;
        left = get_or S.shares x.left [];
        right = get_or S.shares x.right [];
        below = rw (k, ← en) (omega (arith, S.past, costs));
        origin =
            rw (k, ← en)
            (same_wires G o en
            ∙ masked_here G n g start S.shares x (drop (suc g) t.gates) (wire - start) (omega (arith, S.past, costs)));
      }

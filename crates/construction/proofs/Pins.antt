-- The marks of a probe, by where its wire comes from: a wire that is share s of a plain wire carries s alone, so the pins of a gate add
-- nothing to what its own wire carries, but in the pairs of an AND, where the gadget says what they add.
-- Assumes nothing.
use mathlib.Core.Path.{◌≡◌, refl, sym, ap, ◌∙◌, subst}
use mathlib.Core.Bool.{Bool, true, false, cond}
use mathlib.Core.List.{List, [], ◌∷◌, map}
use Prim.Native.Nat.{ℕ, zero, suc, ◌+◌, ◌-◌, ◌*◌, ◌%◌, ◌≤◌, ◌<◌}
use native.Mathlib.Omega.{arith}
use lib.Dec.{ltb}
use lib.ListN.{length, get_or, length-map, get_or-map}
use borrow.Author.Tests.{ltb-true, ltb-false}
use Rattle.tables.specs.Tables.{Kind, NOT, XOR, AND, RANDOM, CONSTANT, OR, UNKNOWN, Gate, gate, no_gate, Table, wires, operands_of, pins, total}
use Rattle.tables.specs.Runs.{of_each}
use Rattle.tables.proofs.Lists.{All, all_get_d}
use Rattle.tables.proofs.Run.{OfLeft, OfRight}
use Rattle.tables.proofs.Accept.{Plain, PlainGate, PlainGates}
use Rattle.construction.specs.Shares.{shares_of, up_from, Pair, pair_of, pairs, tri}
use Rattle.construction.specs.Gadgets.{Five, index_of, Gadget}
use Rattle.construction.specs.PinMarks.{with_pins}
use Rattle.construction.specs.Wires.{Part, pair, own, sum, in_and, last_not, Origin, and_part, xor_share, constant_share}
use Rattle.construction.specs.Wires.{or_part, part_marks, marks, Wire, wire, driver_of, origin_of, share, first_on, adding, row_wires}
use Rattle.construction.specs.Wires.{pair_wire, and_wires, and_shares, and_cost, new_wires, new_shares, cost, masked, input_shares, masked_wires}
use Rattle.construction.specs.Wires.{masked_table, origins, origin_at, wire_marks, joined, probe_marks}
use Rattle.construction.proofs.Sum.{up_at, up_all}
use Rattle.construction.proofs.Rows.{pairs_length, pairs_in, pair_at_lem, row_length, row_all}
use Rattle.construction.proofs.Each.{Each, each_append, each_at, each_up}
use Rattle.construction.proofs.Joined.{alone_joined}
use Rattle.construction.proofs.Lawful.{Lawful}
use Rattle.construction.proofs.Costs.{and_length, or_and}
use Rattle.construction.proofs.Origins.{no_wire, origin_map, origins_share, origins_input, origins_gate}
use Rattle.construction.proofs.Origins.{pair_origin, own_origin, sum_origin, masked_here, masked_past}
use Rattle.construction.proofs.Origins.{share_origin, first_origin, last_origin, inner_origin}
use Rattle.construction.proofs.Placed.{index_small, row_ends, drop_share, plain_inputs}
use Rattle.construction.proofs.Products.{row_terms, five_wire, each_five, and_share_at, each_and}
use Rattle.construction.proofs.Gatewise.{masked_each}

-- n wires, each of which carries the number of its share alone
abbrev pub ByShare : ℕ → (ℕ → List ℕ) → List ℕ → Type 0
ByShare n M a = (i : ℕ) → i < n → M (share a i) ≡ suc i ∷ []

-- what wire p and its pins carry, joined, is what a probe on it carries by its origin: two share numbers at most
pub record PinsJoin (G : Gadget) (M : ℕ → List ℕ) (p : ℕ) (x : Wire) : Type 0 where
  pub is : joined (of_each M (p ∷ pins x.driver)) ≡ marks (with_pins G) x.origin
  pub few : length (marks (with_pins G) x.origin) ≤ 2

-- a wire and pins that carry m alone
alone_join :
    (G : Gadget) (M : ℕ → List ℕ) (m p : ℕ) (x : Wire) → marks (with_pins G) x.origin ≡ m ∷ [] → M p ≡ m ∷ []
    → All (λ q. M q ≡ m ∷ []) (pins x.driver) → PinsJoin G M p x
alone_join G M m p x e here a =
    record { is = alone_joined M m p (pins x.driver) here a ∙ sym e; few = rw e (omega arith) }

-- M gives the marks of c wires, of which the first is w
abbrev pub Known : Gadget → (ℕ → List ℕ) → ℕ → ℕ → List Wire → Type 0
Known G M c w xs = (d : ℕ) → d < c → M (w + d) ≡ marks G (origin_at (map origin_of xs) d)

-- the sums of row i carry share i alone
adding_joins :
    (G : Gadget) (M : ℕ → List ℕ) (part : Part → Origin) → ((p : Part) → marks (with_pins G) (part p) ≡ part_marks (with_pins G) p)
    → (i m last next : ℕ) (zs : List ℕ) → M last ≡ suc i ∷ [] → All (λ z. M z ≡ suc i ∷ []) zs
    → ((d : ℕ) → d < length zs → M (next + d) ≡ suc i ∷ [])
    → Each (PinsJoin G M) next (adding (λ m. part (sum i m)) m last next zs)
unfolding All Each adding
adding_joins G M part same i m last next [] e a later = tt
adding_joins G M part same i m last next (z ∷ zs) e a later =
    let here : M next ≡ suc i ∷ [] = ap M {x = next} {y = next + 0} (omega arith) ∙ later 0 (omega arith) in (
      alone_join G M (suc i) next _ (same (sum i m)) here (e, (a.0, tt)),
      adding_joins G M part same i (suc m) next (suc next) zs here a.1
          (λ d h. ap M {x = suc next + d} {y = next + suc d} (omega arith) ∙ later (suc d) (omega arith)),
    )

module _
    {G : Gadget} (L : Lawful G) (n : ℕ) (part : Part → Origin) (same : (H : Gadget) (p : Part) → marks H (part p) ≡ part_marks H p)
    (M : ℕ → List ℕ) (w : ℕ) (a b : List ℕ) (sa : ByShare n M a) (sb : ByShare n M b)
    (known : Known G M (and_cost n) w (and_wires G n part w a b))
  where
    -- the marks of a wire of the AND, at place d
    marks_at :
        (d p : ℕ) (x : Part) → d < and_cost n → p ≡ w + d → origin_at (map origin_of (and_wires G n part w a b)) d ≡ part x
        → M p ≡ part_marks G x
    marks_at d p x h e o = ap M e ∙ known d h ∙ ap (marks G) o ∙ same G x

    pair_marks_lem :
        (q : ℕ) → q < tri n → (f : Five)
        → M (pair_wire w f q)
        ≡ G.marks (suc (get_or (pairs n) q (pair_of 0 0)).lower) (suc (get_or (pairs n) q (pair_of 0 0)).upper) f
    pair_marks_lem q h f =
        marks_at (5 * q + index_of f) (pair_wire w f q) (pair f _ _) (omega (arith, index_small f)) (omega arith)
        (pair_origin G n part w a b f q (5 * q + index_of f) h refl)

    -- the same where the pair is known
    pair_marks_at :
        (q i j : ℕ) → q < tri n → get_or (pairs n) q (pair_of 0 0) ≡ pair_of i j → (f : Five)
        → M (pair_wire w f q) ≡ G.marks (suc i) (suc j) f
    pair_marks_at q i j h e f =
        subst (λ (p : Pair). M (pair_wire w f q) ≡ G.marks (suc p.lower) (suc p.upper) f) e (pair_marks_lem q h f)

    abbrev row_from : ℕ → ℕ
    row_from i = w + 5 * tri n + n * i

    row_marks : (i m : ℕ) → i < n → m < n → M (row_from i + m) ≡ suc i ∷ []
    row_marks i zero hi hm =
        marks_at (5 * tri n + n * i) (row_from i + 0) (own i) (omega (arith, row_ends n i hi)) (omega arith)
        (own_origin G n part w a b i _ hi refl)
    row_marks i (suc m) hi hm =
        marks_at (5 * tri n + n * i + suc m) (row_from i + suc m) (sum i (suc m)) (omega (arith, row_ends n i hi)) (omega arith)
        (sum_origin G n part w a b i (suc m) _ hi (omega arith) hm refl)

    -- what row i adds carries share i alone
    terms_marks : (i : ℕ) → i < n → All (λ z. M z ≡ suc i ∷ []) (row_terms G n w i)
    terms_marks i h =
        row_all (λ z. M z ≡ suc i ∷ []) n _ _ i h
        (λ j l.
        let at = pair_at_lem n j i (pair_of 0 0) l h in
        pair_marks_at _ j i at.0 at.1 G.high ∙ L.high_mark (suc j) (suc i))
        (λ j l m.
        let at = pair_at_lem n i j (pair_of 0 0) l m in
        pair_marks_at _ i j at.0 at.1 G.low ∙ L.low_mark (suc i) (suc j))

    pair_joins :
        (q : ℕ) → q < tri n → (f : Five)
        → PinsJoin G M (w + 5 * q + index_of f) (five_wire G part a b (w + 5 * q) (get_or (pairs n) q (pair_of 0 0)) f)
    pair_joins q h f =
        let p = get_or (pairs n) q (pair_of 0 0) in
        let inside = all_get_d _ (pairs n) q (pair_of 0 0) (pairs_in n) (omega (arith, pairs_length n 0)) in
        let lower : p.lower < n = omega arith in
        let is = same (with_pins G) (pair f p.lower p.upper) in
        record {
          is = ap joined
              (L.carries M (w + 5 * q) _ _ _ _ (suc p.lower) (suc p.upper)
              (sa p.lower lower) (sb p.upper inside.1) (sa p.upper inside.1) (sb p.lower lower)
              (pair_marks_lem q h) f)
              ∙ sym is;
          few = rw is (L.few_joined (suc p.lower) (suc p.upper) (omega arith) f);
        }

    row_joins :
        (i : ℕ) → i < n → Each (PinsJoin G M) (row_from i) (row_wires part a b (row_terms G n w) (row_from i) i)
    unfolding Each All
    row_joins i h =
        let first_mark : M (row_from i) ≡ suc i ∷ [] =
        ap M {x = row_from i} {y = row_from i + 0} (omega arith) ∙ row_marks i 0 h (omega arith) in (
          alone_join G M (suc i) (row_from i) _ (same (with_pins G) (own i)) first_mark (sa i h, (sb i h, tt)),
          adding_joins G M part (same (with_pins G)) i 1 _ _ (row_terms G n w i) first_mark (terms_marks i h)
              (λ d k.
              ap M {x = suc (row_from i) + d} {y = row_from i + suc d} (omega arith)
              ∙ row_marks i (suc d) h (omega (arith, row_length n (pair_wire w G.low) (pair_wire w G.high) i h))),
        )

    and_joins : Each (PinsJoin G M) w (and_wires G n part w a b)
    and_joins =
        each_and G n part w a b (PinsJoin G M)
        (λ q h.
        each_five (PinsJoin G M) (w + 5 * q) (five_wire G part a b (w + 5 * q) (get_or (pairs n) q (pair_of 0 0))) (pair_joins q h))
        row_joins

    and_by_share : ByShare n M (and_shares n w)
    and_by_share i h = ap M (and_share_at n w i h) ∙ row_marks i (n - 1) h (omega arith)

-- shares of which the first is on another wire
first_by_share :
    (n w : ℕ) (M : ℕ → List ℕ) (a : List ℕ) → ByShare n M a → M w ≡ 1 ∷ [] → ByShare n M (first_on w a)
first_by_share n w M a s e zero h = e
first_by_share n w M a s e (suc i) h = ap M (drop_share a i) ∙ s (suc i) h

-- a gate for each share, marked by share
shares_join :
    (G : Gadget) (n w : ℕ) (M : ℕ → List ℕ) (d : ℕ → Gate) (o : ℕ → Origin) → ((H : Gadget) (s : ℕ) → marks H (o s) ≡ suc s ∷ [])
    → Known G M n w (up_from n 0 (λ s. wire (d s) (o s)))
    → ((i : ℕ) → i < n → All (λ q. M q ≡ suc i ∷ []) (pins (d i)))
    → Each (PinsJoin G M) w (up_from n 0 (λ s. wire (d s) (o s))) × ByShare n M (up_from n w (λ s. s))
shares_join G n w M d o marked known pinned =
    let here : (i : ℕ) → i < n → M (w + i) ≡ suc i ∷ [] =
    λ i h. known i h ∙ ap (marks G) (share_origin n d o i h) ∙ marked G i in (
      each_up _ n 0 w _
          (λ i h.
          let e : 0 + i ≡ i = omega arith in
          rw e (alone_join G M (suc i) (w + i) (wire (d i) (o i)) (marked (with_pins G) i) (here i h) (pinned i h))),
      λ i h. ap M (up_at n w (λ s. s) i 0 h) ∙ here i h,
    )

-- one gate, by kind
new_joins :
    {G : Gadget} (L : Lawful G) (kd : Kind) (n g w p l r : ℕ) (M : ℕ → List ℕ) (a b : List ℕ) → 1 ≤ n → PlainGate p kd l r
    → OfLeft (operands_of kd) (ByShare n M a) → OfRight (operands_of kd) (ByShare n M b)
    → Known G M (cost kd n) w (new_wires G kd l n g w a b)
    → Each (PinsJoin G M) w (new_wires G kd l n g w a b) × ByShare n M (new_shares kd n w a)
unfolding Each All
new_joins {G} L NOT n g w p l r M a b h x sa sb known =
    let here : M w ≡ 1 ∷ [] = ap M {x = w} {y = w + 0} (omega arith) ∙ known 0 (omega arith) in
    ((alone_join G M 1 w _ refl here (sa 0 h, tt), tt), first_by_share n w M a sa here)
new_joins {G} L XOR n g w p l r M a b h x sa sb known =
    shares_join G n w M _ (xor_share g) (λ H s. refl) known (λ i k. (sa i k, (sb i k, tt)))
new_joins L AND n g w p l r M a b h x sa sb known = (
  and_joins L n (and_part g) (λ H q. refl) M w a b sa sb known,
  and_by_share L n (and_part g) (λ H q. refl) M w a b sa sb known,
)
new_joins L RANDOM n g w p l r M a b h x sa sb known = absurd x
new_joins {G} L CONSTANT n g w p l r M a b h x sa sb known =
    shares_join G n w M _ (constant_share g) (λ H s. refl) known (λ i k. tt)
new_joins {G} L OR n g w p l r M a b h x sa sb known =
    let t = suc (suc w) in
    let part : Part → Origin = λ p. or_part g (in_and p) in
    let left : M w ≡ 1 ∷ [] =
    ap M {x = w} {y = w + 0} (omega arith) ∙ known 0 (omega arith) in
    let right : M (suc w) ≡ 1 ∷ [] =
    ap M {x = suc w} {y = w + 1} (omega arith) ∙ known 1 (omega arith) ∙ first_origin G l n g w a b G 1 (omega arith) in
    let A = first_by_share n w M a sa left in
    let B = first_by_share n (suc w) M b sb right in
    let inner : Known G M (and_cost n) t (or_and G n g w a b) =
    λ d k.
    ap M {x = t + d} {y = w + (2 + d)} (omega arith)
    ∙ known (2 + d) (omega arith)
    ∙ ap (marks G)
    (inner_origin G l n g w a b (2 + d) (omega arith) (omega arith)
    ∙ ap (origin_at (map origin_of (or_and G n g w a b))) {x = 2 + d - 2} {y = d} (omega arith)) in
    let joins = and_joins L n part (λ H q. refl) M t _ _ A B inner in
    let product = and_by_share L n part (λ H q. refl) M t _ _ A B inner in
    let last : M (t + and_cost n) ≡ 1 ∷ [] =
    ap M {x = t + and_cost n} {y = w + (2 + and_cost n)} (omega arith)
    ∙ known (2 + and_cost n) (omega arith)
    ∙ last_origin G l n g w a b G (2 + and_cost n) refl in
    let end = wire (gate NOT (share (and_shares n t) 0) 0) (or_part g last_not) ∷ [] in
    let long : t + and_cost n ≡ t + length (or_and G n g w a b) =
    ap (λ (y : ℕ). t + y) (sym (and_length G n part t (first_on w a) (first_on (suc w) b))) in (
      (
        alone_join G M 1 w _ refl left (sa 0 h, tt),
        (
          alone_join G M 1 (suc w) _ refl right (sb 0 h, tt),
          each_append _ t (or_and G n g w a b) end joins
              (subst (λ (y : ℕ). Each (PinsJoin G M) y end) long (alone_join G M 1 _ _ refl last (product 0 h, tt), tt)),
        ),
      ),
      first_by_share n (t + and_cost n) M (and_shares n t) product last,
    )
new_joins L (UNKNOWN c) n g w p l r M a b h x sa sb known = absurd x

-- the gates in table order
masked_joins :
    {G : Gadget} (L : Lawful G) (n g w : ℕ) (S : List (List ℕ)) (xs : List Gate) (M : ℕ → List ℕ) → 1 ≤ n
    → PlainGates (length S) xs → All (ByShare n M) S
    → Known G M (total (λ k. cost k n) xs) w (masked G n g w S xs)
    → Each (PinsJoin G M) w (masked G n g w S xs)
unfolding total
masked_joins {G} L n g w S xs M h p A known =
    (masked_each G n (PinsJoin G M) (ByShare n M) (λ g w S xs. Known G M (total (λ k. cost k n) xs) w (masked G n g w S xs))
    (λ g w S x xs q sa sb k. (
      new_joins L x.kind n g w (length S) x.left x.right M _ _ h q sa sb
          (λ d l. k d (omega arith) ∙ ap (marks G) (masked_here G n g w S x xs d l)),
      λ d l.
          ap M {x = w + cost x.kind n + d} {y = w + (cost x.kind n + d)} (omega arith)
          ∙ k (cost x.kind n + d) (omega arith)
          ∙ ap (marks G) (masked_past G n g w S x xs (cost x.kind n + d) d refl),
    ))
    g w S xs p A known).0

module _ {G : Gadget} (L : Lawful G) (o : ℕ) (t : Table) (P : Plain t) where
  abbrev n : ℕ
  n = shares_of o

  abbrev M : ℕ → List ℕ
  M = wire_marks G o t

  inputs_by_share : All (ByShare n M) (input_shares n t.inputs)
  inputs_by_share =
      up_all _ t.inputs 0 (λ i. up_from n (n * i) (λ w. w))
      (λ i _ hi s hs.
      ap M (up_at n (n * i) (λ w. w) s 0 hs)
      ∙ ap (marks G) (origins_share G o t i s (n * i + s) (omega arith) hs refl))

  gates_join : Each (PinsJoin G M) (n * t.inputs) (masked_wires G o t)
  gates_join =
      masked_joins L n 0 (n * t.inputs) (input_shares n t.inputs) t.gates M (omega arith) (plain_inputs n t P) inputs_by_share
      (λ d h. ap (marks G) (origins_gate G o t d))

  -- the wire that gate d of the masked table drives
  gate_join : (d : ℕ) → d < length (masked_wires G o t) → PinsJoin G M (n * t.inputs + d) (get_or (masked_wires G o t) d no_wire)
  gate_join d h = each_at _ (n * t.inputs) (masked_wires G o t) d no_wire gates_join h

  pub probe_marks_lem :
      (w : ℕ) → w < wires (masked_table G o t)
      → (probe_marks G o t w ≡ marks (with_pins G) (origin_at (origins G o t) w)) × (length (probe_marks G o t w) ≤ 2)
  unfolding probe_marks masked_table All
  probe_marks_lem w h = go (ltb w (n * t.inputs)) refl
    where
      go : (b : Bool) → ltb w (n * t.inputs) ≡ b
          → let gates = map driver_of (masked_wires G o t) in
          let ms = joined (of_each M (w ∷ cond b [] (pins (get_or gates (w - n * t.inputs) no_gate)))) in
          (ms ≡ marks (with_pins G) (origin_at (origins G o t) w)) × (length ms ≤ 2)
      go true e =
          let below = ltb-true w (n * t.inputs) e in
          let is = origins_input G o t w below in
          let one = alone_joined M (suc (w % n)) w [] (ap (marks G) is) tt in
          (one ∙ sym (ap (marks (with_pins G)) is), rw one (omega arith))
      go false e =
          let past = ltb-false w (n * t.inputs) e in
          let d = w - n * t.inputs in
          let at : n * t.inputs + d ≡ w = omega arith in
          let J = rw at at (gate_join d (omega (arith, length-map (masked_wires G o t) driver_of))) in
          let is : origin_at (origins G o t) w ≡ (get_or (masked_wires G o t) d no_wire).origin =
          ap (origin_at (origins G o t)) (sym at) ∙ origins_gate G o t d ∙ origin_map (masked_wires G o t) d in
          rw (get_or-map driver_of (masked_wires G o t) d no_wire, is) (J.is, rw J.is J.few)

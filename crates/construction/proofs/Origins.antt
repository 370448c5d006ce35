-- Where a masked wire comes from, by its place: which share of which input, or which gate and which of its new wires; inside
-- an AND which wire of which pair, or which term of which row. All from what stands at a place of a block (`in_turn_at`).
-- Assumes nothing.
use mathlib.Core.Path.{◌≡◌, refl, sym, ap, ◌∙◌}
use mathlib.Core.List.{List, [], ◌∷◌, ◌++◌, map, map-append}
use Prim.Native.Nat.{ℕ, zero, suc, ◌+◌, ◌-◌, ◌*◌, ◌/◌, ◌%◌, ◌≤◌, ◌<◌}
use native.Mathlib.Nat.{zero-add, mod-lt, div-add-mod, div-lt_iff_lt-mul, mul-le-mul_left}
use native.Mathlib.Omega.{arith}
use lib.ListN.{length, get_or, length-map, get_or-append, get_or-map}
use lib.Seq.{get_or-append-add}
use Rattle.tables.specs.Tables.{NOT, OR, Gate, gate, Table}
use Rattle.construction.specs.Shares.{shares_of, up_from, in_turn, pair_of, pairs, tri, row}
use Rattle.construction.specs.Gadgets.{Gadget, Five, first, second, third, fourth, fifth, index_of}
use Rattle.construction.specs.Wires.{Part, pair, own, sum, in_and, last_not, Origin, input_share, not_of, or_part, marks, Wire, wire, origin_of}
use Rattle.construction.specs.Wires.{share, first_on, pair_wires, adding, row_wires, pair_wire, and_wires, and_shares, and_cost, new_wires, cost}
use Rattle.construction.specs.Wires.{new_shares, input_origins, origins, masked, masked_wires, origin_at}
use Rattle.construction.proofs.Sum.{up_length, up_at}
use Rattle.construction.proofs.Rows.{pairs_length, row_length}
use Rattle.construction.proofs.Each.{in_turn_at, in_turn_length}
use Rattle.construction.proofs.Costs.{all_of, pairs_span, rows_span, and_length, or_and, new_length, input_origins_length}
use Rattle.construction.proofs.Placed.{index_small}

abbrev pub no_wire : Wire
no_wire = wire (gate NOT 0 0) (input_share 0 0)

pub origin_map : (xs : List Wire) (i : ℕ) → origin_at (map origin_of xs) i ≡ (get_or xs i no_wire).origin
origin_map xs i = get_or-map origin_of xs i no_wire

-- "Share s of input i is wire n·i+s−1"
input_origin :
    (n m i s w : ℕ) → i < m → s < n → w ≡ n * i + s → origin_at (input_origins n m) w ≡ input_share i s
unfolding input_origins
input_origin n m i s w hi hs e =
    in_turn_at n 0 (up_from m 0 (λ k. k)) (λ _ k. up_from n 0 (λ s. input_share k s)) 0 (input_share 0 0)
    (all_of _ (λ k _. up_length n 0 (λ s. input_share k s)) _) i s w (omega (arith, up_length m 0 (λ (k : ℕ). k))) hs e
    ∙ up_at n 0 _ s (input_share 0 0) hs
    ∙ rw (up_at m 0 (λ (k : ℕ). k) i 0 hi, zero-add i, zero-add s)

-- an input share among all wires
pub origins_share :
    (G : Gadget) (o : ℕ) (t : Table) (i s w : ℕ) → i < t.inputs → s < shares_of o → w ≡ shares_of o * i + s
    → origin_at (origins G o t) w ≡ input_share i s
unfolding origins
origins_share G o t i s w hi hs e =
    let n = shares_of o in
    let m = t.inputs in
    get_or-append (input_origins n m) _ (input_share 0 0) w (omega (arith, input_origins_length n m, mul-le-mul_left n hi))
    ∙ input_origin n m i s w hi hs e

pub origins_input :
    (G : Gadget) (o : ℕ) (t : Table) (w : ℕ) → w < shares_of o * t.inputs
    → origin_at (origins G o t) w ≡ input_share (w / shares_of o) (w % shares_of o)
origins_input G o t w h =
    let n = shares_of o in
    origins_share G o t (w / n) (w % n) w
    ((div-lt_iff_lt-mul (omega arith)).1 (omega arith))
    (mod-lt w (omega arith))
    (sym (div-add-mod w n))

-- the wire of a gate among all wires
pub origins_gate :
    (G : Gadget) (o : ℕ) (t : Table) (d : ℕ)
    → origin_at (origins G o t) (shares_of o * t.inputs + d) ≡ origin_at (map origin_of (masked_wires G o t)) d
unfolding origins
origins_gate G o t d =
    let first = input_origins (shares_of o) t.inputs in
    let rest = map origin_of (masked_wires G o t) in
    ap (λ (y : ℕ). origin_at (first ++ rest) (y + d)) (sym (input_origins_length (shares_of o) t.inputs))
    ∙ get_or-append-add first rest d (input_share 0 0)

-- the new wire of a NOT
pub not_origin :
    (G : Gadget) (l n g w : ℕ) (a b : List ℕ) (d : ℕ) → d < 1
    → origin_at (map origin_of (new_wires G NOT l n g w a b)) d ≡ not_of g
not_origin G l n g w a b zero h = refl
not_origin G l n g w a b (suc d) h = absurd (omega arith)

-- new wire d of an XOR, or of a constant: a gate for each share
pub share_origin :
    (n : ℕ) (f : ℕ → Gate) (o : ℕ → Origin) (d : ℕ) → d < n
    → origin_at (map origin_of (up_from n 0 (λ s. wire (f s) (o s)))) d ≡ o d
share_origin n f o d h =
    origin_map (up_from n 0 (λ s. wire (f s) (o s))) d ∙ ap origin_of (up_at n 0 _ d no_wire h) ∙ ap o (zero-add d)

-- new wire d of an OR: its NOTs, and wire d - 2 of its AND
module _ (G : Gadget) (l n g w : ℕ) (a b : List ℕ) where
  abbrev or_wires : List Wire
  or_wires = new_wires G OR l n g w a b

  abbrev product : List Wire
  product = or_and G n g w a b

  product_long : length product ≡ and_cost n
  product_long = and_length G n (λ p. or_part g (in_and p)) (suc (suc w)) (first_on w a) (first_on (suc w) b)

  pub first_origin : (H : Gadget) (d : ℕ) → d < 2 → marks H (origin_at (map origin_of or_wires) d) ≡ 1 ∷ []
  first_origin H zero h = refl
  first_origin H (suc zero) h = refl
  first_origin H (suc (suc d)) h = absurd (omega arith)

  pub last_origin : (H : Gadget) (d : ℕ) → d ≡ 2 + and_cost n → marks H (origin_at (map origin_of or_wires) d) ≡ 1 ∷ []
  last_origin H zero e = absurd (omega arith)
  last_origin H (suc zero) e = absurd (omega arith)
  last_origin H (suc (suc d)) e =
      let end : Wire = wire (gate NOT (share (and_shares n (suc (suc w))) 0) 0) (or_part g last_not) in
      let at : d ≡ length product + 0 = omega (arith, product_long) in
      ap {A = Origin} {B = List ℕ} (marks H)
      (origin_map (product ++ (end ∷ [])) d
      ∙ ap (λ (y : ℕ). (get_or (product ++ (end ∷ [])) y no_wire).origin) at
      ∙ ap origin_of (get_or-append-add product (end ∷ []) 0 no_wire))

  pub inner_origin :
      (d : ℕ) → 2 ≤ d → d < 2 + and_cost n
      → origin_at (map origin_of or_wires) d ≡ origin_at (map origin_of product) (d - 2)
  inner_origin zero h k = absurd (omega arith)
  inner_origin (suc zero) h k = absurd (omega arith)
  inner_origin (suc (suc d)) h k =
      let same : suc (suc d) - 2 ≡ d = omega arith in
      rw same
      (origin_map (product ++ _) d
      ∙ ap origin_of (get_or-append product _ no_wire d (omega (arith, product_long)))
      ∙ sym (origin_map product d))

-- term i of a running sum has the origin of term m + i
adding_origin :
    (o : ℕ → Origin) (m last next : ℕ) (zs : List ℕ) (i : ℕ) (d : Wire) → i < length zs
    → (get_or (adding o m last next zs) i d).origin ≡ o (m + i)
unfolding adding
adding_origin o m last next [] i d h = absurd (omega arith)
adding_origin o m last next (z ∷ zs) zero d h = ap o {x = m} {y = m + 0} (omega arith)
adding_origin o m last next (z ∷ zs) (suc i) d h =
    adding_origin o (suc m) next (suc next) zs i d (omega arith) ∙ ap o {x = suc m + i} {y = m + suc i} (omega arith)

module _ (G : Gadget) (n : ℕ) (part : Part → Origin) (w : ℕ) (a b : List ℕ) where
  abbrev zs : ℕ → List ℕ
  zs = row n (pair_wire w G.low) (pair_wire w G.high)

  pairs_long : length (in_turn 5 w (pairs n) (pair_wires G part a b)) ≡ 5 * tri n
  pairs_long =
      in_turn_length 5 w (pairs n) (pair_wires G part a b) (pairs_span G n part a b)
      ∙ ap (λ (y : ℕ). 5 * y) (pairs_length n 0)

  in_pair :
      (q r d : ℕ) → q < tri n → r < 5 → d ≡ 5 * q + r
      → get_or (and_wires G n part w a b) d no_wire
      ≡ get_or (pair_wires G part a b (w + 5 * q) (get_or (pairs n) q (pair_of 0 0))) r no_wire
  unfolding and_wires
  in_pair q r d hq hr e =
      get_or-append (in_turn 5 w (pairs n) (pair_wires G part a b)) _ no_wire d (omega (arith, pairs_long))
      ∙ in_turn_at 5 w (pairs n) (pair_wires G part a b) (pair_of 0 0) no_wire (pairs_span G n part a b) q r d
      (omega (arith, pairs_length n 0)) hr e

  in_row :
      (i r d : ℕ) → i < n → r < n → d ≡ 5 * tri n + n * i + r
      → get_or (and_wires G n part w a b) d no_wire ≡ get_or (row_wires part a b zs (w + 5 * tri n + n * i) i) r no_wire
  unfolding and_wires
  in_row i r d hi hr e =
      let ps = in_turn 5 w (pairs n) (pair_wires G part a b) in
      let rows = in_turn n (w + 5 * tri n) (up_from n 0 (λ i. i)) (row_wires part a b zs) in
      let past : d ≡ length ps + (n * i + r) = omega (arith, pairs_long) in
      ap (λ (y : ℕ). get_or (ps ++ rows) y no_wire) past
      ∙ get_or-append-add ps rows (n * i + r) no_wire
      ∙ in_turn_at n (w + 5 * tri n) (up_from n 0 (λ i. i)) (row_wires part a b zs) 0 no_wire (rows_span G n part a b _ _) i r
      (n * i + r) (omega (arith, up_length n 0 (λ (i : ℕ). i))) hr refl
      ∙ ap (λ (y : ℕ). get_or (row_wires part a b zs (w + 5 * tri n + n * i) y) r no_wire)
      (up_at n 0 (λ (y : ℕ). y) i 0 hi ∙ zero-add i)

  -- wire f of pair number q
  pub pair_origin :
      (f : Five) (q d : ℕ) → q < tri n → d ≡ 5 * q + index_of f
      → origin_at (map origin_of (and_wires G n part w a b)) d
      ≡ part (pair f (get_or (pairs n) q (pair_of 0 0)).lower (get_or (pairs n) q (pair_of 0 0)).upper)
  pair_origin f q d h e =
      origin_map (and_wires G n part w a b) d ∙ ap origin_of (in_pair q (index_of f) d h (index_small f) e) ∙ here f
    where
      here : (f : Five)
          → (get_or (pair_wires G part a b (w + 5 * q) (get_or (pairs n) q (pair_of 0 0))) (index_of f) no_wire).origin
          ≡ part (pair f (get_or (pairs n) q (pair_of 0 0)).lower (get_or (pairs n) q (pair_of 0 0)).upper)
      here first = refl
      here second = refl
      here third = refl
      here fourth = refl
      here fifth = refl

  -- the own product of row i
  pub own_origin :
      (i d : ℕ) → i < n → d ≡ 5 * tri n + n * i → origin_at (map origin_of (and_wires G n part w a b)) d ≡ part (own i)
  own_origin i d h e =
      origin_map (and_wires G n part w a b) d ∙ ap origin_of (in_row i 0 d h (omega arith) (omega arith))

  -- the sum of m terms of row i
  pub sum_origin :
      (i m d : ℕ) → i < n → 0 < m → m < n → d ≡ 5 * tri n + n * i + m
      → origin_at (map origin_of (and_wires G n part w a b)) d ≡ part (sum i m)
  sum_origin i zero d h k l e = absurd (omega arith)
  sum_origin i (suc m) d h k l e =
      origin_map (and_wires G n part w a b) d
      ∙ ap origin_of (in_row i (suc m) d h l e)
      ∙ adding_origin (λ m. part (sum i m)) 1 _ _ (zs i) m no_wire
      (omega (arith, row_length n (pair_wire w G.low) (pair_wire w G.high) i h))
      ∙ ap (λ (y : ℕ). part (sum i y)) {x = 1 + m} {y = suc m} (omega arith)

-- the wires of gates, the first of which is x: its new wires, and then those of the others
module _ (G : Gadget) (n g w : ℕ) (S : List (List ℕ)) (x : Gate) (xs : List Gate) where
  abbrev new : List Wire
  new = new_wires G x.kind x.left n g w (get_or S x.left []) (get_or S x.right [])

  abbrev later : List (List ℕ)
  later = S ++ (new_shares x.kind n w (get_or S x.left []) ∷ [])

  new_long : length (map origin_of new) ≡ cost x.kind n
  new_long = length-map new origin_of ∙ new_length G x.kind x.left n g w _ _

  pub masked_here :
      (d : ℕ) → d < cost x.kind n
      → origin_at (map origin_of (masked G n g w S (x ∷ xs))) d ≡ origin_at (map origin_of new) d
  unfolding masked
  masked_here d h =
      rw map-append (get_or-append (map origin_of new) _ (input_share 0 0) d (omega (arith, new_long)))

  pub masked_past :
      (d e : ℕ) → d ≡ cost x.kind n + e
      → origin_at (map origin_of (masked G n g w S (x ∷ xs))) d
      ≡ origin_at (map origin_of (masked G n (suc g) (w + cost x.kind n) later xs)) e
  unfolding masked
  masked_past d e h =
      let rest = map origin_of (masked G n (suc g) (w + cost x.kind n) later xs) in
      let past : d ≡ length (map origin_of new) + e = omega (arith, new_long) in
      rw (map-append, past) (get_or-append-add (map origin_of new) rest e (input_share 0 0))

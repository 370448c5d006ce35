-- Sizes: the new wires of a gate are as many as it costs, and draw as many random bits as the paper says; the wires of the
-- shares come before the next wire.
-- Assumes nothing.
use mathlib.Core.Path.{◌≡◌, refl, sym, ap, ap₂, ◌∙◌}
use mathlib.Core.Bool.{cond}
use mathlib.Core.List.{List, [], ◌∷◌, ◌++◌, map, map-append}
use Prim.Native.Nat.{ℕ, zero, suc, ◌+◌, ◌*◌}
use native.Mathlib.Nat.{zero-add}
use native.Mathlib.Omega.{arith}
use lib.Dec.{eqb}
use lib.ListN.{length, get_or, take, drop, length-append, length-map}
use Rattle.tables.specs.Tables.{Kind, NOT, XOR, AND, RANDOM, CONSTANT, OR, UNKNOWN, Gate, gate, Table, wires, total}
use Rattle.tables.specs.Runs.{randoms, drawn}
use Rattle.tables.proofs.Lists.{All}
use Rattle.construction.specs.Shares.{shares_of, up_from, in_turn, pairs, pairs_from, tri, pair_at, row}
use Rattle.construction.specs.Gadgets.{Gadget, isw}
use Rattle.construction.specs.Wires.{Part, sum, in_and, last_not, Origin, and_part, xor_share, constant_share, or_part, wire, driver_of}
use Rattle.construction.specs.Wires.{Wire, share, first_on, and_shares, adding, pair_wires, row_wires, pair_wire, and_wires, and_cost, new_wires, cost}
use Rattle.construction.specs.Counts.{draws}
use Rattle.construction.specs.Wires.{masked, masked_wires}
use Rattle.construction.specs.Wires.{masked_table, tape_long, input_share, input_origins, shares_after, output_shares}
use Rattle.construction.proofs.Sum.{up_length, up_all}
use Rattle.construction.proofs.Rows.{pairs_length, row_length}
use Rattle.construction.proofs.Each.{Spans, Draws, in_turn_length, in_turn_draws}
use Rattle.construction.proofs.Lawful.{Lawful}
use Rattle.tables.proofs.Run.{total_append}

-- an example at order 1: "NOT: one new wire, the NOT of share 1. Shares 2 to n are the operand's wires"
not_masked :
    masked_table isw 1 (record { inputs = 1; gates = gate NOT 0 0 ∷ []; outputs = 1 ∷ [] })
    ≡ record { inputs = 3; gates = gate NOT 0 0 ∷ []; outputs = 3 ∷ 1 ∷ 2 ∷ [] }
unfolding up_from masked shares_after output_shares masked_table
not_masked = refl

pub adding_length :
    (o : ℕ → Origin) (m last next : ℕ) (zs : List ℕ) → length (adding o m last next zs) ≡ length zs
unfolding adding
adding_length o m last next [] = refl
adding_length o m last next (z ∷ zs) = ap suc (adding_length o (suc m) next (suc next) zs)

adding_draws :
    (o : ℕ → Origin) (m last next : ℕ) (zs : List ℕ) → randoms (map driver_of (adding o m last next zs)) ≡ 0
unfolding adding total
adding_draws o m last next [] = refl
adding_draws o m last next (z ∷ zs) = omega (arith, adding_draws o (suc m) next (suc next) zs)

-- "the NOT of each operand's share 1, left first", and "the NOT of the result's share 1"
or_masked :
    let t = masked_table isw 1 (record { inputs = 2; gates = gate OR 0 1 ∷ []; outputs = 2 ∷ [] }) in
    (take 2 t.gates ≡ gate NOT 0 0 ∷ gate NOT 3 0 ∷ []) × (drop 26 t.gates ≡ gate NOT 25 0 ∷ []) × (t.outputs ≡ 32 ∷ 28 ∷ 31 ∷ [])
unfolding up_from in_turn pairs_from tri pair_at row adding and_wires masked shares_after output_shares masked_table
or_masked = (refl, refl, refl)

-- "its value in share 1, then zeros"
constant_masked :
    masked_table isw 1 (record { inputs = 1; gates = gate CONSTANT 1 0 ∷ []; outputs = 1 ∷ [] })
    ≡ record {
      inputs = 3;
      gates = gate CONSTANT 1 0 ∷ gate CONSTANT 0 0 ∷ gate CONSTANT 0 0 ∷ [];
      outputs = 3 ∷ 4 ∷ 5 ∷ [];
    }
unfolding up_from masked shares_after output_shares masked_table
constant_masked = refl

-- what holds of everything holds of every element
pub all_of : {A : Type 0} (P : A → Type 0) → ((x : A) → P x) → (xs : List A) → All P xs
unfolding All
all_of P h [] = tt
all_of P h (x ∷ xs) = (h x, all_of P h xs)

module _ (G : Gadget) (n : ℕ) (part : Part → Origin) (a b : List ℕ) where
  pub pairs_span : All (Spans 5 (pair_wires G part a b)) (pairs n)
  pairs_span = all_of _ (λ p w. refl) (pairs n)

  pub rows_span : (low high : ℕ → ℕ) → All (Spans n (row_wires part a b (row n low high))) (up_from n 0 (λ i. i))
  rows_span low high =
      up_all _ n 0 (λ i. i)
      (λ i _ h w. ap suc (adding_length _ 1 w (suc w) (row n low high i)) ∙ row_length n low high i (omega arith))

  pub pairs_draw : Lawful G → All (Draws 1 (pair_wires G part a b)) (pairs n)
  pairs_draw L = all_of _ (λ p w. L.one_random w _ _ _ _) (pairs n)

  pub rows_draw : (zs : ℕ → List ℕ) → All (Draws 0 (row_wires part a b zs)) (up_from n 0 (λ i. i))
  unfolding total
  rows_draw zs =
      all_of _ (λ i w. zero-add _ ∙ adding_draws (λ m. part (sum i m)) 1 w (suc w) (zs i)) (up_from n 0 (λ i. i))

pub and_length :
    (G : Gadget) (n : ℕ) (part : Part → Origin) (w : ℕ) (a b : List ℕ) → length (and_wires G n part w a b) ≡ and_cost n
unfolding and_wires
and_length G n part w a b =
    let zs = row n (pair_wire w G.low) (pair_wire w G.high) in
    length-append (in_turn 5 w (pairs n) (pair_wires G part a b)) _
    ∙ omega (
      arith,
      in_turn_length 5 w (pairs n) (pair_wires G part a b) (pairs_span G n part a b),
      pairs_length n 0,
      in_turn_length n (w + 5 * tri n) (up_from n 0 (λ i. i)) (row_wires part a b zs) (rows_span G n part a b _ _),
      ap (λ (y : ℕ). n * y) (up_length n 0 (λ (i : ℕ). i)),
    )

-- the wires of the AND inside an OR of gate g
abbrev pub or_and : Gadget → ℕ → ℕ → ℕ → List ℕ → List ℕ → List Wire
or_and G n g w a b = and_wires G n (λ p. or_part g (in_and p)) (suc (suc w)) (first_on w a) (first_on (suc w) b)

pub or_and_length :
    (G : Gadget) (n g w : ℕ) (a b : List ℕ) → length (map driver_of (or_and G n g w a b)) ≡ and_cost n
or_and_length G n g w a b =
    length-map (or_and G n g w a b) driver_of
    ∙ and_length G n (λ p. or_part g (in_and p)) (suc (suc w)) (first_on w a) (first_on (suc w) b)

-- the gates of an OR: two NOTs, the AND's, and a NOT
pub or_driven :
    (G : Gadget) (l n g w : ℕ) (a b : List ℕ)
    → map driver_of (new_wires G OR l n g w a b)
    ≡ gate NOT (share a 0) 0
    ∷ gate NOT (share b 0) 0
    ∷ (map driver_of (or_and G n g w a b) ++ (gate NOT (share (and_shares n (suc (suc w))) 0) 0 ∷ []))
or_driven G l n g w a b =
    ap {A = List Gate} {B = List Gate} (λ gs. gate NOT (share a 0) 0 ∷ gate NOT (share b 0) 0 ∷ gs)
    (map-append driver_of (or_and G n g w a b) (wire (gate NOT (share (and_shares n (suc (suc w))) 0) 0) (or_part g last_not) ∷ []))

pub new_length :
    (G : Gadget) (k : Kind) (l n g w : ℕ) (a b : List ℕ) → length (new_wires G k l n g w a b) ≡ cost k n
new_length G NOT l n g w a b = refl
new_length G XOR l n g w a b = up_length n 0 _
new_length G AND l n g w a b = and_length G n (and_part g) w a b
new_length G RANDOM l n g w a b = refl
new_length G CONSTANT l n g w a b = up_length n 0 _
new_length G OR l n g w a b =
    let last = gate NOT (share (and_shares n (suc (suc w))) 0) 0 ∷ [] in
    sym (length-map (new_wires G OR l n g w a b) driver_of)
    ∙ ap length (or_driven G l n g w a b)
    ∙ omega (arith, length-append (map driver_of (or_and G n g w a b)) last, or_and_length G n g w a b)
new_length G (UNKNOWN c) l n g w a b = refl

-- one gate for each share
shares_draw :
    (k : Kind) (c s : ℕ) (l r : ℕ → ℕ) (o : ℕ → Origin) → drawn k ≡ 0
    → randoms (map driver_of (up_from c s (λ i. wire (gate k (l i) (r i)) (o i)))) ≡ 0
unfolding up_from total
shares_draw k zero s l r o e = refl
shares_draw k (suc c) s l r o e = omega (arith, e, shares_draw k c (suc s) l r o e)

pub and_draws :
    {G : Gadget} (L : Lawful G) (n : ℕ) (part : Part → Origin) (w : ℕ) (a b : List ℕ)
    → randoms (map driver_of (and_wires G n part w a b)) ≡ tri n
unfolding and_wires
and_draws {G} L n part w a b =
    let zs = row n (pair_wire w G.low) (pair_wire w G.high) in
    rw map-append
    (total_append drawn (map driver_of (in_turn 5 w (pairs n) (pair_wires G part a b))) _
    ∙ omega (
      arith,
      in_turn_draws 5 1 w (pairs n) (pair_wires G part a b) (pairs_draw G n part a b L),
      pairs_length n 0,
      in_turn_draws n 0 (w + 5 * tri n) (up_from n 0 (λ i. i)) (row_wires part a b zs) (rows_draw G n part a b zs),
    ))

pub new_draws :
    {G : Gadget} (L : Lawful G) (k : Kind) (l n g w : ℕ) (a b : List ℕ)
    → randoms (map driver_of (new_wires G k l n g w a b)) ≡ draws k n
unfolding total
new_draws L NOT l n g w a b = refl
new_draws L XOR l n g w a b = shares_draw XOR n 0 (share a) (share b) (xor_share g) refl
new_draws L AND l n g w a b = and_draws L n (and_part g) w a b
new_draws L RANDOM l n g w a b = refl
new_draws L CONSTANT l n g w a b =
    shares_draw CONSTANT n 0 (λ s. cond (eqb s 0) l 0) (λ s. 0) (constant_share g) refl
new_draws {G} L OR l n g w a b =
    let last = gate NOT (share (and_shares n (suc (suc w))) 0) 0 ∷ [] in
    ap {A = List Gate} {B = ℕ} randoms (or_driven G l n g w a b)
    ∙ omega (
      arith,
      total_append drawn (map driver_of (or_and G n g w a b)) last,
      and_draws L n (λ p. or_part g (in_and p)) (suc (suc w)) (first_on w a) (first_on (suc w) b),
    )
new_draws L (UNKNOWN c) l n g w a b = refl

-- as many wires in all as the gates cost
pub masked_length :
    (G : Gadget) (n g w : ℕ) (S : List (List ℕ)) (xs : List Gate)
    → length (masked G n g w S xs) ≡ total (λ k. cost k n) xs
unfolding masked total
masked_length G n g w S [] = refl
masked_length G n g w S (x ∷ xs) =
    length-append (new_wires G x.kind x.left n g w (get_or S x.left []) (get_or S x.right [])) _
    ∙ ap₂ (λ (p q : ℕ). p + q) (new_length G x.kind x.left n g w _ _) (masked_length G n (suc g) _ _ xs)

pub masked_draws :
    {G : Gadget} (L : Lawful G) (n g w : ℕ) (S : List (List ℕ)) (xs : List Gate)
    → randoms (map driver_of (masked G n g w S xs)) ≡ total (λ k. draws k n) xs
unfolding masked total
masked_draws L n g w S [] = refl
masked_draws {G} L n g w S (x ∷ xs) =
    rw map-append
    (total_append drawn (map driver_of (new_wires G x.kind x.left n g w (get_or S x.left []) (get_or S x.right []))) _
    ∙ ap₂ (λ (p q : ℕ). p + q) (new_draws L x.kind x.left n g w _ _) (masked_draws L n (suc g) _ _ xs))

pub input_origins_length : (n m : ℕ) → length (input_origins n m) ≡ n * m
unfolding input_origins
input_origins_length n m =
    in_turn_length n 0 (up_from m 0 (λ i. i)) (λ w i. up_from n 0 (λ s. input_share i s))
    (all_of _ (λ i w. up_length n 0 _) _)
    ∙ ap (λ (y : ℕ). n * y) (up_length m 0 (λ (i : ℕ). i))

-- the masked table's wires
pub masked_wires_lem :
    (G : Gadget) (o : ℕ) (t : Table)
    → wires (masked_table G o t) ≡ shares_of o * t.inputs + total (λ k. cost k (shares_of o)) t.gates
unfolding masked_table
masked_wires_lem G o t =
    ap (λ (y : ℕ). shares_of o * t.inputs + y)
    (length-map (masked_wires G o t) driver_of ∙ masked_length G (shares_of o) 0 _ _ t.gates)

-- the tape: the encoder's bits, and those of the random gates
pub masked_tape :
    {G : Gadget} (L : Lawful G) (o : ℕ) (t : Table)
    → tape_long G o t ≡ 2 * o * t.inputs + total (λ k. draws k (shares_of o)) t.gates
unfolding tape_long masked_table
masked_tape {G = G} L o t =
    let drawn_by : tape_long G o t ≡ 2 * o * t.inputs + randoms (masked_table G o t).gates = refl in
    drawn_by ∙ ap (λ (y : ℕ). 2 * o * t.inputs + y) (masked_draws L (shares_of o) 0 _ _ t.gates)

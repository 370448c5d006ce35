-- Masking at order t (document 01, "Masking at order t" and "Marks and the mapped tape"): the masked table's wires in order,
-- each with its gate and its origin, the wires that carry each plain wire's shares, the marks of a wire, and those of a probe
-- (Card 9).
-- Assumes nothing.
use Rattle.std.specs.Prelude.{cond, List, [], ◌∷◌, ◌++◌, map, ℕ, suc, ◌+◌, ◌-◌, ◌*◌, eqb, ltb, get_or, drop}
use Rattle.tables.specs.Tables.{Kind, NOT, XOR, AND, RANDOM, CONSTANT, OR, UNKNOWN, Gate, gate, Table}
use Rattle.tables.specs.Runs.{randoms, probe_reads, of_each}
use Rattle.construction.specs.Shares.{shares_of, up_from, in_turn, Pair, pairs, tri, row}
use Rattle.construction.specs.Gadgets.{Five, all_five, index_of, Gadget}

-- a wire of a masked AND: one of the five of the pair i < j, the own product of row i, or row i's sum of m terms
pub data Part : Type 0 where
  pair : Five → ℕ → ℕ → Part
  own : ℕ → Part
  sum : ℕ → ℕ → Part

-- a wire of a masked OR: the NOT of the left operand's share 1, of the right one's, a wire of its AND, the NOT of the result's
pub data OrPart : Type 0 where
  left_not right_not last_not : OrPart
  in_and : Part → OrPart

-- where a masked wire comes from: share s of input i, or a wire of gate g
pub data Origin : Type 0 where
  input_share : ℕ → ℕ → Origin
  not_of : ℕ → Origin
  xor_share : ℕ → ℕ → Origin
  and_part : ℕ → Part → Origin
  constant_share : ℕ → ℕ → Origin
  or_part : ℕ → OrPart → Origin

-- "row i's own product and sums have {s} or {i}"
abbrev pub part_marks : Gadget → Part → List ℕ
part_marks G (pair f i j) = G.marks (suc i) (suc j) f
part_marks G (own i) = suc i ∷ []
part_marks G (sum i m) = suc i ∷ []

-- "input share s, XOR share s"; "the NOT wire has {1}"; a constant is "marked by share" (Card 6); a mark is a share number
abbrev pub marks : Gadget → Origin → List ℕ
marks G (input_share i s) = suc s ∷ []
marks G (not_of g) = 1 ∷ []
marks G (xor_share g s) = suc s ∷ []
marks G (and_part g p) = part_marks G p
marks G (constant_share g s) = suc s ∷ []
marks G (or_part g left_not) = 1 ∷ []
marks G (or_part g right_not) = 1 ∷ []
marks G (or_part g last_not) = 1 ∷ []
marks G (or_part g (in_and p)) = part_marks G p

-- a wire that a gate of the masked table drives
pub record Wire : Type 0 where
  pub driver : Gate
  pub origin : Origin

-- a wire by its gate and where it comes from
abbrev pub wire : Gate → Origin → Wire
wire g o = record { driver = g; origin = o }

-- the gate that drives a wire
abbrev pub driver_of : Wire → Gate
driver_of x = x.driver

-- where a wire comes from
abbrev pub origin_of : Wire → Origin
origin_of x = x.origin

-- the wire of share i
abbrev pub share : List ℕ → ℕ → ℕ
share a i = get_or a i 0

-- shares 1 to n where share 1 is on wire w: "Shares 2 to n are the operand's wires"
abbrev pub first_on : ℕ → List ℕ → List ℕ
first_on w a = w ∷ drop 1 a

-- the five wires of a pair, from wire w on; `part` says where the wires of this AND come from
abbrev pub pair_wires : Gadget → (Part → Origin) → List ℕ → List ℕ → ℕ → Pair → List Wire
pair_wires G part a b w p =
    let i = p.lower in
    let j = p.upper in
    map
    (λ f. wire (G.gates w (share a i) (share b j) (share a j) (share b i) f) (part (pair f i j)))
    all_five

-- a running sum: each wire adds one of zs to the wire before it, "running sum on the left"
unfoldable pub adding : (ℕ → Origin) → ℕ → ℕ → ℕ → List ℕ → List Wire
adding o m last next [] = []
adding o m last next (z ∷ zs) = wire (gate XOR last z) (o m) ∷ adding o (suc m) next (suc next) zs

-- row i from wire w on: "a_i·b_i, and n−1 sums that add z(i,j)"
abbrev pub row_wires : (Part → Origin) → List ℕ → List ℕ → (ℕ → List ℕ) → ℕ → ℕ → List Wire
row_wires part a b zs w i =
    wire (gate AND (share a i) (share b i)) (part (own i)) ∷ adding (λ m. part (sum i m)) 1 w (suc w) (zs i)

-- of pair number q, counted from 0, the wire f, where the AND's first wire is w
abbrev pub pair_wire : ℕ → Five → ℕ → ℕ
pair_wire w f q = w + 5 * q + index_of f

-- "AND of a and b": the pairs' wires, then the rows'
unfoldable pub and_wires : Gadget → ℕ → (Part → Origin) → ℕ → List ℕ → List ℕ → List Wire
and_wires G n part w a b =
    in_turn 5 w (pairs n) (pair_wires G part a b)
    ++ in_turn n
    (w + 5 * tri n)
    (up_from n 0 (λ i. i))
    (row_wires part a b (row n (pair_wire w G.low) (pair_wire w G.high)))

-- "The last is share i of the result": the last wire of row i
abbrev pub and_shares : ℕ → ℕ → List ℕ
and_shares n w = up_from n 0 (λ i. w + 5 * tri n + n * i + (n - 1))

-- "An AND costs n² + 5n(n−1)/2 wires"
abbrev pub and_cost : ℕ → ℕ
and_cost n = 5 * tri n + n * n

-- the new wires of plain gate g, from wire w on, where a and b are the wires of its operands' shares; l is its left operand, which
-- is a constant's value
abbrev pub new_wires : Gadget → Kind → ℕ → ℕ → ℕ → ℕ → List ℕ → List ℕ → List Wire
-- "NOT: one new wire, the NOT of share 1"
new_wires G NOT l n g w a b = wire (gate NOT (share a 0) 0) (not_of g) ∷ []
-- "XOR: n new wires, share by share"
new_wires G XOR l n g w a b = up_from n 0 (λ s. wire (gate XOR (share a s) (share b s)) (xor_share g s))
new_wires G AND l n g w a b = and_wires G n (and_part g) w a b
new_wires G RANDOM l n g w a b = []
-- "n constants: its value in share 1, then zeros" (Card 6)
new_wires G CONSTANT l n g w a b = up_from n 0 (λ s. wire (gate CONSTANT (cond (eqb s 0) l 0) 0) (constant_share g s))
-- "the NOT of each operand's share 1, left first, the AND wires, and the NOT of the result's share 1" (Card 6)
new_wires G OR l n g w a b =
    wire (gate NOT (share a 0) 0) (or_part g left_not)
    ∷ wire (gate NOT (share b 0) 0) (or_part g right_not)
    ∷ (and_wires G n (λ p. or_part g (in_and p)) (suc (suc w)) (first_on w a) (first_on (suc w) b)
    ++ (wire (gate NOT (share (and_shares n (suc (suc w))) 0) 0) (or_part g last_not) ∷ []))
new_wires G (UNKNOWN k) l n g w a b = []

-- how many these are
abbrev pub cost : Kind → ℕ → ℕ
cost NOT n = 1
cost XOR n = n
cost AND n = and_cost n
cost RANDOM n = 0
cost CONSTANT n = n
cost OR n = and_cost n + 3
cost (UNKNOWN k) n = 0

-- the wires that carry the shares of the result
abbrev pub new_shares : Kind → ℕ → ℕ → List ℕ → List ℕ
new_shares NOT n w a = first_on w a
new_shares XOR n w a = up_from n w (λ s. s)
new_shares AND n w a = and_shares n w
new_shares RANDOM n w a = []
new_shares CONSTANT n w a = up_from n w (λ s. s)
new_shares OR n w a = first_on (suc (suc w) + and_cost n) (and_shares n (suc (suc w)))
new_shares (UNKNOWN k) n w a = []

-- "Share s of input i is wire n·i+s−1"
abbrev pub input_shares : ℕ → ℕ → List (List ℕ)
input_shares n m = up_from m 0 (λ i. up_from n (n * i) (λ w. w))

-- where the inputs' wires come from
unfoldable pub input_origins : ℕ → ℕ → List Origin
input_origins n m = in_turn n 0 (up_from m 0 (λ i. i)) (λ w i. up_from n 0 (λ s. input_share i s))

-- "Plain gates are taken in table order": from gate g and wire w on, where S lists each plain wire's shares so far
unfoldable pub masked : Gadget → ℕ → ℕ → ℕ → List (List ℕ) → List Gate → List Wire
masked G n g w S [] = []
masked G n g w S (x ∷ xs) =
    let a = get_or S x.left [] in
    let b = get_or S x.right [] in
    new_wires G x.kind x.left n g w a b
    ++ masked G n (suc g) (w + cost x.kind n) (S ++ (new_shares x.kind n w a ∷ [])) xs

-- each plain wire's shares once the gates are masked
unfoldable pub shares_after : ℕ → ℕ → List (List ℕ) → List Gate → List (List ℕ)
shares_after n w S [] = S
shares_after n w S (x ∷ xs) =
    shares_after n (w + cost x.kind n) (S ++ (new_shares x.kind n w (get_or S x.left []) ∷ [])) xs

-- the wires that gates of the masked table drive, from wire n·I on
abbrev pub masked_wires : Gadget → ℕ → Table → List Wire
masked_wires G o t =
    let n = shares_of o in
    masked G n 0 (n * t.inputs) (input_shares n t.inputs) t.gates

-- "Output o becomes n outputs, share 1 first"
unfoldable pub output_shares : List (List ℕ) → List ℕ → List ℕ
output_shares S [] = []
output_shares S (o ∷ os) = get_or S o [] ++ output_shares S os

-- the masked table of a plain one
unfoldable pub masked_table : Gadget → ℕ → Table → Table
masked_table G o t =
    let n = shares_of o in
    record {
      inputs = n * t.inputs;
      gates = map driver_of (masked_wires G o t);
      outputs = output_shares (shares_after n (n * t.inputs) (input_shares n t.inputs) t.gates) t.outputs;
    }

-- the origin of each wire of the masked table
unfoldable pub origins : Gadget → ℕ → Table → List Origin
origins G o t = input_origins (shares_of o) t.inputs ++ map origin_of (masked_wires G o t)

-- "The tape holds 2t bits for each input in order, then one for each random gate in wire order"
unfoldable pub tape_long : Gadget → ℕ → Table → ℕ
tape_long G o t = 2 * o * t.inputs + randoms (masked_table G o t).gates

-- the origin of a wire of the masked table
abbrev pub origin_at : List Origin → ℕ → Origin
origin_at os w = get_or os w (input_share 0 0)

-- the marks of one wire of the table that masking t at order o gives: "single-wire marks" (Card 9)
abbrev pub wire_marks : Gadget → ℕ → Table → ℕ → List ℕ
wire_marks G o t w = marks G (origin_at (origins G o t) w)

-- a number put among ascending ones, if it is not there
unfoldable pub insert : ℕ → List ℕ → List ℕ
insert m [] = m ∷ []
insert m (x ∷ xs) = cond (eqb m x) (x ∷ xs) (cond (ltb m x) (m ∷ x ∷ xs) (x ∷ insert m xs))

-- share numbers joined: each once, ascending
unfoldable pub joined : List ℕ → List ℕ
joined [] = []
joined (m ∷ ms) = insert m (joined ms)

-- "the marks of a probe on a gate are the single-wire marks of its output and of each pin joined" (Card 9)
unfoldable pub probe_marks : Gadget → ℕ → Table → ℕ → List ℕ
probe_marks G o t w = joined (of_each (wire_marks G o t) (probe_reads (masked_table G o t) w))

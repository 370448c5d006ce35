-- The gate table and its bytes (document 01, "Gate table"), and refusals 1 to 5 and 7.
-- A table is six bytes of sizes, then the kinds, the operand pairs and the output wires; every field of two bytes has its
-- low byte first. `table_of` reads bytes, `table_bytes` writes a table, and reading what is written gives the table again.
-- Assumes nothing.
use Rattle.std.specs.Prelude.{Bool, true, false, ◌&&◌, ◌||◌, not, cond, List, [], ◌∷◌, ◌++◌, ℕ, zero, suc, ◌+◌, ◌*◌, ◌/◌, ◌%◌, eqb, ltb, length, get_or, drop}
use Rattle.tables.specs.Refusals.{Fault, fault, none, or_else, refused_if}

-- "Kinds: 0 NOT of left; 1 XOR; 2 AND; 3 random bit"; "Kind 4 is a constant", "Kind 5 is OR" (Card 6); any other byte is no kind
pub data Kind : Type 0 where
  NOT XOR AND RANDOM CONSTANT OR : Kind
  UNKNOWN : ℕ → Kind

-- the kind that a byte states
abbrev pub kind_of : ℕ → Kind
kind_of zero = NOT
kind_of (suc zero) = XOR
kind_of (suc (suc zero)) = AND
kind_of (suc (suc (suc zero))) = RANDOM
kind_of (suc (suc (suc (suc zero)))) = CONSTANT
kind_of (suc (suc (suc (suc (suc zero))))) = OR
kind_of (suc (suc (suc (suc (suc (suc k)))))) = UNKNOWN (suc (suc (suc (suc (suc (suc k))))))

-- the byte of a kind
abbrev pub kind_byte : Kind → ℕ
kind_byte NOT = 0
kind_byte XOR = 1
kind_byte AND = 2
kind_byte RANDOM = 3
kind_byte CONSTANT = 4
kind_byte OR = 5
kind_byte (UNKNOWN k) = k

-- a gate: its kind and its operands
pub record Gate : Type 0 where
  pub kind : Kind
  pub left : ℕ
  pub right : ℕ

-- a gate by its kind and operands
abbrev pub gate : Kind → ℕ → ℕ → Gate
gate k l r = record { kind = k; left = l; right = r }

-- a table: how many inputs it has, its gates, and the wires that are its outputs
pub record Table : Type 0 where
  pub inputs : ℕ
  pub gates : List Gate
  pub outputs : List ℕ

-- a gate where a table has none
abbrev pub no_gate : Gate
no_gate = gate NOT 0 0

-- gate number g of a table, counted from 0
abbrev pub gate_of : Table → ℕ → Gate
gate_of t g = get_or t.gates g no_gate

-- how many wires a table has: "Inputs are wires 0 to I−1; gate g (from 0) drives wire I+g"
abbrev pub wires : Table → ℕ
wires t = t.inputs + length t.gates

-- "All fields of two bytes have the low byte first"
abbrev pub word : List ℕ → ℕ → ℕ
word s i = get_or s i 0 + 256 * get_or s (suc i) 0

-- "All fields of two bytes have the low byte first"
abbrev pub two : ℕ → List ℕ
two v = v % 256 ∷ v / 256 ∷ []

-- "G kinds of one byte, then G operand pairs (left, right), two bytes each"
unfoldable pub gates_from : ℕ → List ℕ → List ℕ → List Gate
gates_from zero ks ps = []
gates_from (suc n) ks ps =
    gate (kind_of (get_or ks 0 0)) (word ps 0) (word ps 2) ∷ gates_from n (drop 1 ks) (drop 4 ps)

-- "O output wires, two bytes each"
unfoldable pub words_from : ℕ → List ℕ → List ℕ
words_from zero s = []
words_from (suc n) s = word s 0 ∷ words_from n (drop 2 s)

-- "Sizes: I inputs, G gates, O outputs", and what follows them
unfoldable pub table_of : List ℕ → Table
table_of s =
    let g = word s 2 in
    record {
      inputs = word s 0;
      gates = gates_from g (drop 6 s) (drop (6 + g) s);
      outputs = words_from (word s 4) (drop (6 + 5 * g) s);
    }

-- "G kinds of one byte"
unfoldable pub kind_bytes : List Gate → List ℕ
kind_bytes [] = []
kind_bytes (g ∷ gs) = kind_byte g.kind ∷ kind_bytes gs

-- "then G operand pairs (left, right), two bytes each"
unfoldable pub pair_bytes : List Gate → List ℕ
pair_bytes [] = []
pair_bytes (g ∷ gs) = two g.left ++ (two g.right ++ pair_bytes gs)

-- "O output wires, two bytes each"
unfoldable pub word_bytes : List ℕ → List ℕ
word_bytes [] = []
word_bytes (w ∷ ws) = two w ++ word_bytes ws

-- a table as bytes
unfoldable pub table_bytes : Table → List ℕ
table_bytes t =
    two t.inputs
    ++ (two (length t.gates)
    ++ (two (length t.outputs)
    ++ (kind_bytes t.gates ++ (pair_bytes t.gates ++ word_bytes t.outputs))))

-- "The length is 6 + 5G + 2O"
abbrev pub table_long : ℕ → ℕ → ℕ
table_long g o = 6 + 5 * g + 2 * o

-- "3 kind above 3"; "Refusal 3 then starts at kind 6" (Card 6)
abbrev pub known : Kind → Bool
known NOT = true
known XOR = true
known AND = true
known RANDOM = true
known CONSTANT = true
known OR = true
known (UNKNOWN k) = false

-- which operands a gate reads: none, the left one, or both; or it reads none, and the left one states its value
pub data Operands : Type 0 where
  none_read left_read both_read value_stated : Operands

-- "NOT of left"; "random bit"; "left operand 0 or 1 is its value" (Card 6)
abbrev pub operands_of : Kind → Operands
operands_of NOT = left_read
operands_of XOR = both_read
operands_of AND = both_read
operands_of RANDOM = none_read
operands_of CONSTANT = value_stated
operands_of OR = both_read
operands_of (UNKNOWN k) = none_read

-- the pins of a gate: "the wires on its operands. An unused operand or a constant's value is no pin" (Card 9)
abbrev pub pins_of : Operands → ℕ → ℕ → List ℕ
pins_of none_read l r = []
pins_of left_read l r = l ∷ []
pins_of both_read l r = l ∷ r ∷ []
pins_of value_stated l r = []

-- those of a gate, left pin first
abbrev pub pins : Gate → List ℕ
pins g = pins_of (operands_of g.kind) g.left g.right

-- "An operand is an earlier wire. The unused right operand of NOT and both of a random gate are 0"; a constant: "left operand 0
-- or 1 is its value, right is 0" (Card 6)
abbrev pub operands_ok : ℕ → Operands → ℕ → ℕ → Bool
operands_ok w none_read l r = eqb l 0 && eqb r 0
operands_ok w left_read l r = ltb l w && eqb r 0
operands_ok w both_read l r = ltb l w && ltb r w
operands_ok w value_stated l r = ltb l 2 && eqb r 0

-- "the gates one by one (3 before 4)": gate i, which drives wire w
abbrev pub gate_fault : ℕ → ℕ → Gate → Fault
gate_fault i w g =
    cond
    (known g.kind)
    (cond (operands_ok w (operands_of g.kind) g.left g.right) none (fault 4 i))
    (fault 3 i)

-- the first faulty gate, where the gates drive the wires from w on
unfoldable pub gates_fault : ℕ → ℕ → List Gate → Fault
gates_fault i w [] = none
gates_fault i w (g ∷ gs) = or_else (gate_fault i w g) (gates_fault (suc i) (suc w) gs)

-- "5 an output that is no wire"
unfoldable pub outputs_fault : ℕ → ℕ → List ℕ → Fault
outputs_fault i w [] = none
outputs_fault i w (o ∷ os) = cond (ltb o w) (outputs_fault (suc i) w os) (fault 5 i)

-- "2 I or O is 0, or I+G above 65,535"
abbrev pub sizes_bad : ℕ → ℕ → ℕ → Bool
sizes_bad n g o = eqb n 0 || (eqb o 0 || ltb 65535 (n + g))

-- "Order, for the checks that a call has: six bytes, 2, length, the gates one by one (3 before 4), 5"
unfoldable pub table_fault : List ℕ → Fault
table_fault s =
    let n = word s 0 in
    let g = word s 2 in
    let o = word s 4 in
    or_else
    (refused_if (ltb (length s) 6) 1)
    (or_else
    (refused_if (sizes_bad n g o) 2)
    (or_else
    (refused_if (not (eqb (length s) (table_long g o))) 1)
    (or_else (gates_fault 0 n (table_of s).gates) (outputs_fault 0 (n + g) (table_of s).outputs))))

-- "7 a random gate in a table to be masked": "A plain table has no kind 3"
abbrev pub is_random : Kind → Bool
is_random NOT = false
is_random XOR = false
is_random AND = false
is_random RANDOM = true
is_random CONSTANT = false
is_random OR = false
is_random (UNKNOWN k) = false

-- 7 at the first random gate
unfoldable pub random_fault : ℕ → List Gate → Fault
random_fault i [] = none
random_fault i (g ∷ gs) = cond (is_random g.kind) (fault 7 i) (random_fault (suc i) gs)

-- a figure of each gate's kind, added over the gates
unfoldable pub total : (Kind → ℕ) → List Gate → ℕ
total f [] = 0
total f (g ∷ gs) = f g.kind + total f gs

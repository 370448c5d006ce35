-- Running a gate table (document 01, "Tape, encoding, decoding"): "Running any gate table writes one value for each wire;
-- it takes exactly I inputs and one bit for each random gate." A bit is a byte, 0 or 1. And what a probe reads (Card 9).
-- Assumes nothing.
use Rattle.std.specs.Prelude.{cond, List, [], ◌∷◌, ◌++◌, ℕ, ◌+◌, ◌-◌, ◌*◌, ◌%◌, ltb, get_or, drop}
use Rattle.tables.specs.Tables.{Kind, NOT, XOR, AND, RANDOM, CONSTANT, OR, UNKNOWN, Gate, Table, gate_of, pins, total}

-- the XOR of two bits
abbrev pub xor : ℕ → ℕ → ℕ
xor a b = (a + b) % 2

-- what a gate drives: v gives the value of each earlier wire, b is the next random bit, and l is a constant's value, 0 or 1
abbrev pub driven : Kind → ℕ → ℕ → (ℕ → ℕ) → ℕ → ℕ
driven NOT l r v b = 1 - v l
driven XOR l r v b = xor (v l) (v r)
driven AND l r v b = v l * v r
driven RANDOM l r v b = b
driven CONSTANT l r v b = l % 2
driven OR l r v b = 1 - (1 - v l) * (1 - v r)
driven (UNKNOWN k) l r v b = 0

-- how many random bits a gate takes
abbrev pub drawn : Kind → ℕ
drawn NOT = 0
drawn XOR = 0
drawn AND = 0
drawn RANDOM = 1
drawn CONSTANT = 0
drawn OR = 0
drawn (UNKNOWN k) = 0

-- the gates in turn, each adding its value; random gates take their bits in wire order
unfoldable pub run_from : List Gate → List ℕ → List ℕ → List ℕ
run_from [] rs vs = vs
run_from (g ∷ gs) rs vs =
    run_from gs (drop (drawn g.kind) rs)
    (vs ++ (driven g.kind g.left g.right (λ w. get_or vs w 0) (get_or rs 0 0) ∷ []))

-- a run of a table on its inputs and random bits
unfoldable pub run : Table → List ℕ → List ℕ → List ℕ
run t xs rs = run_from t.gates rs xs

-- the values of some wires, in the list's order
unfoldable pub read_all : List ℕ → List ℕ → List ℕ
read_all vs [] = []
read_all vs (w ∷ ws) = get_or vs w 0 ∷ read_all vs ws

-- the values of a table's outputs
abbrev pub outputs_of : Table → List ℕ → List ℕ
outputs_of t vs = read_all vs t.outputs

-- "one probe on a gate as reading its output and the wires on its operands" (Card 9): the wires that a probe on wire w reads, in
-- order: the wire, the left pin, the right pin. An input wire has no pins
abbrev pub probe_reads : Table → ℕ → List ℕ
probe_reads t w = w ∷ cond (ltb w t.inputs) [] (pins (gate_of t (w - t.inputs)))

-- what f gives for each of a list, "in list order"
unfoldable pub of_each : (ℕ → List ℕ) → List ℕ → List ℕ
of_each f [] = []
of_each f (p ∷ ps) = f p ++ of_each f ps

-- "one bit for each random gate"
abbrev pub randoms : List Gate → ℕ
randoms gs = total drawn gs

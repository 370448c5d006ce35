-- The lines of a table in words, as bytes of ASCII: first the number of inputs, `inputs 2`; then a line for each gate in table order,
-- `w2 = AND w0 w1`, `w3 = NOT w0`, `w4 = XOR w1 w2`, `w5 = RANDOM`, `w6 = CONSTANT 1` or `w7 = OR w2 w3`; then a line for each
-- output, its position and its wire, `out0 = w2`. Wires and positions count from 0 (document 01, "Gate table").
-- Assumes nothing.
use Rattle.std.specs.Prelude.{List, [], ◌∷◌, ◌++◌, ℕ, suc}
use Rattle.tables.specs.Tables.{Kind, NOT, XOR, AND, RANDOM, CONSTANT, OR, UNKNOWN, Gate, Table}
use Rattle.tables.specs.Tables.{Operands, none_read, left_read, both_read, value_stated, operands_of}
use Rattle.text.specs.Text.{decimal, line_of}

-- `w` and the wire's number
abbrev pub wire_name : ℕ → List ℕ
wire_name w = 119 ∷ decimal w

-- `out` and the output's position
abbrev pub out_name : ℕ → List ℕ
out_name o = 111 ∷ 117 ∷ 116 ∷ decimal o

-- `inputs`
abbrev pub inputs_word : List ℕ
inputs_word = 105 ∷ 110 ∷ 112 ∷ 117 ∷ 116 ∷ 115 ∷ []

-- `=`
abbrev pub equals_word : List ℕ
equals_word = 61 ∷ []

-- `NOT`
abbrev pub not_word : List ℕ
not_word = 78 ∷ 79 ∷ 84 ∷ []

-- `XOR`
abbrev pub xor_word : List ℕ
xor_word = 88 ∷ 79 ∷ 82 ∷ []

-- `AND`
abbrev pub and_word : List ℕ
and_word = 65 ∷ 78 ∷ 68 ∷ []

-- `RANDOM`
abbrev pub random_word : List ℕ
random_word = 82 ∷ 65 ∷ 78 ∷ 68 ∷ 79 ∷ 77 ∷ []

-- `CONSTANT`
abbrev pub constant_word : List ℕ
constant_word = 67 ∷ 79 ∷ 78 ∷ 83 ∷ 84 ∷ 65 ∷ 78 ∷ 84 ∷ []

-- `OR`
abbrev pub or_word : List ℕ
or_word = 79 ∷ 82 ∷ []

-- the word of a kind; a byte that is no kind has none
abbrev pub kind_word : Kind → List (List ℕ)
kind_word NOT = not_word ∷ []
kind_word XOR = xor_word ∷ []
kind_word AND = and_word ∷ []
kind_word RANDOM = random_word ∷ []
kind_word CONSTANT = constant_word ∷ []
kind_word OR = or_word ∷ []
kind_word (UNKNOWN k) = []

-- the names of the operands that are read, or the value that is stated
abbrev pub operand_words : Operands → ℕ → ℕ → List (List ℕ)
operand_words none_read l r = []
operand_words left_read l r = wire_name l ∷ []
operand_words both_read l r = wire_name l ∷ wire_name r ∷ []
operand_words value_stated l r = decimal l ∷ []

-- what stands after `=`: the kind, and the operands that it reads or its value
abbrev pub kind_words : Kind → ℕ → ℕ → List (List ℕ)
kind_words k l r = kind_word k ++ operand_words (operands_of k) l r

-- the line of the number of inputs
abbrev pub inputs_line : ℕ → List ℕ
inputs_line i = line_of inputs_word (decimal i ∷ [])

-- the line of the gate that drives wire w
abbrev pub gate_line : ℕ → Gate → List ℕ
gate_line w g = line_of (wire_name w) (equals_word ∷ kind_words g.kind g.left g.right)

-- the line of output o, which is wire w
abbrev pub output_line : ℕ → ℕ → List ℕ
output_line o w = line_of (out_name o) (equals_word ∷ wire_name w ∷ [])

-- the lines of gates that drive the wires from w on
unfoldable pub gate_lines : ℕ → List Gate → List (List ℕ)
gate_lines w [] = []
gate_lines w (g ∷ gs) = gate_line w g ∷ gate_lines (suc w) gs

-- the lines of outputs from position o on
unfoldable pub output_lines : ℕ → List ℕ → List (List ℕ)
output_lines o [] = []
output_lines o (w ∷ ws) = output_line o w ∷ output_lines (suc o) ws

-- the lines of a table: the number of its inputs, its gates, then its outputs
abbrev pub table_lines : Table → List (List ℕ)
table_lines t = inputs_line t.inputs ∷ (gate_lines t.inputs t.gates ++ output_lines 0 t.outputs)

-- The lines of tables, computed from the definitions: document 01's AND, and a gate of each kind.
-- Assumes nothing.
use mathlib.Core.Path.{◌≡◌, refl}
use mathlib.Core.List.{List, [], ◌∷◌, ◌++◌, flatten}
use Prim.Native.Nat.{ℕ}
use Rattle.tables.specs.Tables.{gates_from, words_from, table_of}
use Rattle.text.specs.Text.{digits, line_of}
use Rattle.list_lines.specs.Lines.{gate_lines, output_lines, table_lines}

-- `inputs 2`
abbrev pub two_line : List ℕ
two_line = 105 ∷ 110 ∷ 112 ∷ 117 ∷ 116 ∷ 115 ∷ 32 ∷ 50 ∷ 10 ∷ []

-- `w2 = AND w0 w1`
abbrev pub and_line : List ℕ
and_line = 119 ∷ 50 ∷ 32 ∷ 61 ∷ 32 ∷ 65 ∷ 78 ∷ 68 ∷ 32 ∷ 119 ∷ 48 ∷ 32 ∷ 119 ∷ 49 ∷ 10 ∷ []

-- `w3 = NOT w0`
abbrev pub not_line : List ℕ
not_line = 119 ∷ 51 ∷ 32 ∷ 61 ∷ 32 ∷ 78 ∷ 79 ∷ 84 ∷ 32 ∷ 119 ∷ 48 ∷ 10 ∷ []

-- `w4 = XOR w1 w2`
abbrev pub xor_line : List ℕ
xor_line = 119 ∷ 52 ∷ 32 ∷ 61 ∷ 32 ∷ 88 ∷ 79 ∷ 82 ∷ 32 ∷ 119 ∷ 49 ∷ 32 ∷ 119 ∷ 50 ∷ 10 ∷ []

-- `w5 = RANDOM`
abbrev pub random_line : List ℕ
random_line = 119 ∷ 53 ∷ 32 ∷ 61 ∷ 32 ∷ 82 ∷ 65 ∷ 78 ∷ 68 ∷ 79 ∷ 77 ∷ 10 ∷ []

-- `w6 = CONSTANT 1`
abbrev pub constant_line : List ℕ
constant_line = 119 ∷ 54 ∷ 32 ∷ 61 ∷ 32 ∷ 67 ∷ 79 ∷ 78 ∷ 83 ∷ 84 ∷ 65 ∷ 78 ∷ 84 ∷ 32 ∷ 49 ∷ 10 ∷ []

-- `w7 = OR w2 w3`
abbrev pub or_line : List ℕ
or_line = 119 ∷ 55 ∷ 32 ∷ 61 ∷ 32 ∷ 79 ∷ 82 ∷ 32 ∷ 119 ∷ 50 ∷ 32 ∷ 119 ∷ 51 ∷ 10 ∷ []

-- `out0 = w2`
abbrev pub out_line : List ℕ
out_line = 111 ∷ 117 ∷ 116 ∷ 48 ∷ 32 ∷ 61 ∷ 32 ∷ 119 ∷ 50 ∷ 10 ∷ []

-- the bytes of document 01's AND
abbrev pub and_table : List ℕ
and_table = 2 ∷ 0 ∷ 1 ∷ 0 ∷ 1 ∷ 0 ∷ 2 ∷ 0 ∷ 0 ∷ 1 ∷ 0 ∷ 2 ∷ 0 ∷ []

-- the bytes of a table with AND, NOT, XOR, a random bit, a constant and OR
abbrev pub kinds_table : List ℕ
kinds_table =
    2 ∷ 0 ∷ 6 ∷ 0 ∷ 1 ∷ 0 ∷ 2 ∷ 0 ∷ 1 ∷ 3 ∷ 4 ∷ 5
    ∷ 0 ∷ 0 ∷ 1 ∷ 0 ∷ 0 ∷ 0 ∷ 0 ∷ 0 ∷ 1 ∷ 0 ∷ 2 ∷ 0 ∷ 0 ∷ 0 ∷ 0 ∷ 0 ∷ 1 ∷ 0 ∷ 0 ∷ 0 ∷ 2 ∷ 0 ∷ 3 ∷ 0 ∷ 2 ∷ 0 ∷ []

pub and_lines : flatten (table_lines (table_of and_table)) ≡ two_line ++ (and_line ++ out_line)
unfolding table_of gates_from words_from gate_lines output_lines flatten line_of digits
and_lines = refl

pub kinds_lines :
    flatten (table_lines (table_of kinds_table))
    ≡ two_line ++ (and_line ++ (not_line ++ (xor_line ++ (random_line ++ (constant_line ++ (or_line ++ out_line))))))
unfolding table_of gates_from words_from gate_lines output_lines flatten line_of digits
kinds_lines = refl

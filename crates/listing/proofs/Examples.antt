-- Tables in words, computed from the definitions: document 01's AND, a gate of each kind, and five bytes.
-- Assumes nothing.
use mathlib.Core.Path.{◌≡◌, refl}
use mathlib.Core.List.{[], ◌∷◌, ◌++◌, flatten}
use Rattle.tables.specs.Tables.{gates_from, words_from, table_of, gates_fault, outputs_fault, table_fault}
use Rattle.text.specs.Text.{digits, line_of}
use Rattle.list_lines.specs.Lines.{gate_lines, output_lines}
use Rattle.list_lines.proofs.Examples.{two_line, and_line, not_line, xor_line, random_line, constant_line, or_line, out_line}
use Rattle.list_lines.proofs.Examples.{and_table, kinds_table}
use Rattle.listing.specs.Listing.{table_text}

-- document 01's AND
pub the_and_lem : table_text and_table ≡ two_line ++ (and_line ++ out_line)
unfolding table_text table_fault table_of gates_from words_from gates_fault outputs_fault gate_lines output_lines flatten line_of digits
the_and_lem = refl

-- AND, NOT, XOR, a random bit, a constant and OR
pub each_kind :
    table_text kinds_table
    ≡ two_line ++ (and_line ++ (not_line ++ (xor_line ++ (random_line ++ (constant_line ++ (or_line ++ out_line))))))
unfolding table_text table_fault table_of gates_from words_from gates_fault outputs_fault gate_lines output_lines flatten line_of digits
each_kind = refl

-- five bytes: `refused 1 0`
pub five_bytes :
    table_text (1 ∷ 0 ∷ 0 ∷ 0 ∷ 1 ∷ [])
    ≡ 114 ∷ 101 ∷ 102 ∷ 117 ∷ 115 ∷ 101 ∷ 100 ∷ 32 ∷ 49 ∷ 32 ∷ 48 ∷ 10 ∷ []
unfolding table_text table_fault table_of gates_from words_from gates_fault outputs_fault gate_lines output_lines flatten line_of digits
five_bytes = refl

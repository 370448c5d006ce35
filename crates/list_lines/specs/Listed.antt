-- For contracts inside the library only: no promise of a call cites this. A table whose lines are listed, and a line by its number.
-- Assumes nothing.
use Rattle.std.specs.Prelude.{◌≡◌, true, List, [], ℕ, ◌<◌, get_or}
use Rattle.tables.specs.declared.GateFields as DGateFields
use Rattle.tables.specs.Refusals.{passed}
use Rattle.tables.specs.Tables.{kind_of, Gate, gate, word, table_of, table_fault}
use Rattle.list_lines.specs.Lines.{table_lines}

-- a table that 1 to 5 accept, as the two bytes of a field state its outputs
abbrev pub Listed : List ℕ → Type 0
Listed s = (passed (table_fault s) ≡ true) × (word s 4 < 65536)

-- a table's line number j
abbrev pub line_at : List ℕ → ℕ → List ℕ
line_at s j = get_or (table_lines (table_of s)) j []

-- the gate that a gate's fields state
abbrev pub stated : DGateFields.GateFields → Gate
stated x = gate (kind_of x.kind) x.left x.right

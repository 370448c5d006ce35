-- A table in words: its lines one after the other. A table that 1 to 5 refuse has the one line `refused`, number, place.
-- Assumes nothing.
use Rattle.std.specs.Prelude.{cond, ℕ}
use mathlib.Core.List.{List, flatten}
use Rattle.tables.specs.Refusals.{passed}
use Rattle.tables.specs.Tables.{table_of, table_fault}
use Rattle.text.specs.Text.{refusal_line, PutsAll}
use Rattle.list_lines.specs.Lines.{table_lines}

-- the text of the bytes of a table: its lines one after the other, or the line of its refusal
unfoldable pub table_text : List ℕ → List ℕ
table_text s =
    let f = table_fault s in cond (passed f) (flatten (table_lines (table_of s))) (refusal_line f.number f.place)

-- the bytes that hold every table's text: 27 a gate and 18 an output, 65,536 of each; a table has fewer, so that its first line of 13
-- fits too
abbrev pub list_room : ℕ
list_room = 2949120

-- listing a table: its text stands at the front of the lent bytes; fewer than it has are left as they were
abbrev pub ListSays : List ℕ → List ℕ → List ℕ → ℕ → Type 0
ListSays s b b' r = PutsAll (table_text s) b b' r

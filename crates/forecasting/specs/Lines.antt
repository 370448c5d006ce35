-- The forecast program's line (document 01, "The forecast program"), as bytes of ASCII.
-- Assumes nothing.
use Rattle.std.specs.Prelude.{cond, List, [], ◌∷◌, ℕ, ◌≤◌, ltb, length, get_or, drop}
use Rattle.tables.specs.Refusals.{Fault, passed, or_else, refused_if}
use Rattle.tables.specs.Tables.{wires, table_of, table_bytes}
use Rattle.text.specs.Text.{decimal, line_of, refusal_line, PutsAll}
use Rattle.construction.specs.Shares.{shares_of}
use Rattle.construction.specs.Gadgets.{isw}
use Rattle.construction.specs.Wires.{masked_table, tape_long}
use Rattle.construction.specs.Says.{plain_fault}

-- "It reads an order byte and then a table"; "No input counts as order 0 and an empty table"
-- "Input above 65,536 bytes prints `refused 9 0`"
unfoldable pub line_fault : List ℕ → Fault
line_fault s = or_else (refused_if (ltb 65536 (length s)) 9) (plain_fault isw (drop 1 s) (get_or s 0 0))

-- "one line: shares, masked wires, tape bits, masked table bytes"
abbrev pub figures_line : ℕ → ℕ → ℕ → ℕ → List ℕ
figures_line n w t b = line_of (decimal n) (decimal w ∷ decimal t ∷ decimal b ∷ [])

-- "prints one line"; "or `refused`, number, place"
unfoldable pub forecast_line : List ℕ → List ℕ
forecast_line s =
    let o = get_or s 0 0 in
    let t = table_of (drop 1 s) in
    let m = masked_table isw o t in
    let f = line_fault s in
    cond (passed f)
    (figures_line (shares_of o) (wires m) (tape_long isw o t) (length (table_bytes m)))
    (refusal_line f.number f.place)

-- the line of an input stands at the front of the lent bytes, of which 64 hold every line; fewer than it has are left as they were
pub record LineSays (s b b' : List ℕ) (r : ℕ) : Type 0 where
  pub fits : length (forecast_line s) ≤ 64
  pub line : PutsAll (forecast_line s) b b' r

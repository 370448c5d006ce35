-- The sizes program's line, as bytes of ASCII: what masking a plain table at an order comes to, also where 8 refuses it as too large, and
-- the largest order at which 8 does not refuse it. The sizes are the same with whichever AND.
-- Assumes nothing.
use Rattle.std.specs.Prelude.{cond, List, [], ◌∷◌, ℕ, zero, suc, ◌≤◌, length, get_or, drop}
use Rattle.tables.specs.Refusals.{passed}
use Rattle.tables.specs.Tables.{Table, wires, table_of, table_long}
use Rattle.text.specs.Text.{decimal, line_of, refusal_line, PutsAll}
use Rattle.construction.specs.Shares.{shares_of}
use Rattle.construction.specs.Gadgets.{isw}
use Rattle.construction.specs.Wires.{masked_table, tape_long}
use Rattle.construction.specs.Says.{too_many}
use Rattle.planning.specs.Maskable.{maskable_fault}

-- the largest of the orders 1 to k at which 8 does not refuse a plain table, 0 where there is none
unfoldable pub largest_up_to : ℕ → Table → ℕ
largest_up_to zero t = 0
largest_up_to (suc k) t = cond (too_many isw (suc k) t) (largest_up_to k t) (suc k)

-- the largest of all orders, which are 1 to 15 ("6 order not 1 to 15")
abbrev pub largest_order : Table → ℕ
largest_order t = largest_up_to 15 t

-- one line: shares, masked wires, tape bits, masked table bytes, masked outputs, the largest order
abbrev pub six_line : ℕ → ℕ → ℕ → ℕ → ℕ → ℕ → List ℕ
six_line n w t b q k = line_of (decimal n) (decimal w ∷ decimal t ∷ decimal b ∷ decimal q ∷ decimal k ∷ [])

-- the line of the table s at the order o: the figures of its masked table, however large that is; or "`refused`, number, place" by 1 to 7
unfoldable pub table_line : List ℕ → ℕ → List ℕ
table_line s o =
    let t = table_of s in
    let m = masked_table isw o t in
    let q = length m.outputs in
    let f = maskable_fault s o in
    cond (passed f)
    (six_line (shares_of o) (wires m) (tape_long isw o t) (table_long (length m.gates) q) q (largest_order t))
    (refusal_line f.number f.place)

-- the order is the first byte, the table is what follows; "No input counts as order 0 and an empty table"
abbrev pub printed : List ℕ → List ℕ
printed s = table_line (drop 1 s) (get_or s 0 0)

-- the line of an input stands at the front of the lent bytes, of which 66 hold every line; fewer than it has are left as they were
pub record SizesSay (s b b' : List ℕ) (r : ℕ) : Type 0 where
  pub fits : length (printed s) ≤ 66
  pub line : PutsAll (printed s) b b' r

-- For contracts inside the library only: no promise of a call cites this. The kinds' bytes of the new wires of a plain gate.
-- Assumes nothing.
use Rattle.std.specs.Prelude.{◌≡◌, List, [], ◌∷◌, ◌++◌, map, ℕ, ◌-◌, length, drop, replicate}
use Rattle.tables.specs.Tables.{Kind, NOT, XOR, AND, RANDOM, CONSTANT, OR, UNKNOWN, Gate, kind_bytes}
use Rattle.construction.specs.Shares.{tri}
use Rattle.construction.specs.Wires.{Wire, driver_of}
use Rattle.layout.specs.Layout.{pieces_from}

-- the kinds of wires, as bytes
abbrev pub wire_kinds : List Wire → List ℕ
wire_kinds xs = kind_bytes (map driver_of xs)

-- the kinds of a pair's five wires
abbrev pub pair_kinds : List ℕ
pair_kinds = 3 ∷ 2 ∷ 1 ∷ 2 ∷ 1 ∷ []

-- the kinds of a row: its own product, then the sums
abbrev pub row_kinds : ℕ → List ℕ
row_kinds n = 2 ∷ replicate (n - 1) 1

-- the kinds of an AND's wires: the pairs, then the rows
abbrev pub and_kinds : ℕ → List ℕ
and_kinds n = pieces_from (tri n) 0 (λ _. pair_kinds) ++ pieces_from n 0 (λ _. row_kinds n)

-- the kinds of a plain gate's new wires
abbrev pub new_kinds : Kind → ℕ → List ℕ
new_kinds NOT n = 0 ∷ []
new_kinds XOR n = replicate n 1
new_kinds AND n = and_kinds n
new_kinds RANDOM n = []
new_kinds CONSTANT n = replicate n 4
new_kinds OR n = 0 ∷ 0 ∷ (and_kinds n ++ (0 ∷ []))
new_kinds (UNKNOWN k) n = []

-- the kinds of the new wires of plain gates
unfoldable pub gate_kinds : ℕ → List Gate → List ℕ
gate_kinds n [] = []
gate_kinds n (x ∷ xs) = new_kinds x.kind n ++ gate_kinds n xs

-- from a place on, every byte is the kind of an XOR gate
abbrev pub XorsFrom : ℕ → List ℕ → Type 0
XorsFrom at b = drop at b ≡ replicate (length b - at) 1

-- Runs of masked tables at order 1, computed: an AND, and two ANDs; the DOM AND, gate by gate; and the marks of probes whose pins
-- carry more than their wires. A construction that only decodes well has other values.
-- Assumes nothing.
use mathlib.Core.Path.{◌≡◌, refl}
use mathlib.Core.List.{List, [], ◌∷◌}
use Prim.Native.Nat.{ℕ}
use lib.ListN.{take, drop}
use Rattle.tables.specs.Tables.{XOR, AND, RANDOM, Gate, gate, Table, total}
use Rattle.tables.specs.Runs.{run, run_from, read_all, of_each}
use Rattle.construction.specs.Shares.{up_from, in_turn, pairs_from, tri, pair_at, row}
use Rattle.construction.specs.Gadgets.{isw, dom}
use Rattle.construction.specs.Wires.{adding, and_wires, input_origins, masked, shares_after, output_shares, masked_table, origins}
use Rattle.construction.specs.Wires.{insert, joined, probe_marks}
use Rattle.construction.specs.Codes.{xor_all, encode, masked_run}

-- a table of so many inputs, gates and outputs
abbrev table : ℕ → List Gate → List ℕ → Table
table n gs os = record { inputs = n; gates = gs; outputs = os }

-- "secrets 1 1, tape 1 0 0 1 1 0 1": the random bits of the AND's three pairs, and its outputs
pub and_run :
    read_all
    (masked_run isw 1 (table 2 (gate AND 0 1 ∷ []) (2 ∷ [])) (1 ∷ 1 ∷ []) (1 ∷ 0 ∷ 0 ∷ 1 ∷ 1 ∷ 0 ∷ 1 ∷ []))
    (6 ∷ 11 ∷ 16 ∷ 23 ∷ 26 ∷ 29 ∷ [])
    ≡ 1 ∷ 0 ∷ 1 ∷ 1 ∷ 1 ∷ 1 ∷ []
unfolding run run_from read_all total up_from in_turn pairs_from tri pair_at row adding and_wires masked shares_after
    output_shares masked_table xor_all encode masked_run
and_run = refl

-- two ANDs: the second takes random bits of its own
pub ands_run :
    read_all
    (masked_run isw 1 (table 2 (gate AND 0 1 ∷ gate AND 0 1 ∷ []) (2 ∷ [])) (1 ∷ 1 ∷ [])
    (1 ∷ 0 ∷ 0 ∷ 1 ∷ 1 ∷ 0 ∷ 1 ∷ 0 ∷ 1 ∷ 1 ∷ []))
    (6 ∷ 11 ∷ 16 ∷ 30 ∷ 35 ∷ 40 ∷ [])
    ≡ 1 ∷ 0 ∷ 1 ∷ 0 ∷ 1 ∷ 1 ∷ []
unfolding run run_from read_all total up_from in_turn pairs_from tri pair_at row adding and_wires masked shares_after
    output_shares masked_table xor_all encode masked_run
ands_run = refl

-- "r; a_i·b_j; a_i·b_j⊕r; a_j·b_i; a_j·b_i⊕r" of shares 1 and 2, which are wires 0 and 1 of a, 3 and 4 of b
dom_pair :
    take 5 (masked_table dom 1 (table 2 (gate AND 0 1 ∷ []) (2 ∷ []))).gates
    ≡ gate RANDOM 0 0 ∷ gate AND 0 4 ∷ gate XOR 7 6 ∷ gate AND 1 3 ∷ gate XOR 9 6 ∷ []
unfolding up_from in_turn pairs_from tri pair_at row adding and_wires masked shares_after output_shares masked_table
dom_pair = refl

-- "Row i adds the third wire, row j the fifth": the three rows, and document 01's output wires
dom_rows :
    let t = masked_table dom 1 (table 2 (gate AND 0 1 ∷ []) (2 ∷ [])) in
    (drop 15 t.gates
    ≡ gate AND 0 3
    ∷ gate XOR 21 8
    ∷ gate XOR 22 13
    ∷ gate AND 1 4
    ∷ gate XOR 24 10
    ∷ gate XOR 25 18
    ∷ gate AND 2 5
    ∷ gate XOR 27 15
    ∷ gate XOR 28 20
    ∷ [])
    × (t.outputs ≡ 23 ∷ 26 ∷ 29 ∷ [])
unfolding up_from in_turn pairs_from tri pair_at row adding and_wires masked shares_after output_shares masked_table
dom_rows = (refl, refl)

-- "A probe on z(j,i) then carries {i,j}" (Card 9): z(2,1), and the third wire of shares 1 and 2 in the DOM AND
pins_carry :
    let t = table 2 (gate AND 0 1 ∷ []) (2 ∷ []) in
    (probe_marks isw 1 t 10 ≡ 1 ∷ 2 ∷ []) × (probe_marks dom 1 t 8 ≡ 1 ∷ 2 ∷ [])
unfolding of_each up_from in_turn pairs_from tri pair_at row adding and_wires input_origins masked shares_after output_shares masked_table
    origins insert joined probe_marks
pins_carry = (refl, refl)

-- For contracts inside the library only: no promise of a call cites this.
-- The marks of probes on the wires of a pair: what a wire carries itself, and by the pins of its gate.
-- Assumes nothing.
use Rattle.std.specs.Prelude.{◌&&◌, cond, List, [], ◌∷◌, map, ℕ, ◌+◌, eqb, get_or}
use Rattle.tables.specs.Tables.{pins}
use Rattle.tables.specs.Runs.{of_each}
use Rattle.construction.specs.Gadgets.{Five, all_five, index_of, Gadget}
use Rattle.construction.specs.Wires.{joined}

-- the marks of the wires that a pair of shares i and j reads and drives, where a_i, b_j, a_j and b_i are wires 0 to 3 and the pair's
-- own are wires 4 to 8
abbrev pub nine_marks : Gadget → ℕ → ℕ → ℕ → List ℕ
nine_marks G i j w = get_or ((i ∷ []) ∷ (j ∷ []) ∷ (j ∷ []) ∷ (i ∷ []) ∷ map (G.marks i j) all_five) w []

-- the share numbers that a pair's wire and its pins carry, each as often as it is carried
abbrev pub pair_carried : Gadget → ℕ → ℕ → Five → List ℕ
pair_carried G i j f = of_each (nine_marks G i j) ((4 + index_of f) ∷ pins (G.gates 4 0 1 2 3 f))

-- the same AND, each of its pairs' wires with the marks of a probe on it
abbrev pub with_pins : Gadget → Gadget
with_pins G =
    record {
      gates = G.gates;
      marks = λ i j f. joined (pair_carried G i j f);
      low = G.low;
      high = G.high;
      flip = G.flip;
    }

-- the marks of a probe on the wire at place f of a pair of shares i and j, where row i adds the wire at place `low`: the first wire has
-- no pins, and carries i alone where row i adds it; every other one carries both
abbrev pub pair_marks : ℕ → ℕ → ℕ → ℕ → List ℕ
pair_marks low i j f = cond (eqb f 0 && eqb f low) (i ∷ []) (i ∷ j ∷ [])

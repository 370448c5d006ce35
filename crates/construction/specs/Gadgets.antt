-- What sets one masked AND apart from another: the five wires of a pair of shares i < j, their marks, which of them the rows
-- add, and what the map flips. Document 01's AND is `isw` (source document 001, section 3), that of Card 8 is `dom` (source
-- document 002).
-- Assumes nothing.
use Rattle.std.specs.Prelude.{Bool, false, ◌||◌, cond, List, [], ◌∷◌, ℕ, ◌+◌, ◌*◌, eqb}
use Rattle.tables.specs.Tables.{XOR, AND, RANDOM, Gate, gate}
use Rattle.tables.specs.Runs.{xor}
use Rattle.construction.specs.declared.And as DAnd
use Rattle.construction.specs.declared.And.TheVariants.{Isw, Dom}

-- "five wires": those of a pair, in order
pub data Five : Type 0 where
  first second third fourth fifth : Five

-- the five, in order
abbrev pub all_five : List Five
all_five = first ∷ second ∷ third ∷ fourth ∷ fifth ∷ []

-- how many of the pair's wires come before it
abbrev pub index_of : Five → ℕ
index_of first = 0
index_of second = 1
index_of third = 2
index_of fourth = 3
index_of fifth = 4

-- whether a wire with these marks carries share number k
abbrev pub is_in : ℕ → List ℕ → Bool
is_in k [] = false
is_in k (m ∷ ms) = eqb k m || is_in k ms

-- whether a product differs between two runs, of x and y in the first, of x' and y' in the second: 1 or 0
abbrev pub differs : ℕ → ℕ → ℕ → ℕ → ℕ
differs x y x' y' = xor (x * y) (x' * y')

-- what sets one AND apart from another, for a pair i < j
pub record Gadget : Type 0 where
  -- the gates, from the pair's first wire and the wires of a_i, b_j, a_j and b_i
  pub gates : ℕ → ℕ → ℕ → ℕ → ℕ → Five → Gate
  -- the share numbers that a wire carries, for the pair of shares i and j of the paper
  pub marks : ℕ → ℕ → Five → List ℕ
  -- the wires that row i and row j add
  pub low : Five
  pub high : Five
  -- whether the pair's random bit is flipped: the free share k, shares i and j, whether a_i·b_j and a_j·b_i differ
  pub flip : ℕ → ℕ → ℕ → ℕ → ℕ → ℕ

-- "random z(i,j); a_i·b_j; z(i,j)⊕a_i·b_j; a_j·b_i; the third ⊕ the fourth, called z(j,i)"
abbrev pub isw_gates : ℕ → ℕ → ℕ → ℕ → ℕ → Five → Gate
isw_gates w ai bj aj bi first = gate RANDOM 0 0
isw_gates w ai bj aj bi second = gate AND ai bj
isw_gates w ai bj aj bi third = gate XOR w (w + 1)
isw_gates w ai bj aj bi fourth = gate AND aj bi
isw_gates w ai bj aj bi fifth = gate XOR (w + 2) (w + 3)

-- "z(i,j) has {i} and z(j,i) has {j}; a_i·b_j, a_j·b_i and z(i,j)⊕a_i·b_j have {i,j}"
abbrev pub isw_marks : ℕ → ℕ → Five → List ℕ
isw_marks i j first = i ∷ []
isw_marks i j second = i ∷ j ∷ []
isw_marks i j third = i ∷ j ∷ []
isw_marks i j fourth = i ∷ j ∷ []
isw_marks i j fifth = j ∷ []

-- row i adds z(i,j), row j adds z(j,i); "z(k,j) for j>k is flipped if a_k·b_j⊕a_j·b_k differs between the two runs"
abbrev pub isw : Gadget
isw =
    record {
      gates = isw_gates;
      marks = isw_marks;
      low = first;
      high = fifth;
      flip = λ k i j p q. cond (eqb i k) (xor p q) 0;
    }

-- "Per pair: r; a_i·b_j; a_i·b_j⊕r; a_j·b_i; a_j·b_i⊕r" (Card 8)
abbrev pub dom_gates : ℕ → ℕ → ℕ → ℕ → ℕ → Five → Gate
dom_gates w ai bj aj bi first = gate RANDOM 0 0
dom_gates w ai bj aj bi second = gate AND ai bj
dom_gates w ai bj aj bi third = gate XOR (w + 1) w
dom_gates w ai bj aj bi fourth = gate AND aj bi
dom_gates w ai bj aj bi fifth = gate XOR (w + 3) w

-- "r and the products {i,j}, the third {i}, the fifth {j}" (Card 8)
abbrev pub dom_marks : ℕ → ℕ → Five → List ℕ
dom_marks i j first = i ∷ j ∷ []
dom_marks i j second = i ∷ j ∷ []
dom_marks i j third = i ∷ []
dom_marks i j fourth = i ∷ j ∷ []
dom_marks i j fifth = j ∷ []

-- "Row i adds the third wire, row j the fifth"; "r of a pair of k and j is flipped if a_j·b_k differs" (Card 8): where k is the
-- lower share that is a_j·b_i, where it is the upper one a_i·b_j
abbrev pub dom : Gadget
dom =
    record {
      gates = dom_gates;
      marks = dom_marks;
      low = third;
      high = fifth;
      flip = λ k i j p q. cond (eqb i k) q (cond (eqb j k) p 0);
    }

-- the AND that a value of the code names
abbrev pub gadget_of : DAnd.And → Gadget
gadget_of Isw = isw
gadget_of Dom = dom

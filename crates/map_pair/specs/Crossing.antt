-- For contracts inside the library only: no promise of a call cites this. A pair of shares in both runs of the map.
-- Assumes nothing.
use Rattle.std.specs.Prelude.{List, ℕ, ◌+◌, ◌*◌, ◌≤◌, ◌<◌, length, get_or}
use Rattle.tables.specs.Runs.{xor}
use Rattle.layout.specs.declared.PairShares as DPairShares
use Rattle.construction.specs.Gadgets.{Gadget, differs}

-- a bit stands at place p
pub record BitAt (b : List ℕ) (p : ℕ) : Type 0 where
  pub inside : p < length b
  pub bit : get_or b p 0 ≤ 1

-- the values of a_i, b_j, a_j and b_i are bits
pub record PairBits (v : List ℕ) (s : DPairShares.PairShares) : Type 0 where
  pub cross : BitAt v s.ai × BitAt v s.bj
  pub back : BitAt v s.aj × BitAt v s.bi

-- the wires of a_i, b_j, a_j and b_i come before wire w
pub record PairBefore (w : ℕ) (s : DPairShares.PairShares) : Type 0 where
  pub cross : (s.ai < w) × (s.bj < w)
  pub back : (s.aj < w) × (s.bi < w)

-- what the fifth wire of a pair drives, by the values of the first, the second and the fourth
abbrev pub fifth_value : ℕ → ℕ → (ℕ → ℕ) → ℕ
fifth_value both w v = xor (xor (v w) (both * v (w + 1))) (v (w + 3))

-- whether the product of the wires l and r differs between the runs x and y
abbrev pub wires_differ : List ℕ → List ℕ → ℕ → ℕ → ℕ
wires_differ x y l r = differs (get_or x l 0) (get_or x r 0) (get_or y l 0) (get_or y r 0)

-- what a pair of shares i and j flips, where k is the free share and x and y are the values of the runs
abbrev pub pair_flips : Gadget → ℕ → ℕ → ℕ → List ℕ → List ℕ → DPairShares.PairShares → ℕ
pair_flips G k i j x y s = G.flip k i j (wires_differ x y s.ai s.bj) (wires_differ x y s.aj s.bi)

-- For contracts inside the library only: no promise of a call cites this. Pairs of shares in both runs of the map.
-- Assumes nothing.
use Rattle.std.specs.Prelude.{List, map, ℕ, suc, ◌-◌, get_or}
use Rattle.layout.specs.declared.Places as DPlaces
use Rattle.construction.specs.Shares.{up_from, in_turn, Pair, pair_of}
use Rattle.construction.specs.Gadgets.{Gadget}
use Rattle.secrecy.specs.Both.{wires_flip, BothFlip}
use Rattle.layout.specs.Layout.{share_wires, pair_gates}

-- the pairs of share i, counted from 0, with each later one
abbrev pub share_pairs : ℕ → ℕ → List Pair
share_pairs n i = up_from (n - suc i) (suc i) (λ j. pair_of i j)

-- the pairs ps run on in both runs, and what they flip is read off the values x and y so far
abbrev pub PairsRan :
    Gadget → ℕ → ℕ → DPlaces.Places → DPlaces.Places → List Pair → List ℕ → ℕ → ℕ
    → List ℕ → List ℕ → List ℕ → List ℕ → List ℕ → List ℕ → Type 0
PairsRan G n k a b ps ts at w m m' x x' y y' =
    BothFlip
    (in_turn 5 w ps (pair_gates G (share_wires n a) (share_wires n b)))
    (map (wires_flip G k (share_wires n a) (share_wires n b) (λ p. get_or x p 0) (λ p. get_or y p 0)) ps)
    ts at w m m' x x' y y'

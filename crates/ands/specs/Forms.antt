-- For contracts inside the library only: no promise of a call cites this.
-- What sets one AND apart from another, as the code keeps it: wires of a pair by their place among the five, from 0, and whether the
-- fifth adds both products.
-- Assumes nothing.
use Rattle.std.specs.Prelude.{◌≡◌, cond, List, [], ◌∷◌, map, ℕ, ◌+◌, ◌-◌, ◌*◌, ◌≤◌, ◌<◌, eqb, Option, None, Some}
use Rattle.tables.specs.Tables.{XOR, AND, RANDOM, Gate, gate}
use Rattle.tables.specs.Runs.{xor}
use Rattle.construction.specs.declared.And as DAnd
use Rattle.construction.specs.declared.And.TheVariants.{Isw, Dom}
use Rattle.construction.specs.Gadgets.{Five, all_five, index_of, Gadget}
use Rattle.construction.specs.PinMarks.{with_pins, pair_marks}
use Rattle.ands.specs.declared.PairForm as DPairForm

-- the five gates of a pair, from wire w on, by the operands of its third and fifth
abbrev pub form_gates : DPairForm.PairForm → ℕ → ℕ → ℕ → ℕ → ℕ → List Gate
form_gates r w ai bj aj bi =
    gate RANDOM 0 0
    ∷ gate AND ai bj
    ∷ gate XOR (w + r.third.left) (w + r.third.right)
    ∷ gate AND aj bi
    ∷ gate XOR (w + r.fifth.left) (w + r.fifth.right)
    ∷ []

-- what a pair of shares i and j flips, p and q being whether a_i·b_j and a_j·b_i differ
abbrev pub form_flip : DPairForm.PairForm → ℕ → ℕ → ℕ → ℕ → ℕ → ℕ
form_flip r k i j p q = cond (eqb i k) (xor (r.both * p) q) (cond (eqb j k) ((1 - r.both) * p) 0)

-- the share j whose pairs (i, j) may be flipped though i is not the free share k: k, or none
abbrev pub upper_flipped : DAnd.And → ℕ → Option ℕ
upper_flipped Isw k = None
upper_flipped Dom k = Some k

-- the form is that of the gadget; an operand stands before the wire that reads it
pub record FormSays (G : Gadget) (r : DPairForm.PairForm) : Type 0 where
  pub third : (r.third.left < 2) × (r.third.right < 2)
  pub fifth : (r.fifth.left < 4) × (r.fifth.right < 4)
  pub gates : (w ai bj aj bi : ℕ) → form_gates r w ai bj aj bi ≡ map (G.gates w ai bj aj bi) all_five
  pub low : r.low ≡ index_of G.low
  pub high : r.high ≡ index_of G.high
  pub marks : (i j : ℕ) → i < j → (f : Five) → (with_pins G).marks i j f ≡ pair_marks r.low i j (index_of f)
  pub both : r.both ≤ 1
  -- whatever the values are, the third wire adds the first two, the fifth the first, the fourth and, where `both` is 1, the second
  pub third_adds :
      (w : ℕ) (v : ℕ → ℕ) → xor (v (w + r.third.left)) (v (w + r.third.right)) ≡ xor (v w) (v (w + 1))
  pub fifth_adds :
      (w : ℕ) (v : ℕ → ℕ) → v (w + 2) ≡ xor (v w) (v (w + 1))
      → xor (v (w + r.fifth.left)) (v (w + r.fifth.right)) ≡ xor (xor (v w) (r.both * v (w + 1))) (v (w + 3))
  pub flip : (k i j p q : ℕ) → q ≤ 1 → G.flip k i j p q ≡ form_flip r k i j p q

-- The marks of probes on the wires of a pair, for each AND.
-- Assumes nothing.
use mathlib.Core.Path.{◌≡◌, refl}
use mathlib.Core.Bool.{Bool, true, false, ◌&&◌, cond}
use mathlib.Core.List.{[], ◌∷◌}
use Prim.Native.Nat.{ℕ, ◌≤◌, ◌<◌}
use native.Mathlib.Omega.{arith}
use lib.Dec.{eqb, ltb}
use lib.ListN.{length}
use borrow.Author.Tests.{eq-eqb, ne_eqb, lt-ltb, le-ltb}
use Rattle.tables.specs.Runs.{of_each}
use Rattle.construction.specs.Gadgets.{Five, first, second, third, fourth, fifth, index_of, isw, dom}
use Rattle.construction.specs.Wires.{joined, insert}
use Rattle.construction.specs.PinMarks.{with_pins, pair_marks}

-- the marks of a probe on a wire of a pair i < j: what the wire and its pins carry, joined
module _ (i j : ℕ) (h : i < j) where
  same_i : eqb i i ≡ true
  same_i = eq-eqb i i refl

  same_j : eqb j j ≡ true
  same_j = eq-eqb j j refl

  other_i : eqb i j ≡ false
  other_i = ne_eqb i j (λ e. omega arith)

  other_j : eqb j i ≡ false
  other_j = ne_eqb j i (λ e. omega arith)

  lower : ltb i j ≡ true
  lower = lt-ltb i j h

  upper : ltb j i ≡ false
  upper = le-ltb j i (omega arith)

  pub isw_marks_lem : (f : Five) → (with_pins isw).marks i j f ≡ pair_marks (index_of isw.low) i j (index_of f)
  unfolding of_each joined insert
  isw_marks_lem first = refl
  isw_marks_lem second = simp (same_i, same_j, other_i, other_j, lower, upper)
  isw_marks_lem third = simp (same_i, same_j, other_i, other_j, lower, upper)
  isw_marks_lem fourth = simp (same_i, same_j, other_i, other_j, lower, upper)
  isw_marks_lem fifth = simp (same_i, same_j, other_i, other_j, lower, upper)

  pub dom_marks_lem : (f : Five) → (with_pins dom).marks i j f ≡ pair_marks (index_of dom.low) i j (index_of f)
  unfolding of_each joined insert
  dom_marks_lem first = simp (same_i, same_j, other_i, other_j, lower, upper)
  dom_marks_lem second = simp (same_i, same_j, other_i, other_j, lower, upper)
  dom_marks_lem third = simp (same_i, same_j, other_i, other_j, lower, upper)
  dom_marks_lem fourth = simp (same_i, same_j, other_i, other_j, lower, upper)
  dom_marks_lem fifth = simp (same_i, same_j, other_i, other_j, lower, upper)

-- one share number, or two
pub marks_few : (low i j f : ℕ) → length (pair_marks low i j f) ≤ 2
marks_few low i j f = go (eqb f 0 && eqb f low)
  where
    go : (t : Bool) → length (cond t (i ∷ []) (i ∷ j ∷ [])) ≤ 2
    go true = omega arith
    go false = omega arith

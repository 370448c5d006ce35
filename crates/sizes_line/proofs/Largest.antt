-- The largest order that fits, looked for from 15 down: it is the largest among the orders that are left.
-- Assumes nothing.
use mathlib.Core.Path.{◌≡◌, refl, sym, ap, ◌∙◌}
use mathlib.Core.Bool.{true, false}
use Prim.Native.Nat.{ℕ, zero, suc, ◌-◌, ◌≤◌, ◌<◌}
use native.Mathlib.Omega.{arith}
use Rattle.tables.specs.declared.Counts as DCounts
use Rattle.tables.specs.Tables.{Table}
use Rattle.construction.specs.declared.And.TheVariants.{Isw}
use Rattle.construction.specs.Gadgets.{isw}
use Rattle.construction.specs.Says.{too_many}
use Rattle.planning.specs.declared.Tally as DTally
use Rattle.planning.specs.declared.Masked as DMasked
use Rattle.planning.specs.Plans.{Countable, TallyOf, MaskedBy, too_large}
use Rattle.planning.proofs.Planning.{large_many}
use Rattle.sizes_line.specs.Lines.{largest_up_to, largest_order}

-- counts that a table can have, at every order
pub countable_at : {o i q : ℕ} {c : DCounts.Counts} (p : ℕ) → p ≤ 15 → Countable o i q c → Countable p i q c
countable_at p h C = record { order = omega (arith, h); inputs = C.inputs; outputs = C.outputs; gates = C.gates }

none_left : (t : Table) (o : ℕ) → o ≤ 0 → largest_up_to o t ≡ 0
unfolding largest_up_to
none_left t zero h = refl
none_left t (suc o) h = absurd (omega arith)

fits_here : (t : Table) (o : ℕ) → 0 < o → too_many isw o t ≡ false → largest_up_to o t ≡ o
unfolding largest_up_to
fits_here t zero h e = absurd (omega arith)
fits_here t (suc o) h e = rw e

fits_below : (t : Table) (o p : ℕ) → o ≡ suc p → too_many isw o t ≡ true → largest_up_to o t ≡ largest_up_to p t
unfolding largest_up_to
fits_below t zero p n e = absurd (omega (arith, n))
fits_below t (suc o) p n e = let same : o ≡ p = omega (arith, n) in rw e (ap (λ (x : ℕ). largest_up_to x t) same)

-- the orders above o were tried
pub record Trying (y : DTally.Tally) (o : ℕ) : Type 0 where
  pub within : o ≤ 15
  pub left : (t : Table) → TallyOf t y → largest_order t ≡ largest_up_to o t

pub trying_start : (y : DTally.Tally) → Trying y 15
trying_start y = record { within = omega arith; left = λ t T. refl }

module _ {y : DTally.Tally} {o : ℕ} {m : DMasked.Masked} (S : Trying y o) (h : 1 ≤ o) (M : MaskedBy o y.inputs y.outputs y.counts m) where
  pub trying_found : too_large m ≡ false → (t : Table) → TallyOf t y → o ≡ largest_order t
  trying_found e t T = sym (S.left t T ∙ fits_here t o h (sym (large_many T M Isw) ∙ e))

  pub trying_next : too_large m ≡ true → Trying y (o - 1)
  trying_next e = record {
    within = omega (arith, S.within);
    left = λ t T. S.left t T ∙ fits_below t o (o - 1) (omega (arith, h)) (sym (large_many T M Isw) ∙ e);
  }

pub trying_end : {y : DTally.Tally} {o : ℕ} → Trying y o → o < 1 → (t : Table) → TallyOf t y → 0 ≡ largest_order t
trying_end {y} {o} S h t T = sym (S.left t T ∙ none_left t o (omega arith))

pub ruleset largest_laws = (countable_at, trying_start)

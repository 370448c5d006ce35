-- Orders: what an order that 6 does not refuse is.
-- Assumes nothing.
use mathlib.Core.Path.{◌≡◌, refl}
use mathlib.Core.Bool.{true, not}
use Prim.Native.Nat.{ℕ, ◌≤◌}
use lib.Dec.{leb}
use borrow.Author.Tests.{leb-true, not-false}
use Rattle.tables.specs.Refusals.{passed}
use Rattle.tables.proofs.Tests.{and_true, not_refused}
use Rattle.construction.specs.Says.{order_ok, order_fault}

pub order_range : (o : ℕ) → order_ok o ≡ true → (1 ≤ o) × (o ≤ 15)
order_range o h = let a = and_true (leb 1 o) (leb o 15) h in (leb-true 1 o a.0, leb-true o 15 a.1)

pub order_passed : (o : ℕ) → passed (order_fault o) ≡ true → order_ok o ≡ true
order_passed o h = not-false (order_ok o) (not_refused (not (order_ok o)) 6 refl h)

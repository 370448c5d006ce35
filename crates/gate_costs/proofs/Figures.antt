-- Bounds of a gate's figures at 31 shares at most.
-- Assumes nothing.
use mathlib.Core.Path.{◌≡◌, refl}
use Prim.Native.Nat.{ℕ, zero, suc, ◌*◌, ◌≤◌, ◌<◌}
use native.Mathlib.Nat.{mul-le-mul, mul-le-mul_right}
use native.Mathlib.Omega.{arith}
use Rattle.tables.specs.Tables.{Kind, kind_of, NOT, XOR, AND, RANDOM, CONSTANT, OR, UNKNOWN}
use Rattle.construction.specs.Shares.{tri}
use Rattle.construction.specs.Wires.{cost}
use Rattle.construction.specs.Counts.{draws}
use Rattle.construction.proofs.Rows.{tri_closed}

pub square_small : (n : ℕ) → n ≤ 31 → n * n ≤ 961
square_small n h = mul-le-mul {n₂ = 31} {m₂ = 31} h h

pub tri_small : (n : ℕ) → n ≤ 31 → tri n ≤ 465
tri_small n h = omega (arith, tri_closed n, mul-le-mul_right n h)

-- "3,286 and 465 at t = 15", and an OR's three NOTs
pub cost_small : (k : Kind) (n : ℕ) → n ≤ 31 → cost k n ≤ 3289
cost_small NOT n h = omega arith
cost_small XOR n h = omega arith
cost_small AND n h = omega (arith, tri_small n h, square_small n h)
cost_small RANDOM n h = omega arith
cost_small CONSTANT n h = omega arith
cost_small OR n h = omega (arith, tri_small n h, square_small n h)
cost_small (UNKNOWN k) n h = omega arith

pub draws_below : (k : Kind) (n : ℕ) → draws k n ≤ cost k n
draws_below NOT n = omega arith
draws_below XOR n = omega arith
draws_below AND n = omega arith
draws_below RANDOM n = omega arith
draws_below CONSTANT n = omega arith
draws_below OR n = omega arith
draws_below (UNKNOWN k) n = omega arith

pub draws_small : (k : Kind) (n : ℕ) → n ≤ 31 → draws k n ≤ 465
draws_small NOT n h = omega arith
draws_small XOR n h = omega arith
draws_small AND n h = tri_small n h
draws_small RANDOM n h = omega arith
draws_small CONSTANT n h = omega arith
draws_small OR n h = tri_small n h
draws_small (UNKNOWN k) n h = omega arith

-- a byte of no kind draws nothing
pub unknown_draws : (b n : ℕ) → 5 < b → 0 ≡ draws (kind_of b) n
unknown_draws zero n h = absurd (omega arith)
unknown_draws (suc zero) n h = absurd (omega arith)
unknown_draws (suc (suc zero)) n h = absurd (omega arith)
unknown_draws (suc (suc (suc zero))) n h = absurd (omega arith)
unknown_draws (suc (suc (suc (suc zero)))) n h = absurd (omega arith)
unknown_draws (suc (suc (suc (suc (suc zero))))) n h = absurd (omega arith)
unknown_draws (suc (suc (suc (suc (suc (suc b)))))) n h = refl

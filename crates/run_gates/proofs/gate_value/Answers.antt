-- `run_gates::gate_value` meets its contract: the next random bit, the constant, or the kind's row of the truth tables.
-- Assumes nothing.
use mathlib.Core.Path.{refl}
use native.Mathlib.Omega.{arith}
use Rattle.run_gates.proofs.Gate.{says_random, says_constant, left_bit, says_truth}
use Rattle.run_gates.proofs.gate_value.Goals as goal

pub returns-then-gate : goal.returns-then-gate
returns-then-gate c = says_random c.if-gate.true c.tape_bit.ensures.0 refl

pub returns-then-gate-2 : goal.returns-then-gate-2
returns-then-gate-2 c = says_constant c.if-gate-2.true refl refl

pub overflow_mul-row-2 : goal.overflow_mul-row-2
overflow_mul-row-2 c = omega (arith, left_bit c.requires c.if-gate.false c.if-gate-2.false)

pub overflow_add-row : goal.overflow_add-row
overflow_add-row c = omega (arith, c.requires.known, left_bit c.requires c.if-gate.false c.if-gate-2.false)

pub overflow_add-row-2 : goal.overflow_add-row-2
overflow_add-row-2 c =
    omega (arith, c.requires.known, c.requires.right, left_bit c.requires c.if-gate.false c.if-gate-2.false)

pub overflow_shr-result : goal.overflow_shr-result
overflow_shr-result c =
    omega (arith, c.requires.known, c.requires.right, left_bit c.requires c.if-gate.false c.if-gate-2.false)

pub returns : goal.returns
returns c = says_truth c.requires c.if-gate.false c.if-gate-2.false refl refl

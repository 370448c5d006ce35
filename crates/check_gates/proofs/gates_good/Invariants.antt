-- The loop's invariant in `check_gates::gates_good`: where nothing is wrong so far, the gates before g are good.
-- Assumes nothing.
use Prim.Native.Nat.{◌≤◌}
use mathlib.Core.Path.{◌≡◌}
use Rattle.check_gates.proofs.Gates.{GatesGood}
use Rattle.check_gates.proofs.gates_good.Given as goal

abbrev pub invariant-loop-g : goal.invariant-loop-g
invariant-loop-g l =
    l.flaws ≡ 0 → l.largest ≤ 5 → GatesGood l.gates.table.now l.inputs l.g

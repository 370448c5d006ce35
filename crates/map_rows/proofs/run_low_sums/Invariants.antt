-- The loop's invariant in `map_rows::run_low_sums`, of each run: c sums have run on.
-- Assumes nothing.
use Prim.Native.Nat.{◌+◌, ◌*◌}
use Rattle.map_rows.proofs.InSums.{InSums}
use Rattle.map_rows.proofs.run_low_sums.Given as goal

abbrev pub invariant-loop-c : goal.invariant-loop-c
invariant-loop-c l =
    InSums l.last l.m (λ d. l.z + 5 * d + l.form.low) l.initial.one l.x l.c l.one
    × InSums l.last l.m (λ d. l.z + 5 * d + l.form.low) l.initial.other l.y l.c l.other

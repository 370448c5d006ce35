-- `map_rows::run_low_sums` meets its contract.
-- Assumes nothing.
use mathlib.Core.Path.{refl}
use Rattle.map_rows.proofs.InSums.{sums_start, sums_turn}
use Rattle.map_rows.proofs.run_low_sums.Goals as goal

pub loop-c-init : goal.loop-c-init
loop-c-init c = (sums_start _ _ _ _ c.requires.0 refl, sums_start _ _ _ _ c.requires.1 refl)

pub loop-c-preserved : goal.loop-c-preserved
loop-c-preserved c =
    let h = c.loop-c-test.true in
    let inv = c.loop-c.invariant in
    (sums_turn inv.0 _ h refl c.run_sum-x.ensures, sums_turn inv.1 _ h refl c.run_sum-y.ensures)

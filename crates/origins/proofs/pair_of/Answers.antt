-- `origins::pair_of` meets its contract.
-- Assumes nothing.
use mathlib.Core.Path.{refl}
use Rattle.origins.proofs.Finding.{pair_first, pair_next}
use Rattle.origins.proofs.pair_of.Goals as goal

pub loop-lower-init : goal.loop-lower-init
loop-lower-init c = pair_first c.requires refl

pub loop-lower-preserved : goal.loop-lower-preserved
loop-lower-preserved c = pair_next c.loop-lower.invariant c.if-left-after.false refl

-- `share_places::place_inputs` meets its contract.
-- Assumes nothing.
use native.Mathlib.Omega.{arith}
use Rattle.share_places.proofs.Placing.{inputs_start, inputs_turn}
use Rattle.share_places.proofs.place_inputs.Goals as goal

pub loop-i-init : goal.loop-i-init
loop-i-init c = inputs_start

pub loop-i-preserved : goal.loop-i-preserved
loop-i-preserved c =
    inputs_turn c.loop-i.invariant c.requires.0 (omega (arith, c.requires.2, c.loop-i.invariant.noted.room)) c.put_places.ensures

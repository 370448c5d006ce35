-- The loop's invariant in `map_inputs::flip_shares`: the shares of the inputs from i on are left to flip.
-- Assumes nothing.
use Rattle.map_inputs.proofs.Flipping.{FlippingEach}
use Rattle.map_inputs.proofs.flip_shares.Given as goal

abbrev pub invariant-loop-i : goal.invariant-loop-i
invariant-loop-i l = FlippingEach l.shares l.k l.first l.second l.initial.run l.i l.run

-- The loop's invariant in `share_places::place_inputs`: the inputs before number i are noted, and the next one begins at wire n·i.
-- Assumes nothing.
use Rattle.share_places.proofs.Placing.{Inputs}
use Rattle.share_places.proofs.place_inputs.Given as goal

abbrev pub invariant-loop-i : goal.invariant-loop-i
invariant-loop-i l = Inputs l.n l.initial.places l.places l.i l.w

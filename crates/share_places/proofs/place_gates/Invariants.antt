-- The loop's invariant in `share_places::place_gates`: the gates before number g are noted, and gate g begins at wire w.
-- Assumes nothing.
use Rattle.share_places.proofs.Placing.{Placing}
use Rattle.tables.specs.Tables.{table_of}
use Rattle.share_places.proofs.place_gates.Given as goal

abbrev pub invariant-loop-g : goal.invariant-loop-g
invariant-loop-g l = Placing (table_of l.planned.table.now) l.n l.initial.places l.places l.g l.w

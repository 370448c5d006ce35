-- The loop's invariant in `sizes_line::largest_order`: the orders are tried from 15 down.
-- Assumes nothing.
use Rattle.sizes_line.proofs.Largest.{Trying}
use Rattle.sizes_line.proofs.largest_order.Given as goal

abbrev pub invariant-loop-order : goal.invariant-loop-order
invariant-loop-order l = Trying l.tally l.order

-- `sizes_line::tell_table` meets its contract: the figures of the tally.
-- Assumes nothing.
use Rattle.sizes_line.proofs.Line.{told_six}
use Rattle.sizes_line.proofs.tell_table.Goals as goal

pub returns : goal.returns
returns c = let T = c.in_ok-tally.ensures.1 in told_six T (c.six_figures.ensures _ T.tally)

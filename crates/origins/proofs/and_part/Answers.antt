-- `origins::and_part` meets its contract: a wire before the rows is a pair's.
-- Assumes nothing.
use Rattle.origins.proofs.Origins.{pair_says}
use Rattle.origins.proofs.and_part.Goals as goal

pub returns-then-d-crossed : goal.returns-then-d-crossed
returns-then-d-crossed c = pair_says _ _ _ c.pair_count-crossed.ensures c.if-d-crossed.true c.pair_of-p.ensures

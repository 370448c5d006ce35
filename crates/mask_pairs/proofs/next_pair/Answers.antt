-- `mask_pairs::next_pair` meets its contract: the next upper share, or the first pair of the next lower share.
-- Assumes nothing.
use Rattle.mask_pairs.proofs.PairNumbers.{pair_next, pair_turn}
use Rattle.mask_pairs.proofs.next_pair.Goals as goal

pub returns-then-p-n : goal.returns-then-p-n
returns-then-p-n c = λ no P more. pair_next P c.if-p-n.true

pub returns : goal.returns
returns c = λ no P more. pair_turn P c.if-p-n.false more

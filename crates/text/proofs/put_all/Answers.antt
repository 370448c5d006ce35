-- `text::put_all` meets its contract: nothing, or all of the bytes.
-- Assumes nothing.
use Rattle.text.proofs.Writing.{all_short, all_put}
use Rattle.text.proofs.put_all.Goals as goal

pub returns-then-out-src : goal.returns-then-out-src
returns-then-out-src c = all_short _ _ c.if-out-src.true

pub returns : goal.returns
returns c = all_put c.if-out-src.false c.put_bytes.ensures

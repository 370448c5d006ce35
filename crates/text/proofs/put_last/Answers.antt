-- `text::put_last` meets its contract: the number, then the end of the line.
-- Assumes nothing.
use mathlib.Core.List.{[], ◌∷◌}
use Rattle.text.proofs.Writing.{puts_then}
use Rattle.text.proofs.put_last.Goals as goal

pub returns : goal.returns
returns c = puts_then (10 ∷ []) c.requires
    c.put_number-next.ensures c.put_bytes.ensures

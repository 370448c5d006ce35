-- `text::put_two` meets its contract: the first number, then the second.
-- Assumes nothing.
use mathlib.Core.List.{[], ◌∷◌, ◌++◌}
use Rattle.text.specs.Text.{decimal}
use Rattle.text.proofs.Writing.{puts_then}
use Rattle.text.proofs.put_two.Goals as goal

pub returns : goal.returns
returns c =
    let a = c.args in
    puts_then ((a.second.now ++ decimal a.y) ++ (10 ∷ [])) c.requires
    c.put_number-next.ensures c.put_last.ensures

-- `listing::list_table` meets its contract: the line of the refusal, nothing, or the lines of the table.
-- Assumes nothing.
use native.Mathlib.Omega.{arith}
use Rattle.text.proofs.Writing.{all_short, all_put}
use Rattle.listing.proofs.TableText.{list_refused, list_lines}
use Rattle.listing.proofs.list_table.Goals as goal

pub returns-in-Err : goal.returns-in-Err
returns-in-Err c = list_refused _ c.in-Err.found c.in-Err.ensures c.list_refusal.ensures

pub returns-then-out-lines_long : goal.returns-then-out-lines_long
returns-then-out-lines_long c = list_lines _ c.in_default.ensures (all_short _ _ (omega arith))

pub returns : goal.returns
returns c = list_lines _ c.in_default.ensures (all_put (omega arith) c.put_lines.ensures)

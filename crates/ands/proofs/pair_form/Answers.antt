-- `ands::pair_form` meets its contract: by each AND's own law.
-- Assumes nothing.
use Rattle.ands.proofs.Forms.{isw_form_lem, dom_form_lem}
use Rattle.ands.proofs.pair_form.Goals as goal

pub returns-in-Isw : goal.returns-in-Isw
returns-in-Isw c = rw c.in-Isw.is isw_form_lem

pub returns-in-Dom : goal.returns-in-Dom
returns-in-Dom c = rw c.in-Dom.is dom_form_lem

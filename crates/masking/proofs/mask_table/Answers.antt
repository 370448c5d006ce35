-- `masking::mask_table` meets its contract: the masked table of the plan is written.
-- Assumes nothing.
use Rattle.masking.proofs.Masked.{mask_done}
use Rattle.masking.proofs.mask_table.Goals as goal

pub returns : goal.returns
returns c =
    let a = c.args in
    let planned = c.in_ok-planned.planned in
    let says = c.in_ok-planned.ensures a.and in
    rw c.plan_bytes-bytes.ensures
    (mask_done a.and a.table.now a.order planned.table.now planned.plan planned.ready says.1.0 says.1.1 says.0 a.out.now
    (rw c.plan_bytes-bytes.ensures at c.if-out-bytes.false) c.mask_into.ensures)

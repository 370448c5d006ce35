-- `origins::wire_marks` meets its contract: the plan's refusal, 13, or the share numbers.
-- Assumes nothing.
use Rattle.origins.proofs.Carrying.{marks_outside, marks_inside}
use Rattle.origins.proofs.wire_marks.Goals as goal

pub returns-then-planned-w : goal.returns-then-planned-w
returns-then-planned-w c =
    let P = c.in_ok-planned in (marks_outside c.args.and _ _ P.planned.ready (P.ensures c.args.and).1 c.if-planned-w.true, tt)

pub returns : goal.returns
returns c =
    let P = c.in_ok-planned in
    marks_inside c.args.and _ _ P.planned.ready (P.ensures c.args.and).1 c.if-planned-w.false c.marks_at.ensures

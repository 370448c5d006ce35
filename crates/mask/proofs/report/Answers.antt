-- 64 bytes hold the line of a refusal.
use Rattle.std.proofs.Common.{arith, sym, length-take-le}
use Rattle.text.proofs.Writing.{refusal_long}
use Rattle.mask.proofs.report.Goals as goal

pub slice_bounds-write_all-end : goal.slice_bounds-write_all-end
slice_bounds-write_all-end c =
    sym (length-take-le _ _ (omega (arith, c.put_refusal-long.ensures.next, refusal_long c.from.result c.place.result)))

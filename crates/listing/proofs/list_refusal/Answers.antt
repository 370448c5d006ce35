-- `listing::list_refusal` meets its contract: 64 bytes hold the line.
-- Assumes nothing.
use mathlib.Core.Path.{sym, ◌∙◌}
use native.Mathlib.Omega.{arith}
use lib.Seq.{length-take-le}
use Rattle.text.proofs.Writing.{put_elsewhere, refusal_long}
use Rattle.listing.proofs.list_refusal.Goals as goal

pub put_refusal-long-requires : goal.put_refusal-long-requires
put_refusal-long-requires c = omega (arith, refusal_long c.from.result c.place.result)

pub slice_bounds-line-end : goal.slice_bounds-line-end
slice_bounds-line-end c = omega (arith, c.put_refusal-long.ensures.next, refusal_long c.from.result c.place.result)

pub slice_bounds-put_all-end : goal.slice_bounds-put_all-end
slice_bounds-put_all-end c =
    sym (length-take-le _ _ (omega (arith, c.put_refusal-long.ensures.next, refusal_long c.from.result c.place.result)))

pub returns : goal.returns
returns c =
    rw (c.from.ensures ∙ c.number.ensures, c.place.ensures) at (put_elsewhere c.put_refusal-long.ensures c.put_all.ensures)

-- `sizes_line::largest_order` meets its contract.
-- Assumes nothing.
use mathlib.Core.Path.{sym, ◌∙◌}
use Rattle.sizes_line.proofs.Largest.{trying_found, trying_next, trying_end}
use Rattle.sizes_line.proofs.largest_order.Goals as goal

pub returns-then-not-too_large : goal.returns-then-not-too_large
returns-then-not-too_large c =
    trying_found c.loop-order.invariant c.loop-order-test.true c.masked_sizes-masked.ensures
    (sym c.too_large.ensures ∙ c.if-not-too_large.true)

pub loop-order-preserved : goal.loop-order-preserved
loop-order-preserved c =
    trying_next c.loop-order.invariant c.loop-order-test.true c.masked_sizes-masked.ensures
    (sym c.too_large.ensures ∙ c.if-not-too_large.false)

pub returns : goal.returns
returns c = trying_end c.loop-order.invariant c.loop-order-test.false

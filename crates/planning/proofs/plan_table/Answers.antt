-- `planning::plan_table` meets its contract: one of 1 to 7, or 8 or the plan by the table's masked sizes.
-- Assumes nothing.
use mathlib.Core.Path.{sym, ◌∙◌}
use Rattle.planning.proofs.Planning.{eight_refused, planned_ready, plan_fits}
use Rattle.planning.proofs.plan_table.Goals as goal

pub returns-then-too_large : goal.returns-then-too_large
returns-then-too_large c = eight_refused c.in_ok-tally.ensures.1 c.masked_sizes-masked.ensures
    (sym c.too_large.ensures ∙ c.if-too_large.true)

pub invariant_of-result : goal.invariant_of-result
invariant_of-result c =
    let ready = planned_ready c.in_ok-tally.ensures.1 c.masked_sizes-masked.ensures
    (sym c.too_large.ensures ∙ c.if-too_large.false) in
    record { ready = ready; fits = plan_fits ready }

-- `forecasting::forecast_sizes` meets its contract: the plan's refusal, or its figures.
-- Assumes nothing.
use Rattle.std.proofs.lemmas.Result.{err_from_is_err_and}
use Rattle.construction.specs.declared.And.TheVariants.{Isw}
use Rattle.forecasting.proofs.Forecast.{forecast_refused, forecast_ready}
use Rattle.forecasting.proofs.forecast_sizes.Goals as goal

pub returns-in_err-planned : goal.returns-in_err-planned
returns-in_err-planned c =
    let e = err_from_is_err_and c.from_residual.result c.from_residual.ensures.1 in
    rw (e.1, e.2) (forecast_refused _ _ _ (c.in_err-planned.ensures Isw))

pub returns : goal.returns
returns c = forecast_ready c.in_ok-planned.planned.ready (c.in_ok-planned.ensures Isw).1 c.plan_bytes.ensures

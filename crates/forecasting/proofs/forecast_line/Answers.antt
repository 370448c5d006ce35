-- `forecasting::forecast_line` meets its contract: 64 bytes hold the line.
-- Assumes nothing.
use mathlib.Core.Path.{sym, ap}
use native.Mathlib.Omega.{arith}
use lib.ListN.{length}
use lib.Seq.{length-take-le}
use Rattle.text.proofs.Writing.{puts_as, put_elsewhere}
use Rattle.forecasting.proofs.Line.{line_fits}
use Rattle.forecasting.proofs.forecast_line.Goals as goal

pub slice_bounds-put_all-end : goal.slice_bounds-put_all-end
slice_bounds-put_all-end c =
    let long = line_fits c.args.input.now in
    sym (length-take-le _ _ (omega (arith, c.put_line-long.ensures.next, ap length c.input_forecast.ensures, long)))

pub returns : goal.returns
returns c =
    record {
      fits = line_fits c.args.input.now;
      line = put_elsewhere (puts_as c.input_forecast.ensures c.put_line-long.ensures) c.put_all.ensures;
    }

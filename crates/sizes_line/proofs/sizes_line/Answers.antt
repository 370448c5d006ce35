-- `sizes_line::sizes_line` meets its contract: 66 bytes hold the line.
-- Assumes nothing.
use mathlib.Core.Path.{sym, ap}
use native.Mathlib.Omega.{arith}
use lib.ListN.{length}
use lib.Seq.{length-take-le}
use Rattle.text.proofs.Writing.{puts_as, put_elsewhere}
use Rattle.sizes_line.proofs.Line.{line_fits}
use Rattle.sizes_line.proofs.sizes_line.Goals as goal

pub put_told-long-requires : goal.put_told-long-requires
put_told-long-requires c =
    let s = c.args.input.now in
    omega (arith, ap length c.tell_input.ensures, line_fits s)

pub slice_bounds-line-end : goal.slice_bounds-line-end
slice_bounds-line-end c =
    let s = c.args.input.now in
    omega (arith, c.put_told-long.ensures.next, ap length c.tell_input.ensures, line_fits s)

pub slice_bounds-put_all-end : goal.slice_bounds-put_all-end
slice_bounds-put_all-end c =
    let s = c.args.input.now in
    sym (length-take-le _ _ (omega (arith, c.put_told-long.ensures.next, ap length c.tell_input.ensures, line_fits s)))

pub returns : goal.returns
returns c =
    let s = c.args.input.now in
    record {
      fits = line_fits s;
      line = put_elsewhere
          (puts_as c.tell_input.ensures c.put_told-long.ensures)
          c.put_all.ensures;
    }

-- `map_rows::run_sum` meets its contract: an XOR, whose value is read where it was set.
-- Assumes nothing.
use mathlib.Core.Path.{sym}
use Prim.Native.Nat.{◌+◌}
use native.Mathlib.Omega.{arith}
use lib.Seq.{get_or-set_same}
use Rattle.map_rows.proofs.InSums.{sum_ran}
use Rattle.map_rows.proofs.run_sum.Goals as goal

pub returns : goal.returns
returns c =
    let a = c.args in (
      sum_ran a.last a.left a.right a.run.now c.requires.0 c.requires.1 c.requires.2,
      sym (get_or-set_same a.run.now (a.last + 1) _ 0 (omega (arith, c.requires.0.room))),
    )

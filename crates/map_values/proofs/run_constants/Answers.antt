-- `map_values::run_constants` meets its contract.
-- Assumes nothing.
use mathlib.Core.Path.{refl}
use Rattle.std.proofs.lemmas.Bool.Decides.{nat_tests}
use native.Mathlib.Omega.{arith}
use Rattle.tables.proofs.Ran.{runs_less}
use Prim.Native.Nat.{◌+◌}
use Rattle.map_values.proofs.InPieces.{pieces_start, pieces_turn, constant_none, constant_ran}
use Rattle.map_values.proofs.run_constants.Goals as goal

pub loop-s-init : goal.loop-s-init
loop-s-init c = pieces_start 1 c.args.w c.args.n _ _ (omega arith) (runs_less _ c.requires.0 (omega arith))

pub loop-s-preserved : goal.loop-s-preserved
loop-s-preserved c =
    let v = c.args.value in
    let s = c.loop-s.s in
    let ran = constant_ran v s (c.args.w + s) c.loop-s.run c.requires.1 (omega arith) (grind (arith, nat_tests)) in
    pieces_turn c.loop-s.invariant _ c.loop-s-test.true refl (constant_none v s) refl ran (omega arith)

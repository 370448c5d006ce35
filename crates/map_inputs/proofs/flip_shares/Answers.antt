-- `map_inputs::flip_shares` meets its contract.
-- Assumes nothing.
use mathlib.Core.Path.{refl}
use native.Mathlib.Omega.{arith}
use Rattle.map_inputs.proofs.Flipping.{each_share, each_turn, each_end}
use Rattle.map_inputs.proofs.flip_shares.Goals as goal

pub loop-i-preserved : goal.loop-i-preserved
loop-i-preserved c =
    let R = c.requires.1 in
    let F = c.loop-i.invariant in
    let h = c.loop-i-test.true in
    let x = c.secret_bit-x.ensures in
    let y = c.secret_bit-y.ensures in
    each_turn R F c.requires.0 h refl x y (each_share R F c.requires.0 h refl x y)

pub returns : goal.returns
returns c = each_end c.requires.1 c.loop-i.invariant (omega arith)

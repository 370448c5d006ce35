-- `map_inputs::flip_inputs` meets its contract.
-- Assumes nothing.
use mathlib.Core.Path.{refl}
use native.Mathlib.Omega.{arith}
use Rattle.map_inputs.proofs.Flipping.{each_turn, each_end, each_none}
use Rattle.map_inputs.proofs.flip_inputs.Goals as goal

pub returns-then-k-bits : goal.returns-then-k-bits
returns-then-k-bits c = each_none c.requires.1 c.if-k-bits.true

pub loop-i-preserved : goal.loop-i-preserved
loop-i-preserved c =
    each_turn c.requires.1 c.loop-i.invariant c.if-k-bits.false c.loop-i-test.true refl c.secret_bit-x.ensures c.secret_bit-y.ensures
    c.flip_bit.ensures

pub returns : goal.returns
returns c = each_end c.requires.1 c.loop-i.invariant (omega arith)

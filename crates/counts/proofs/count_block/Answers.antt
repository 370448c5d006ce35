-- `counts::count_block` meets its contract.
-- Assumes nothing.
use mathlib.Core.Path.{◌≡◌}
use native.Mathlib.Omega.{arith}
use Rattle.counts.proofs.Counting.{gate_inside, block_start, block_turn, block_end, block_small}
use Rattle.counts.proofs.count_block.Goals as goal

pub loop-g-init : goal.loop-g-init
loop-g-init c =
    let block = block_start c.requires.3 in
    let few = block_small c.args.gates.now.all block (omega arith) in
    (block, few.0, few.1, few.2)

pub loop-g-preserved : goal.loop-g-preserved
loop-g-preserved c =
    let all = c.args.gates.now.all in
    let inside = gate_inside all c.loop-g-test.true c.requires.1 in
    let block =
    block_turn c.loop-g.invariant.0 inside c.at-byte.ensures.kind
    c.is_kind-first.ensures c.is_kind-second.ensures c.is_kind-third.ensures in
    let few = block_small all block (omega arith) in
    (block, few.0, few.1, few.2)

pub returns : goal.returns
returns c =
    let last : c.loop-g.g ≡ c.args.to = omega arith in block_end (rw last at c.loop-g.invariant.0)

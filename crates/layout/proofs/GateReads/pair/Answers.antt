-- `layout::GateReads::pair` meets its contract: the upper share is not the first, and its wires are low.
-- Assumes nothing.
use native.Mathlib.Omega.{arith}
use Rattle.layout.proofs.ShareWires.{share_low}
use Rattle.layout.proofs.GateReads.pair.Goals as goal

pub later_wire-requires : goal.later_wire-requires
later_wire-requires c = (omega arith, share_low _ _ _ c.args.self.low.right c.requires.1)

pub later_wire-requires-2 : goal.later_wire-requires-2
later_wire-requires-2 c = (omega arith, share_low _ _ _ c.args.self.low.left c.requires.1)

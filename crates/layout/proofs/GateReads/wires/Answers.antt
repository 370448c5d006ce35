-- `layout::GateReads::wires` meets its contract: the wires of all shares are low.
-- Assumes nothing.
use Rattle.layout.proofs.ShareWires.{share_low}
use Rattle.layout.proofs.GateReads.wires.Goals as goal

pub share_wire-requires : goal.share_wire-requires
share_wire-requires c = share_low _ _ _ c.args.self.low.left c.requires

pub share_wire-requires-2 : goal.share_wire-requires-2
share_wire-requires-2 c = share_low _ _ _ c.args.self.low.right c.requires

-- `mask_kinds::write_same_kinds` meets its contract.
-- Assumes nothing.
use Rattle.mask_kinds.proofs.GateKinds.{filled}
use Rattle.mask_kinds.proofs.write_same_kinds.Goals as goal

pub returns : goal.returns
returns c = filled c.args.at c.args.m _ _ c.requires (c.fill.ensures.after (λ _ e. e))

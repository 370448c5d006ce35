-- `mask_kinds::write_pair_kinds` meets its contract.
-- Assumes nothing.
use mathlib.Core.Path.{refl}
use native.Mathlib.Omega.{arith}
use Rattle.layout.proofs.Bytes.{put_pieces_start, put_pieces_turn, put_pieces_end}
use Rattle.mask_kinds.specs.Kinds.{pair_kinds}
use Rattle.mask_kinds.proofs.GateKinds.{part_is}
use Rattle.mask_kinds.proofs.write_pair_kinds.Goals as goal

pub loop-c-init : goal.loop-c-init
loop-c-init c = put_pieces_start 5 c.args.at _ _ _ _ (λ _ _. refl) (omega arith) c.requires

pub loop-c-preserved : goal.loop-c-preserved
loop-c-preserved c =
    put_pieces_turn c.loop-c.invariant _ _ (omega arith) refl refl
    (rw c.copy_from_slice.ensures.after (part_is _ _ pair_kinds c.loop-c.kinds refl)) (omega arith)

pub returns : goal.returns
returns c = put_pieces_end c.loop-c.invariant (omega arith)

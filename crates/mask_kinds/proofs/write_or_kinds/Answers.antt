-- `mask_kinds::write_or_kinds` meets its contract: two NOTs, the AND, a NOT.
-- Assumes nothing.
use mathlib.Core.Path.{◌≡◌, refl}
use mathlib.Core.List.{[], ◌∷◌}
use Prim.Native.Nat.{◌+◌}
use native.Mathlib.Omega.{arith}
use lib.ListN.{length, set, length-set}
use Rattle.tables.specs.Tables.{OR}
use Rattle.tables.specs.Inside.{put_at}
use Rattle.mask_kinds.specs.Kinds.{new_kinds}
use Rattle.mask_kinds.proofs.GateKinds.{xors_after, nots_written, or_written}
use Rattle.mask_kinds.proofs.write_or_kinds.Goals as goal

pub write_and_kinds-requires : goal.write_and_kinds-requires
write_and_kinds-requires c =
    let b = c.args.kinds.now in
    let at = c.args.at in (
      c.requires.1,
      omega (arith, c.requires.2, length-set b at 0, length-set (set b at 0) (at + 1) 0),
      xors_after at (0 ∷ 0 ∷ []) b c.requires.3 (omega (arith, c.requires.2)) (nots_written at b (omega (arith, c.requires.2))) refl,
    )

pub returns : goal.returns
returns c =
    let written : (length c.write_and_kinds.new.kinds
    ≡ length c.args.kinds.now)
    × (set c.write_and_kinds.new.kinds
    (c.args.at + 2 + c.and_cost.result)
    0
    ≡ put_at c.args.at (new_kinds OR c.args.n)
    c.args.kinds.now) = (or_written c.args.at c.args.n c.args.kinds.now c.requires.0 c.requires.2
    c.write_and_kinds.ensures
    (omega (arith, c.and_cost.ensures))) in
    written.1

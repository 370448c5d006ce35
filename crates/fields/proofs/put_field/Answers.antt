-- `fields::put_field` meets its contract: the two bytes take the place of two others.
-- Assumes nothing.
use mathlib.Core.Path.{◌≡◌, refl}
use Prim.Native.Nat.{◌+◌, ◌-◌, ◌/◌, ◌%◌}
use native.Mathlib.Omega.{arith}
use Rattle.std.proofs.Common.{drop-drop}
use Rattle.tables.specs.Inside.{put_at}
use Rattle.fields.proofs.put_field.Goals as goal

pub returns : goal.returns
unfolding put_at
returns c =
    let at = c.args.at in
    let n : at + 2 - at ≡ 2 = omega arith in
    let high : c.args.v / 256 % 256 ≡ c.args.v / 256 = omega (arith, c.requires.1) in
    rw (c.copy_from_slice.ensures.after, c.to_le_bytes.ensures, n, drop-drop 2 at c.args.out.now, high) refl

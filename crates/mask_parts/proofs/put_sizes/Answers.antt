-- `mask_parts::put_sizes` meets its contract: three fields, one after the other.
-- Assumes nothing.
use mathlib.Core.Path.{refl}
use mathlib.Core.List.{◌++◌}
use native.Mathlib.Omega.{arith}
use Rattle.tables.specs.Tables.{two}
use Rattle.tables.proofs.Put.{put_then}
use Rattle.mask_parts.proofs.put_sizes.Goals as goal

pub returns : goal.returns
returns c =
    let a = c.args in
    let two_fields = put_then 0 (two a.inputs) (two a.gates) a.out.now (omega (arith, c.requires.0)) c.put_field.ensures refl
    c.put_field-2.ensures in
    put_then 0 (two a.inputs ++ two a.gates) (two a.outputs) a.out.now (omega (arith, c.requires.0)) two_fields refl
    c.put_field-3.ensures

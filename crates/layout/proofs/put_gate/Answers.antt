-- `layout::put_gate` meets its contract: one field after the other.
-- Assumes nothing.
use mathlib.Core.Path.{refl}
use native.Mathlib.Omega.{arith}
use Rattle.tables.specs.Tables.{two}
use Rattle.tables.proofs.Put.{put_then}
use Rattle.layout.proofs.put_gate.Goals as goal

pub returns : goal.returns
returns c =
    put_then c.args.at (two c.args.left) (two c.args.right) c.args.ops.now
    (omega (arith, c.requires.0))
    c.put_field.ensures
    refl
    c.put_field-2.ensures

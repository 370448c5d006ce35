-- `fields::put_bytes` meets its contract.
-- Assumes nothing.
use native.Mathlib.Nat.{add-zero, add-suc}
use native.Mathlib.Numerals.{add-one}
use lib.ListN.{drop_of_length-le}
use lib.Seq.{drop-cons}
use Rattle.tables.proofs.Put.{writing_start, writing_inside, writing_byte, writing_end}
use Rattle.fields.proofs.put_bytes.Goals as goal

pub loop-i-init : goal.loop-i-init
loop-i-init c = rw add-zero (writing_start _ _ _ c.requires)

pub bounds-out-at : goal.bounds-out-at
bounds-out-at c = writing_inside c.loop-i.invariant _ _ (drop-cons _ _ 0 c.loop-i-test.true)

pub loop-i-preserved : goal.loop-i-preserved
loop-i-preserved c = rw (add-one, add-suc) (writing_byte c.loop-i.invariant _ _ (drop-cons _ _ 0 c.loop-i-test.true))

pub returns : goal.returns
returns c = writing_end c.loop-i.invariant (drop_of_length-le _ c.loop-i-test.false)

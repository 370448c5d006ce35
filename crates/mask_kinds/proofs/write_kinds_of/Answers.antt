-- `mask_kinds::write_kinds_of` meets its contract: an AND's or an OR's kinds, one kind in every share, or one byte before the kinds
-- that stand already.
-- Assumes nothing.
use mathlib.Core.Logic.{inl, inr}
use mathlib.Core.Path.{sym}
use native.Mathlib.Omega.{arith}
use Rattle.tables.proofs.Put.{put_set, put_nil}
use Rattle.mask_kinds.proofs.GateKinds.{xor_head}
use Rattle.mask_kinds.proofs.write_kinds_of.Goals as goal

pub returns-in-Not : goal.returns-in-Not
returns-in-Not c =
    let p = c.requires in
    elim c.in-Not.is [ inl e ↦ rw e (put_set _ 0 _ (omega (arith, rw e at p.2))) | inr e ↦ rw e (xor_head _ _ _ p.0 (rw e at p.2) p.3) ]

pub returns-in-Random : goal.returns-in-Random
returns-in-Random c = rw c.in-Random.is (sym (put_nil _ _))

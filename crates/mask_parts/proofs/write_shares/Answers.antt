-- `mask_parts::write_shares` meets its contract.
-- Assumes nothing.
use mathlib.Core.Path.{refl, ap}
use mathlib.Core.List.{List}
use Prim.Native.Nat.{ℕ}
use native.Mathlib.Omega.{arith}
use borrow.Author.Rules.{rules}
use Rattle.tables.specs.Tables.{two}
use Rattle.layout.proofs.ShareWires.{share_low}
use Rattle.layout.proofs.Bytes.{put_pieces_start, put_pieces_turn, put_pieces_end}
use Rattle.mask_parts.proofs.Stretches.{shares_pieces}
use Rattle.mask_parts.proofs.write_shares.Goals as goal

pub loop-i-init : goal.loop-i-init
loop-i-init c = put_pieces_start 2 _ _ _ _ _ (λ _ _. refl) (omega arith) c.requires.3

pub overflow_add-at : goal.overflow_add-at
overflow_add-at c = omega (arith, c.requires.3, c.loop-i-test.true, c.loop-i.invariant.long)

pub share_wire-requires : goal.share_wire-requires
share_wire-requires c =
    let low = c.requires.2 in
    let inside = c.loop-i-test.true in search (share_low c.args.n, rules)

pub put_field-requires : goal.put_field-requires
put_field-requires c = (
  omega (
    arith,
    c.requires.3,
    c.loop-i-test.true,
    c.loop-i.invariant.long,
  ),
  c.share_wire.ensures.0,
)

pub loop-i-preserved : goal.loop-i-preserved
loop-i-preserved c =
    let h = c.loop-i-test.true in
    put_pieces_turn c.loop-i.invariant _ _ h refl (ap {A = ℕ} {B = List ℕ} two (c.share_wire.ensures.1 c.args.n (omega (arith, h))))
    c.put_field.ensures (omega arith)

pub shape_of-outs : goal.shape_of-outs
shape_of-outs c = c.loop-i.invariant.long

pub returns : goal.returns
returns c = rw (shares_pieces c.args.n c.args.a c.requires.0)
    (put_pieces_end c.loop-i.invariant c.loop-i-test.false)

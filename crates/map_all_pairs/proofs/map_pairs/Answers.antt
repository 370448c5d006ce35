-- `map_all_pairs::map_pairs` meets its contract.
-- Assumes nothing.
use mathlib.Core.Path.{refl}
use Prim.Native.Nat.{suc, ◌-◌}
use native.Mathlib.Nat.{sub-zero}
use native.Mathlib.Omega.{arith}
use Rattle.construction.specs.Shares.{pair_of, pairs}
use Rattle.construction.specs.Gadgets.{gadget_of}
use Rattle.construction.proofs.Sum.{up_length}
use Rattle.construction.proofs.Rows.{pairs_length}
use Rattle.construction.proofs.Lawful.{lawful}
use Rattle.layout.specs.Layout.{share_wires}
use Rattle.map_values.proofs.Before.{before_later}
use Rattle.secrecy.proofs.Both.{both_less}
use Rattle.map_all_pairs.specs.Pairing.{share_pairs}
use Rattle.map_all_pairs.proofs.Pairs.{going_start, going_ready, going_more, going_end}
use Rattle.map_all_pairs.proofs.Pairs.{pairs_next, pairs_none, share_inside, pairs_count}
use Rattle.map_all_pairs.proofs.map_pairs.Goals as goal

pub loop-i-init : goal.loop-i-init
loop-i-init c =
    let s = c.args in
    rw sub-zero (
      going_start (gadget_of s.and) s.k (share_wires s.n s.operands.left) (share_wires s.n s.operands.right) (pairs s.n)
          (rw (pairs_length s.n 0) c.requires.2),
      omega arith,
      refl,
    )

pub map_share-requires : goal.map_share-requires
map_share-requires c =
    let n = c.args.n in
    let i = c.loop-i.i in
    let inv = c.loop-i.invariant in
    let count = pairs_count n i c.loop-i-test.true in
    let long = pairs_length (n - i) i in (
      c.loop-i-test.true,
      before_later _ c.requires.0 inv.1 (omega (arith, inv.2, c.requires.1)),
      both_less _ _ (going_ready inv.0) (omega (arith, long, count)) (omega (arith, long, count)),
    )

pub loop-i-preserved : goal.loop-i-preserved
loop-i-preserved c =
    let n = c.args.n in
    let i = c.loop-i.i in
    let h = c.loop-i-test.true in
    let inv = c.loop-i.invariant in
    let count = pairs_count n i h in
    let long = up_length (n - suc i) (suc i) (λ j. pair_of i j) in (
      going_more inv.0 (lawful c.args.and) n (share_pairs n i) _ (pairs_next n i h) (share_inside n i) c.requires.0.left c.requires.0.right
          c.map_share.ensures
          (omega (arith, long))
          (omega (arith, long)),
      omega (arith, inv.1),
      omega (arith, inv.2, count),
    )

pub returns : goal.returns
returns c = going_end c.loop-i.invariant.0 (pairs_none _ _ (omega arith))

-- `map_all_pairs::map_share` meets its contract.
-- Assumes nothing.
use mathlib.Core.List.{[], ◌∷◌}
use Prim.Native.Nat.{suc, ◌+◌, ◌-◌, ◌*◌, ◌≤◌, ◌<◌}
use native.Mathlib.Nat.{add-zero, sub-zero}
use native.Mathlib.Omega.{arith}
use Rattle.tables.specs.Packing.{unpacked}
use Rattle.construction.specs.Shares.{pair_of}
use Rattle.construction.specs.Gadgets.{gadget_of}
use Rattle.construction.proofs.Sum.{up_length}
use Rattle.construction.proofs.Lawful.{lawful}
use Rattle.layout.specs.Layout.{share_wires}
use Rattle.map_values.proofs.Before.{left_low, right_low, left_before, right_before}
use Rattle.secrecy.proofs.Both.{both_less}
use Rattle.map_all_pairs.specs.Pairing.{share_pairs}
use Rattle.map_all_pairs.proofs.Pairs.{going_start, going_ready, going_more}
use Rattle.map_all_pairs.proofs.Pairs.{going_end, one_pair, pair_inside, share_next, share_none}
use Rattle.map_all_pairs.proofs.map_share.Goals as goal

pub share_wire-ai-requires : goal.share_wire-ai-requires
share_wire-ai-requires c = left_low c.requires.1 c.requires.0

pub share_wire-bi-requires : goal.share_wire-bi-requires
share_wire-bi-requires c = right_low c.requires.1 c.requires.0

pub loop-c-init : goal.loop-c-init
loop-c-init c =
    let s = c.args in
    let long = up_length (s.n - suc s.i) (suc s.i) (λ j. pair_of s.i j) in
    rw (add-zero, add-zero, add-zero, sub-zero)
    (going_start (gadget_of s.and) s.k (share_wires s.n s.operands.left) (share_wires s.n s.operands.right) (share_pairs s.n s.i)
    (rw long c.requires.2))

pub later_wire-aj-requires : goal.later_wire-aj-requires
later_wire-aj-requires c = (omega arith, left_low c.requires.1 (omega (arith, c.loop-c-test.true)))

pub later_wire-bj-requires : goal.later_wire-bj-requires
later_wire-bj-requires c = (omega arith, right_low c.requires.1 (omega (arith, c.loop-c-test.true)))

pub map_pair-requires : goal.map_pair-requires
map_pair-requires c =
    let i = c.args.i in
    let n = c.args.n in
    let k = c.loop-c.c in
    let before = c.requires.1 in
    let h = c.requires.0 in
    let below : i + 1 + k < n = omega (arith, c.loop-c-test.true) in
    let long = up_length (n - suc i - k) (suc i + k) (λ j. pair_of i j) in
    let some : 1 ≤ n - suc i - k = omega (arith, below) in
    let ai = left_before before h (c.share_wire-ai.ensures.1 n h) in
    let bi = right_before before h (c.share_wire-bi.ensures.1 n h) in
    let aj = left_before before below (c.later_wire-aj.ensures.1 n below) in
    let bj = right_before before below (c.later_wire-bj.ensures.1 n below) in (
      both_less 5 1 (going_ready c.loop-c.invariant) (omega (arith, long, some)) (omega (arith, long, some)),
      record { cross = (omega (arith, ai), omega (arith, bj)); back = (omega (arith, aj), omega (arith, bi)) },
    )

pub loop-c-preserved : goal.loop-c-preserved
loop-c-preserved c =
    let s = c.args in
    let n = s.n in
    let i = s.i in
    let k = c.loop-c.c in
    let j = i + 1 + k in
    let h = c.requires.0 in
    let before = c.requires.1 in
    let below : j < n = omega (arith, c.loop-c-test.true) in
    let pair = one_pair (gadget_of s.and) s.k i j (s.w + 5 * k) (share_wires n s.operands.left) (share_wires n s.operands.right)
    (unpacked s.tape.now) (s.at + k)
    {p = i + 1} {q = j + 1}
    (c.share_wire-ai.ensures.1 n h)
    (c.later_wire-bj.ensures.1 n below)
    (c.later_wire-aj.ensures.1 n below)
    (c.share_wire-bi.ensures.1 n h)
    (omega arith)
    (omega arith)
    c.map_pair.ensures in
    going_more c.loop-c.invariant (lawful s.and) n (pair_of i j ∷ []) _ (share_next i (n - suc i) k (omega (arith, below)))
    (pair_inside n i j (omega arith) below)
    before.left
    before.right
    pair
    (omega arith)
    (omega arith)

pub returns : goal.returns
returns c = going_end c.loop-c.invariant (share_none c.args.i (c.args.n - suc c.args.i) c.loop-c.c (omega arith))

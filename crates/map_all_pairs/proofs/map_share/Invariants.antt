-- The loop's invariant in `map_all_pairs::map_share`: c pairs have run on, and the others are left.
-- Assumes nothing.
use Prim.Native.Nat.{suc, ◌+◌, ◌-◌, ◌*◌}
use Rattle.tables.specs.Packing.{unpacked}
use Rattle.construction.specs.Shares.{up_from, pair_of}
use Rattle.construction.specs.Gadgets.{gadget_of}
use Rattle.layout.specs.Layout.{share_wires}
use Rattle.map_all_pairs.specs.Pairing.{share_pairs}
use Rattle.map_all_pairs.proofs.Pairs.{PairsGoing}
use Rattle.map_all_pairs.proofs.map_share.Given as goal

abbrev pub invariant-loop-c : goal.invariant-loop-c
invariant-loop-c l =
    PairsGoing (gadget_of l.and) l.k (share_wires l.n l.operands.left) (share_wires l.n l.operands.right) (share_pairs l.n l.i)
    (unpacked l.tape) l.at l.w
    (unpacked l.initial.mapped) l.initial.one l.initial.other
    (up_from (l.n - suc l.i - l.c) (suc l.i + l.c) (λ j. pair_of l.i j))
    (l.at + l.c)
    (l.w + 5 * l.c)
    (unpacked l.mapped)
    l.one
    l.other

-- The loop's invariant in `map_all_pairs::map_pairs`: the pairs from share i on are left.
-- Assumes nothing.
use mathlib.Core.Path.{◌≡◌}
use Prim.Native.Nat.{◌+◌, ◌-◌, ◌*◌, ◌≤◌}
use Rattle.tables.specs.Packing.{unpacked}
use Rattle.construction.specs.Shares.{pairs_from, pairs, tri}
use Rattle.construction.specs.Gadgets.{gadget_of}
use Rattle.layout.specs.Layout.{share_wires}
use Rattle.map_all_pairs.proofs.Pairs.{PairsGoing}
use Rattle.map_all_pairs.proofs.map_pairs.Given as goal

abbrev pub invariant-loop-i : goal.invariant-loop-i
invariant-loop-i l =
    PairsGoing (gadget_of l.and) l.k (share_wires l.n l.operands.left) (share_wires l.n l.operands.right) (pairs l.n)
    (unpacked l.tape) l.at l.w
    (unpacked l.initial.mapped) l.initial.one l.initial.other
    (pairs_from (l.n - l.i) l.i) l.next l.v (unpacked l.mapped) l.one l.other
    × (l.w ≤ l.v)
    × (l.v + 5 * tri (l.n - l.i) ≡ l.w + 5 * tri l.n)

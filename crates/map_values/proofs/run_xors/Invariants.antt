-- The loop's invariant in `map_values::run_xors`: s shares have run on.
-- Assumes nothing.
use Prim.Native.Nat.{◌+◌}
use Rattle.layout.specs.Layout.{share_wires, xor_gates}
use Rattle.map_values.proofs.InPieces.{InPieces}
use Rattle.map_values.proofs.run_xors.Given as goal

abbrev pub invariant-loop-s : goal.invariant-loop-s
invariant-loop-s l =
    InPieces 1 l.w l.n (xor_gates (share_wires l.n l.operands.left) (share_wires l.n l.operands.right)) l.initial.run
    (l.w + l.s) l.s l.run

-- The loop's invariant in `map_inputs::flip_inputs`: the bits of the inputs from i on are left to flip.
-- Assumes nothing.
use Prim.Native.Nat.{◌*◌}
use Rattle.tables.specs.Packing.{unpacked}
use Rattle.map_inputs.proofs.Flipping.{FlippingEach}
use Rattle.map_inputs.proofs.flip_inputs.Given as goal

abbrev pub invariant-loop-i : goal.invariant-loop-i
invariant-loop-i l =
    FlippingEach (2 * l.order) l.k l.first l.second (unpacked l.initial.mapped) l.i (unpacked l.mapped)

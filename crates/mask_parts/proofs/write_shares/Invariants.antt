-- The loop's invariant in `mask_parts::write_shares`: the wires of i shares are written, the others follow them.
-- Assumes nothing.
use Prim.Native.Nat.{◌+◌, ◌*◌}
use Rattle.tables.specs.Tables.{two}
use Rattle.construction.specs.Wires.{share}
use Rattle.layout.specs.Layout.{share_wires}
use Rattle.layout.proofs.Bytes.{PutPieces}
use Rattle.mask_parts.proofs.write_shares.Given as goal

abbrev pub invariant-loop-i : goal.invariant-loop-i
invariant-loop-i l = PutPieces 2 l.at l.n (λ j. two (share (share_wires l.n l.a) j)) l.initial.outs (l.at + 2 * l.i) l.i l.outs

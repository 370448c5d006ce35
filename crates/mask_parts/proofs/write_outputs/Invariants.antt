-- The loop's invariant in `mask_parts::write_outputs`: the wires of o outputs are written, the others follow them.
-- Assumes nothing.
use Prim.Native.Nat.{◌*◌}
use Rattle.tables.specs.Tables.{table_of}
use Rattle.layout.proofs.Bytes.{PutPieces}
use Rattle.mask_parts.proofs.Stretches.{output_piece}
use Rattle.mask_parts.proofs.write_outputs.Given as goal

abbrev pub invariant-loop-o : goal.invariant-loop-o
invariant-loop-o l =
    PutPieces (2 * l.n) 0 l.o-end (output_piece (table_of l.planned.table.now) l.n) l.initial.outs l.at l.o l.outs

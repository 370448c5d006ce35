-- The loop's invariant in `bits::all_bits`: no byte that was read is above all of them together.
-- Assumes nothing.
use Rattle.bits.proofs.Scan.{AtMost}
use Rattle.bits.proofs.all_bits.Given as goal

abbrev pub invariant-loop-bit : goal.invariant-loop-bit
invariant-loop-bit l = AtMost l.bits l.all l.bit-index

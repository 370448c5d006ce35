-- The loop's invariant in `decoding::decode_all`: the sums of the groups before i are written.
-- Assumes nothing.
use Rattle.std.proofs.Common.{◌≡◌, ◌*◌}
use Rattle.tables.specs.Says.{over}
use Rattle.construction.specs.Codes.{decode_from}
use Rattle.decoding.proofs.decode_all.Given as goal

abbrev pub invariant-loop-i : goal.invariant-loop-i
invariant-loop-i l = (l.at ≡ l.n * l.i) × (l.out ≡ over (decode_from l.i l.n l.shares) l.initial.out)

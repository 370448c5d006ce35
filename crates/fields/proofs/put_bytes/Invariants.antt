-- The loop's invariant in `fields::put_bytes`: the bytes from i on are left to write.
-- Assumes nothing.
use Prim.Native.Nat.{◌+◌}
use lib.ListN.{drop}
use Rattle.tables.specs.Inside.{put_at}
use Rattle.tables.proofs.Put.{Writing}
use Rattle.fields.proofs.put_bytes.Given as goal

abbrev pub invariant-loop-i : goal.invariant-loop-i
invariant-loop-i l = Writing (put_at l.at l.src l.initial.out) (l.at + l.i) (drop l.i l.src) l.out

-- The loop's invariant in `encoding::encode_all`: the shares of the secrets before i are written.
-- Assumes nothing.
use Rattle.std.proofs.Common.{◌≡◌, ◌*◌, length, take}
use Rattle.tables.specs.Packing.{tape_of}
use Rattle.tables.specs.Says.{over}
use Rattle.construction.specs.Codes.{encode}
use Rattle.encoding.proofs.encode_all.Given as goal

abbrev pub invariant-loop-i : goal.invariant-loop-i
invariant-loop-i l =
    l.out
    ≡ over (encode l.order (take l.i l.secrets) (tape_of (2 * l.order * length l.secrets) l.tape)) l.initial.out

-- The loop's invariant in `encoding::encode_one`: the tape bits before s are written, and `last` is their XOR with the secret.
-- Assumes nothing.
use Rattle.std.proofs.Common.{◌≡◌, ◌*◌, ◌≤◌, take}
use Rattle.tables.specs.Packing.{unpacked}
use Rattle.tables.specs.Says.{over}
use Rattle.tables.proofs.Lists.{part}
use Rattle.construction.specs.Codes.{xor_all}
use Rattle.encoding.proofs.encode_one.Given as goal

abbrev pub invariant-loop-s : goal.invariant-loop-s
invariant-loop-s l =
    let copied = take l.s (part (2 * l.order) l.from (unpacked l.tape)) in
    (l.out ≡ over copied l.initial.out) × (l.last ≡ xor_all l.secret copied) × (l.last ≤ 1)

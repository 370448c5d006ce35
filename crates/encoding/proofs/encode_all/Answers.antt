-- `encoding::encode_all` meets its contract.
-- Assumes nothing.
use native.Mathlib.Numerals.{add-one}
use native.Mathlib.Omega.{arith}
use Rattle.encoding.proofs.Encoding.{encoding_room, encoding_turn}
use Rattle.encoding.proofs.encode_all.Goals as goal

pub encode_one-requires : goal.encode_one-requires
encode_one-requires c =
    let a = c.args in
    let p = c.requires in
    let l = c.loop-i in
    let room =
    encoding_room a.order a.secrets.now a.tape.now a.out.now l.i c.loop-i-test.true p.1 p.2 (add-one _) l.invariant in
    (room.0, omega (arith, room.1), room.2, p.0, p.3 l.i)

pub loop-i-preserved : goal.loop-i-preserved
loop-i-preserved c =
    let a = c.args in
    let p = c.requires in
    let l = c.loop-i in
    encoding_turn a.order a.secrets.now a.tape.now a.out.now l.i c.loop-i-test.true p.1 p.2 (add-one _) l.invariant
    c.encode_one.ensures

-- `encoding::encode_one` meets its contract.
-- Assumes nothing.
use Rattle.tables.specs.Packing.{unpacked}
use Rattle.encoding.proofs.Encoding.{copying_turn}
use Rattle.encoding.proofs.encode_one.Goals as goal

pub loop-s-preserved : goal.loop-s-preserved
loop-s-preserved c =
    let a = c.args in
    let p = c.requires in
    let l = c.loop-s in
    rw l.invariant.0
    (copying_turn a.order a.from (unpacked a.tape.now) a.out.now p.0 p.2 l.s l.last a.secret c.tape_bit-bit.result
    c.loop-s-test.true l.invariant.2 l.invariant.1 c.tape_bit-bit.ensures)

-- `map_gates::map_gate` meets its contract, kind by kind.
-- Assumes nothing.
use native.Mathlib.Omega.{arith}
use Rattle.tables.specs.Packing.{unpacked}
use Rattle.construction.specs.Gadgets.{gadget_of}
use Rattle.share_places.specs.Located.{operands_at}
use Rattle.map_gates.proofs.ByKind.{constant_gate, not_gate, xor_gate, random_gate, product_is, product_gate}
use Rattle.map_gates.proofs.map_gate.Goals as goal

pub returns-in-Not : goal.returns-in-Not
returns-in-Not c g =
    let s = c.args in
    rw c.in-Not.is
    (not_gate (gadget_of s.and) s.gate.left s.n s.k g s.w (operands_at s.places.now s.gate.left s.gate.right) (unpacked s.tape.now) s.at
    c.run_not.ensures c.run_not-in-Not.ensures)

pub returns-in-Xor : goal.returns-in-Xor
returns-in-Xor c g =
    let s = c.args in
    let one = rw c.operands_at-operands.ensures at c.run_xors.ensures in
    let other = rw c.operands_at-operands.ensures at c.run_xors-in-Xor.ensures in
    rw c.in-Xor.is
    (xor_gate (gadget_of s.and) s.gate.left s.n s.k g s.w (operands_at s.places.now s.gate.left s.gate.right) (unpacked s.tape.now) s.at
    one other)

pub returns-in-Random : goal.returns-in-Random
returns-in-Random c g =
    let s = c.args in
    let both = c.requires.2.both in
    rw c.in-Random.is
    (random_gate (gadget_of s.and) s.gate.left s.n s.k g s.w (operands_at s.places.now s.gate.left s.gate.right) (unpacked s.tape.now) s.at
    (omega (arith, both.one.room)) (omega (arith, both.other.room)))

pub returns-in-Constant : goal.returns-in-Constant
returns-in-Constant c g =
    let s = c.args in
    rw c.in-Constant.is
    (constant_gate (gadget_of s.and) s.gate.left s.n s.k g s.w (operands_at s.places.now s.gate.left s.gate.right)
    (unpacked s.tape.now) s.at
    c.run_constants.ensures c.run_constants-in-Constant.ensures)

pub returns-in-And : goal.returns-in-And
returns-in-And c g =
    let s = c.args in
    rw (product_is s.gate.kind c.in-And.is c.eq.ensures)
    (product_gate (gadget_of s.and) s.gate.left s.n s.k g s.w (operands_at s.places.now s.gate.left s.gate.right) (unpacked s.tape.now) s.at
    c.eq.result c.operands_at-operands-in-And.ensures c.map_product.ensures)

-- `mask_operands::write_operands_of` meets its contract, kind by kind.
-- Assumes nothing.
use mathlib.Core.Path.{sym}
use Rattle.tables.specs.Tables.{XOR, AND, OR, pair_bytes}
use Rattle.tables.proofs.Put.{put_nil}
use Rattle.construction.specs.Gadgets.{gadget_of}
use Rattle.construction.specs.Wires.{and_part}
use Rattle.layout.specs.Layout.{share_wires, pieces_from, xor_gates, and_gates, or_gates}
use Rattle.layout.proofs.Pieces.{xor_gates_lem, constant_gates_lem, and_gates_lem, or_gates_lem}
use Rattle.share_places.specs.Located.{places_at}
use Rattle.mask_operands.proofs.Written.{written_where}
use Rattle.mask_operands.proofs.write_operands_of.Goals as goal

pub returns-in-Not : goal.returns-in-Not
unfolding pair_bytes
returns-in-Not c g = rw c.in-Not.is c.put_gate.ensures

pub returns-in-Xor : goal.returns-in-Xor
returns-in-Xor c g =
    let a = c.args in
    rw c.in-Xor.is
    (written_where (gadget_of a.and) XOR a.left a.n g a.w a.at a.ops.now (λ n A B. pieces_from n 0 (xor_gates A B))
    (xor_gates_lem (gadget_of a.and) a.left a.n g a.w) c.reads_of.ensures.0 c.reads_of.ensures.1 c.write_xor.ensures)

pub returns-in-And : goal.returns-in-And
returns-in-And c g =
    let a = c.args in
    rw c.in-And.is
    (written_where (gadget_of a.and) AND a.left a.n g a.w a.at a.ops.now (λ n. and_gates (gadget_of a.and) n a.w)
    (and_gates_lem (gadget_of a.and) a.n (and_part g) a.w) c.reads_of-in-And.ensures.0 c.reads_of-in-And.ensures.1 c.write_and.ensures)

pub returns-in-Random : goal.returns-in-Random
unfolding pair_bytes
returns-in-Random c g = rw c.in-Random.is (sym (put_nil _ _))

pub returns-in-Constant : goal.returns-in-Constant
returns-in-Constant c g =
    let a = c.args in
    let A = share_wires a.n (places_at a.places.now a.left) in
    let B = share_wires a.n (places_at a.places.now a.right) in
    rw (c.in-Constant.is, constant_gates_lem (gadget_of a.and) a.left a.n g a.w A B) c.write_constant.ensures

pub returns-in-Or : goal.returns-in-Or
returns-in-Or c g =
    let a = c.args in
    rw c.in-Or.is
    (written_where (gadget_of a.and) OR a.left a.n g a.w a.at a.ops.now (λ n. or_gates (gadget_of a.and) n a.w)
    (or_gates_lem (gadget_of a.and) a.left a.n g a.w) c.reads_of-in-Or.ensures.0 c.reads_of-in-Or.ensures.1 c.write_or.ensures)

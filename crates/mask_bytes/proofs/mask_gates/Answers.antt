-- `mask_bytes::mask_gates` meets its contract: three parts of the buffer, each lent to the function that writes it.
-- Assumes nothing.
use native.Mathlib.Omega.{arith}
use Rattle.mask_bytes.proofs.Assembled.{parts_start, kinds_asked, kinds_back, operands_asked, operands_back}
use Rattle.mask_bytes.proofs.Assembled.{outputs_asked, outputs_back}
use Rattle.mask_bytes.proofs.mask_gates.Goals as goal

pub overflow_mul-w : goal.overflow_mul-w
overflow_mul-w c = let m = c.args.planned.now.fits in omega (arith, m.inputs, m.wires)

pub overflow_sub-g : goal.overflow_sub-g
overflow_sub-g c = c.args.planned.now.fits.inputs

pub write_kinds-requires : goal.write_kinds-requires
write_kinds-requires c =
    let R = c.args.planned.now.ready in
    (omega arith, omega arith, kinds_asked c.args.and R (parts_start c.args.and R c.args.out.now c.requires.1))

pub write_operands-requires : goal.write_operands-requires
write_operands-requires c =
    let R = c.args.planned.now.ready in
    let parts = parts_start c.args.and R c.args.out.now c.requires.1 in
    let asked = operands_asked c.args.and R (kinds_back c.args.and R parts c.write_kinds.ensures) in
    (c.requires.0, omega arith, omega arith, asked.0, asked.1)

pub overflow_mul-g-2 : goal.overflow_mul-g-2
overflow_mul-g-2 c = let m = c.args.planned.now.fits in omega (arith, m.wires)

pub overflow_add-g-4 : goal.overflow_add-g-4
overflow_add-g-4 c = let m = c.args.planned.now.fits in omega (arith, m.wires)

pub write_outputs-requires : goal.write_outputs-requires
write_outputs-requires c =
    let R = c.args.planned.now.ready in
    let parts = parts_start c.args.and R c.args.out.now c.requires.1 in
    let kinds = kinds_back c.args.and R parts c.write_kinds.ensures in
    (c.requires.0, outputs_asked c.args.and R (operands_back c.args.and R kinds c.write_operands.ensures))

pub returns : goal.returns
returns c =
    let R = c.args.planned.now.ready in
    let parts = parts_start c.args.and R c.args.out.now c.requires.1 in
    let kinds = kinds_back c.args.and R parts c.write_kinds.ensures in
    outputs_back c.args.and R
    (operands_back c.args.and R kinds c.write_operands.ensures) c.write_outputs.ensures

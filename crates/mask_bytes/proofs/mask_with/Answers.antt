-- `mask_bytes::mask_with` meets its contract: the sizes and what follows them are the masked table.
-- Assumes nothing.
use native.Mathlib.Omega.{arith}
use Rattle.share_places.proofs.Placing.{plan_located}
use Rattle.mask_bytes.proofs.Assembled.{whole_back}
use Rattle.mask_bytes.proofs.mask_with.Goals as goal

pub overflow_mul-inputs : goal.overflow_mul-inputs
overflow_mul-inputs c = let m = c.args.planned.now.fits in omega (arith, m.inputs, m.wires)

pub overflow_sub-p : goal.overflow_sub-p
overflow_sub-p c = c.args.planned.now.fits.inputs

pub overflow_mul-p : goal.overflow_mul-p
overflow_mul-p c = omega (arith, c.args.planned.now.fits.outputs)

pub put_sizes-requires : goal.put_sizes-requires
put_sizes-requires c =
    let m = c.args.planned.now.fits in
    omega (arith, m.inputs, m.wires, m.outputs, c.requires.1)

pub mask_gates-requires : goal.mask_gates-requires
mask_gates-requires c =
    (plan_located c.args.planned.now.ready c.requires.0 c.locate.ensures, omega (arith, c.requires.1, c.put_sizes.auto.out))

pub returns : goal.returns
returns c = whole_back c.args.and c.args.planned.now.ready _ c.requires.1 c.put_sizes.ensures c.mask_gates.ensures

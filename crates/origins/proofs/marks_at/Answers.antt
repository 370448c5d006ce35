-- `origins::marks_at` meets its contract: an input share by its number, any other wire by its gate.
-- Assumes nothing.
use Rattle.construction.specs.Gadgets.{gadget_of}
use Rattle.origins.proofs.Carrying.{input_carried, new_below, new_carried}
use Rattle.origins.proofs.marks_at.Goals as goal

pub returns-then-wire-n : goal.returns-then-wire-n
returns-then-wire-n c = input_carried c.args.and c.args.planned.now.ready c.requires c.if-wire-n.true

pub gate_marks-requires : goal.gate_marks-requires
gate_marks-requires c =
    let G = gadget_of c.args.and in
    let R = c.args.planned.now.ready in
    (c.args.planned.now.fits.shares, new_below c.args.and R c.requires (c.find_gate-x.ensures G))

pub returns : goal.returns
returns c =
    let G = gadget_of c.args.and in
    new_carried c.args.and c.args.planned.now.ready c.requires (c.find_gate-x.ensures G) c.gate_marks.ensures

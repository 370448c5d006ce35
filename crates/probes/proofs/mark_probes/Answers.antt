-- `probes::mark_probes` meets its contract.
-- Assumes nothing.
use native.Mathlib.Omega.{arith}
use Rattle.tables.specs.Tables.{table_of}
use Rattle.tables.specs.Runs.{of_each}
use Rattle.construction.specs.Gadgets.{gadget_of}
use Rattle.construction.specs.Wires.{probe_marks}
use Rattle.origins.proofs.Carrying.{two_carried}
use Rattle.probes.proofs.Seeing.{marking_start, marking_turn, probe_below}
use Rattle.probes.proofs.mark_probes.Goals as goal

pub loop-probe-init : goal.loop-probe-init
unfolding of_each
loop-probe-init c = marking_start

pub marks_at-carried-requires : goal.marks_at-carried-requires
marks_at-carried-requires c =
    probe_below c.args.planned.now.plan.wires c.args.probes.now c.loop-probe.probe-index c.requires c.loop-probe-test.true

pub loop-probe-preserved : goal.loop-probe-preserved
loop-probe-preserved c =
    let l = c.loop-probe in
    let ps = c.args.probes.now in
    let planned = c.args.planned.now in
    let some = c.loop-probe-test.true in
    let wire = probe_below planned.plan.wires ps l.probe-index c.requires some in
    let f = probe_marks (gadget_of c.args.and) planned.plan.order (table_of planned.table.now) in
    marking_turn f ps l.seen l.probe-index l.invariant some (two_carried c.args.and planned.ready wire)
    c.marks_at-carried.ensures c.unwrap_or-second.ensures (grind arith)

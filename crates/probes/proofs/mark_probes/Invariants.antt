-- The loop's invariant in `probes::mark_probes`: the numbers that the probes so far carry are marked.
-- Assumes nothing.
use Rattle.std.proofs.Common.{take}
use Rattle.tables.specs.Tables.{table_of}
use Rattle.construction.specs.Gadgets.{gadget_of}
use Rattle.construction.specs.Wires.{probe_marks}
use Rattle.secrecy.specs.Maps.{carried}
use Rattle.probes.specs.Seeing.{Seen}
use Rattle.probes.proofs.mark_probes.Given as goal

abbrev pub invariant-loop-probe : goal.invariant-loop-probe
invariant-loop-probe l =
    let planned = l.planned in
    Seen
    (carried (probe_marks (gadget_of l.and)) planned.plan.order (table_of planned.table.now) (take l.probe-index l.probes))
    l.seen

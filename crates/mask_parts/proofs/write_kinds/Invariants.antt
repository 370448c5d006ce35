-- The loop's invariant in `mask_parts::write_kinds`: the kinds from gate g on are left to write, over those of XOR gates.
-- Assumes nothing.
use Rattle.tables.specs.Tables.{table_of}
use Rattle.mask_kinds.specs.Kinds.{gate_kinds}
use Rattle.mask_parts.specs.Stretch.{stretch}
use Rattle.mask_parts.proofs.Stretches.{Kinds}
use Rattle.mask_parts.proofs.write_kinds.Given as goal

abbrev pub invariant-loop-g : goal.invariant-loop-g
invariant-loop-g l =
    let t = table_of l.planned.table.now in
    Kinds t l.n (gate_kinds l.n (stretch t l.from l.to)) l.initial.kinds l.to l.g l.at l.kinds

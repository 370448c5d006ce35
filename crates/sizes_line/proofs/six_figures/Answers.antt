-- `sizes_line::six_figures` meets its contract: the masked sizes of the tally are those of every table that has it, and fit 32 bits.
-- Assumes nothing.
use mathlib.Core.Path.{◌∙◌}
use native.Mathlib.Omega.{arith}
use Rattle.tables.specs.Tables.{table_long}
use Rattle.construction.specs.declared.And.TheVariants.{Isw}
use Rattle.planning.proofs.Planning.{masked_fits, tally_outputs, wires_masked, gates_masked, tape_masked}
use Rattle.sizes_line.proofs.six_figures.Goals as goal

pub table_bytes-bytes-requires : goal.table_bytes-bytes-requires
table_bytes-bytes-requires c =
    let m = masked_fits c.requires c.masked_sizes-masked.ensures in (omega (arith, m.gates), omega (arith, m.outputs))

pub overflow_cast-result-2 : goal.overflow_cast-result-2
overflow_cast-result-2 c = omega (arith, (masked_fits c.requires c.masked_sizes-masked.ensures).wires)

pub overflow_cast-result-3 : goal.overflow_cast-result-3
overflow_cast-result-3 c = omega (arith, (masked_fits c.requires c.masked_sizes-masked.ensures).tape)

pub overflow_cast-result-4 : goal.overflow_cast-result-4
overflow_cast-result-4 c =
    let m = masked_fits c.requires c.masked_sizes-masked.ensures in omega (arith, m.gates, m.outputs)

pub returns : goal.returns
returns c t T =
    let M = c.masked_sizes-masked.ensures in
    record {
      shares = M.shares;
      wires = wires_masked T M Isw;
      tape = tape_masked T M Isw;
      bytes = c.table_bytes-bytes.ensures
          ∙ (λ j. table_long (gates_masked T M Isw j) (tally_outputs T M j));
      outputs = tally_outputs T M;
      largest = c.largest_order-largest.ensures t T;
    }

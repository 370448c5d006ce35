-- `planning::tally_table` meets its contract: what passes has the sizes that it states.
-- Assumes nothing.
use mathlib.Core.Path.{sym, ◌∙◌}
use Rattle.tables.proofs.Accept.{inputs_of, gates_of_length, outputs_of_length}
use Rattle.planning.proofs.Planning.{tallied}
use Rattle.planning.proofs.tally_table.Goals as goal

pub returns : goal.returns
returns c =
    let s = c.args.table.now in
    tallied
    c.in_ok-table_fault.ensures
    c.in_ok-order_fault.ensures
    c.in_ok-random_fault.ensures
    (record {
      inputs = c.field-2.ensures.0 ∙ sym (inputs_of s);
      gates = c.field.ensures.0 ∙ sym (gates_of_length s);
      outputs = c.field-3.ensures.0 ∙ sym (outputs_of_length s);
      counts = c.count_kinds-counts.ensures;
    })
    c.field-2.ensures.1
    c.field-3.ensures.1

-- `list_lines::TableLines::put_part` meets its contract: the line is a gate's or an output's, by its number.
-- Assumes nothing.
use mathlib.Core.Path.{ap}
use native.Mathlib.Omega.{arith}
use lib.ListN.{length}
use Rattle.tables.proofs.Accept.{has_gates, has_outputs}
use Rattle.text.proofs.Writing.{puts_as}
use Rattle.list_lines.proofs.Numbered.{line_known, gate_line_lem, output_line_lem}
use Rattle.list_lines.proofs.TableLines.put_part.Goals as goal

pub invariant_of-gates : goal.invariant_of-gates
invariant_of-gates c =
    let lines = c.args.self.now in record { all = has_gates lines.table.now lines.listed.0 c.field-count.ensures.0 }

pub invariant_of-outputs : goal.invariant_of-outputs
invariant_of-outputs c =
    let lines = c.args.self.now in
    record { all = has_outputs lines.table.now lines.listed.0 c.field-count.ensures.0 c.field-2.ensures.0 }

pub put_gate-requires : goal.put_gate-requires
put_gate-requires c =
    let lines = c.args.self.now in
    let read = c.at.ensures in
    let line = gate_line_lem lines.table.now lines.listed c.args.j c.field-count.ensures.0 c.if-j-count.true c.field.ensures.0 read in
    let known = line_known lines.table.now lines.listed c.args.j c.field-count.ensures.0 c.if-j-count.true read in
    (known, read.left_small, read.right_small, omega (arith, c.requires.1, ap length line))

pub returns-then-j-count : goal.returns-then-j-count
returns-then-j-count c =
    let lines = c.args.self.now in
    puts_as (gate_line_lem lines.table.now lines.listed c.args.j c.field-count.ensures.0 c.if-j-count.true c.field.ensures.0 c.at.ensures)
    c.put_gate.ensures

pub put_output-requires : goal.put_output-requires
put_output-requires c =
    let lines = c.args.self.now in
    let line =
    output_line_lem lines.table.now lines.listed c.args.j c.field-count.ensures.0 c.if-j-count.false c.requires.0 c.at-2.ensures.0 in
    omega (arith, c.requires.1, ap length line)

pub returns : goal.returns
returns c =
    let lines = c.args.self.now in
    puts_as (output_line_lem lines.table.now lines.listed c.args.j c.field-count.ensures.0 c.if-j-count.false c.requires.0 c.at-2.ensures.0)
    c.put_output.ensures

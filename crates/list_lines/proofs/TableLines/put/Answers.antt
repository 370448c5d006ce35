-- `list_lines::TableLines::put` meets its contract: the first line, or the line by its number after the first.
-- Assumes nothing.
use mathlib.Core.Path.{ap}
use native.Mathlib.Omega.{arith}
use lib.ListN.{length}
use Rattle.text.specs.Text.{line_of}
use Rattle.text.proofs.Writing.{puts_as}
use Rattle.list_lines.proofs.Numbered.{first_line, later_line}
use Rattle.list_lines.proofs.TableLines.put.Goals as goal

pub put_last-requires : goal.put_last-requires
unfolding line_of
put_last-requires c =
    let line = first_line c.args.self.now.table.now c.if-j-eq0.true c.field-inputs.ensures.0 in
    omega (arith, c.requires.1, ap length line)

pub returns-then-j-eq0 : goal.returns-then-j-eq0
unfolding line_of
returns-then-j-eq0 c =
    puts_as (first_line c.args.self.now.table.now c.if-j-eq0.true c.field-inputs.ensures.0) c.put_last.ensures

pub put_part-requires : goal.put_part-requires
put_part-requires c =
    let line = later_line c.args.self.now.table.now c.if-j-eq0.false in (omega arith, omega (arith, c.requires.1, ap length line))

pub returns : goal.returns
returns c =
    puts_as (later_line c.args.self.now.table.now c.if-j-eq0.false) c.put_part.ensures

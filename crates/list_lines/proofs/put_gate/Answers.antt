-- `list_lines::put_gate` meets its contract: the wire, then the rest of the line.
-- Assumes nothing.
use mathlib.Core.List.{◌∷◌}
use native.Mathlib.Omega.{arith}
use lib.ListN.{length-append}
use Rattle.tables.specs.Tables.{kind_of}
use Rattle.text.specs.Text.{decimal, line_of}
use Rattle.text.proofs.Writing.{next_room, puts_then}
use Rattle.list_lines.specs.Lines.{equals_word, kind_words}
use Rattle.list_lines.proofs.put_gate.Goals as goal

pub put_number-next-requires : goal.put_number-next-requires
unfolding line_of
put_number-next-requires c =
    let g = c.args.gate in
    let rest = 32 ∷ line_of equals_word (kind_words (kind_of g.kind) g.left g.right) in
    omega (arith, c.requires.3, length-append (decimal c.args.wire) rest)

pub put_kind-requires : goal.put_kind-requires
unfolding line_of
put_kind-requires c =
    let g = c.args.gate in
    let rest = 32 ∷ line_of equals_word (kind_words (kind_of g.kind) g.left g.right) in
    rw c.known_kind.ensures (next_room rest c.requires.3 c.put_number-next.ensures)

pub returns : goal.returns
unfolding line_of
returns c =
    let g = c.args.gate in
    let rest = 32 ∷ line_of equals_word (kind_words (kind_of g.kind) g.left g.right) in
    puts_then rest c.requires.3 c.put_number-next.ensures (rw c.known_kind.ensures at c.put_kind.ensures)

-- `forecasting::put_figures` meets its contract: four numbers, each with what parts it from the next.
-- Assumes nothing.
use mathlib.Core.List.{List, [], ◌∷◌, ◌++◌}
use Prim.Native.Nat.{ℕ}
use native.Mathlib.Omega.{arith}
use lib.ListN.{length-append}
use Rattle.text.specs.Text.{decimal, line_of}
use Rattle.text.proofs.Writing.{next_room, puts_then}
use Rattle.construction.specs.declared.Figures as DFigures
use Rattle.forecasting.proofs.put_figures.Goals as goal

-- what follows the second number, and the first
abbrev after-wires : DFigures.Figures → List ℕ
after-wires z = 32 ∷ (decimal z.tape ++ (32 ∷ (decimal z.bytes ++ (10 ∷ []))))

abbrev after-shares : DFigures.Figures → List ℕ
after-shares z = 32 ∷ (decimal z.wires ++ after-wires z)

pub put_number-second-requires : goal.put_number-second-requires
unfolding line_of
put_number-second-requires c =
    let z = c.args.figures in
    omega (arith, c.requires, length-append (decimal z.shares) (after-shares z))

pub put_number-third-requires : goal.put_number-third-requires
unfolding line_of
put_number-third-requires c =
    let z = c.args.figures in
    let room = next_room (after-shares z) (omega (arith, c.requires)) c.put_number-second.ensures in
    omega (arith, room, length-append (decimal z.wires) (after-wires z))

pub put_two-requires : goal.put_two-requires
unfolding line_of
put_two-requires c =
    let z = c.args.figures in
    let room = next_room (after-shares z) (omega (arith, c.requires))
    c.put_number-second.ensures in
    next_room (after-wires z) room c.put_number-third.ensures

pub returns : goal.returns
unfolding line_of
returns c =
    let z = c.args.figures in
    let first = c.put_number-second.ensures in
    let room = next_room (after-shares z) (omega (arith, c.requires)) first in
    puts_then (after-shares z) (omega (arith, c.requires)) first
    (puts_then (after-wires z) room c.put_number-third.ensures
    c.put_two.ensures)

-- `sizes_line::put_six` meets its contract: three numbers, and then the last three.
-- Assumes nothing.
use mathlib.Core.List.{List, ◌∷◌, ◌++◌}
use Prim.Native.Nat.{ℕ}
use native.Mathlib.Omega.{arith}
use lib.ListN.{length-append}
use Rattle.text.specs.Text.{decimal, line_of}
use Rattle.text.proofs.Writing.{next_room, puts_then}
use Rattle.sizes_line.specs.declared.Six as DSix
use Rattle.sizes_line.specs.Inside.{later_text}
use Rattle.sizes_line.proofs.put_six.Goals as goal

-- what follows the second number, and the first
abbrev after-wires : DSix.Six → List ℕ
after-wires z = 32 ∷ (decimal z.tape ++ later_text z)

abbrev after-shares : DSix.Six → List ℕ
after-shares z = 32 ∷ (decimal z.wires ++ after-wires z)

pub put_number-second-requires : goal.put_number-second-requires
unfolding line_of
put_number-second-requires c =
    let z = c.args.six in
    omega (arith, c.requires, length-append (decimal z.shares) (after-shares z))

pub put_number-third-requires : goal.put_number-third-requires
unfolding line_of
put_number-third-requires c =
    let z = c.args.six in
    let room = next_room (after-shares z) (omega (arith, c.requires)) c.put_number-second.ensures in
    omega (arith, room, length-append (decimal z.wires) (after-wires z))

pub put_number-fourth-requires : goal.put_number-fourth-requires
unfolding line_of
put_number-fourth-requires c =
    let z = c.args.six in
    let second = next_room (after-shares z) (omega (arith, c.requires)) c.put_number-second.ensures in
    let third = next_room (after-wires z) second c.put_number-third.ensures in
    omega (arith, third, length-append (decimal z.tape) (later_text z))

pub put_later-requires : goal.put_later-requires
unfolding line_of
put_later-requires c =
    let z = c.args.six in
    let second = next_room (after-shares z) (omega (arith, c.requires)) c.put_number-second.ensures in
    let third = next_room (after-wires z) second c.put_number-third.ensures in
    next_room (later_text z) third c.put_number-fourth.ensures

pub returns : goal.returns
unfolding line_of
returns c =
    let z = c.args.six in
    let second = next_room (after-shares z) (omega (arith, c.requires)) c.put_number-second.ensures in
    let third = next_room (after-wires z) second c.put_number-third.ensures in
    puts_then (after-shares z) (omega (arith, c.requires)) c.put_number-second.ensures
    (puts_then (after-wires z) second c.put_number-third.ensures
    (puts_then (later_text z) third c.put_number-fourth.ensures c.put_later.ensures))

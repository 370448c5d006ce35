-- `sizes_line::put_later` meets its contract: three numbers, each with what parts it from the one before.
-- Assumes nothing.
use mathlib.Core.List.{List, [], ◌∷◌, ◌++◌}
use Prim.Native.Nat.{ℕ}
use native.Mathlib.Omega.{arith}
use lib.ListN.{length-append}
use Rattle.text.specs.Text.{decimal}
use Rattle.text.proofs.Writing.{next_room, puts_then}
use Rattle.sizes_line.specs.declared.Six as DSix
use Rattle.sizes_line.proofs.put_later.Goals as goal

-- what follows the bytes
abbrev after-bytes : DSix.Six → List ℕ
after-bytes z = 32 ∷ (decimal z.outputs ++ (32 ∷ (decimal z.largest ++ (10 ∷ []))))

pub put_number-next-requires : goal.put_number-next-requires
put_number-next-requires c =
    let z = c.args.six in
    omega (arith, c.requires, length-append (decimal z.bytes) (after-bytes z))

pub put_two-requires : goal.put_two-requires
put_two-requires c =
    next_room (after-bytes c.args.six) (omega (arith, c.requires)) c.put_number-next.ensures

pub returns : goal.returns
returns c =
    puts_then (after-bytes c.args.six) (omega (arith, c.requires)) c.put_number-next.ensures c.put_two.ensures

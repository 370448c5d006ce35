-- `text::put_number` meets its contract: the bytes, then the digits.
-- Assumes nothing.
use mathlib.Core.Path.{ap}
use native.Mathlib.Omega.{arith}
use lib.ListN.{length}
use Rattle.text.specs.Text.{decimal}
use Rattle.text.proofs.Writing.{puts_as, next_room, puts_then, formatted}
use Rattle.text.proofs.put_number.Goals as goal

pub put_bytes-requires : goal.put_bytes-requires
put_bytes-requires c =
    let digits = formatted c.args.v (grind arith) c.format.ensures.text c.as_bytes.ensures.value (omega arith) in
    omega (arith, ap length digits, next_room (decimal c.args.v) c.requires c.put_bytes-next.ensures)

pub returns : goal.returns
returns c =
    let digits = formatted c.args.v (grind arith) c.format.ensures.text c.as_bytes.ensures.value (omega arith) in
    puts_then (decimal c.args.v) c.requires c.put_bytes-next.ensures (puts_as digits c.put_bytes.ensures)

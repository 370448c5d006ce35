-- `bits::flip_bit` meets its contract: one bit of one byte changes.
-- Assumes nothing.
use mathlib.Core.Path.{◌≡◌, ap, ◌∙◌}
use Prim.Native.Nat.{ℕ, ◌*◌, ◌/◌, ◌%◌, ◌^◌}
use native.Mathlib.Omega.{arith}
use lib.Bits.{bit_xor}
use lib.ListN.{get_or, set}
use lib.Pow.{shl_exact}
use Rattle.tables.specs.Packing.{unpacked}
use Rattle.tables.proofs.Packing.{bit_flipped}
use Rattle.bits.proofs.flip_bit.Goals as goal

pub returns : goal.returns
returns c =
    let a = c.args in
    let s = a.tape.now in
    let k = a.at % 8 in
    let exact : a.flip * 2 ^ k % 2 ^ 8 ≡ a.flip * 2 ^ k = shl_exact 1 k 8 (omega (arith, c.requires.1)) (omega arith) in
    ap (λ (v : ℕ). unpacked (set s (a.at / 8) (bit_xor (get_or s (a.at / 8) 0) v))) exact
    ∙ bit_flipped s a.at a.flip c.requires.0 c.requires.1

-- `ands::pair_flip` meets its contract: a pair with k as its lower share flips by what the fifth wire adds.
-- Assumes nothing.
use mathlib.Core.Path.{ap, ◌∙◌}
use Prim.Native.Nat.{ℕ, ◌*◌}
use native.Mathlib.Omega.{arith}
use lib.Bits.{bit_xor}
use Rattle.tables.proofs.Run.{bit_mul, bit_xor_lem, bit_and_lem}
use Rattle.ands.proofs.Forms.{flip_lower}
use Rattle.ands.proofs.pair_flip.Goals as goal

pub returns-then-i-k : goal.returns-then-i-k
returns-then-i-k c =
    let F = c.pair_form-form.ensures in
    let both = c.pair_form-form.result.both in
    let p = c.args.p in
    let q = c.args.q in
    let sum = ap (λ (x : ℕ). bit_xor x q) (bit_and_lem both p F.both c.requires.0)
    ∙ bit_xor_lem (both * p) q (bit_mul both p F.both c.requires.0) c.requires.1 in
    (sum ∙ flip_lower F c.args.k c.args.i c.args.j p q c.requires.1 c.if-i-k.true, omega (arith, sum))

-- `map_pair::flip_pair` meets its contract: a pair whose lower share is not k, and whose upper share none flips by, is not flipped.
-- Assumes nothing.
use mathlib.Core.Path.{◌≡◌, sym, ap, ◌∙◌}
use Prim.Native.Nat.{ℕ}
use native.Mathlib.Omega.{arith}
use lib.ListN.{get_or, set}
use lib.Seq.{set-get_or}
use borrow.Author.Tests.{eqb-false, not-true}
use Rattle.std.proofs.Common.{Some}
use Rattle.tables.specs.Runs.{xor}
use Rattle.tables.specs.Packing.{unpacked}
use Rattle.tables.proofs.Tests.{and_true}
use Rattle.tables.proofs.Packing.{unpacked_bits}
use Rattle.map_pair.proofs.flip_pair.Goals as goal

pub returns-then-i-k : goal.returns-then-i-k
returns-then-i-k c =
    let a = c.args in
    let test = and_true _ _ c.if-i-k.true in
    let us = unpacked a.mapped.now in
    let kept : xor (get_or us a.at 0) 0 ≡ get_or us a.at 0 = omega (arith, unpacked_bits a.mapped.now a.at) in
    let upper : c.upper_flipped.result ≡ Some a.j → ⊥ =
    λ e. let is : c.unwrap_or.result ≡ a.j = rw e at c.unwrap_or.ensures in eqb-false a.j _ (not-true _ test.1) (sym is) in (
      c.upper_flipped.ensures.1 a.i a.j _ _ (omega arith) (eqb-false a.i a.k (not-true _ test.0)) upper,
      omega arith,
      sym (ap (λ (v : ℕ). set us a.at v) kept ∙ set-get_or us a.at 0),
    )

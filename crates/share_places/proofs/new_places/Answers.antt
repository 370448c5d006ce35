-- `share_places::new_places` meets its contract, kind by kind.
-- Assumes nothing.
use mathlib.Core.Path.{◌≡◌, ap, ◌∙◌}
use mathlib.Core.List.{List}
use Prim.Native.Nat.{ℕ, suc, ◌+◌}
use native.Mathlib.Omega.{arith}
use Rattle.construction.specs.Wires.{and_cost, first_on}
use Rattle.share_places.proofs.Located.{shares_run, few_places_are}
use Rattle.share_places.proofs.new_places.Goals as goal

pub returns-in-Constant : goal.returns-in-Constant
returns-in-Constant c =
    let p = c.requires in
    let fits = rw c.in-Constant.is at p.3 in
    rw c.in-Constant.is
    (shares_run c.args.n c.args.w p.1, record { head = omega (arith, fits); base = omega (arith, fits, p.1); step = omega arith })

pub returns-in-Or : goal.returns-in-Or
returns-in-Or c =
    let p = c.requires in
    let fits = rw c.in-Or.is at p.3 in
    let and = c.and_places-product.ensures in
    let small = and.1 (omega (arith, fits)) in
    let same : c.args.w + 2 ≡ suc (suc c.args.w) = omega arith in
    rw (c.in-Or.is, c.and_cost.ensures) (
      ap {A = List ℕ} {B = List ℕ} (first_on (c.args.w + 2 + and_cost c.args.n)) and.0 ∙ rw same,
      record { head = omega (arith, fits); base = small.base; step = small.step },
    )

pub returns-in_default : goal.returns-in_default
returns-in_default c =
    let p = c.requires in
    let and = c.and_places-product-in_default.ensures in
    few_places_are c.args.kind c.args.n c.args.w c.args.a _ p.0 c.in_default.not-Constant c.in_default.not-Or p.1 p.2 p.3 p.4
    and.0 and.1 c.eq-xor.ensures c.eq-not.ensures c.eq.ensures
    c.either.ensures c.either-in_default.ensures c.either-in_default-2.ensures c.either-in_default-3.ensures c.either-in_default-4.ensures

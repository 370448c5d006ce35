-- The counts decide the forecast, for any lawful AND.
-- Assumes nothing.
use mathlib.Core.Path.{◌≡◌, refl, sym, ap, ◌∙◌}
use mathlib.Core.Bool.{Bool, true, false, ◌&&◌, cond}
use mathlib.Core.List.{List}
use Prim.Native.Nat.{ℕ}
use lib.Dec.{eqb}
use lib.ListN.{length}
use Rattle.tables.specs.Refusals.{passed}
use Rattle.tables.specs.Tables.{table_of, table_fault, random_fault}
use Rattle.tables.specs.Counted.{counts_of}
use Rattle.tables.proofs.Tests.{and_true}
use Rattle.construction.specs.declared.Sizes as DSizes
use Rattle.construction.specs.Gadgets.{Gadget}
use Rattle.construction.specs.Says.{order_ok, ForecastSays}
use Rattle.construction.specs.Counts.{refused8, forecast_by}
use Rattle.construction.proofs.Lawful.{Lawful}
use Rattle.construction.proofs.Rows.{tri_closed}
use Rattle.construction.proofs.Counted.{forecast_counted}
use Rattle.secrecy.specs.Claims.{accepted}
use Rattle.secrecy.specs.Laws.{CountsDecide}

pub counts_decide : {G : Gadget} → Lawful G → CountsDecide G
counts_decide {G} L = record {
  formula = formula;
  eight = λ s o r h F. ap (λ (z : DSizes.Sizes). eqb z.number 8) (formula s o r h F) ∙ number _ _ refl;
  alike = λ s s' o r r' h h' inputs outputs counts F F'.
      let same : forecast_by o (table_of s).inputs (length (table_of s).outputs) (counts_of (table_of s).gates)
      ≡ forecast_by o (table_of s').inputs (length (table_of s').outputs) (counts_of (table_of s').gates) =
      λ j. forecast_by o (inputs j) (outputs j) (counts j) in
      formula s o r h F ∙ same ∙ sym (formula s' o r' h' F');
  closed = tri_closed;
}
  where
    formula :
        (s : List ℕ) (o : ℕ) (r : DSizes.Sizes) → accepted s o ≡ true → ForecastSays G s o r
        → r ≡ forecast_by o (table_of s).inputs (length (table_of s).outputs) (counts_of (table_of s).gates)
    formula s o r h F =
        let table = and_true (passed (table_fault s)) (order_ok o && passed (random_fault 0 (table_of s).gates)) h in
        let rest = and_true (order_ok o) (passed (random_fault 0 (table_of s).gates)) table.1 in
        forecast_counted G s o table.0 rest.0 rest.1 L F

    number : (b : Bool) (z : DSizes.Sizes) → z.number ≡ 0 → eqb (cond b refused8 z).number 8 ≡ b
    number true z e = refl
    number false z e = rw e

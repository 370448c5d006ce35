-- From a plan to the forecast: the refusal, or the four figures.
-- Assumes nothing.
use mathlib.Core.Path.{◌≡◌, refl, sym, ◌∙◌}
use mathlib.Core.List.{List}
use Prim.Native.Nat.{ℕ}
use Rattle.std.specs.Prelude.{Ok, Err}
use Rattle.tables.specs.declared.Refusal as DRefusal
use Rattle.tables.specs.Refusing.{fault_of}
use Rattle.tables.proofs.Answers.{refused_fails}
use Rattle.construction.specs.declared.And.TheVariants.{Isw}
use Rattle.construction.specs.Gadgets.{isw}
use Rattle.construction.specs.Says.{plain_fault, ForecastSays}
use Rattle.construction.specs.Told.{sizes_of}
use Rattle.planning.specs.declared.Plan as DPlan
use Rattle.planning.specs.Plans.{PlanReady, plan_bytes}
use Rattle.planning.proofs.Planning.{plan_bytes_lem}

pub forecast_refused :
    (s : List ℕ) (o : ℕ) (e : DRefusal.Refusal) → plain_fault isw s o ≡ fault_of e → ForecastSays isw s o (sizes_of (Err e))
forecast_refused s o e h =
    let fails = refused_fails e h in
    record {
      number = rw h;
      place = rw h;
      shares = rw fails;
      wires = rw fails;
      tape = rw fails;
      bytes = rw fails;
    }

pub forecast_ready :
    {s s' : List ℕ} {o b : ℕ} {p : DPlan.Plan} → PlanReady s' p → (s' ≡ s) × (p.order ≡ o) → b ≡ plan_bytes p
    → ForecastSays isw s o (sizes_of (Ok (record { shares = p.shares; wires = p.wires; tape = p.tape; bytes = b })))
forecast_ready R e h =
    rw (← e.0, ← e.1, R.none Isw)
    (record {
      number = refl;
      place = refl;
      shares = R.shares;
      wires = R.wires Isw;
      tape = R.tape Isw;
      bytes = h ∙ sym (plan_bytes_lem R Isw);
    })

-- The forecast program's line: what the forecast of an input says of it, and that 64 bytes hold it.
-- Assumes nothing.
use mathlib.Core.Path.{◌≡◌, refl, ◌∙◌}
use mathlib.Core.Bool.{Bool, true, false, cond}
use mathlib.Core.List.{List, [], ◌∷◌, ◌++◌}
use Prim.Native.Nat.{ℕ, ◌≤◌, ◌<◌}
use native.Mathlib.Omega.{arith}
use borrow.Author.Tests.{lt-ltb, le-ltb}
use lib.ListN.{length, get_or, drop}
use lib.Dec.{eqb}
use Rattle.std.specs.Prelude.{Result, Ok, Err}
use Rattle.tables.specs.declared.Refusal as DRefusal
use Rattle.tables.specs.declared.Refusal.TheVariants as Refusal
use Rattle.tables.specs.Refusals.{passed}
use Rattle.tables.proofs.Answers.{refusal_fails}
use Rattle.construction.specs.declared.Figures as DFigures
use Rattle.construction.specs.Told.{sizes_of}
use Rattle.tables.specs.Tables.{wires, table_of, table_bytes}
use Rattle.construction.specs.declared.Sizes as DSizes
use Rattle.construction.specs.Shares.{shares_of}
use Rattle.construction.specs.Gadgets.{isw}
use Rattle.construction.specs.Wires.{masked_table, tape_long}
use Rattle.construction.specs.Says.{plain_fault, ForecastSays}
use Rattle.text.specs.Text.{decimal, line_of, refusal_line}
use Rattle.text.proofs.Writing.{number_long, refusal_long}
use Rattle.forecasting.specs.Lines.{line_fault, figures_line, forecast_line}
use Rattle.forecasting.specs.Figures.{told_line}

-- an input that is too long
pub line_long : (s : List ℕ) → 65536 < length s → told_line (Err Refusal.NoRoom) ≡ forecast_line s
unfolding line_fault forecast_line
line_long s h = rw (lt-ltb 65536 (length s) h) refl

-- figures that count only where the test holds
same_line :
    (t : Bool) (a b c d : ℕ) (x : List ℕ)
    → cond t (figures_line (cond t a 0) (cond t b 0) (cond t c 0) (cond t d 0)) x ≡ cond t (figures_line a b c d) x
same_line true a b c d x = refl
same_line false a b c d x = refl

-- the line of what C is told
sizes_line : DSizes.Sizes → List ℕ
sizes_line z = cond (eqb z.number 0) (figures_line z.shares z.wires z.tape z.bytes) (refusal_line z.number z.place)

line_of_sizes : (r : Result DFigures.Figures DRefusal.Refusal) → told_line r ≡ sizes_line (sizes_of r)
unfolding sizes_line
line_of_sizes (Ok z) = refl
line_of_sizes (Err e) = rw (refusal_fails e) refl

line_forecast :
    (s : List ℕ) (r : Result DFigures.Figures DRefusal.Refusal) → length s ≤ 65536
    → ForecastSays isw (drop 1 s) (get_or s 0 0) (sizes_of r) → told_line r ≡ forecast_line s
unfolding line_fault forecast_line sizes_line
line_forecast s r h F =
    let o = get_or s 0 0 in
    let t = table_of (drop 1 s) in
    let m = masked_table isw o t in
    let f = plain_fault isw (drop 1 s) o in
    line_of_sizes r
    ∙ rw (le-ltb 65536 (length s) h, F.number, F.place, F.shares, F.wires, F.tape, F.bytes)
    (same_line (passed f) (shares_of o) (wires m) (tape_long isw o t) (length (table_bytes m)) (refusal_line f.number f.place))

-- "No input counts as order 0 and an empty table"
pub line_empty :
    (s : List ℕ) (r : Result DFigures.Figures DRefusal.Refusal) → length s ≡ 0 → ForecastSays isw s 0 (sizes_of r)
    → told_line r ≡ forecast_line s
line_empty [] r e F = line_forecast [] r (omega arith) F
line_empty (x ∷ s) r e F = absurd (omega arith)

-- the order byte and what follows it
pub line_part :
    (x : ℕ) (s : List ℕ) (r : Result DFigures.Figures DRefusal.Refusal) → length (x ∷ s) ≤ 65536
    → ForecastSays isw s x (sizes_of r) → told_line r ≡ forecast_line (x ∷ s)
line_part x s r h F = line_forecast (x ∷ s) r h F

pub ruleset input_laws = (line_long, line_empty, line_part)

-- 64 bytes hold the line
figures_short : (a b c d : ℕ) → length (figures_line a b c d) ≤ 64
unfolding line_of
figures_short a b c d =
    let last : List ℕ = 32 ∷ (decimal d ++ (10 ∷ [])) in
    let third : List ℕ = 32 ∷ (decimal c ++ last) in
    omega (
      arith,
      number_long a (32 ∷ (decimal b ++ third)),
      number_long b third,
      number_long c last,
      number_long d (10 ∷ []),
    )

pub line_fits : (s : List ℕ) → length (forecast_line s) ≤ 64
unfolding forecast_line
line_fits s = go (passed (line_fault s)) _ _ _ _ _ _
  where
    go : (t : Bool) (a b c d n p : ℕ) → length (cond t (figures_line a b c d) (refusal_line n p)) ≤ 64
    go true a b c d n p = figures_short a b c d
    go false a b c d n p = refusal_long n p

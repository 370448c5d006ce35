-- For contracts inside the library only: no promise of a call cites this.
-- Assumes nothing.
use Rattle.std.specs.Prelude.{List, ℕ, Result, Ok, Err}
use Rattle.tables.specs.declared.Refusal as DRefusal
use Rattle.tables.specs.Refusing.{fault_of}
use Rattle.text.specs.Text.{refusal_line}
use Rattle.construction.specs.declared.Figures as DFigures
use Rattle.forecasting.specs.Lines.{figures_line}

-- the line of a forecast: its four figures, or its refusal
abbrev pub told_line : Result DFigures.Figures DRefusal.Refusal → List ℕ
told_line (Ok z) = figures_line z.shares z.wires z.tape z.bytes
told_line (Err e) = refusal_line (fault_of e).number (fault_of e).place

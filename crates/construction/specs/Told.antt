-- What C is told of a forecast and of a probe's marks.
-- Assumes nothing.
use Rattle.std.specs.Prelude.{ℕ, Result, Ok, Err, Option, Some, None}
use Rattle.tables.specs.declared.Refusal as DRefusal
use Rattle.tables.specs.Refusing.{fault_of}
use Rattle.construction.specs.declared.Figures as DFigures
use Rattle.construction.specs.declared.Sizes as DSizes
use Rattle.construction.specs.declared.Carried as DCarried
use Rattle.construction.specs.declared.Marks as DMarks

-- a refusal's number and place, or 0, 0 and the figures
abbrev pub sizes_of : Result DFigures.Figures DRefusal.Refusal → DSizes.Sizes
sizes_of (Ok z) = record { number = 0; place = 0; shares = z.shares; wires = z.wires; tape = z.tape; bytes = z.bytes }
sizes_of (Err e) = record {
  number = (fault_of e).number;
  place = (fault_of e).place;
  shares = 0;
  wires = 0;
  tape = 0;
  bytes = 0;
}

-- a second share number, 0 for none
abbrev pub second_of : Option ℕ → ℕ
second_of (Some s) = s
second_of None = 0

-- a refusal's number and place, or 0, 0 and the share numbers
abbrev pub marks_of : Result DCarried.Carried DRefusal.Refusal → DMarks.Marks
marks_of (Ok c) = record { number = 0; place = 0; first = c.first; second = second_of c.second }
marks_of (Err e) = record { number = (fault_of e).number; place = (fault_of e).place; first = 0; second = 0 }

-- The code's refusals, by their numbers and places (document 01, "Refusals, by who can cause them"), and what C is told of a call.
-- Assumes nothing.
use Rattle.std.specs.Prelude.{ℕ, Result, Ok, Err}
use Rattle.tables.specs.declared.Answer as DAnswer
use Rattle.tables.specs.declared.Refusal as DRefusal
use Rattle.tables.specs.declared.Refusal.TheVariants as Refusal
use Rattle.tables.specs.Refusals.{Fault, fault}

-- "Each returns its number and a place"
abbrev pub fault_of : DRefusal.Refusal → Fault
fault_of Refusal.Length = fault 1 0
fault_of Refusal.Sizes = fault 2 0
fault_of (Refusal.Kind gate) = fault 3 gate
fault_of (Refusal.Operands gate) = fault 4 gate
fault_of (Refusal.Output output) = fault 5 output
fault_of Refusal.Order = fault 6 0
fault_of (Refusal.Random gate) = fault 7 gate
fault_of Refusal.TooLarge = fault 8 0
fault_of Refusal.NoRoom = fault 9 0
fault_of Refusal.Counts = fault 10 0
fault_of (Refusal.NotBit place) = fault 11 place
fault_of Refusal.TooManyProbes = fault 12 0
fault_of (Refusal.NoWire probe) = fault 13 probe

-- what C is told of a call: a refusal's number and place, or 0, 0 and the value
abbrev pub answer_of : Result ℕ DRefusal.Refusal → DAnswer.Answer
answer_of (Ok v) = record { number = 0; place = 0; value = v }
answer_of (Err e) = record { number = (fault_of e).number; place = (fault_of e).place; value = 0 }

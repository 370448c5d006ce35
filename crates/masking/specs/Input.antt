-- What masking answers for an input: a byte that names the AND, an order byte and then a plain table. The order and the table stand as
-- the forecast program reads them (document 01, "The forecast program").
-- Assumes nothing.
use Rattle.std.specs.Prelude.{List, ℕ, zero, suc, get_or, drop}
use Rattle.tables.specs.declared.Answer as DAnswer
use Rattle.construction.specs.declared.And as DAnd
use Rattle.construction.specs.declared.And.TheVariants.{Isw, Dom}
use Rattle.construction.specs.Gadgets.{Gadget, gadget_of}
use Rattle.construction.specs.Says.{MaskSays}

-- the AND that a byte names: 0 document 01's, any other that of source document 002
abbrev pub and_of : ℕ → DAnd.And
and_of zero = Isw
and_of (suc b) = Dom

-- the order is the first byte, the table is what follows; "No input counts as order 0 and an empty table"
abbrev pub OrderedSays : Gadget → List ℕ → List ℕ → List ℕ → DAnswer.Answer → Type 0
OrderedSays G s b b' r = MaskSays G (drop 1 s) (get_or s 0 0) b b' r

-- the first byte names the AND
abbrev pub InputSays : List ℕ → List ℕ → List ℕ → DAnswer.Answer → Type 0
InputSays s b b' r = OrderedSays (gadget_of (and_of (get_or s 0 0))) (drop 1 s) b b' r

-- For contracts inside the library only: no promise of a call cites this.
-- The code's kinds of gates, and the definition's.
-- Assumes nothing.
use Rattle.std.specs.Prelude.{◌≡◌, ℕ, ◌<◌, Result, MatchResult}
use Rattle.tables.specs.declared.Kind as DKind
use Rattle.tables.specs.declared.Kind.TheVariants as Named
use Rattle.tables.specs.declared.UnknownKind as DUnknownKind
use Rattle.tables.specs.Tables.{Kind, NOT, XOR, AND, RANDOM, CONSTANT, OR, kind_of}

-- the kind that is meant
abbrev pub kind_is : DKind.Kind → Kind
kind_is Named.Not = NOT
kind_is Named.Xor = XOR
kind_is Named.And = AND
kind_is Named.Random = RANDOM
kind_is Named.Constant = CONSTANT
kind_is Named.Or = OR

-- the kind that a byte states, or the byte where it states none
abbrev pub Decodes : ℕ → Result DKind.Kind DUnknownKind.UnknownKind → Type 0
Decodes b r = MatchResult r (λ k. kind_is k ≡ kind_of b) (λ e. (e.0 ≡ b) × (5 < b))

-- For contracts inside the library only: no promise of a call cites this.
-- Assumes nothing.
use Rattle.std.specs.Prelude.{◌≡◌, List, Option, MatchOption, ℕ, ◌+◌, ◌<◌, length}
use Rattle.tables.specs.Refusals.{fault, none, bad_bit}

-- the first byte above 1 is at r, or there is none; i is where the bits begin in the call's bits joined
abbrev pub FirstBad : List ℕ → Option ℕ → Type 0
FirstBad bits r =
    MatchOption r
    ((i : ℕ) → bad_bit i bits ≡ none)
    (λ at. (at < length bits) × ((i : ℕ) → bad_bit i bits ≡ fault 11 (i + at)))

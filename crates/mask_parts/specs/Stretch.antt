-- For contracts inside the library only: no promise of a call cites this.
-- Assumes nothing.
use Rattle.std.specs.Prelude.{List, ℕ, ◌-◌, take, drop}
use Rattle.tables.specs.Tables.{Gate, Table}

-- the plain gates from number a on and before number e
abbrev pub stretch : Table → ℕ → ℕ → List Gate
stretch t a e = take (e - a) (drop a t.gates)

-- For contracts inside the library only: no promise of a call cites this.
-- Assumes nothing.
use Rattle.std.specs.Prelude.{List, ◌++◌, ℕ}
use Rattle.tables.specs.Tables.{Table, kind_bytes, pair_bytes, word_bytes}

-- what follows a table's sizes: kinds, operands and outputs
abbrev pub after_sizes : Table → List ℕ
after_sizes t = kind_bytes t.gates ++ (pair_bytes t.gates ++ word_bytes t.outputs)

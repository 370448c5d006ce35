-- For contracts inside the library only: no promise of a call cites this.
-- What the parts of a run take and give (document 01, "Tape, encoding, decoding"): the outputs read from the wires.
-- Assumes nothing.
use Rattle.std.specs.Prelude.{List, ℕ, ◌≤◌, ◌<◌, length, get_or}
use Rattle.tables.specs.Tables.{Table, table_of}
use Rattle.tables.specs.Runs.{run, randoms}
use Rattle.tables.specs.Packing.{tape_of}

-- the q output wires that the bytes s state, each with a value in vs, and room for their values in out
pub record OutputsReady (s : List ℕ) (q : ℕ) (vs out : List ℕ) : Type 0 where
  pub wires : (o : ℕ) → o < q → get_or (table_of s).outputs o 0 < length vs
  pub room : q ≤ length out

-- a run with packed random bits
abbrev pub ran_packed : Table → List ℕ → List ℕ → List ℕ
ran_packed t xs rs = run t xs (tape_of (randoms t.gates) rs)

-- For contracts inside the library only: no promise of a call cites this.
-- What running gates takes and gives (document 01, "Tape, encoding, decoding"): a gate's value, and the gates in turn.
-- Assumes nothing.
use Rattle.std.specs.Prelude.{◌≡◌, true, List, ℕ, ◌+◌, ◌≤◌, ◌<◌, length, get_or, take}
use Rattle.run_gates.specs.declared.Drawn as DDrawn
use Rattle.tables.specs.declared.GateFields as DGateFields
use Rattle.tables.specs.declared.Kind as DKind
use Rattle.tables.specs.declared.Kind.TheVariants.{Random, Constant}
use Rattle.tables.specs.Refusals.{passed}
use Rattle.tables.specs.Tables.{RANDOM, kind_of, word, table_of, table_fault}
use Rattle.tables.specs.Kinds.{kind_is}
use Rattle.tables.specs.Runs.{driven, drawn, randoms}
use Rattle.tables.specs.Inside.{Bits}

-- a known kind, two bits, the left one where the kind reads it, and a random bit where the kind takes one; few bits were taken
pub record GateReady (gate : DGateFields.GateFields) (a b : ℕ) (rs : List ℕ) (at : ℕ) : Type 0 where
  pub known : gate.kind ≤ 5
  pub left : (k : DKind.Kind) → kind_is k ≡ kind_of gate.kind → (k ≡ Random → ⊥) → (k ≡ Constant → ⊥) → a ≤ 1
  pub right : b ≤ 1
  pub random : kind_of gate.kind ≡ RANDOM → at < length rs
  pub few : at < 65536

-- the value of a gate whose operands have the values a and b, and the number of the next random bit
pub record GateSays (gate : DGateFields.GateFields) (a b : ℕ) (rs : List ℕ) (at : ℕ) (r : DDrawn.Drawn) : Type 0 where
  pub value :
      (m : ℕ) (v : ℕ → ℕ) → v gate.left ≡ a → v m ≡ b → r.value ≡ driven (kind_of gate.kind) gate.left m v (get_or rs at 0)
  pub next : r.next ≡ at + drawn (kind_of gate.kind)

-- an accepted table s with n inputs and g gates, enough random bits rs, and values vs that begin with the inputs' bits
pub record RunReady (s rs vs : List ℕ) (n g : ℕ) : Type 0 where
  pub accepted : passed (table_fault s) ≡ true
  pub inputs : n ≡ word s 0
  pub random : randoms (table_of s).gates ≤ length rs
  pub random_bits : Bits rs
  pub room : n + g ≤ length vs
  pub input_bits_lem : Bits (take n vs)

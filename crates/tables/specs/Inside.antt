-- For contracts inside the library only: no promise of a call cites this.
-- Assumes nothing.
use Rattle.std.specs.Prelude.{◌≡◌, Result, MatchResult, List, ◌++◌, ℕ, ◌+◌, ◌*◌, ◌≤◌, ◌<◌, length, get_or, take, drop}
use Rattle.tables.specs.declared.GateFields as DGateFields
use Rattle.tables.specs.declared.Refusal as DRefusal
use Rattle.tables.specs.Refusals.{Fault, none}
use Rattle.tables.specs.Refusing.{fault_of}
use Rattle.tables.specs.Tables.{kind_of, Gate, word}
use Rattle.tables.specs.Runs.{run_from}
use Rattle.tables.specs.Says.{over}

-- bits, past the list's end too: "one byte a bit, 0 or 1"
abbrev pub Bits : List ℕ → Type 0
Bits vs = (i : ℕ) → get_or vs i 0 ≤ 1

-- a check passes where there is no fault; a refusal has the fault's number and place
abbrev pub Refused : {A : Type 0} → Fault → Result A DRefusal.Refusal → Type 0
Refused f r = MatchResult r (λ _. f ≡ none) (λ e. f ≡ fault_of e)

-- the same of a check that gives a value where there is no fault, of which P holds
abbrev pub Outcome : {A : Type 0} → Fault → (A → Type 0) → Result A DRefusal.Refusal → Type 0
Outcome f P r = MatchResult r (λ x. (f ≡ none) × P x) (λ e. f ≡ fault_of e)

-- xs at a place of ys
unfoldable pub put_at : ℕ → List ℕ → List ℕ → List ℕ
put_at at xs ys = take at ys ++ (xs ++ drop (at + length xs) ys)

-- g is the number of gates that the bytes s state, and the bytes have them all
pub record HasGates (s : List ℕ) (g : ℕ) : Type 0 where
  pub stated : g ≡ word s 2
  pub long : 6 + 5 * g ≤ length s
  pub few : g ≤ 65535

-- g and q are the numbers of gates and outputs that the bytes s state, and the bytes have them all
pub record HasOutputs (s : List ℕ) (g q : ℕ) : Type 0 where
  pub gates : g ≡ word s 2
  pub outputs : q ≡ word s 4
  pub long : 6 + 5 * g + 2 * q ≤ length s

-- the byte of a kind that a plain table may have
abbrev pub PlainByte : ℕ → Type 0
PlainByte k = (k ≤ 5) × (k ≡ 3 → ⊥)

-- the fields of a gate as they were read
pub record GateIs (g : Gate) (r : DGateFields.GateFields) : Type 0 where
  pub kind : kind_of r.kind ≡ g.kind
  pub left : r.left ≡ g.left
  pub right : r.right ≡ g.right
  pub left_small : r.left < 65536
  pub right_small : r.right < 65536

-- a buffer whose first w bytes are the values of a run so far, once gates have run on with the random bits rs
unfoldable pub ran_on : List Gate → List ℕ → ℕ → List ℕ → List ℕ
ran_on gs rs w b = over (run_from gs rs (take w b)) b

-- the first w bytes of b are the values of a run so far, and there is room for c more
pub record RunsTo (w c : ℕ) (b : List ℕ) : Type 0 where
  pub room : w + c ≤ length b
  pub bits : Bits (take w b)

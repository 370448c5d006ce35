-- For contracts inside the library only: no promise of a call cites this. An array keeps, for every plain wire, where its shares
-- are among the masked wires.
-- Assumes nothing.
use Rattle.std.specs.Prelude.{◌≡◌, false, List, [], ℕ, ◌+◌, ◌*◌, ◌≤◌, ◌<◌, length, get_or, take, set}
use Rattle.tables.specs.Tables.{Gate, is_random, Table, wires, total}
use Rattle.tables.specs.Kinds.{kind_is}
use Rattle.layout.specs.declared.Places as DPlaces
use Rattle.layout.specs.declared.Operands as DOperands
use Rattle.share_places.specs.declared.KeptPlaces as DKeptPlaces
use Rattle.share_places.specs.declared.PlainGate as DPlainGate
use Rattle.construction.specs.Wires.{cost, input_shares, shares_after}
use Rattle.layout.specs.Layout.{share_wires}

-- the places that are kept
abbrev pub places_of : DKeptPlaces.KeptPlaces → DPlaces.Places
places_of k = record { head = k.head; base = k.base; step = k.step }

-- places as they are kept
abbrev pub kept : DPlaces.Places → DKeptPlaces.KeptPlaces
kept a = record { head = a.head; base = a.base; step = a.step }

-- where the array says that the shares of plain wire p are
abbrev pub places_at : List DKeptPlaces.KeptPlaces → ℕ → DPlaces.Places
places_at L p = places_of (get_or L p (record { head = 0; base = 0; step = 0 }))

-- where it says that the shares of two plain wires are
abbrev pub operands_at : List DKeptPlaces.KeptPlaces → ℕ → ℕ → DOperands.Operands
operands_at L l r = record { left = places_at L l; right = places_at L r }

-- a gate of a plain table as it was read
pub record PlainGateIs (g : Gate) (r : DPlainGate.PlainGate) : Type 0 where
  pub kind : kind_is r.kind ≡ g.kind
  pub plain : is_random g.kind ≡ false
  pub left : r.left ≡ g.left
  pub right : r.right ≡ g.right
  pub left_small : r.left < 65536
  pub right_small : r.right < 65536

-- three numbers of 16 bits
pub record Small (a : DPlaces.Places) : Type 0 where
  pub head : a.head < 65536
  pub base : a.base < 65536
  pub step : a.step < 65536

-- the array has room for c plain wires
abbrev pub Room : ℕ → List DKeptPlaces.KeptPlaces → Type 0
Room c L = c ≤ length L

-- the array with the places of plain wire p written
pub record Put (p : ℕ) (a : DPlaces.Places) (L L' : List DKeptPlaces.KeptPlaces) : Type 0 where
  pub written : L' ≡ set L p (kept a)

-- the shares of the plain wires that S lists are where the array says
abbrev pub Holds : ℕ → List (List ℕ) → List DKeptPlaces.KeptPlaces → Type 0
Holds n S L = (q : ℕ) → q < length S → share_wires n (places_at L q) ≡ get_or S q []

-- the array once the plain wires that S lists are noted: nothing else has changed
pub record Noted (n : ℕ) (S : List (List ℕ)) (L L' : List DKeptPlaces.KeptPlaces) : Type 0 where
  pub holds : Holds n S L'
  pub past : (q : ℕ) → length S ≤ q → places_at L' q ≡ places_at L q
  pub room : length L' ≡ length L

-- the wires of the shares of every plain wire before gate g
abbrev pub shares_to : ℕ → Table → ℕ → List (List ℕ)
shares_to n t g = shares_after n (n * t.inputs) (input_shares n t.inputs) (take g t.gates)

-- the wires of the shares of every plain wire
abbrev pub all_shares : ℕ → Table → List (List ℕ)
all_shares n t = shares_after n (n * t.inputs) (input_shares n t.inputs) t.gates

-- the array says where the shares of every plain wire are
pub record Located (t : Table) (n : ℕ) (L : List DKeptPlaces.KeptPlaces) : Type 0 where
  pub room : Room (wires t) L
  pub holds : Holds n (all_shares n t) L

-- the first masked wire of plain gate g
abbrev pub gate_wire : ℕ → Table → ℕ → ℕ
gate_wire n t g = n * t.inputs + total (λ k. cost k n) (take g t.gates)

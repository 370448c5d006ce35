-- For contracts inside the library only: no promise of a call cites this. A plain gate in both runs of the map, and all gates in
-- table order.
-- Assumes nothing.
use Rattle.std.specs.Prelude.{◌≡◌, Bool, cond, List, [], ◌∷◌, map, ℕ, ◌+◌, ◌*◌, ◌≤◌, get_or, take, drop}
use Rattle.tables.specs.Tables.{Kind, NOT, AND, CONSTANT, OR, Gate, gate, Table, total}
use Rattle.construction.specs.Gadgets.{Gadget}
use Rattle.construction.specs.Wires.{driver_of, share, and_shares, new_wires, cost, masked, input_shares}
use Rattle.construction.specs.Counts.{draws}
use Rattle.layout.specs.declared.Operands as DOperands
use Rattle.layout.specs.Layout.{share_wires, and_gates, or_gates}
use Rattle.secrecy.specs.Maps.{gate_flips, map_gates}
use Rattle.secrecy.specs.Both.{BothRan, BothFlip, BothReady}
use Rattle.map_values.specs.Driving.{SharesBefore}

-- an OR or an AND
abbrev pub product_kind : Bool → Kind
product_kind or = cond or OR AND

-- its gates, from wire w on
abbrev pub product_gates : Gadget → Bool → ℕ → ℕ → List ℕ → List ℕ → List Gate
product_gates G or n w a b = cond or (or_gates G n w a b) (and_gates G n w a b)

-- two NOTs
abbrev pub not_gates : ℕ → ℕ → List Gate
not_gates l r = gate NOT l 0 ∷ gate NOT r 0 ∷ []

-- the NOT of share 1 of the result of an AND whose first wire is w
abbrev pub last_gates : ℕ → ℕ → List Gate
last_gates n w = gate NOT (share (and_shares n w) 0) 0 ∷ []

-- a gate, from wire w and from a place of the tape on; a constant reads no shares, and its left operand is a bit
pub record StepReady (kind : Kind) (left n w : ℕ) (o : DOperands.Operands) (ts : List ℕ) (at : ℕ) (m x y : List ℕ) : Type 0 where
  pub value : kind ≡ CONSTANT → left ≤ 1
  pub some : 1 ≤ n
  pub shares : (kind ≡ CONSTANT → ⊥) → SharesBefore n w o.left o.right
  pub wires : w + cost kind n ≤ 65535
  pub both : BothReady w (cost kind n) at (draws kind n) ts m x y

-- plain gate g has run on in both runs, and what it flips is read off the values x and y so far
abbrev pub GateRan :
    Gadget → Kind → ℕ → ℕ → ℕ → ℕ → ℕ → DOperands.Operands → List ℕ → ℕ
    → List ℕ → List ℕ → List ℕ → List ℕ → List ℕ → List ℕ → Type 0
GateRan G kind left n k g w o ts at m m' x x' y y' =
    BothFlip
    (map driver_of (new_wires G kind left n g w (share_wires n o.left) (share_wires n o.right)))
    (gate_flips G kind n k (share_wires n o.left) (share_wires n o.right) (λ p. get_or x p 0) (λ p. get_or y p 0))
    ts at w m m' x x' y y'

-- all gates, from a place of the tape on
abbrev pub GatesReady : ℕ → Table → List ℕ → ℕ → List ℕ → List ℕ → List ℕ → Type 0
GatesReady n t ts at m x y =
    BothReady (n * t.inputs) (total (λ kd. cost kd n) t.gates) at (total (λ kd. draws kd n) t.gates) ts m x y

-- all gates have run on in both runs, from the values x and y of the inputs' shares, whatever these are: the second run's random
-- bits are the map's
abbrev pub GatesRan :
    Gadget → ℕ → ℕ → Table → List ℕ → ℕ → List ℕ → List ℕ → List ℕ → List ℕ → List ℕ → List ℕ → Type 0
GatesRan G n k t ts at m m' x x' y y' =
    let w = n * t.inputs in
    let S = input_shares n t.inputs in
    let rs = take (total (λ kd. draws kd n) t.gates) (drop at ts) in
    BothRan (map driver_of (masked G n 0 w S t.gates)) rs (map_gates G n k 0 w S t.gates rs (take w x) (take w y)) at w
    m m' x x' y y'

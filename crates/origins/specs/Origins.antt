-- For contracts inside the library only: no promise of a call cites this. Where a wire of the masked table comes from, as the code
-- answers it: the pair of shares at a place, the part of an AND that
-- is one of its wires, and the share numbers that an origin carries.
-- Assumes nothing.
use Rattle.std.specs.Prelude.{◌≡◌, List, [], ◌∷◌, map, ℕ, zero, suc, ◌<◌, get_or, Option, Some, None}
use Rattle.construction.specs.declared.SharePair as DSharePair
use Rattle.construction.specs.declared.Carried as DCarried
use Rattle.origins.specs.declared.NewWire as DNewWire
use Rattle.tables.specs.Tables.{Kind, Table}
use Rattle.tables.specs.Kinds.{kind_is}
use Rattle.origins.specs.declared.AndPart as DAndPart
use Rattle.origins.specs.declared.AndPart.TheVariants.{Pair, Own, Sum}
use Rattle.construction.specs.Shares.{shares_of, pair_of, pairs}
use Rattle.construction.specs.Gadgets.{Five, first, second, third, fourth, fifth, Gadget}
use Rattle.construction.specs.Wires.{Part, pair, own, sum, Origin, origin_of, origin_at, part_marks, marks, and_wires, new_wires, cost, origins}

-- the pair at place q among the pairs of n shares
pub record PairSays (n q : ℕ) (r : DSharePair.SharePair) : Type 0 where
  pub is : pair_of r.lower r.upper ≡ get_or (pairs n) q (pair_of 0 0)
  pub ordered : r.lower < r.upper
  pub inside : r.upper < n

-- the wires of a pair, by number from 0
abbrev pub five_of : ℕ → Five
five_of zero = first
five_of (suc zero) = second
five_of (suc (suc zero)) = third
five_of (suc (suc (suc zero))) = fourth
five_of (suc (suc (suc (suc k)))) = fifth

-- the part that an answer names
abbrev pub part_of : DAndPart.AndPart → Part
part_of (Pair f i j) = pair (five_of f) i j
part_of (Own i) = own i
part_of (Sum i m) = sum i m

-- its wire is one of five, its shares and rows are among n
abbrev pub Among : ℕ → DAndPart.AndPart → Type 0
Among n (Pair f i j) = (f < 5) × (i < j) × (j < n)
Among n (Own i) = i < n
Among n (Sum i m) = (i < n) × (m < n)

-- wire d of a masked AND of n shares, whichever AND it is, inside an OR too
pub record PartSays (n d : ℕ) (r : DAndPart.AndPart) : Type 0 where
  pub origin :
      (G : Gadget) (part : Part → Origin) (w : ℕ) (a b : List ℕ)
      → origin_at (map origin_of (and_wires G n part w a b)) d ≡ part (part_of r)
  pub among : Among n r

-- the second number of a list, where it has one
abbrev pub second_in : List ℕ → Option ℕ
second_in [] = None
second_in (a ∷ []) = None
second_in (a ∷ b ∷ ms) = Some b

-- the share numbers ms: the first, and the second where there is one
pub record CarriedSays (ms : List ℕ) (r : DCarried.Carried) : Type 0 where
  pub first : r.first ≡ get_or ms 0 0
  pub second : r.second ≡ second_in ms

-- those of a part of an AND, inside an OR too, by the marks of H
pub record PartMarksSay (H : Gadget) (p : DAndPart.AndPart) (r : DCarried.Carried) : Type 0 where
  pub carried : CarriedSays (part_marks H (part_of p)) r

-- those of new wire d of a plain gate, whichever gate it is, and whichever AND masks it
pub record GateMarksSay (H : Gadget) (k : Kind) (n d : ℕ) (r : DCarried.Carried) : Type 0 where
  pub carried :
      (G : Gadget) (l g w : ℕ) (a b : List ℕ)
      → CarriedSays (marks H (origin_at (map origin_of (new_wires G k l n g w a b)) d)) r

-- the plain gate that a wire past the input shares is a new wire of, and which of them, where the gate's first new wire is
-- `start`, its left operand is `operand`, and its operands' shares are on the wires `left` and `right`
pub record NewWireSays (G : Gadget) (t : Table) (o wire : ℕ) (r : DNewWire.NewWire) : Type 0 where
  pub start : ℕ
  pub operand : ℕ
  pub left : List ℕ
  pub right : List ℕ
  pub below : r.place < cost (kind_is r.kind) (shares_of o)
  pub origin :
      origin_at (origins G o t) wire
      ≡ origin_at (map origin_of (new_wires G (kind_is r.kind) operand (shares_of o) r.gate start left right)) r.place

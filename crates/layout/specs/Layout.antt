-- For contracts inside the library only: no promise of a call cites this. How the code keeps the wires of a plain wire's
-- shares, the new wires of a plain gate as gates in pieces one after another, as the loops go over them, and their operands' bytes.
-- Assumes nothing.
use Rattle.std.specs.Prelude.{◌≡◌, cond, List, [], ◌∷◌, ◌++◌, map, ℕ, zero, suc, ◌+◌, ◌-◌, ◌*◌, ◌<◌, ◌≤◌, eqb}
use Rattle.tables.specs.Tables.{NOT, XOR, AND, CONSTANT, Gate, gate, pair_bytes}
use Rattle.layout.specs.declared.Places as DPlaces
use Rattle.layout.specs.declared.Operands as DOperands
use Rattle.layout.specs.declared.PairShares as DPairShares
use Rattle.construction.specs.declared.SharePair as DSharePair
use Rattle.construction.specs.Shares.{up_from, in_turn, Pair, pairs, tri, pair_at}
use Rattle.construction.specs.Gadgets.{all_five, Gadget}
use Rattle.construction.specs.Wires.{Wire, driver_of, share, first_on, pair_wire, and_shares}

-- share 1 on wire head, share s on wire base + (s − 2)·step
abbrev pub share_wires : ℕ → DPlaces.Places → List ℕ
share_wires n a = a.head ∷ up_from (n - 1) 0 (λ s. a.base + s * a.step)

-- the wires of n shares are below 65,536
abbrev pub LowShares : ℕ → DPlaces.Places → Type 0
LowShares n a = (i : ℕ) → i < n → share (share_wires n a) i < 65536

-- the operands of wires, as bytes
abbrev pub operand_bytes : List Wire → List ℕ
operand_bytes xs = pair_bytes (map driver_of xs)

-- c pieces one after another, the first being the piece s
unfoldable pub pieces_from : {A : Type 0} → ℕ → ℕ → (ℕ → List A) → List A
pieces_from zero s f = []
pieces_from (suc c) s f = f s ++ pieces_from c (suc s) f

-- the five gates of a pair, from wire w on
abbrev pub pair_gates : Gadget → List ℕ → List ℕ → ℕ → Pair → List Gate
pair_gates G a b w p =
    let i = p.lower in
    let j = p.upper in
    map (G.gates w (share a i) (share b j) (share a j) (share b i)) all_five

-- sum number c of a running sum: it adds a wire to the wire before it
abbrev pub sum_gates : ℕ → (ℕ → ℕ) → ℕ → List Gate
sum_gates last z c = gate XOR (last + c) (z c) ∷ []

-- row i's first sums, which add one wire each of the pairs (j, i), j rising
abbrev pub high_gates : Gadget → ℕ → ℕ → ℕ → ℕ → List Gate
high_gates G n w last i = pieces_from i 0 (sum_gates last (λ j. pair_wire w G.high (pair_at n j i)))

-- m sums that add one wire each of pairs that follow one another, from wire z on
abbrev pub low_gates : Gadget → ℕ → ℕ → ℕ → List Gate
low_gates G z last m = pieces_from m 0 (sum_gates last (pair_wire z G.low))

-- row i from wire v on: its own product, the sums of the pairs (j, i), those of the pairs (i, j)
abbrev pub row_gates : Gadget → ℕ → ℕ → ℕ → List ℕ → List ℕ → ℕ → List Gate
row_gates G n w v a b i =
    gate AND (share a i) (share b i)
    ∷ (high_gates G n w v i
    ++ pieces_from (n - suc i) 0 (sum_gates (v + i) (λ j. pair_wire w G.low (pair_at n i (suc i + j)))))

-- all rows, from wire v on
abbrev pub rows_gates : Gadget → ℕ → ℕ → ℕ → List ℕ → List ℕ → List Gate
rows_gates G n w v a b = pieces_from n 0 (λ i. row_gates G n w (v + n * i) a b i)

-- one share of an XOR
abbrev pub xor_gates : List ℕ → List ℕ → ℕ → List Gate
xor_gates a b s = gate XOR (share a s) (share b s) ∷ []

-- one share of a constant of value l
abbrev pub constant_gates : ℕ → ℕ → List Gate
constant_gates l s = gate CONSTANT (cond (eqb s 0) l 0) 0 ∷ []

-- an AND, from wire w on: the pairs, then the rows
abbrev pub and_gates : Gadget → ℕ → ℕ → List ℕ → List ℕ → List Gate
and_gates G n w a b = in_turn 5 w (pairs n) (pair_gates G a b) ++ rows_gates G n w (w + 5 * tri n) a b

-- an OR, from wire w on: two NOTs, the AND, and the NOT of its result's share 1
abbrev pub or_gates : Gadget → ℕ → ℕ → List ℕ → List ℕ → List Gate
or_gates G n w a b =
    gate NOT (share a 0) 0
    ∷ gate NOT (share b 0) 0
    ∷ (and_gates G n (suc (suc w)) (first_on w a) (first_on (suc w) b)
    ++ (gate NOT (share (and_shares n (suc (suc w))) 0) 0 ∷ []))

-- the wires of both operands' n shares are below 65,536
pub record ReadsShares (n : ℕ) (o : DOperands.Operands) : Type 0 where
  pub few : n ≤ 31
  pub left : LowShares n o.left
  pub right : LowShares n o.right

-- the wires that the products of a pair of shares read, where the operands' shares are on the wires a and b
pub record PairReads (a b : List ℕ) (p : DSharePair.SharePair) (x : DPairShares.PairShares) : Type 0 where
  pub ai : x.ai ≡ share a p.lower
  pub bj : x.bj ≡ share b p.upper
  pub aj : x.aj ≡ share a p.upper
  pub bi : x.bi ≡ share b p.lower

-- they are below 65,536
pub record LowPair (x : DPairShares.PairShares) : Type 0 where
  pub ai : x.ai < 65536
  pub bj : x.bj < 65536
  pub aj : x.aj < 65536
  pub bi : x.bi < 65536

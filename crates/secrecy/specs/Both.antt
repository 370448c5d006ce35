-- For contracts inside the library only: no promise of a call cites this.
-- Both runs of the map going on together (document 01, "Marks and the mapped tape"), from whatever values they have so far: gates
-- run on in both, the first run takes its random bits from the tape, the second the same with some flipped. The mapped tape
-- begins as the tape, and where the two differ it is flipped.
-- Assumes nothing.
use Rattle.std.specs.Prelude.{◌≡◌, List, ℕ, ◌+◌, ◌≤◌, ◌<◌, length, take, drop}
use Rattle.tables.specs.Tables.{Gate}
use Rattle.tables.specs.Inside.{Bits, put_at, ran_on, RunsTo}
use Rattle.construction.specs.Shares.{Pair}
use Rattle.construction.specs.Gadgets.{Gadget}
use Rattle.secrecy.specs.Maps.{flipped, pair_flip, values_of}

-- as many bits of a tape, from a place on, as there are flips
abbrev pub bits_for : List ℕ → ℕ → List ℕ → List ℕ
bits_for fs at ts = take (length fs) (drop at ts)

-- a tape with some bits flipped from a place on
unfoldable pub flips_at : ℕ → List ℕ → List ℕ → List ℕ
flips_at at fs ts = put_at at (flipped (bits_for fs at ts) fs) ts

-- what one pair flips, by the wires of the shares that the AND multiplies, in the runs v and u
abbrev pub wires_flip : Gadget → ℕ → List ℕ → List ℕ → (ℕ → ℕ) → (ℕ → ℕ) → Pair → ℕ
wires_flip G k a b v u = pair_flip G k (values_of v a) (values_of v b) (values_of u a) (values_of u b)

-- the gates run on from wire w on, with the random bits rs in the first run and ss in the second; the bits m of the mapped tape,
-- and the values a and b of both runs so far, become m', a' and b'
pub record BothRan (gs : List Gate) (rs ss : List ℕ) (at w : ℕ) (m m' a a' b b' : List ℕ) : Type 0 where
  pub mapped : m' ≡ flips_at at (flipped rs ss) m
  pub one : a' ≡ ran_on gs rs w a
  pub other : b' ≡ ran_on gs ss w b

-- the second run's random bits are the first's with the flips fs
abbrev pub BothFlip :
    List Gate → List ℕ → List ℕ → ℕ → ℕ → List ℕ → List ℕ → List ℕ → List ℕ → List ℕ → List ℕ → Type 0
BothFlip gs fs ts at w m m' a a' b b' =
    BothRan gs (bits_for fs at ts) (flipped (bits_for fs at ts) fs) at w m m' a a' b b'

-- both runs have w values so far and room for c more; the tape ts and the mapped tape m have d bits from a place on, and the
-- number of a bit fits in 32 bits
pub record BothReady (w c at d : ℕ) (ts m a b : List ℕ) : Type 0 where
  pub one : RunsTo w c a
  pub other : RunsTo w c b
  pub tape : at + d ≤ length ts
  pub room : at + d ≤ length m
  pub few : at + d < 4294967296
  pub bits : Bits ts

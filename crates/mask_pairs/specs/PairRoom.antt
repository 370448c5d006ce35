-- For contracts inside the library only: no promise of a call cites this. What writing the operands of a pair's five wires takes, and
-- pairs by their numbers.
-- Assumes nothing.
use Rattle.std.specs.Prelude.{◌≡◌, List, ℕ, ◌+◌, ◌≤◌, ◌<◌, length}
use Rattle.construction.specs.Shares.{pair_at}
use Rattle.construction.specs.declared.SharePair as DSharePair
use Rattle.layout.specs.declared.PairShares as DPairShares
use Rattle.layout.specs.Layout.{LowPair}

-- what writing the operands of a pair's five wires takes
pub record PairRoom (w : ℕ) (x : DPairShares.PairShares) (at : ℕ) (ops : List ℕ) : Type 0 where
  pub wires : w + 5 ≤ 65536
  pub low : LowPair x
  pub room : at + 20 ≤ length ops

-- a pair of shares i < j is number c of the pairs of n shares
pub record PairNo (n c : ℕ) (p : DSharePair.SharePair) : Type 0 where
  pub rising : p.lower < p.upper
  pub inside : p.upper < n
  pub place : c ≡ pair_at n p.lower p.upper

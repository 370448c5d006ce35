-- For contracts inside the library only: no promise of a call cites this. What it takes to run the new wires of a plain gate on.
-- Assumes nothing.
use Rattle.std.specs.Prelude.{ℕ, ◌≤◌, ◌<◌}
use Rattle.layout.specs.declared.Places as DPlaces
use Rattle.construction.specs.Wires.{share}
use Rattle.layout.specs.Layout.{share_wires}

-- the wires of both operands' n shares come before wire w
pub record SharesBefore (n w : ℕ) (a b : DPlaces.Places) : Type 0 where
  pub few : n ≤ 31
  pub low : w ≤ 65535
  pub left : (i : ℕ) → i < n → share (share_wires n a) i < w
  pub right : (i : ℕ) → i < n → share (share_wires n b) i < w

-- For contracts inside the library only: no promise of a call cites this.
-- The share numbers that probes carry, as the code keeps them: a flag for each.
-- Assumes nothing.
use Rattle.std.specs.Prelude.{◌≡◌, Bool, false, List, ℕ, ◌≤◌, ◌<◌, length, get_or}
use Rattle.construction.specs.Gadgets.{is_in}

-- set at each number from 1 on that is in the list cs, and at no other; the flag of 0 says nothing
pub record Seen (cs : List ℕ) (seen : List Bool) : Type 0 where
  pub long : length seen ≡ 256
  pub marked : (i : ℕ) → 1 ≤ i → i < 256 → get_or seen i false ≡ is_in i cs

-- Shares that stand before the next wire can be read.
-- Assumes nothing.
use mathlib.Core.Path.{◌≡◌}
use Prim.Native.Nat.{ℕ, suc, ◌≤◌, ◌<◌}
use native.Mathlib.Omega.{arith}
use Rattle.layout.specs.declared.Places as DPlaces
use Rattle.construction.specs.Wires.{share}
use Rattle.layout.specs.Layout.{share_wires}
use Rattle.layout.proofs.ShareWires.{share_low}
use Rattle.map_values.specs.Driving.{SharesBefore}

module _ {n w : ℕ} {a b : DPlaces.Places} (B : SharesBefore n w a b) {i : ℕ} (h : i < n) where
  pub left_low : share (share_wires (suc i) a) i < 65536
  left_low = share_low n i a (λ j k. omega (arith, B.left j k, B.low)) h

  pub right_low : share (share_wires (suc i) b) i < 65536
  right_low = share_low n i b (λ j k. omega (arith, B.right j k, B.low)) h

  -- a wire that was found
  pub left_before : {x : ℕ} → x ≡ share (share_wires n a) i → x < w
  left_before e = omega (arith, B.left i h)

  pub right_before : {x : ℕ} → x ≡ share (share_wires n b) i → x < w
  right_before e = omega (arith, B.right i h)

-- they come before every later wire too
pub before_later :
    {n w : ℕ} {a b : DPlaces.Places} (v : ℕ) → SharesBefore n w a b → w ≤ v → v ≤ 65535 → SharesBefore n v a b
before_later v B h k =
    record {
      few = B.few;
      low = k;
      left = λ i l. omega (arith, B.left i l);
      right = λ i l. omega (arith, B.right i l);
    }

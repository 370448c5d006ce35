-- The wires of shares as the code keeps them: a share's wire does not depend on how many shares are listed.
-- Assumes nothing.
use mathlib.Core.Path.{◌≡◌, refl, sym, ap, ◌∙◌, subst}
use mathlib.Core.List.{List}
use Prim.Native.Nat.{ℕ, zero, suc, ◌+◌, ◌-◌, ◌*◌, ◌≤◌, ◌<◌}
use native.Mathlib.Omega.{arith}
use Rattle.layout.specs.declared.Places as DPlaces
use Rattle.construction.specs.Wires.{share, first_on}
use Rattle.layout.specs.Layout.{share_wires, LowShares}
use Rattle.construction.proofs.Sum.{up_at}

pub shares_first : (n i : ℕ) (a : DPlaces.Places) → i ≡ 0 → share (share_wires n a) i ≡ a.head
shares_first n i a e = rw e refl

pub shares_later :
    (n i : ℕ) (a : DPlaces.Places) → 1 ≤ i → i < n → share (share_wires n a) i ≡ a.base + (i - 1) * a.step
shares_later n zero a h k = absurd (omega arith)
shares_later n (suc i) a h k =
    up_at (n - 1) 0 (λ s. a.base + s * a.step) i 0 (omega arith)
    ∙ ap (λ (s : ℕ). a.base + s * a.step) {x = 0 + i} {y = suc i - 1} (omega arith)

shares_same :
    (m n i : ℕ) (a : DPlaces.Places) → i < m → i < n → share (share_wires m a) i ≡ share (share_wires n a) i
shares_same m n zero a h k = refl
shares_same m n (suc i) a h k =
    shares_later m (suc i) a (omega arith) h ∙ sym (shares_later n (suc i) a (omega arith) k)

pub share_low : (n i : ℕ) (a : DPlaces.Places) → LowShares n a → i < n → share (share_wires (suc i) a) i < 65536
share_low n i a low h = subst (λ (w : ℕ). w < 65536) (shares_same n (suc i) i a h (omega arith)) (low i h)

-- what holds of a wire and of all shares holds of the shares of which the first is on that wire
pub first_each :
    (P : ℕ → Type 0) (n w : ℕ) (a r : DPlaces.Places) → share_wires n r ≡ first_on w (share_wires n a) → P w
    → ((i : ℕ) → i < n → P (share (share_wires n a) i)) → (i : ℕ) → i < n → P (share (share_wires n r) i)
first_each P n w a r e h all zero k = subst (λ (l : List ℕ). P (share l 0)) (sym e) h
first_each P n w a r e h all (suc i) k = subst (λ (l : List ℕ). P (share l (suc i))) (sym e) (all (suc i) k)

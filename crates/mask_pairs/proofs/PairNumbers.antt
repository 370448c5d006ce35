-- Pairs by their numbers, as the loop over pairs counts them.
-- Assumes nothing.
use mathlib.Core.Path.{◌≡◌, refl, subst}
use mathlib.Core.List.{List, map}
use Prim.Native.Nat.{ℕ, zero, suc, ◌+◌, ◌-◌, ◌≤◌, ◌<◌}
use native.Mathlib.Omega.{arith}
use Rattle.construction.specs.Shares.{pair_of, tri, pair_at}
use Rattle.construction.specs.Gadgets.{Gadget, all_five}
use Rattle.construction.proofs.Rows.{pair_at_lem, tri_closed, pair_closed}
use Rattle.layout.specs.Layout.{pair_gates, PairReads}
use Rattle.layout.specs.declared.PairShares as DPairShares
use Rattle.layout.proofs.Pieces.{pair_number}
use Rattle.construction.specs.declared.SharePair as DSharePair
use Rattle.mask_pairs.specs.PairRoom.{PairNo}

-- a pair's gates from the wires that are its operands
pub pair_piece :
    {x : DPairShares.PairShares} {n c : ℕ} {p : DSharePair.SharePair} (G : Gadget) (w : ℕ) (a b : List ℕ) → PairNo n c p → PairReads a b p x
    → map (G.gates w x.ai x.bj x.aj x.bi) all_five ≡ pair_gates G a b w (pair_number n c)
pair_piece {n = n} {c = c} {p = p} G w a b P R =
    let d = pair_of 0 0 in
    let here : pair_number n c ≡ pair_of p.lower p.upper = rw P.place (pair_at_lem n p.lower p.upper d P.rising P.inside).1 in
    rw (here, R.ai, R.bj, R.aj, R.bi) refl

-- the pairs one after another: those of share i, then those of the next share
pub pair_first : (n : ℕ) → 0 < tri n → PairNo n 0 (record { lower = 0; upper = 1 })
unfolding tri pair_at
pair_first zero h = absurd (omega arith)
pair_first (suc zero) h = absurd (omega arith)
pair_first (suc (suc n)) h = record { rising = omega arith; inside = omega arith; place = refl }

pub pair_next :
    {n c : ℕ} {p : DSharePair.SharePair} → PairNo n c p → p.upper + 1 < n
    → PairNo n (suc c) (record { lower = p.lower; upper = p.upper + 1 })
pair_next {n} {c} {p} P h = record {
  rising = omega (arith, P.rising);
  inside = h;
  place =
      omega (
        arith,
        P.place,
        pair_closed n p.lower p.upper P.rising P.inside,
        pair_closed n p.lower (p.upper + 1) (omega (arith, P.rising)) h,
      );
}

last_pair : (i : ℕ) → suc (pair_at (i + 2) i (i + 1)) ≡ tri (i + 2)
last_pair i = omega (arith, pair_closed (i + 2) i (i + 1) (omega arith) (omega arith), tri_closed (i + 2))

pub pair_turn :
    {n c : ℕ} {p : DSharePair.SharePair} → PairNo n c p → n ≤ p.upper + 1 → suc c < tri n
    → PairNo n (suc c) (record { lower = p.lower + 1; upper = p.lower + 2 })
pair_turn {n} {c} {p} P h more =
    let i = p.lower in
    let upper : p.upper ≡ n - 1 = omega (arith, P.inside) in
    let room : n ≤ i + 2 → ⊥ = λ k.
    let e : n ≡ i + 2 = omega (arith, P.rising, P.inside) in
    let f : p.upper ≡ i + 1 = omega (arith, e) in
    let place : c ≡ pair_at (i + 2) i (i + 1) = subst (λ (x : ℕ). c ≡ pair_at x i (i + 1)) e (subst (λ (x : ℕ). c ≡ pair_at n i x) f
    P.place) in
    let less : suc c < tri (i + 2) = subst (λ (x : ℕ). suc c < tri x) e more in
    omega (arith, last_pair i, place, less) in
    record {
      rising = omega arith;
      inside = omega (arith, room);
      place =
          omega (
            arith,
            P.place,
            upper,
            pair_closed n i p.upper P.rising P.inside,
            pair_closed n (i + 1) (i + 2) (omega arith) (omega (arith, room)),
          );
    }

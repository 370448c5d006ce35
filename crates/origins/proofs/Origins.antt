-- Which part of an AND one of its wires is, by its place, as the code answers it.
-- Assumes nothing.
use mathlib.Core.Path.{◌≡◌, refl, sym, ap, ◌∙◌}
use Prim.Native.Nat.{ℕ, zero, suc, ◌+◌, ◌-◌, ◌*◌, ◌/◌, ◌%◌, ◌≤◌, ◌<◌}
use native.Mathlib.Nat.{mod-lt, div-add-mod, div-lt_iff_lt-mul}
use native.Mathlib.Omega.{arith}
use Rattle.tables.specs.Tables.{AND}
use Rattle.construction.specs.declared.SharePair as DSharePair
use Rattle.origins.specs.declared.AndPart.TheVariants.{Pair, Own, Sum}
use Rattle.construction.specs.Shares as Shares
use Rattle.construction.specs.Shares.{tri}
use Rattle.construction.specs.Gadgets.{index_of}
use Rattle.construction.specs.Wires.{pair, cost}
use Rattle.origins.specs.Origins.{PairSays, five_of, PartSays}
use Rattle.construction.proofs.Origins.{pair_origin, own_origin, sum_origin}

five_index : (f : ℕ) → f < 5 → f ≡ index_of (five_of f)
five_index zero h = refl
five_index (suc zero) h = refl
five_index (suc (suc zero)) h = refl
five_index (suc (suc (suc zero))) h = refl
five_index (suc (suc (suc (suc k)))) h = omega arith

-- wire d of an AND, before its rows
pub pair_says :
    (n d c : ℕ) {p : DSharePair.SharePair} → c ≡ tri n → d < 5 * c → PairSays n (d / 5) p
    → PartSays n d (Pair (d % 5) p.lower p.upper)
pair_says n d c {p} e h P =
    record {
      origin =
          λ G part w a b.
          pair_origin G n part w a b (five_of (d % 5)) (d / 5) d (omega arith) (omega (arith, five_index (d % 5) (omega arith)))
          ∙ ap (λ (y : Shares.Pair). part (pair (five_of (d % 5)) y.lower y.upper)) (sym P.is);
      among = (omega arith, P.ordered, P.inside);
    }

some_square : (n x : ℕ) → x < n * n → 0 < n
some_square zero x h = absurd (omega arith)
some_square (suc n) x h = omega arith

-- wire d of an AND, in its rows
module _ (n d c : ℕ) (e : c ≡ tri n) (past : 5 * c ≤ d) (h : d < cost AND n) where
  pub row_some : 0 < n
  row_some = some_square n (d - 5 * c) (omega arith)

  pub row_below : (d - 5 * c) / n < n
  row_below = (div-lt_iff_lt-mul row_some).1 (omega arith)

  pub terms_below : (d - 5 * c) % n < n
  terms_below = mod-lt _ row_some

  row_split : d ≡ 5 * tri n + n * ((d - 5 * c) / n) + (d - 5 * c) % n
  row_split = omega (arith, div-add-mod (d - 5 * c) n)

  pub own_says : (d - 5 * c) % n ≡ 0 → PartSays n d (Own ((d - 5 * c) / n))
  own_says z =
      record {
        origin = λ G part w a b. own_origin G n part w a b _ d row_below (omega (arith, row_split));
        among = row_below;
      }

  pub sum_says : ((d - 5 * c) % n ≡ 0 → ⊥) → PartSays n d (Sum ((d - 5 * c) / n) ((d - 5 * c) % n))
  sum_says z =
      record {
        origin =
            λ G part w a b. sum_origin G n part w a b _ _ d row_below (omega arith) terms_below row_split;
        among = (row_below, terms_below);
      }

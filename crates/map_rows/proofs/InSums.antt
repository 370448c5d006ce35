-- The sums of a row in one run, as the loops run them on: the value of the last one is at hand.
-- Assumes nothing.
use mathlib.Core.Path.{◌≡◌, refl, ap, ◌∙◌}
use mathlib.Core.List.{List, [], ◌∷◌}
use Prim.Native.Nat.{ℕ, ◌+◌, ◌≤◌, ◌<◌}
use native.Mathlib.Omega.{arith}
use lib.Bits.{bit_xor}
use lib.ListN.{get_or, set}
use Rattle.tables.specs.Tables.{XOR, Gate, gate}
use Rattle.tables.specs.Inside.{ran_on, RunsTo}
use Rattle.tables.proofs.Ran.{runs_less}
use Rattle.layout.specs.Layout.{pieces_from, sum_gates}
use Rattle.map_values.proofs.Gates.{xor_ran}
use Rattle.map_values.proofs.InPieces.{InPieces, pieces_start, pieces_room, pieces_turn, pieces_end, xor_none}

-- one sum, by the value that the code sets
pub sum_ran :
    (last l r : ℕ) (b : List ℕ) → RunsTo (last + 1) 1 b → r ≤ last → l ≡ get_or b last 0
    → set b (last + 1) (bit_xor l (get_or b r 0)) ≡ ran_on (gate XOR last r ∷ []) [] (last + 1) b
sum_ran last l r b R h e = rw e (xor_ran (last + 1) last r b R (omega arith) (omega arith))

-- of m sums c have run on, and x is the value of the wire that the next one reads
pub record InSums (last m : ℕ) (z : ℕ → ℕ) (b₀ : List ℕ) (x c : ℕ) (b : List ℕ) : Type 0 where
  pub sums : InPieces 1 (last + 1) m (sum_gates last z) b₀ (last + c + 1) c b
  pub value : x ≡ get_or b (last + c) 0

pub sums_start :
    (last m : ℕ) (z : ℕ → ℕ) (b : List ℕ) {x : ℕ} → RunsTo (last + 1) m b → x ≡ get_or b last 0 → InSums last m z b x 0 b
sums_start last m z b R e =
    record {
      sums = pieces_start 1 _ m _ b (omega arith) (runs_less _ R (omega arith));
      value = e ∙ ap (λ (p : ℕ). get_or b p 0) {x = last} {y = last + 0} (omega arith);
    }

module _ {last m : ℕ} {z : ℕ → ℕ} {b₀ : List ℕ} {x c : ℕ} {b : List ℕ} (P : InSums last m z b₀ x c b) where
  -- the next sum has room
  pub sums_room : c < m → RunsTo (last + c + 1) 1 b
  sums_room h = pieces_room P.sums h

  pub sums_turn :
      {x' added : ℕ} (b' : List ℕ) → c < m → added ≡ z c
      → (b' ≡ ran_on (gate XOR (last + c) added ∷ []) [] (last + c + 1) b) × (x' ≡ get_or b' (last + c + 1) 0)
      → InSums last m z b₀ x' (c + 1) b'
  sums_turn b' h e ran =
      let piece = ap {A = ℕ} {B = List Gate} (λ v. gate XOR (last + c) v ∷ []) e in
      record {
        sums = pieces_turn P.sums b' h refl (xor_none _ _) piece ran.0 (omega arith);
        value = ran.1 ∙ ap (λ (p : ℕ). get_or b' p 0) {x = last + c + 1} {y = last + (c + 1)} (omega arith);
      }

  pub sums_end : m ≤ c → b ≡ ran_on (pieces_from m 0 (sum_gates last z)) [] (last + 1) b₀
  sums_end h = pieces_end P.sums h

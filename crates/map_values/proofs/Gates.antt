-- One gate that runs on, by the value that the code sets: values so far are bits.
-- Assumes nothing.
use mathlib.Core.Path.{◌≡◌, sym, ap, ◌∙◌}
use mathlib.Core.List.{List, [], ◌∷◌}
use Prim.Native.Nat.{ℕ, ◌-◌, ◌<◌}
use native.Mathlib.Omega.{arith}
use lib.Bits.{bit_xor, bit_and}
use lib.ListN.{get_or, set}
use Rattle.tables.specs.Tables.{NOT, XOR, AND, RANDOM, gate}
use Rattle.tables.specs.Inside.{ran_on, RunsTo}
use Rattle.tables.proofs.Run.{bit_xor_lem, bit_and_lem}
use Rattle.tables.proofs.Ran.{ran_one, runs_bit}

pub random_ran : (w bit : ℕ) (b : List ℕ) → RunsTo w 1 b → set b w bit ≡ ran_on (gate RANDOM 0 0 ∷ []) (bit ∷ []) w b
random_ran w bit b R = sym (ran_one RANDOM 0 0 (bit ∷ []) w b (omega (arith, R.room)) tt)

pub not_ran : (w l : ℕ) (b : List ℕ) → RunsTo w 1 b → l < w → set b w (1 - get_or b l 0) ≡ ran_on (gate NOT l 0 ∷ []) [] w b
not_ran w l b R h = sym (ran_one NOT l 0 [] w b (omega (arith, R.room)) h)

module _ (w l r : ℕ) (b : List ℕ) (R : RunsTo w 1 b) (h : l < w) (k : r < w) where
  pub xor_ran : set b w (bit_xor (get_or b l 0) (get_or b r 0)) ≡ ran_on (gate XOR l r ∷ []) [] w b
  xor_ran =
      ap (set b w) (bit_xor_lem _ _ (runs_bit R l h) (runs_bit R r k)) ∙ sym (ran_one XOR l r [] w b (omega (arith, R.room)) (h, k))

  pub and_ran : set b w (bit_and (get_or b l 0) (get_or b r 0)) ≡ ran_on (gate AND l r ∷ []) [] w b
  and_ran =
      ap (set b w) (bit_and_lem _ _ (runs_bit R l h) (runs_bit R r k)) ∙ sym (ran_one AND l r [] w b (omega (arith, R.room)) (h, k))

-- Bits or shares of the inputs flipped in turn: what is left between two inputs.
-- Assumes nothing.
use mathlib.Core.Path.{◌≡◌, refl, sym, ap, ap₂, ◌∙◌}
use mathlib.Core.List.{List, [], ◌∷◌, ◌++◌}
use Prim.Native.Nat.{ℕ, suc, ◌+◌, ◌-◌, ◌*◌, ◌≤◌, ◌<◌}
use native.Mathlib.Nat.{mul-le-mul_left}
use native.Mathlib.Numerals.{add-one}
use native.Mathlib.Omega.{arith}
use lib.Bits.{bit_xor}
use lib.ListN.{length, get_or, take, drop, set, length-append, length-set, drop_of_length-le}
use lib.Seq.{drop-cons, get_or-take}
use Rattle.tables.specs.Runs.{xor}
use Rattle.tables.specs.Inside.{Bits}
use Rattle.tables.proofs.Run.{bit_xor_lem}
use Rattle.construction.specs.Shares.{up_from}
use Rattle.construction.proofs.Sum.{up_length}
use Rattle.secrecy.specs.Maps.{each_flip}
use Rattle.secrecy.specs.Both.{flips_at}
use Rattle.secrecy.proofs.Inputs.{only_at, only_before, zero_append}
use Rattle.secrecy.proofs.FlipsAt.{flips_at_nil, flips_at_append, flips_at_one, flips_at_none, flips_at_bits, flips_at_only}
use Rattle.map_inputs.specs.Flipping.{FlipReady}

pub each_length : (c k : ℕ) (xs ys : List ℕ) → length ys ≡ length xs → length (each_flip c k xs ys) ≡ c * length xs
unfolding each_flip
each_length c k [] ys e = omega arith
each_length c k (x ∷ xs) [] e = absurd (omega arith)
each_length c k (x ∷ xs) (y ∷ ys) e =
    omega (
      arith,
      length-append (up_from c 1 (only_at k (xor x y))) (each_flip c k xs ys),
      up_length c 1 (only_at k (xor x y)),
      each_length c k xs ys (omega arith),
    )

each_zero : (c k : ℕ) (xs ys : List ℕ) → c < k → (i : ℕ) → get_or (each_flip c k xs ys) i 0 ≡ 0
unfolding each_flip
each_zero c k [] ys h i = refl
each_zero c k (x ∷ xs) [] h i = refl
each_zero c k (x ∷ xs) (y ∷ ys) h i =
    zero_append (up_from c 1 (only_at k (xor x y))) (each_flip c k xs ys) (only_before c 1 k (xor x y) (omega arith))
    (each_zero c k xs ys h)
    i

-- between two inputs: those from i on are left
pub record FlippingEach (c k : ℕ) (xs ys us₀ : List ℕ) (i : ℕ) (us : List ℕ) : Type 0 where
  pub long : length us ≡ length us₀
  pub bits : Bits (take (c * length xs) us)
  pub rest : flips_at (c * i) (each_flip c k (drop i xs) (drop i ys)) us ≡ flips_at 0 (each_flip c k xs ys) us₀

module _ {c k : ℕ} {xs ys us₀ : List ℕ} (R : FlipReady c k xs ys us₀) where
  module _ {i : ℕ} {us : List ℕ} (F : FlippingEach c k xs ys us₀ i us) where
    -- at input i, whose number k stands at `at`
    module _ (few : k ≤ c) (h : i < length xs) {at : ℕ} (place : at ≡ c * i + (k - 1)) where
      each_there : c * i + c ≤ c * length xs
      each_there = omega (arith, mul-le-mul_left c h)

      each_fits : (at < c * length xs) × (at < length us)
      each_fits =
          let there = each_there in (omega (arith, place, R.from_1), omega (arith, place, F.long, R.room, R.from_1))

      module _ {x y : ℕ} (ex : x ≡ get_or xs i 0) (ey : y ≡ get_or ys i 0) where
        differ : bit_xor x y ≡ xor x y
        differ = bit_xor_lem x y (omega (arith, ex, R.first_bits_lem i)) (omega (arith, ey, R.second_bits_lem i))

        -- a share that is flipped
        pub each_share : set us at (bit_xor (get_or us at 0) (bit_xor x y)) ≡ set us at (xor (get_or us at 0) (bit_xor x y))
        each_share =
            let bit : get_or us at 0 ≤ 1 = omega (arith, F.bits at, get_or-take (c * length xs) us at 0 each_fits.0) in
            ap (set us at) (bit_xor_lem (get_or us at 0) (bit_xor x y) bit (omega (arith, differ)))

        pub each_turn :
            {us' : List ℕ} → us' ≡ set us at (xor (get_or us at 0) (bit_xor x y)) → FlippingEach c k xs ys us₀ (i + 1) us'
        unfolding each_flip
        each_turn {us'} flip =
            let flip' : us' ≡ set us at (xor (get_or us at 0) (xor x y)) = rw differ at flip in
            let after = drop (suc i) xs in
            let behind = drop (suc i) ys in
            let next : drop i xs ≡ x ∷ after = drop-cons xs i 0 h ∙ rw ex in
            let follow : drop i ys ≡ y ∷ behind = drop-cons ys i 0 (omega (arith, R.second)) ∙ rw ey in
            let only = up_from c 1 (only_at k (xor x y)) in
            let split : each_flip c k (drop i xs) (drop i ys) ≡ only ++ each_flip c k after behind =
            ap₂ (each_flip c k) next follow in
            let size : length only ≡ c = up_length c 1 (only_at k (xor x y)) in
            let room : c * length xs ≤ length us = omega (arith, F.long, R.room) in
            let there = each_there in
            let flips : us' ≡ flips_at at (xor x y ∷ []) us = flip' ∙ flips_at_one at (xor x y) us each_fits.1 in
            let one : flips_at (c * i) only us ≡ us' =
            flips_at_only c 1 k (xor x y) (c * i) (c * length xs) us R.from_1 (omega arith) there room F.bits
            ∙ ap (λ (p : ℕ). flips_at p (xor x y ∷ []) us) {x = c * i + (k - 1)} {y = at} (sym place)
            ∙ sym flips in
            let step : c * i + length only ≡ c * suc i = omega (arith, size) in
            rw (add-one i)
            record {
              long = ap length flip' ∙ length-set us at _ ∙ F.long;
              bits = rw flips (flips_at_bits at (xor x y) (c * length xs) us each_fits.0 room F.bits);
              rest =
                  ap₂ (λ (p : ℕ) (l : List ℕ). flips_at p (each_flip c k after behind) l) (sym step) (sym one)
                  ∙ flips_at_append (c * i) only (each_flip c k after behind) us (omega (arith, size))
                  ∙ ap (λ (fs : List ℕ). flips_at (c * i) fs us) (sym split)
                  ∙ F.rest;
            }

    pub each_end : length xs ≤ i → us ≡ flips_at 0 (each_flip c k xs ys) us₀
    unfolding each_flip
    each_end h =
        let none : drop i xs ≡ [] = drop_of_length-le xs {i = i} h in
        sym (flips_at_nil (c * i) us)
        ∙ ap (λ (l : List ℕ). flips_at (c * i) (each_flip c k l (drop i ys)) us) (sym none)
        ∙ F.rest

  -- where number k is past an input's, nothing is flipped
  pub each_none : c < k → us₀ ≡ flips_at 0 (each_flip c k xs ys) us₀
  each_none h =
      sym
      (flips_at_none 0 (c * length xs) (each_flip c k xs ys) us₀ (omega (arith, each_length c k xs ys R.second)) R.room R.bits
      (each_zero c k xs ys h))

-- The five wires of a pair in one run: each gate runs on after those before it.
-- Assumes nothing.
use mathlib.Core.Path.{◌≡◌, refl, sym, ap, subst, ◌∙◌}
use mathlib.Core.List.{List, [], ◌∷◌, ◌++◌, map}
use Prim.Native.Nat.{ℕ, ◌+◌, ◌*◌, ◌≤◌, ◌<◌}
use native.Mathlib.Omega.{arith}
use lib.Bits.{bit_and, bit_xor}
use lib.ListN.{length, get_or, set}
use lib.Seq.{get_or-set_same, get_or-set_other}
use Rattle.tables.specs.Tables.{XOR, AND, RANDOM, Gate, gate, total}
use Rattle.tables.specs.Runs.{xor, randoms}
use Rattle.tables.specs.Inside.{ran_on, RunsTo}
use Rattle.tables.proofs.Lists.{bits_nil, bits_cons}
use Rattle.tables.proofs.Run.{bit_mul, bit_xor_lem, bit_and_lem}
use Rattle.tables.proofs.Ran.{Ran, ran_one, ran_keep, ran_start, ran_more, runs_less, runs_bit}
use Rattle.ands.specs.declared.PairForm as DPairForm
use Rattle.layout.specs.declared.PairShares as DPairShares
use Rattle.construction.specs.Gadgets.{all_five, Gadget}
use Rattle.ands.specs.Forms.{FormSays}
use Rattle.map_pair.specs.Crossing.{fifth_value, BitAt, PairBits, PairBefore}

-- a gate more, which draws nothing
gate_more :
    {gs : List Gate} {rs : List ℕ} {w v c : ℕ} {b₀ b b' : List ℕ} → Ran gs rs w b₀ v c b → (g : Gate) {v' : ℕ} (d : ℕ)
    → randoms (g ∷ []) ≡ 0 → b' ≡ ran_on (g ∷ []) [] v b → v' ≡ v + 1 → 1 + d ≤ c → Ran (gs ++ (g ∷ [])) (rs ++ []) w b₀ v' d b'
gate_more R g d none ran next room = ran_more R (g ∷ []) [] d (sym none) bits_nil ran (omega arith) (omega arith)

-- by the form r of a gadget's pairs
module _
    {G : Gadget} {r : DPairForm.PairForm} (F : FormSays G r) {w bit : ℕ} {s : DPairShares.PairShares} {b₀ : List ℕ}
    (R : RunsTo w 5 b₀) (P : PairBefore w s) (h : bit ≤ 1)
  where
    abbrev third_gate : Gate
    third_gate = gate XOR (w + r.third.left) (w + r.third.right)

    abbrev fifth_gate : Gate
    fifth_gate = gate XOR (w + r.fifth.left) (w + r.fifth.right)

    module _ {b₁ : List ℕ} (e₁ : b₁ ≡ ran_on (gate RANDOM 0 0 ∷ []) (bit ∷ []) w b₀) where
      ran_1 : Ran (gate RANDOM 0 0 ∷ []) (bit ∷ []) w b₀ (w + 1) 4 b₁
      unfolding total
      ran_1 = ran_more (ran_start R) (gate RANDOM 0 0 ∷ []) (bit ∷ []) 4 refl (bits_cons bit [] h bits_nil) e₁ (omega arith) (omega arith)

      pub ready_2 : RunsTo (w + 1) 1 b₁ × (s.ai < w + 1) × (s.bj < w + 1)
      ready_2 = (runs_less 1 ran_1.ready (omega arith), omega (arith, P.cross), omega (arith, P.cross))

      module _ {b₂ : List ℕ} (e₂ : b₂ ≡ ran_on (gate AND s.ai s.bj ∷ []) [] (w + 1) b₁) where
        ran_2 : Ran (gate RANDOM 0 0 ∷ gate AND s.ai s.bj ∷ []) (bit ∷ []) w b₀ (w + 2) 3 b₂
        unfolding total
        ran_2 = gate_more ran_1 (gate AND s.ai s.bj) 3 refl e₂ (omega arith) (omega arith)

        pub ready_3 : RunsTo (w + 2) 1 b₂ × (w < w + 2) × (w + 1 < w + 2)
        ready_3 = (runs_less 1 ran_2.ready (omega arith), omega arith, omega arith)

        room_3 : w + 2 < length b₂
        room_3 = omega (arith, ran_2.ready.room)

        -- what the third gate drives, whichever of its operands is the left one
        third_set :
            ran_on (gate XOR w (w + 1) ∷ []) [] (w + 2) b₂ ≡ set b₂ (w + 2) (xor (get_or b₂ w 0) (get_or b₂ (w + 1) 0))
        third_set = ran_one XOR w (w + 1) [] (w + 2) b₂ room_3 (omega arith, omega arith)

        third_same : ran_on (gate XOR w (w + 1) ∷ []) [] (w + 2) b₂ ≡ ran_on (third_gate ∷ []) [] (w + 2) b₂
        third_same =
            third_set
            ∙ ap (set b₂ (w + 2)) (sym (F.third_adds w (λ p. get_or b₂ p 0)))
            ∙ sym
            (ran_one XOR (w + r.third.left) (w + r.third.right) [] (w + 2) b₂ room_3
            (omega (arith, F.third), omega (arith, F.third)))

        module _ {b₃ : List ℕ} (e₃ : b₃ ≡ ran_on (gate XOR w (w + 1) ∷ []) [] (w + 2) b₂) where
          ran_3 : Ran (gate RANDOM 0 0 ∷ gate AND s.ai s.bj ∷ third_gate ∷ []) (bit ∷ []) w b₀ (w + 3) 2 b₃
          unfolding total
          ran_3 = gate_more ran_2 third_gate 2 refl (e₃ ∙ third_same) (omega arith) (omega arith)

          -- the first three wires
          third_is : get_or b₃ (w + 2) 0 ≡ xor (get_or b₃ w 0) (get_or b₃ (w + 1) 0)
          third_is =
              let is : b₃ ≡ set b₂ (w + 2) (xor (get_or b₂ w 0) (get_or b₂ (w + 1) 0)) = e₃ ∙ third_set in
              rw (
                is,
                get_or-set_same b₂ (w + 2) (xor (get_or b₂ w 0) (get_or b₂ (w + 1) 0)) 0 room_3,
                get_or-set_other b₂ (w + 2) w (xor (get_or b₂ w 0) (get_or b₂ (w + 1) 0)) 0 (omega arith),
                get_or-set_other b₂ (w + 2) (w + 1) (xor (get_or b₂ w 0) (get_or b₂ (w + 1) 0)) 0 (omega arith),
              )
              refl

          pub ready_4 : RunsTo (w + 3) 1 b₃ × (s.aj < w + 3) × (s.bi < w + 3)
          ready_4 = (runs_less 1 ran_3.ready (omega arith), omega (arith, P.back), omega (arith, P.back))

          module _ {b₄ : List ℕ} (e₄ : b₄ ≡ ran_on (gate AND s.aj s.bi ∷ []) [] (w + 3) b₃) where
            ran_4 :
                Ran (gate RANDOM 0 0 ∷ gate AND s.ai s.bj ∷ third_gate ∷ gate AND s.aj s.bi ∷ []) (bit ∷ []) w b₀ (w + 4) 1 b₄
            unfolding total
            ran_4 = gate_more ran_3 (gate AND s.aj s.bi) 1 refl e₄ (omega arith) (omega arith)

            pub ready_5 : RunsTo (w + 4) 1 b₄ × (r.both ≤ 1)
            ready_5 = (ran_4.ready, F.both)

            kept : (p : ℕ) → p < w + 3 → get_or b₄ p 0 ≡ get_or b₃ p 0
            kept p h =
                ap (λ (b : List ℕ). get_or b p 0) e₄
                ∙ ran_keep (gate AND s.aj s.bi ∷ []) [] (w + 3) b₃ (omega (arith, ran_3.ready.room)) p h

            -- what the fifth gate drives
            fifth_same : set b₄ (w + 4) (fifth_value r.both w (λ p. get_or b₄ p 0)) ≡ ran_on (fifth_gate ∷ []) [] (w + 4) b₄
            fifth_same =
                let third : get_or b₄ (w + 2) 0 ≡ xor (get_or b₄ w 0) (get_or b₄ (w + 1) 0) =
                rw (kept (w + 2) (omega arith), kept w (omega arith), kept (w + 1) (omega arith)) third_is in
                ap (set b₄ (w + 4)) (sym (F.fifth_adds w (λ p. get_or b₄ p 0) third))
                ∙ sym
                (ran_one XOR (w + r.fifth.left) (w + r.fifth.right) [] (w + 4) b₄ (omega (arith, ran_4.ready.room))
                (omega (arith, F.fifth), omega (arith, F.fifth)))

            pub five_ran :
                {b₅ : List ℕ} → b₅ ≡ set b₄ (w + 4) (fifth_value r.both w (λ p. get_or b₄ p 0))
                → Ran (map (G.gates w s.ai s.bj s.aj s.bi) all_five) (bit ∷ []) w b₀ (w + 5) 0 b₅
            unfolding total
            five_ran {b₅} e₅ =
                subst (λ (gs : List Gate). Ran gs (bit ∷ []) w b₀ (w + 5) 0 b₅) (F.gates w s.ai s.bj s.aj s.bi)
                (gate_more ran_4 fifth_gate 0 refl (e₅ ∙ fifth_same) (omega arith) (omega arith))

-- the values of a pair's operands are bits
pub pair_bits : {w c : ℕ} {s : DPairShares.PairShares} {b : List ℕ} → RunsTo w c b → PairBefore w s → PairBits b s
pair_bits {w} {b = b} R P = record { cross = (at P.cross.0, at P.cross.1); back = (at P.back.0, at P.back.1) }
  where
    at : {p : ℕ} → p < w → BitAt b p
    at {p} h = record { inside = omega (arith, R.room); bit = runs_bit R p h }

-- the sum that the fifth wire is set to
pub fifth_is :
    (both w : ℕ) (b : List ℕ) → RunsTo (w + 4) 1 b → both ≤ 1
    → bit_xor (bit_xor (get_or b w 0) (bit_and both (get_or b (w + 1) 0))) (get_or b (w + 3) 0) ≡ fifth_value both w (λ p. get_or b p 0)
fifth_is both w b R h =
    let first = runs_bit R w (omega arith) in
    let second = runs_bit R (w + 1) (omega arith) in
    let fourth = runs_bit R (w + 3) (omega arith) in
    let product = bit_mul both (get_or b (w + 1) 0) h second in
    rw (bit_and_lem both (get_or b (w + 1) 0) h second)
    (ap (λ (x : ℕ). bit_xor x (get_or b (w + 3) 0)) (bit_xor_lem _ _ first product) ∙ bit_xor_lem _ _ (omega arith) fourth)

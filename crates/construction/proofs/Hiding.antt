-- What a gadget must satisfy for its masked AND to hide: the flips make up for what differs, so that the wires of a pair
-- that do not carry the free share agree in both runs. Both ANDs do.
-- Assumes nothing.
use mathlib.Core.Path.{◌≡◌, refl, sym, ap, ap₂, ◌∙◌}
use mathlib.Core.Bool.{Bool, true, false, cond}
use mathlib.Core.List.{List, [], ◌∷◌, map}
use Prim.Native.Nat.{ℕ, ◌+◌, ◌*◌, ◌%◌, ◌≤◌}
use native.Mathlib.Omega.{arith}
use lib.Dec.{eqb}
use borrow.Author.Tests.{eqb-false, ne_eqb}
use Rattle.tables.specs.Runs.{xor}
use Rattle.tables.proofs.Tests.{or_false}
use Rattle.tables.proofs.Run.{Solves}
use Rattle.construction.specs.declared.And as DAnd
use Rattle.construction.specs.declared.And.TheVariants.{Isw, Dom}
use Rattle.construction.specs.Gadgets.{Five, first, second, third, fourth, fifth, all_five, index_of, is_in, differs, Gadget, isw, dom}
use Rattle.construction.specs.Gadgets.{gadget_of}
use Rattle.construction.proofs.Lawful.{Lawful, PairValues, pair_values, isw_lawful, dom_lawful}

pub record Hiding (G : Gadget) : Type 0 where
  pub lawful : Lawful G
  -- nothing is flipped where nothing differs
  pub unflipped : (k i j : ℕ) → G.flip k i j 0 0 ≡ 0
  -- a pair's wires that do not carry k agree, if the operands' shares other than k do
  pub agrees :
      (k i j w c ai bj aj bi : ℕ) (r s v u : ℕ → ℕ) → (i ≡ j → ⊥) → ((p : ℕ) → v p ≤ 1) → ((p : ℕ) → u p ≤ 1) → r c ≤ 1
      → Solves w c (map (G.gates w ai bj aj bi) all_five) r v
      → Solves w c (map (G.gates w ai bj aj bi) all_five) s u
      → s c ≡ xor (r c) (G.flip k i j (differs (v ai) (v bj) (u ai) (u bj)) (differs (v aj) (v bi) (u aj) (u bi)))
      → ((i ≡ k → ⊥) → (v ai ≡ u ai) × (v bi ≡ u bi))
      → ((j ≡ k → ⊥) → (v aj ≡ u aj) × (v bj ≡ u bj))
      → (f : Five) → is_in k (G.marks i j f) ≡ false → v (w + index_of f) ≡ u (w + index_of f)

isw_unflipped : (k i j : ℕ) → isw.flip k i j 0 0 ≡ 0
isw_unflipped k i j = go (eqb i k)
  where
    go : (t : Bool) → ◌≡◌ {A = ℕ} (cond t (xor 0 0) 0) 0
    go true = refl
    go false = refl

dom_unflipped : (k i j : ℕ) → dom.flip k i j 0 0 ≡ 0
dom_unflipped k i j = go (eqb i k) (eqb j k)
  where
    go : (t u : Bool) → ◌≡◌ {A = ℕ} (cond t 0 (cond u 0 0)) 0
    go true u = refl
    go false true = refl
    go false false = refl

-- a list that does not hold k
pub not_first : (k i : ℕ) (is : List ℕ) → is_in k (i ∷ is) ≡ false → (i ≡ k → ⊥) × (is_in k is ≡ false)
not_first k i is h =
    let both = or_false (eqb k i) (is_in k is) h in
    ((λ e. eqb-false k i both.0 (sym e)), both.1)

-- a bit that is not flipped
unflipped_bit : (z y : ℕ) → z ≤ 1 → y ≡ xor z 0 → z ≡ y
unflipped_bit z y h e = omega arith

three : (a b c : ℕ) → xor (xor a b) c ≡ (a + b + c) % 2
three a b c = omega arith

four : (a b c d : ℕ) → xor (xor a b) (xor c d) ≡ (a + b + c + d) % 2
four a b c d = omega arith

-- the flip makes up for both products p and q
made_up :
    (z p p' q q' y : ℕ) → y ≡ xor z ((p + p' + q + q') % 2) → (z + p + q) % 2 ≡ (y + p' + q') % 2
made_up z p p' q q' y e = omega arith

-- the flip makes up for the one product p that the random bit is added to
made_up_one : (z p p' y : ℕ) → y ≡ xor z (xor p p') → xor p z ≡ xor p' y
made_up_one z p p' y e = omega arith

neither : (k i j : ℕ) → is_in k (i ∷ j ∷ []) ≡ false → (i ≡ k → ⊥) × (j ≡ k → ⊥)
neither k i j h =
    let a = not_first k i (j ∷ []) h in
    (a.0, (not_first k j [] a.1).0)

-- the products of a pair whose shares other than k agree, in the runs v and u, whatever its other wires are
module _
    {k i j w c ai bj aj bi l m l' m' : ℕ} {r s v u : ℕ → ℕ} (x : PairValues w c ai bj aj bi l m l' m' r v)
    (y : PairValues w c ai bj aj bi l m l' m' s u) (hi : (i ≡ k → ⊥) → (v ai ≡ u ai) × (v bi ≡ u bi))
    (hj : (j ≡ k → ⊥) → (v aj ≡ u aj) × (v bj ≡ u bj))
  where
    cross_agrees : (i ≡ k → ⊥) → (j ≡ k → ⊥) → v (w + 1) ≡ u (w + 1)
    cross_agrees ni nj = x.cross ∙ ap₂ (λ (p q : ℕ). p * q) (hi ni).0 (hj nj).1 ∙ sym y.cross

    back_agrees : (i ≡ k → ⊥) → (j ≡ k → ⊥) → v (w + 3) ≡ u (w + 3)
    back_agrees ni nj = x.back ∙ ap₂ (λ (p q : ℕ). p * q) (hj nj).0 (hi ni).1 ∙ sym y.back

module _
    (k i j w c ai bj aj bi : ℕ) (r s v u : ℕ → ℕ) (_ : i ≡ j → ⊥) (bv : (p : ℕ) → v p ≤ 1)
    (bu : (p : ℕ) → u p ≤ 1) (bit : r c ≤ 1)
    (sv : Solves w c (map (isw.gates w ai bj aj bi) all_five) r v)
    (su : Solves w c (map (isw.gates w ai bj aj bi) all_five) s u)
    (e : s c ≡ xor (r c) (isw.flip k i j (differs (v ai) (v bj) (u ai) (u bj)) (differs (v aj) (v bi) (u aj) (u bi))))
    (hi : (i ≡ k → ⊥) → (v ai ≡ u ai) × (v bi ≡ u bi))
    (hj : (j ≡ k → ⊥) → (v aj ≡ u aj) × (v bj ≡ u bj))
  where
    x : PairValues w c ai bj aj bi w (w + 1) (w + 2) (w + 3) r v
    x = pair_values sv

    y : PairValues w c ai bj aj bi w (w + 1) (w + 2) (w + 3) s u
    y = pair_values su

    low_agrees : (i ≡ k → ⊥) → v w ≡ u w
    low_agrees ni =
        let none : s c ≡ xor (r c) 0 = rw (ne_eqb i k ni) at e in
        x.random ∙ unflipped_bit (r c) (s c) bit none ∙ sym y.random

    mixed_agrees : (i ≡ k → ⊥) → (j ≡ k → ⊥) → v (w + 2) ≡ u (w + 2)
    mixed_agrees ni nj = x.third ∙ ap₂ xor (low_agrees ni) (cross_agrees x y hi hj ni nj) ∙ sym y.third

    high_agrees : (j ≡ k → ⊥) → v (w + 4) ≡ u (w + 4)
    high_agrees nj = go (eqb i k) refl
      where
        go : (t : Bool) → eqb i k ≡ t → v (w + 4) ≡ u (w + 4)
        go true t =
            let P = v ai * v bj in
            let P' = u ai * u bj in
            let Q = v aj * v bi in
            let Q' = u aj * u bi in
            let flip : s c ≡ xor (r c) (xor (xor P P') (xor Q Q')) = rw t at e in
            x.fifth
            ∙ ap₂ xor (x.third ∙ ap₂ xor x.random x.cross) x.back
            ∙ three (r c) P Q
            ∙ made_up (r c) P P' Q Q' (s c) (flip ∙ ap (xor (r c)) (four P P' Q Q'))
            ∙ sym (three (s c) P' Q')
            ∙ sym (y.fifth ∙ ap₂ xor (y.third ∙ ap₂ xor y.random y.cross) y.back)
        go false t =
            let ni = eqb-false i k t in
            x.fifth ∙ ap₂ xor (mixed_agrees ni nj) (back_agrees x y hi hj ni nj) ∙ sym y.fifth

    isw_agrees : (f : Five) → is_in k (isw.marks i j f) ≡ false → v (w + index_of f) ≡ u (w + index_of f)
    isw_agrees first h =
        let at_0 : w + 0 ≡ w = omega arith in
        ap v at_0 ∙ low_agrees (not_first k i [] h).0 ∙ sym (ap u at_0)
    isw_agrees second h = let n = neither k i j h in cross_agrees x y hi hj n.0 n.1
    isw_agrees third h = let n = neither k i j h in mixed_agrees n.0 n.1
    isw_agrees fourth h = let n = neither k i j h in back_agrees x y hi hj n.0 n.1
    isw_agrees fifth h = high_agrees (not_first k j [] h).0

pub isw_hiding : Hiding isw
isw_hiding =
    record {
      lawful = isw_lawful;
      unflipped = isw_unflipped;
      agrees = isw_agrees;
    }

module _
    (k i j w c ai bj aj bi : ℕ) (r s v u : ℕ → ℕ) (ij : i ≡ j → ⊥) (bv : (p : ℕ) → v p ≤ 1)
    (bu : (p : ℕ) → u p ≤ 1) (bit : r c ≤ 1)
    (sv : Solves w c (map (dom.gates w ai bj aj bi) all_five) r v)
    (su : Solves w c (map (dom.gates w ai bj aj bi) all_five) s u)
    (e : s c ≡ xor (r c) (dom.flip k i j (differs (v ai) (v bj) (u ai) (u bj)) (differs (v aj) (v bi) (u aj) (u bi))))
    (hi : (i ≡ k → ⊥) → (v ai ≡ u ai) × (v bi ≡ u bi))
    (hj : (j ≡ k → ⊥) → (v aj ≡ u aj) × (v bj ≡ u bj))
  where
    xs : PairValues w c ai bj aj bi (w + 1) w (w + 3) w r v
    xs = pair_values sv

    ys : PairValues w c ai bj aj bi (w + 1) w (w + 3) w s u
    ys = pair_values su

    -- r of a pair without k is kept
    random_agrees : (i ≡ k → ⊥) → (j ≡ k → ⊥) → v w ≡ u w
    random_agrees ni nj =
        let none : s c ≡ xor (r c) 0 = rw (ne_eqb i k ni, ne_eqb j k nj) at e in
        xs.random ∙ unflipped_bit (r c) (s c) bit none ∙ sym ys.random

    third_agrees : (i ≡ k → ⊥) → v (w + 2) ≡ u (w + 2)
    third_agrees ni = go (eqb j k) refl
      where
        go : (t : Bool) → eqb j k ≡ t → v (w + 2) ≡ u (w + 2)
        go true t =
            let P = v ai * v bj in
            let P' = u ai * u bj in
            let flip : s c ≡ xor (r c) (xor P P') = rw (ne_eqb i k ni, t) at e in
            xs.third
            ∙ ap₂ xor xs.cross xs.random
            ∙ made_up_one (r c) P P' (s c) flip
            ∙ sym (ys.third ∙ ap₂ xor ys.cross ys.random)
        go false t =
            let nj = eqb-false j k t in
            xs.third ∙ ap₂ xor (cross_agrees xs ys hi hj ni nj) (random_agrees ni nj) ∙ sym ys.third

    fifth_agrees : (j ≡ k → ⊥) → v (w + 4) ≡ u (w + 4)
    fifth_agrees nj = go (eqb i k) refl
      where
        go : (t : Bool) → eqb i k ≡ t → v (w + 4) ≡ u (w + 4)
        go true t =
            let Q = v aj * v bi in
            let Q' = u aj * u bi in
            let flip : s c ≡ xor (r c) (xor Q Q') = rw t at e in
            xs.fifth
            ∙ ap₂ xor xs.back xs.random
            ∙ made_up_one (r c) Q Q' (s c) flip
            ∙ sym (ys.fifth ∙ ap₂ xor ys.back ys.random)
        go false t =
            let ni = eqb-false i k t in
            xs.fifth ∙ ap₂ xor (back_agrees xs ys hi hj ni nj) (random_agrees ni nj) ∙ sym ys.fifth

    dom_agrees : (f : Five) → is_in k (dom.marks i j f) ≡ false → v (w + index_of f) ≡ u (w + index_of f)
    dom_agrees first h =
        let at_0 : w + 0 ≡ w = omega arith in
        let n = neither k i j h in
        ap v at_0 ∙ random_agrees n.0 n.1 ∙ sym (ap u at_0)
    dom_agrees second h = let n = neither k i j h in cross_agrees xs ys hi hj n.0 n.1
    dom_agrees third h = third_agrees (not_first k i [] h).0
    dom_agrees fourth h = let n = neither k i j h in back_agrees xs ys hi hj n.0 n.1
    dom_agrees fifth h = fifth_agrees (not_first k j [] h).0

pub dom_hiding : Hiding dom
dom_hiding =
    record {
      lawful = dom_lawful;
      unflipped = dom_unflipped;
      agrees = dom_agrees;
    }

-- every AND that there is
pub hiding : (a : DAnd.And) → Hiding (gadget_of a)
hiding Isw = isw_hiding
hiding Dom = dom_hiding

-- What a gadget must satisfy for its masked AND to compute, and what its wires and their pins carry. Facts about rows, shares and
-- tables are proved of every such gadget; another AND enters by its laws alone.
-- Assumes nothing.
use mathlib.Core.Path.{◌≡◌, refl, ap, ◌∙◌}
use mathlib.Core.List.{List, [], ◌∷◌, map}
use Prim.Native.Nat.{ℕ, suc, ◌+◌, ◌*◌, ◌%◌, ◌≤◌, ◌<◌}
use native.Mathlib.Omega.{arith}
use mathlib.Core.Bool.{true, ◌&&◌}
use borrow.Author.Tests.{lt-ltb}
use lib.Dec.{ltb}
use lib.ListN.{length}
use Rattle.tables.specs.Runs.{randoms, xor, of_each}
use Rattle.tables.proofs.Tests.{and_intro}
use Rattle.tables.proofs.Run.{Solves}
use Rattle.tables.proofs.Format.{SoundGates}
use Rattle.construction.specs.declared.And as DAnd
use Rattle.construction.specs.declared.And.TheVariants.{Isw, Dom}
use Rattle.construction.specs.Gadgets.{Five, first, second, third, fourth, fifth, all_five, index_of, Gadget, isw, dom, gadget_of}
use Rattle.tables.specs.Tables.{XOR, AND, RANDOM, Gate, gate, total, kind_bytes, pins}
use Rattle.construction.specs.PinMarks.{pair_carried, with_pins}
use Rattle.construction.proofs.PinMarks.{isw_marks_lem, dom_marks_lem, marks_few}

pub both_below : (l r w : ℕ) → l < w → r < w → ltb l w && ltb r w ≡ true
both_below l r w h k = and_intro (ltb l w) (ltb r w) (lt-ltb l w h) (lt-ltb r w k)

pub record Lawful (G : Gadget) : Type 0 where
  -- the kinds of a pair's wires: random, AND, XOR, AND, XOR
  pub kinds : (w ai bj aj bi : ℕ) → kind_bytes (map (G.gates w ai bj aj bi) all_five) ≡ 3 ∷ 2 ∷ 1 ∷ 2 ∷ 1 ∷ []
  -- a pair draws one random bit
  pub one_random : (w ai bj aj bi : ℕ) → randoms (map (G.gates w ai bj aj bi) all_five) ≡ 1
  -- its gates pass the checks of a table
  pub sound :
      (w ai bj aj bi : ℕ) → ai < w → bj < w → aj < w → bi < w → SoundGates w (map (G.gates w ai bj aj bi) all_five)
  -- what the two rows add is, modulo 2, a_i·b_j + a_j·b_i
  pub adds :
      (w c ai bj aj bi : ℕ) (r v : ℕ → ℕ) → ((p : ℕ) → v p ≤ 1) → Solves w c (map (G.gates w ai bj aj bi) all_five) r v
      → (v (w + index_of G.low) + v (w + index_of G.high)) % 2 ≡ (v ai * v bj + v aj * v bi) % 2
  -- a wire carries at most two shares; what a row adds carries that row's share
  pub few_marks : (i j : ℕ) (f : Five) → length (G.marks i j f) ≤ 2
  pub low_mark : (i j : ℕ) → G.marks i j G.low ≡ i ∷ []
  pub high_mark : (i j : ℕ) → G.marks i j G.high ≡ j ∷ []
  -- what a pair's wire and its pins carry does not depend on where the wires are, M being the marks of wires
  pub carries :
      (M : ℕ → List ℕ) (w ai bj aj bi i j : ℕ) → M ai ≡ i ∷ [] → M bj ≡ j ∷ [] → M aj ≡ j ∷ [] → M bi ≡ i ∷ []
      → ((f : Five) → M (w + index_of f) ≡ G.marks i j f) → (f : Five)
      → of_each M ((w + index_of f) ∷ pins (G.gates w ai bj aj bi f)) ≡ pair_carried G i j f
  -- it is still two shares at most
  pub few_joined : (i j : ℕ) → i < j → (f : Five) → length ((with_pins G).marks i j f) ≤ 2

-- the gates of a pair where the third wire is l ⊕ r and the fifth is l' ⊕ r'
abbrev pub pair_on : ℕ → ℕ → ℕ → ℕ → ℕ → ℕ → ℕ → ℕ → List Gate
pair_on ai bj aj bi l r l' r' =
    gate RANDOM 0 0 ∷ gate AND ai bj ∷ gate XOR l r ∷ gate AND aj bi ∷ gate XOR l' r' ∷ []

pair_sound :
    (w ai bj aj bi l r l' r' : ℕ) → ai < w → bj < w → aj < w → bi < w → l < w + 2 → r < w + 2 → l' < w + 4 → r' < w + 4
    → SoundGates w (pair_on ai bj aj bi l r l' r')
unfolding SoundGates
pair_sound w ai bj aj bi l r l' r' p q x y hl hr hl' hr' = (
  (refl, refl),
  (
    (refl, both_below ai bj (suc w) (omega arith) (omega arith)),
    (
      (refl, both_below l r (suc (suc w)) (omega arith) (omega arith)),
      (
        (refl, both_below aj bi (suc (suc (suc w))) (omega arith) (omega arith)),
        ((refl, both_below l' r' (suc (suc (suc (suc w)))) (omega arith) (omega arith)), tt),
      ),
    ),
  ),
)

-- the values of its five wires
pub record PairValues (w c ai bj aj bi l r l' r' : ℕ) (rs v : ℕ → ℕ) : Type 0 where
  pub random : v w ≡ rs c
  pub cross : v (w + 1) ≡ v ai * v bj
  pub third : v (w + 2) ≡ xor (v l) (v r)
  pub back : v (w + 3) ≡ v aj * v bi
  pub fifth : v (w + 4) ≡ xor (v l') (v r')

pub pair_values :
    {w c ai bj aj bi l r l' r' : ℕ} {rs v : ℕ → ℕ} → Solves w c (pair_on ai bj aj bi l r l' r') rs v
    → PairValues w c ai bj aj bi l r l' r' rs v
unfolding Solves
pair_values {w} {v = v} s =
    record {
      random = s.0;
      cross = ap v {x = w + 1} {y = suc w} (omega arith) ∙ s.1.0;
      third = ap v {x = w + 2} {y = suc (suc w)} (omega arith) ∙ s.1.1.0;
      back = ap v {x = w + 3} {y = suc (suc (suc w))} (omega arith) ∙ s.1.1.1.0;
      fifth = ap v {x = w + 4} {y = suc (suc (suc (suc w)))} (omega arith) ∙ s.1.1.1.1.0;
    }

isw_adds :
    (w c ai bj aj bi : ℕ) (r v : ℕ → ℕ) → ((p : ℕ) → v p ≤ 1) → Solves w c (map (isw.gates w ai bj aj bi) all_five) r v
    → (v (w + 0) + v (w + 4)) % 2 ≡ (v ai * v bj + v aj * v bi) % 2
isw_adds w c ai bj aj bi r v b s =
    let x = pair_values s in
    go (v (w + 0)) (v w) (v (w + 1)) (v (w + 2)) (v (w + 3)) (v (w + 4)) (v ai * v bj) (v aj * v bi)
    (ap v {x = w + 0} {y = w} (omega arith))
    x.cross
    x.third
    x.back
    x.fifth
  where
    go :
        (y z p m q h s t : ℕ) → y ≡ z → p ≡ s → m ≡ xor z p → q ≡ t → h ≡ xor m q → (y + h) % 2 ≡ (s + t) % 2
    go y z p m q h s t o a b c d = omega arith

dom_adds :
    (w c ai bj aj bi : ℕ) (r v : ℕ → ℕ) → ((p : ℕ) → v p ≤ 1) → Solves w c (map (dom.gates w ai bj aj bi) all_five) r v
    → (v (w + 2) + v (w + 4)) % 2 ≡ (v ai * v bj + v aj * v bi) % 2
dom_adds w c ai bj aj bi r v b s =
    let x = pair_values s in
    go (v w) (v (w + 1)) (v (w + 2)) (v (w + 3)) (v (w + 4)) (v ai * v bj) (v aj * v bi)
    x.cross
    x.third
    x.back
    x.fifth
  where
    go : (z p m q h s t : ℕ) → p ≡ s → m ≡ xor p z → q ≡ t → h ≡ xor q z → (m + h) % 2 ≡ (s + t) % 2
    go z p m q h s t a b c d = omega arith

isw_few : (i j : ℕ) (f : Five) → length (isw.marks i j f) ≤ 2
isw_few i j first = omega arith
isw_few i j second = omega arith
isw_few i j third = omega arith
isw_few i j fourth = omega arith
isw_few i j fifth = omega arith

dom_few : (i j : ℕ) (f : Five) → length (dom.marks i j f) ≤ 2
dom_few i j first = omega arith
dom_few i j second = omega arith
dom_few i j third = omega arith
dom_few i j fourth = omega arith
dom_few i j fifth = omega arith

-- what the wires of a pair and their pins carry
module _
    (M : ℕ → List ℕ) (w ai bj aj bi i j : ℕ) (a : M ai ≡ i ∷ []) (b : M bj ≡ j ∷ []) (c : M aj ≡ j ∷ []) (d : M bi ≡ i ∷ [])
  where
    at_first : {ms : List ℕ} → M (w + 0) ≡ ms → M w ≡ ms
    at_first e = ap M {x = w} {y = w + 0} (omega arith) ∙ e

    isw_carries :
        ((f : Five) → M (w + index_of f) ≡ isw.marks i j f) → (f : Five)
        → of_each M ((w + index_of f) ∷ pins (isw.gates w ai bj aj bi f)) ≡ pair_carried isw i j f
    unfolding of_each
    isw_carries own first = rw (own first)
    isw_carries own second = rw (own second, a, b)
    isw_carries own third = rw (own third, at_first (own first), own second)
    isw_carries own fourth = rw (own fourth, c, d)
    isw_carries own fifth = rw (own fifth, own third, own fourth)

    dom_carries :
        ((f : Five) → M (w + index_of f) ≡ dom.marks i j f) → (f : Five)
        → of_each M ((w + index_of f) ∷ pins (dom.gates w ai bj aj bi f)) ≡ pair_carried dom i j f
    unfolding of_each
    dom_carries own first = rw (own first)
    dom_carries own second = rw (own second, a, b)
    dom_carries own third = rw (own third, at_first (own first), own second)
    dom_carries own fourth = rw (own fourth, c, d)
    dom_carries own fifth = rw (own fifth, at_first (own first), own fourth)

-- document 01's AND
pub isw_lawful : Lawful isw
unfolding total kind_bytes
isw_lawful =
    record {
      kinds = λ w ai bj aj bi. refl;
      one_random = λ w ai bj aj bi. refl;
      sound = λ w ai bj aj bi p q x y.
          pair_sound w ai bj aj bi w (w + 1) (w + 2) (w + 3) p q x y (omega arith) (omega arith) (omega arith) (omega arith);
      adds = isw_adds;
      few_marks = isw_few;
      low_mark = λ i j. refl;
      high_mark = λ i j. refl;
      carries = isw_carries;
      few_joined = λ i j h f. rw (isw_marks_lem i j h f) (marks_few _ i j (index_of f));
    }

-- that of source document 002
pub dom_lawful : Lawful dom
unfolding total kind_bytes
dom_lawful =
    record {
      kinds = λ w ai bj aj bi. refl;
      one_random = λ w ai bj aj bi. refl;
      sound = λ w ai bj aj bi p q x y.
          pair_sound w ai bj aj bi (w + 1) w (w + 3) w p q x y (omega arith) (omega arith) (omega arith) (omega arith);
      adds = dom_adds;
      few_marks = dom_few;
      low_mark = λ i j. refl;
      high_mark = λ i j. refl;
      carries = dom_carries;
      few_joined = λ i j h f. rw (dom_marks_lem i j h f) (marks_few _ i j (index_of f));
    }

-- every AND that there is
pub lawful : (a : DAnd.And) → Lawful (gadget_of a)
lawful Isw = isw_lawful
lawful Dom = dom_lawful

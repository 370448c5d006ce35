-- The gates of each kind before a gate, as a block of gates is counted on; three kinds, then the other three.
-- Assumes nothing.
use mathlib.Core.Path.{◌≡◌, refl, ap, ◌∙◌}
use mathlib.Core.List.{List, [], ◌∷◌}
use Prim.Native.Nat.{ℕ, ◌+◌, ◌≤◌, ◌<◌}
use native.Mathlib.Numerals.{add-one}
use native.Mathlib.Omega.{arith}
use lib.ListN.{length, get_or, take}
use lib.Seq.{take_all, length-take-le}
use Rattle.tables.specs.declared.Counts as DCounts
use Rattle.tables.specs.declared.Kind as DKind
use Rattle.tables.specs.declared.Kind.TheVariants.{Not, Xor, And, Random, Constant, Or}
use Rattle.tables.specs.Tables.{Kind, NOT, XOR, AND, RANDOM, CONSTANT, OR, UNKNOWN, Gate, no_gate, table_of, total}
use Rattle.tables.specs.Counted.{of_kind, counts_of}
use Rattle.tables.specs.Inside.{HasGates}
use Rattle.tables.proofs.Accept.{gates_are}
use Rattle.tables.proofs.Total.{total_take, count_small}
use Rattle.counts.specs.declared.ThreeKinds as DThreeKinds
use Rattle.counts.specs.Three.{byte_of, three_of}

-- the kind with byte b: c gates before number `from` and v from there on make those before number i
pub record Counting (b : ℕ) (gs : List Gate) (from i c v : ℕ) : Type 0 where
  pub few : v + from ≤ i
  pub sum : c + v ≡ total (of_kind b) (take i gs)

pub counting_start : {b : ℕ} {gs : List Gate} {from c : ℕ} → c ≡ total (of_kind b) (take from gs) → Counting b gs from from c 0
counting_start e = record { few = omega arith; sum = omega (arith, e) }

-- u is 1 for the kind with byte b, and 0 for every other
abbrev pub OneIf : ℕ → Kind → ℕ → Type 0
OneIf b k u = (u ≡ of_kind b k) × (u ≤ 1)

pub counting_turn :
    {b : ℕ} {gs : List Gate} {from i c v u : ℕ} {k : Kind} → Counting b gs from i c v → i < length gs
    → k ≡ (get_or gs i no_gate).kind → OneIf b k u → Counting b gs from (i + 1) c (v + u)
counting_turn {b} {gs} {from} {i} C h is e = record {
  few = omega (arith, C.few, e.1);
  sum = rw add-one (omega (arith, C.sum, e.0, ap (of_kind b) is, total_take (of_kind b) gs i h));
}

-- a gate of a block is one of the table's
pub gate_inside : {s : List ℕ} {g to i : ℕ} → HasGates s g → i < to → to ≤ g → i < length (table_of s).gates
gate_inside H h k = omega (arith, h, k, gates_are H)

-- no more than the gates of the table
counting_small :
    {s : List ℕ} {g b from i c v : ℕ} → HasGates s g → Counting b (table_of s).gates from i c v → i ≤ g → c + v ≤ 65535
counting_small {s} {b = b} {i = i} H C h =
    let gs = (table_of s).gates in
    omega (arith, C.sum, count_small b (take i gs), length-take-le i gs (omega (arith, h, gates_are H)), H.few)

-- each of three kinds
pub record Block (ks : List DKind.Kind) (gs : List Gate) (from i : ℕ) (c : DThreeKinds.ThreeKinds) (u v w : ℕ) : Type 0 where
  pub first : Counting (byte_of ks 0) gs from i c.first u
  pub second : Counting (byte_of ks 1) gs from i c.second v
  pub third : Counting (byte_of ks 2) gs from i c.third w

pub block_start :
    {ks : List DKind.Kind} {gs : List Gate} {from : ℕ} {c : DThreeKinds.ThreeKinds}
    → c ≡ three_of ks (take from gs) → Block ks gs from from c 0 0 0
block_start e = record {
  first = counting_start (ap (λ (x : DThreeKinds.ThreeKinds). x.first) e);
  second = counting_start (ap (λ (x : DThreeKinds.ThreeKinds). x.second) e);
  third = counting_start (ap (λ (x : DThreeKinds.ThreeKinds). x.third) e);
}

module _
    {ks : List DKind.Kind}
    {gs : List Gate}
    {from i : ℕ}
    {c : DThreeKinds.ThreeKinds}
    {u v w : ℕ}
    (B : Block ks gs from i c u v w) where
  -- what one gate adds to each
  pub block_turn :
      {kind : Kind} {u' v' w' : ℕ} → i < length gs → kind ≡ (get_or gs i no_gate).kind
      → OneIf (byte_of ks 0) kind u' → OneIf (byte_of ks 1) kind v' → OneIf (byte_of ks 2) kind w'
      → Block ks gs from (i + 1) c (u + u') (v + v') (w + w')
  block_turn h is e₀ e₁ e₂ = record {
    first = counting_turn B.first h is e₀;
    second = counting_turn B.second h is e₁;
    third = counting_turn B.third h is e₂;
  }

  pub block_end :
      record { first = c.first + u; second = c.second + v; third = c.third + w } ≡ three_of ks (take i gs)
  block_end = λ j. record { first = B.first.sum j; second = B.second.sum j; third = B.third.sum j }

-- no more than the gates of the table
pub block_small :
    {s : List ℕ} {g from i : ℕ} {ks : List DKind.Kind} {c : DThreeKinds.ThreeKinds} {u v w : ℕ}
    → HasGates s g → Block ks (table_of s).gates from i c u v w
    → i ≤ g → (c.first + u ≤ 65535) × (c.second + v ≤ 65535) × (c.third + w ≤ 65535)
block_small H B h = (counting_small H B.first h, counting_small H B.second h, counting_small H B.third h)

-- before the first gate there are none
pub none_counted :
    (ks : List DKind.Kind) (gs : List Gate) → record { first = 0; second = 0; third = 0 } ≡ three_of ks (take 0 gs)
unfolding total
none_counted ks gs = refl

-- where there are no more than i gates, those before number i are all
pub all_counted :
    (ks : List DKind.Kind) (gs : List Gate) (i : ℕ) {c : DThreeKinds.ThreeKinds}
    → c ≡ three_of ks (take i gs) → length gs ≤ i → c ≡ three_of ks gs
all_counted ks gs i e h = e ∙ ap {A = List Gate} {B = DThreeKinds.ThreeKinds} (three_of ks) (take_all i gs h)

-- the first three kinds, and the last three
abbrev pub low : List DKind.Kind
low = Not ∷ Xor ∷ And ∷ []

abbrev pub high : List DKind.Kind
high = Random ∷ Constant ∷ Or ∷ []

-- three kinds and three more
abbrev pub six_kinds : DThreeKinds.ThreeKinds → DThreeKinds.ThreeKinds → DCounts.Counts
six_kinds l h = record {
  nots = l.first;
  xors = l.second;
  ands = l.third;
  randoms = h.first;
  constants = h.second;
  ors = h.third;
}

pub six_counted :
    (gs : List Gate) {l h : DThreeKinds.ThreeKinds} → l ≡ three_of low gs → h ≡ three_of high gs → six_kinds l h ≡ counts_of gs
six_counted gs e f = λ j. six_kinds (e j) (f j)

-- all of three kinds together
abbrev pub sum_of : DThreeKinds.ThreeKinds → ℕ
sum_of c = c.first + c.second + c.third

-- no gate is of two kinds
sum_small : (gs : List Gate) → sum_of (three_of low gs) + sum_of (three_of high gs) ≤ length gs
unfolding total
sum_small [] = omega arith
sum_small (g ∷ gs) = omega (arith, one_kind g.kind, sum_small gs)
  where
    one_kind : (k : Kind) → of_kind 0 k + of_kind 1 k + of_kind 2 k + of_kind 3 k + of_kind 4 k + of_kind 5 k ≤ 1
    one_kind NOT = omega arith
    one_kind XOR = omega arith
    one_kind AND = omega arith
    one_kind RANDOM = omega arith
    one_kind CONSTANT = omega arith
    one_kind OR = omega arith
    one_kind (UNKNOWN k) = omega arith

-- no more than the gates of the table
pub three_small :
    {s : List ℕ} {g : ℕ} {c : DThreeKinds.ThreeKinds} → HasGates s g → c ≡ three_of low (table_of s).gates → sum_of c ≤ 65535
three_small {s} H e = rw e (omega (arith, sum_small (table_of s).gates, gates_are H, H.few))

-- where the first three kinds are all gates, there are none of the others
pub none_further :
    (gs : List Gate) {l : DThreeKinds.ThreeKinds} → l ≡ three_of low gs → length gs ≤ sum_of l
    → record { first = 0; second = 0; third = 0 } ≡ three_of high gs
none_further gs e all =
    let full : length gs ≤ sum_of (three_of low gs) = rw e at all in
    let none₃ : 0 ≡ total (of_kind 3) gs = omega (arith, full, sum_small gs) in
    let none₄ : 0 ≡ total (of_kind 4) gs = omega (arith, full, sum_small gs) in
    let none₅ : 0 ≡ total (of_kind 5) gs = omega (arith, full, sum_small gs) in
    λ j. record { first = none₃ j; second = none₄ j; third = none₅ j }

-- An OR in both runs: two NOTs, the AND, a NOT. What its AND flips is read off the values before the NOTs.
-- Assumes nothing.
use mathlib.Core.Path.{◌≡◌, refl, sym, ap, ap₂, ◌∙◌, subst, subst₂}
use mathlib.Core.Bool.{Bool, true, false, cond, false≢true}
use mathlib.Core.List.{List, [], ◌∷◌, ◌++◌, append-nil}
use Prim.Native.Nat.{ℕ, suc, ◌+◌, ◌-◌, ◌≤◌, ◌<◌}
use native.Mathlib.Nat.{add-zero}
use native.Mathlib.Omega.{arith}
use lib.ListN.{length, get_or, take, length-append}
use lib.Seq.{length-take-le, get_or-take}
use Rattle.tables.specs.Tables.{NOT, AND, OR, Gate, gate, total}
use Rattle.tables.specs.Runs.{run_from, randoms}
use Rattle.tables.specs.Inside.{ran_on, RunsTo}
use Rattle.tables.proofs.Run.{Solves, Earlier, run_solves}
use Rattle.tables.proofs.Lists.{bits_nil}
use Rattle.tables.proofs.Ran.{ran_taken, ran_keep, runs_less}
use Rattle.construction.specs.Shares.{pairs, tri}
use Rattle.construction.specs.Gadgets.{Gadget}
use Rattle.construction.specs.Wires.{and_part, share, first_on, and_shares, and_cost, cost}
use Rattle.construction.proofs.Rows.{pairs_in}
use Rattle.construction.proofs.Lawful.{Lawful}
use Rattle.construction.proofs.Costs.{and_draws}
use Rattle.secrecy.specs.Maps.{gate_flips}
use Rattle.secrecy.specs.Both.{BothFlip, BothReady}
use Rattle.secrecy.proofs.Flips.{gate_flips_length, pairs_flips_same, first_not_same, first_not_flips}
use Rattle.secrecy.proofs.Both.{run_after, flips_after, flips_append, both_none, both_less}
use Rattle.layout.specs.declared.Places as DPlaces
use Rattle.layout.specs.Layout.{share_wires, and_gates, or_gates}
use Rattle.layout.proofs.ShareWires.{first_each}
use Rattle.layout.proofs.Pieces.{and_gates_lem, and_gates_long}
use Rattle.map_values.specs.Driving.{SharesBefore}
use Rattle.map_gates.specs.Steps.{product_kind, product_gates, not_gates, last_gates}

-- the values once two NOTs of wires l and r have run on from wire w
record NotsRan (w l r : ℕ) (x x₁ : List ℕ) : Type 0 where
  first : get_or x₁ w 0 ≡ 1 - get_or x₁ l 0
  second : get_or x₁ (suc w) 0 ≡ 1 - get_or x₁ r 0
  keep : (p : ℕ) → p < w → get_or x p 0 ≡ get_or x₁ p 0

nots_ran :
    (w l r : ℕ) {x x₁ : List ℕ} → l < w → r < w → w + 2 ≤ length x → x₁ ≡ ran_on (not_gates l r) [] w x → NotsRan w l r x x₁
unfolding Solves Earlier
nots_ran w l r {x} {x₁} hl hr fits e =
    let gs = not_gates l r in
    let vs = run_from gs [] (take w x) in
    let solved = run_solves w gs [] (take w x) (length-take-le w x (omega arith)) (hl, (omega arith, tt)) in
    let taken : take (w + 2) x₁ ≡ vs = ap (take (w + 2)) e ∙ ran_taken gs [] w x fits refl in
    let at : (p : ℕ) → p < w + 2 → get_or x₁ p 0 ≡ get_or vs p 0 =
    λ p h. sym (get_or-take (w + 2) x₁ p 0 h) ∙ ap (λ (l : List ℕ). get_or l p 0) taken in
    record {
      first = at w (omega arith) ∙ solved.0 ∙ ap (λ (y : ℕ). 1 - y) (sym (at l (omega arith)));
      second = at (suc w) (omega arith) ∙ solved.1.0 ∙ ap (λ (y : ℕ). 1 - y) (sym (at r (omega arith)));
      keep = λ p h. sym (ap (λ (l : List ℕ). get_or l p 0) e ∙ ran_keep gs [] w x fits p h);
    }

module _ (n w : ℕ) (a b p q : DPlaces.Places) {ts : List ℕ} {at : ℕ} {m x y x₁ y₁ : List ℕ}
    (some : 1 ≤ n)
    (before : SharesBefore n w a b)
    (R : BothReady w (cost OR n) at (tri n) ts m x y)
    (left : share_wires n p ≡ first_on w (share_wires n a))
    (right : share_wires n q ≡ first_on (w + 1) (share_wires n b))
    (one : x₁ ≡ ran_on (not_gates a.head b.head) [] w x)
    (other : y₁ ≡ ran_on (not_gates a.head b.head) [] w y) where
  abbrev A : List ℕ
  A = share_wires n a

  abbrev B : List ℕ
  B = share_wires n b

  abbrev nots : List Gate
  nots = not_gates a.head b.head

  nots_draw : length {A = ℕ} [] ≡ randoms nots
  unfolding total
  nots_draw = refl

  -- after the NOTs there is room for the AND and the last NOT
  product_ready : BothReady (w + 2) (and_cost n + 1) at (tri n) ts m x₁ y₁
  product_ready =
      record {
        one = run_after nots [] w (and_cost n + 1) one bits_nil (runs_less (2 + (and_cost n + 1)) R.one (omega arith));
        other = run_after nots [] w (and_cost n + 1) other bits_nil (runs_less (2 + (and_cost n + 1)) R.other (omega arith));
        tape = R.tape;
        room = R.room;
        few = R.few;
        bits = R.bits;
      }

  pub or_and_ready : w + 2 ≤ 65535 → SharesBefore n (w + 2) p q × BothReady (w + 2) (cost AND n) at (tri n) ts m x₁ y₁
  or_and_ready low = (
    record {
      few = before.few;
      low = low;
      left = first_each (λ z. z < w + 2) n w a p left (omega arith) (λ i h. omega (arith, before.left i h));
      right = first_each (λ z. z < w + 2) n (w + 1) b q right (omega arith) (λ i h. omega (arith, before.right i h));
    },
    both_less (and_cost n) (tri n) product_ready (omega arith) (omega arith),
  )

  -- with the AND of a lawful gadget, where k is the free share
  module _ {G : Gadget} (L : Lawful G) (k : ℕ) where
    abbrev product : List Gate
    product = and_gates G n (w + 2) (share_wires n p) (share_wires n q)

    abbrev last : List Gate
    last = last_gates n (w + 2)

    abbrev flips : List ℕ
    flips = gate_flips G AND n k (share_wires n p) (share_wires n q) (λ i. get_or x₁ i 0) (λ i. get_or y₁ i 0)

    product_long : length product ≡ and_cost n
    product_long = and_gates_long G n (w + 2) (share_wires n p) (share_wires n q)

    flips_long : length flips ≡ tri n
    flips_long = gate_flips_length G AND n k (share_wires n p) (share_wires n q) (λ i. get_or x₁ i 0) (λ i. get_or y₁ i 0)

    product_draws : length flips ≡ randoms product
    product_draws =
        flips_long
        ∙ sym
        (ap {A = List Gate} {B = ℕ} randoms (sym (and_gates_lem G n (and_part 0) (w + 2) (share_wires n p) (share_wires n q)))
        ∙ and_draws L n (and_part 0) (w + 2) (share_wires n p) (share_wires n q))

    -- the OR's flips, before the NOTs and after them
    or_flips : flips ≡ gate_flips G OR n k A B (λ i. get_or x i 0) (λ i. get_or y i 0)
    or_flips =
        let v = nots_ran w a.head b.head (before.left 0 some) (before.right 0 some) (omega (arith, R.one.room)) one in
        let u = nots_ran w a.head b.head (before.left 0 some) (before.right 0 some) (omega (arith, R.other.room)) other in
        let next : w + 1 ≡ suc w = omega arith in
        let right' : share_wires n q ≡ first_on (suc w) B = rw next at right in
        ap₂ (λ (l r : List ℕ). gate_flips G AND n k l r (λ i. get_or x₁ i 0) (λ i. get_or y₁ i 0)) left right'
        ∙ sym
        (pairs_flips_same G n k _ _ _ _ _ _ _ _ (pairs n) (pairs_in n)
        (first_not_same (λ i h. v.keep _ (before.left i h)))
        (first_not_same (λ i h. v.keep _ (before.right i h)))
        (first_not_same (λ i h. u.keep _ (before.left i h)))
        (first_not_same (λ i h. u.keep _ (before.right i h)))
        ∙ first_not_flips G n k w A B (λ i. get_or x₁ i 0) (λ i. get_or y₁ i 0) v.first v.second u.first u.second)

    or_gates_are : nots ++ (product ++ last) ≡ or_gates G n w A B
    or_gates_are =
        let next : w + 1 ≡ suc w = omega arith in
        let after : w + 2 ≡ suc (suc w) = omega arith in
        let all : ℕ → List ℕ → List ℕ → List Gate =
        λ v l r. nots ++ (and_gates G n v l r ++ (gate NOT (share (and_shares n v) 0) 0 ∷ [])) in
        ap {A = ℕ} {B = List Gate} (λ v. all v (share_wires n p) (share_wires n q)) after
        ∙ ap₂ {A = List ℕ} {B = List ℕ} {C = List Gate} (all (suc (suc w))) left (rw next at right)

    -- the AND has run on
    module _ {m₂ x₂ y₂ : List ℕ} (ran : BothFlip product flips ts at (w + 2) m m₂ x₁ x₂ y₁ y₂) where
      all_ready : BothReady (w + 2) (length product + length last) at (length flips + length {A = ℕ} []) ts m x₁ y₁
      all_ready = both_less _ _ product_ready (omega (arith, product_long)) (omega (arith, flips_long))

      pub last_ready : RunsTo (w + 2 + and_cost n) 1 x₂ × RunsTo (w + 2 + and_cost n) 1 y₂
      last_ready =
          let after = (flips_after product last flips [] all_ready product_draws ran).left.ready in
          (rw product_long at after.one, rw product_long at after.other)

      or_ran :
          {x₃ y₃ : List ℕ} → x₃ ≡ ran_on last [] (w + 2 + and_cost n) x₂ → y₃ ≡ ran_on last [] (w + 2 + and_cost n) y₂
          → BothFlip (or_gates G n w A B) (gate_flips G OR n k A B (λ i. get_or x i 0) (λ i. get_or y i 0)) ts at w m m₂ x x₃ y y₃
      or_ran {x₃} {y₃} e₃ e₄ =
          let finish : BothFlip last [] ts (at + length flips) (w + 2 + length product) m₂ m₂ x₂ x₃ y₂ y₃ =
          rw product_long (both_none last (at + length flips) (w + 2 + and_cost n) ts m₂ e₃ e₄) in
          let second = flips_append product last flips [] all_ready product_draws ran finish in
          let same : flips ++ [] ≡ flips = append-nil flips in
          let rest : BothFlip (product ++ last) flips ts (at + 0) (w + 2) m m₂ x₁ x₃ y₁ y₃ = rw (add-zero, ← same) second in
          let ready : BothReady w (2 + length (product ++ last)) at (0 + length flips) ts m x y =
          both_less _ _ R (omega (arith, length-append product last, product_long)) (omega (arith, flips_long)) in
          let whole = flips_append nots (product ++ last) [] flips ready nots_draw (both_none nots at w ts m one other) rest in
          subst₂ (λ (gs : List Gate) (fs : List ℕ). BothFlip gs fs ts at w m m₂ x x₃ y y₃) or_gates_are or_flips whole

-- an AND or an OR that has begun: its AND is from wire v on, between shares at p and q; the values are x₁ and y₁, where they were
-- x and y
pub record Begun (or : Bool) (n w : ℕ) (a b p q : DPlaces.Places) (v : ℕ) (x y x₁ y₁ : List ℕ) : Type 0 where
  pub wire : v ≡ cond or (w + 2) w
  pub left : share_wires n p ≡ first_on (cond or w a.head) (share_wires n a)
  pub right : share_wires n q ≡ first_on (cond or (w + 1) b.head) (share_wires n b)
  pub one : x₁ ≡ cond or (ran_on (not_gates a.head b.head) [] w x) x
  pub other : y₁ ≡ cond or (ran_on (not_gates a.head b.head) [] w y) y

pub begun_of :
    (or : Bool) (n w : ℕ) (a b p q : DPlaces.Places) {h g v : ℕ} {x y x₁ y₁ : List ℕ} → v ≡ cond or (w + 2) w → h ≡ cond or w a.head
    → g ≡ cond or (w + 1) b.head → ((m : ℕ) → share_wires m p ≡ first_on h (share_wires m a))
    → ((m : ℕ) → share_wires m q ≡ first_on g (share_wires m b))
    → (x₁ ≡ cond or (ran_on (not_gates a.head b.head) [] w x) x) × (y₁ ≡ cond or (ran_on (not_gates a.head b.head) [] w y) y)
    → Begun or n w a b p q v x y x₁ y₁
begun_of or n w a b p q wire eh eg left right ran =
    record { wire = wire; left = rw eh at (left n); right = rw eg at (right n); one = ran.0; other = ran.1 }

-- what `map_product` takes
abbrev pub ProductReady : Bool → ℕ → ℕ → DPlaces.Places → DPlaces.Places → List ℕ → ℕ → List ℕ → List ℕ → List ℕ → Type 0
ProductReady or n w a b ts at m x y =
    (1 ≤ n) × SharesBefore n w a b × (w + cost (product_kind or) n ≤ 65535) × BothReady w (cost (product_kind or) n) at (tri n) ts m x y

pub product_nots_ready :
    (or : Bool) {n w : ℕ} {a b : DPlaces.Places} {ts : List ℕ} {at : ℕ} {m x y : List ℕ} → ProductReady or n w a b ts at m x y → or ≡ true
    → RunsTo w 2 x × RunsTo w 2 y × (a.head < w) × (b.head < w)
product_nots_ready true P e =
    (runs_less 2 P.3.one (omega arith), runs_less 2 P.3.other (omega arith), P.1.left 0 P.0, P.1.right 0 P.0)
product_nots_ready false P e = absurd (false≢true e)

pub product_and_ready :
    (or : Bool) {n w v : ℕ} {a b p q : DPlaces.Places} {ts : List ℕ} {at : ℕ} {m x y x₁ y₁ : List ℕ} → ProductReady or n w a b ts at m x y
    → Begun or n w a b p q v x y x₁ y₁ → SharesBefore n v p q × (v + cost AND n ≤ 65535) × BothReady v (cost AND n) at (tri n) ts m x₁ y₁
product_and_ready true {n} {w} {a = a} {b} {p} {q} P S =
    let ready = or_and_ready n w a b p q P.0 P.1 P.3 S.left S.right S.one S.other (omega (arith, P.2)) in
    rw S.wire (ready.0, omega (arith, P.2), ready.1)
product_and_ready false {n} {w} P S =
    let Before : List ℕ → Type 0 = λ l. (i : ℕ) → i < n → share l i < w in
    rw (S.wire, S.one, S.other) (
      record {
        few = P.1.few;
        low = P.1.low;
        left = subst Before (sym S.left) P.1.left;
        right = subst Before (sym S.right) P.1.right;
      },
      P.2,
      P.3,
    )

-- the AND has run on
abbrev AndRan :
    Gadget → ℕ → ℕ → DPlaces.Places → DPlaces.Places → ℕ → List ℕ → ℕ → List ℕ → List ℕ → List ℕ → List ℕ → List ℕ → List ℕ → Type 0
AndRan G n k p q v ts at m m₂ x₁ x₂ y₁ y₂ =
    BothFlip (and_gates G n v (share_wires n p) (share_wires n q))
    (gate_flips G AND n k (share_wires n p) (share_wires n q) (λ i. get_or x₁ i 0) (λ i. get_or y₁ i 0)) ts at v m m₂ x₁ x₂ y₁ y₂

pub product_last_ready :
    {G : Gadget} → Lawful G → (or : Bool) (k : ℕ) {n w v : ℕ} {a b p q : DPlaces.Places} {ts : List ℕ} {at : ℕ} {m m₂ x y x₁ y₁ x₂ y₂ : List ℕ}
    → ProductReady or n w a b ts at m x y → Begun or n w a b p q v x y x₁ y₁ → AndRan G n k p q v ts at m m₂ x₁ x₂ y₁ y₂ → or ≡ true
    → (1 ≤ n) × (n ≤ 31) × (v + and_cost n ≤ 65535) × RunsTo (v + and_cost n) 1 x₂ × RunsTo (v + and_cost n) 1 y₂
product_last_ready L true k {n} {w} {a = a} {b} {p} {q} P S ran e =
    let ready = last_ready n w a b p q P.0 P.1 P.3 S.left S.right S.one S.other L k (rw S.wire at ran) in
    rw S.wire (P.0, P.1.few, omega (arith, P.2), ready.0, ready.1)
product_last_ready L false k P S ran e = absurd (false≢true e)

pub product_ran :
    {G : Gadget} → Lawful G → (or : Bool) (k : ℕ) {n w v : ℕ} {a b p q : DPlaces.Places} {ts : List ℕ} {at : ℕ} {m m₂ x y x₁ y₁ x₂ y₂ x₃ y₃ : List ℕ}
    → ProductReady or n w a b ts at m x y → Begun or n w a b p q v x y x₁ y₁ → AndRan G n k p q v ts at m m₂ x₁ x₂ y₁ y₂
    → x₃ ≡ cond or (ran_on (last_gates n v) [] (v + and_cost n) x₂) x₂ → y₃ ≡ cond or (ran_on (last_gates n v) [] (v + and_cost n) y₂) y₂
    → BothFlip (product_gates G or n w (share_wires n a) (share_wires n b))
    (gate_flips G (product_kind or) n k (share_wires n a) (share_wires n b) (λ i. get_or x i 0) (λ i. get_or y i 0)) ts at w m m₂ x x₃ y y₃
product_ran L true k {n} {w} {a = a} {b} {p} {q} P S ran e f =
    or_ran n w a b p q P.0 P.1 P.3 S.left S.right S.one S.other L k (rw S.wire at ran) (rw S.wire at e)
    (rw S.wire at f)
product_ran {G} L false k {n} {w} {v} {p = p} {q} {ts} {at} {m} {m₂} {x} {y} {x₂ = x₂} {y₂} P S ran e f =
    let same : AndRan G n k p q w ts at m m₂ x x₂ y y₂ = rw (S.wire, S.one, S.other) at ran in
    rw (e, f)
    (subst₂
    (λ (l r : List ℕ).
    BothFlip (and_gates G n w l r) (gate_flips G AND n k l r (λ i. get_or x i 0) (λ i. get_or y i 0)) ts at w m m₂ x x₂ y y₂)
    S.left
    S.right
    same)

-- The share numbers that probes carry, for each case that the code tells apart.
-- Assumes nothing.
use mathlib.Core.Path.{◌≡◌, refl, sym, ◌∙◌}
use mathlib.Core.Bool.{Bool, true, false, ◌||◌, cond}
use mathlib.Core.List.{List, [], ◌∷◌}
use Prim.Native.Nat.{ℕ, suc, ◌+◌, ◌-◌, ◌*◌, ◌%◌, ◌≤◌, ◌<◌}
use native.Mathlib.Numerals.{add-one}
use native.Mathlib.Omega.{arith}
use borrow.Author.Tests.{ltb-true, ltb-false, eqb-true, eqb-false, le-leb, lt-leb}
use Rattle.tables.proofs.Tests.{or_false}
use lib.Dec.{eqb, ltb, leb}
use lib.ListN.{length, get_or}
use Rattle.std.specs.Prelude.{None, Ok, Err}
use Rattle.tables.specs.Refusals.{fault, none, refused_if}
use Rattle.tables.specs.Refusing.{fault_of}
use Rattle.tables.specs.Kinds.{kind_is}
use Rattle.tables.specs.Tables.{NOT, XOR, AND, CONSTANT, OR, gate, Table, wires, table_of}
use Rattle.tables.specs.declared.Refusal as DRefusal
use Rattle.tables.specs.declared.Refusal.TheVariants as Refusal
use Rattle.planning.specs.declared.Plan as DPlan
use Rattle.origins.specs.declared.NewWire as DNewWire
use Rattle.construction.specs.declared.Carried as DCarried
use Rattle.origins.specs.declared.AndPart as DAndPart
use Rattle.origins.specs.declared.AndPart.TheVariants.{Pair, Own, Sum}
use Rattle.construction.specs.Shares.{shares_of}
use Rattle.construction.specs.declared.And as DAnd
use Rattle.construction.specs.Gadgets.{Gadget, gadget_of}
use Rattle.construction.specs.PinMarks.{with_pins}
use Rattle.construction.specs.Wires.{in_and, xor_share, and_part, constant_share, or_part, marks, share, first_on, and_cost, cost}
use Rattle.construction.specs.Wires.{masked_table, origins, origin_at, probe_marks}
use Rattle.construction.specs.Says.{plain_fault, marks_fault, MarksSay}
use Rattle.construction.specs.Told.{second_of, marks_of}
use Rattle.planning.specs.Plans.{PlanReady}
use Rattle.tables.proofs.Answers.{refused_fails, refused_first}
use Rattle.origins.specs.Origins.{Among, second_in, PartSays, CarriedSays, PartMarksSay, GateMarksSay, NewWireSays}
use Rattle.gate_costs.proofs.Figures.{tri_small, square_small}
use Rattle.construction.proofs.Lawful.{lawful}
use Rattle.construction.proofs.Passed.{plain_passed}
use Rattle.construction.proofs.Pins.{probe_marks_lem}
use Rattle.construction.proofs.Origins.{origins_input, not_origin, share_origin, first_origin, last_origin, inner_origin}

-- one share number
abbrev pub one : ℕ → DCarried.Carried
one i = record { first = i + 1; second = None }

-- share 1 alone
first_alone : {ms : List ℕ} → ms ≡ 1 ∷ [] → CarriedSays ms (record { first = 1; second = None })
first_alone e = rw e (record { first = refl; second = refl })

-- new wire d of an OR, whose last one is number e
module _ (n d : ℕ) {e : ℕ} (last : e ≡ 2 + and_cost n) where
  pub or_not_marks : {H : Gadget} → ltb d 2 || eqb d e ≡ true → GateMarksSay H OR n d (record { first = 1; second = None })
  or_not_marks {H} h = go (ltb d 2) refl h
    where
      go : (t : Bool) → ltb d 2 ≡ t → t || eqb d e ≡ true → GateMarksSay H OR n d (record { first = 1; second = None })
      go true t h = record { carried = λ G l g w a b. first_alone (first_origin G l n g w a b H d (ltb-true d 2 t)) }
      go false t h = record { carried = λ G l g w a b. first_alone (last_origin G l n g w a b H d (eqb-true d e h ∙ last)) }

  -- a wire of the AND
  module _ (h : ltb d 2 || eqb d e ≡ false) (below : d < cost OR n) where
    pub inner : (2 ≤ d) × (d < 2 + and_cost n)
    inner =
        let both = or_false (ltb d 2) (eqb d e) h in
        let other = eqb-false d e both.1 in
        (ltb-false d 2 both.0, omega (arith, other, last))

    pub or_and_marks :
        {H : Gadget} {p : DAndPart.AndPart} {r : DCarried.Carried}
        → PartSays n (d - 2) p → PartMarksSay H p r → GateMarksSay H OR n d r
    or_and_marks P M =
        record {
          carried = λ G l g w a b.
              rw (
                inner_origin G l n g w a b d inner.0 inner.1,
                P.origin G
                    (λ p. or_part g (in_and p)) (suc (suc w)) (first_on w a) (first_on (suc w) b),
              )
              M.carried;
        }

pub ruleset or_laws = (tri_small, square_small, or_not_marks, or_and_marks)

-- new wire d of a gate of each other kind
module _ (n d : ℕ) {H : Gadget} where
  pub not_marks : d < cost NOT n → GateMarksSay H NOT n d (record { first = 1; second = None })
  not_marks h = record { carried = λ G l g w a b. rw (not_origin G l n g w a b d h) (record { first = refl; second = refl }) }

  pub xor_marks : d < cost XOR n → GateMarksSay H XOR n d (one d)
  xor_marks h =
      record {
        carried = λ G l g w a b.
            rw (share_origin n (λ s. gate XOR (share a s) (share b s)) (xor_share g) d h) (record { first = add-one d; second = refl });
      }

  pub constant_marks : d < cost CONSTANT n → GateMarksSay H CONSTANT n d (one d)
  constant_marks h =
      record {
        carried = λ G l g w a b.
            rw (share_origin n (λ s. gate CONSTANT (cond (eqb s 0) l 0) 0) (constant_share g) d h)
            (record { first = add-one d; second = refl });
      }

  pub and_marks : {p : DAndPart.AndPart} {r : DCarried.Carried} → PartSays n d p → PartMarksSay H p r → GateMarksSay H AND n d r
  and_marks P M = record { carried = λ G l g w a b. rw (P.origin G (and_part g) w a b) M.carried }

pub ruleset gate_laws = (not_marks, xor_marks, constant_marks, and_marks)

pub among_more : {n m : ℕ} (p : DAndPart.AndPart) → n ≤ m → Among n p → Among m p
among_more (Pair f i j) h a = omega arith
among_more (Own i) h a = omega arith
among_more (Sum i m) h a = omega arith

-- the wires of a planned table: an input share, and a new wire of a gate
module _ (a : DAnd.And) {s : List ℕ} {p : DPlan.Plan} {w : ℕ} (R : PlanReady s p) (inside : w < p.wires) where
  abbrev G : Gadget
  G = gadget_of a

  abbrev t : Table
  t = table_of s

  -- the marks of a probe, by where its wire comes from; they are two at most
  joined_marks :
      (probe_marks G p.order t w ≡ marks (with_pins G) (origin_at (origins G p.order t) w))
      × (length (probe_marks G p.order t w) ≤ 2)
  joined_marks =
      probe_marks_lem (lawful a) p.order t (plain_passed G s p.order (rw (R.none a))).plain w (omega (arith, R.wires a))

  pub two_carried : length (probe_marks G p.order t w) ≤ 2
  two_carried = joined_marks.1

  pub input_carried :
      w < p.shares * p.inputs → CarriedSays (probe_marks G p.order t w) (one (w % p.shares))
  input_carried h =
      let shares : p.shares * p.inputs ≡ shares_of p.order * t.inputs = rw (R.shares, R.inputs) in
      rw (R.shares, joined_marks.0, origins_input G p.order t w (omega arith))
      (record { first = add-one (w % shares_of p.order); second = refl })

  pub new_below : {x : DNewWire.NewWire} → NewWireSays G t p.order w x → x.place < cost (kind_is x.kind) p.shares
  new_below N = rw R.shares N.below

  pub new_carried :
      {x : DNewWire.NewWire} {r : DCarried.Carried} → NewWireSays G t p.order w x
      → GateMarksSay (with_pins G) (kind_is x.kind) p.shares x.place r → CarriedSays (probe_marks G p.order t w) r
  new_carried {x} N M =
      rw (joined_marks.0, N.origin) ((rw R.shares at M).carried G N.operand x.gate N.start N.left N.right)

-- the second of one or two share numbers, as C is told of it
second_is : (ms : List ℕ) → second_of (second_in ms) ≡ get_or ms 1 0
second_is [] = refl
second_is (a ∷ []) = refl
second_is (a ∷ b ∷ ms) = refl

-- the marks call: 1 to 8, 13, and the share numbers
pub marks_refused :
    (G : Gadget) (s : List ℕ) (o w : ℕ) (e : DRefusal.Refusal) → plain_fault G s o ≡ fault_of e
    → MarksSay G (probe_marks G) s o w (marks_of (Err e))
unfolding marks_fault
marks_refused G s o w e h =
    let F = refused_first (refused_if (leb (wires (masked_table G o (table_of s))) w) 13) e h in
    let fails = refused_fails e F in
    record { number = rw F; place = rw F; first = rw fails; second = rw fails }

module _ (a : DAnd.And) (o w : ℕ) {s s' : List ℕ} {p : DPlan.Plan} (R : PlanReady s' p) (same : (s' ≡ s) × (p.order ≡ o)) where
  masked_wires_are : wires (masked_table (gadget_of a) o (table_of s)) ≡ p.wires
  masked_wires_are = rw (← same.0, ← same.1) (sym (R.wires a))

  none_at : plain_fault (gadget_of a) s o ≡ none
  none_at = rw (same.0, same.1) at (R.none a)

  pub marks_outside :
      p.wires ≤ w → MarksSay (gadget_of a) (probe_marks (gadget_of a)) s o w (marks_of (Err (Refusal.NoWire 0)))
  unfolding marks_fault
  marks_outside h =
      let past : leb (wires (masked_table (gadget_of a) o (table_of s))) w ≡ true = le-leb _ w (omega (arith, masked_wires_are)) in
      let e : marks_fault (gadget_of a) s o w ≡ fault 13 0 = rw (none_at, past) in
      record { number = rw e; place = rw e; first = rw e; second = rw e }

  pub marks_inside :
      {c : DCarried.Carried} → w < p.wires → CarriedSays (probe_marks (gadget_of a) p.order (table_of s') w) c
      → MarksSay (gadget_of a) (probe_marks (gadget_of a)) s o w (marks_of (Ok c))
      × CarriedSays (probe_marks (gadget_of a) o (table_of s) w) c
  unfolding marks_fault
  marks_inside h C =
      let before : leb (wires (masked_table (gadget_of a) o (table_of s))) w ≡ false = lt-leb _ w (omega (arith, masked_wires_are)) in
      let e : marks_fault (gadget_of a) s o w ≡ none = rw (none_at, before) in
      let D = rw (same.0, same.1) at C in
      let second = second_is (probe_marks (gadget_of a) o (table_of s) w) in
      (record { number = rw e; place = rw e; first = rw e D.first; second = rw (e, D.second) second }, D)

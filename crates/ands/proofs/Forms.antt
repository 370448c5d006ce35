-- The form of each AND's pairs is that of its gadget.
-- Assumes nothing.
use mathlib.Core.Path.{◌≡◌, refl, sym, ◌∙◌}
use mathlib.Core.Bool.{Bool, true, false, cond}
use Prim.Native.Nat.{ℕ, ◌+◌, ◌-◌, ◌*◌, ◌≤◌, ◌<◌}
use native.Mathlib.Omega.{arith}
use lib.Dec.{eqb}
use borrow.Author.Tests.{eqb-true, eq-eqb, ne_eqb}
use Rattle.std.proofs.Common.{None, Some}
use Rattle.tables.specs.Runs.{xor}
use Rattle.construction.specs.declared.And as DAnd
use Rattle.construction.specs.declared.And.TheVariants.{Isw, Dom}
use Rattle.construction.specs.Gadgets.{Gadget, isw, dom, gadget_of}
use Rattle.construction.proofs.PinMarks.{isw_marks_lem, dom_marks_lem}
use Rattle.construction.proofs.Placed.{index_small}
use Rattle.ands.specs.declared.PairForm as DPairForm
use Rattle.ands.specs.Forms.{form_flip, upper_flipped, FormSays}

at_0 : (w : ℕ) → w + 0 ≡ w
at_0 w = omega arith

abbrev isw_form : DPairForm.PairForm
isw_form = record { third = record { left = 0; right = 1 }; fifth = record { left = 2; right = 3 }; low = 0; high = 4; both = 1 }

abbrev dom_form : DPairForm.PairForm
dom_form = record { third = record { left = 1; right = 0 }; fifth = record { left = 3; right = 0 }; low = 2; high = 4; both = 0 }

-- what a pair flips
isw_flip : (k i j p q : ℕ) → q ≤ 1 → isw.flip k i j p q ≡ form_flip isw_form k i j p q
isw_flip k i j p q h = go (eqb i k) (eqb j k)
  where
    go : (t u : Bool) → cond t (xor p q) 0 ≡ cond t (xor (1 * p) q) (cond u (0 * p) 0)
    go true u = omega arith
    go false true = omega arith
    go false false = refl

dom_flip : (k i j p q : ℕ) → q ≤ 1 → dom.flip k i j p q ≡ form_flip dom_form k i j p q
dom_flip k i j p q h = go (eqb i k) (eqb j k)
  where
    go : (t u : Bool) → cond t q (cond u p 0) ≡ cond t (xor (0 * p) q) (cond u (1 * p) 0)
    go true u = omega arith
    go false true = omega arith
    go false false = refl

pub isw_form_lem : FormSays isw isw_form
isw_form_lem =
    record {
      third = (omega arith, omega arith);
      fifth = (omega arith, omega arith);
      gates = λ w ai bj aj bi. rw (at_0 w) refl;
      low = refl;
      high = refl;
      marks = isw_marks_lem;
      both = omega arith;
      third_adds = λ w v. rw (at_0 w) refl;
      fifth_adds = λ w v e. rw e (omega arith);
      flip = isw_flip;
    }

pub dom_form_lem : FormSays dom dom_form
dom_form_lem =
    record {
      third = (omega arith, omega arith);
      fifth = (omega arith, omega arith);
      gates = λ w ai bj aj bi. rw (at_0 w) refl;
      low = refl;
      high = refl;
      marks = dom_marks_lem;
      both = omega arith;
      third_adds = λ w v. rw (at_0 w) (omega arith);
      fifth_adds = λ w v e. rw (at_0 w) (omega arith);
      flip = dom_flip;
    }

-- the wires that rows add are two of the five
pub form_below : {G : Gadget} {r : DPairForm.PairForm} → FormSays G r → (r.low < 5) × (r.high < 5)
form_below {G} F = (omega (arith, F.low, index_small G.low), omega (arith, F.high, index_small G.high))

-- what a pair flips, by the tests of the code
module _ {G : Gadget} {r : DPairForm.PairForm} (F : FormSays G r) (k i j p q : ℕ) (hq : q ≤ 1) where
  pub flip_lower : i ≡ k → xor (r.both * p) q ≡ G.flip k i j p q
  flip_lower e = sym (F.flip k i j p q hq ∙ rw (eq-eqb i k e))

  pub flip_none : (i ≡ k → ⊥) → (r.both ≡ 0 → j ≡ k → ⊥) → 0 ≡ G.flip k i j p q
  flip_none n h = sym (F.flip k i j p q hq ∙ rw (ne_eqb i k n) (go (eqb j k) refl))
    where
      go : (t : Bool) → eqb j k ≡ t → cond t ((1 - r.both) * p) 0 ≡ 0
      go true t =
          let alone : r.both ≡ 0 → ⊥ = λ b. h b (eqb-true j k t) in
          let one : r.both ≡ 1 = omega (arith, alone, F.both) in
          rw one (omega arith)
      go false t = refl

-- the upper share that may decide, by whether the fifth wire adds both products
module _ (a : DAnd.And) {r : DPairForm.PairForm} (F : FormSays (gadget_of a) r) (k : ℕ) where
  pub upper_none : (r.both ≡ 0 → ⊥) → upper_flipped a k ≡ None
  upper_none n = go a F
    where
      go : (a : DAnd.And) → FormSays (gadget_of a) r → upper_flipped a k ≡ None
      go Isw F = refl
      go Dom F =
          let one : ◌≡◌ {A = ℕ} 1 ((1 - r.both) * 1) = F.flip 0 1 0 1 0 (omega arith) in
          absurd (n (omega (arith, one, F.both)))

  pub upper_free : r.both ≡ 0 → upper_flipped a k ≡ Some k
  upper_free b = go a F
    where
      go : (a : DAnd.And) → FormSays (gadget_of a) r → upper_flipped a k ≡ Some k
      go Isw F =
          let none : ◌≡◌ {A = ℕ} 0 ((1 - r.both) * 1) = F.flip 0 1 0 1 0 (omega arith) in
          absurd (omega (arith, none, b))
      go Dom F = refl

-- A gate's value by its kind and the truth tables.
-- Assumes nothing.
use mathlib.Core.Path.{◌≡◌, refl, ap, ◌∙◌}
use mathlib.Core.List.{List}
use Prim.Native.Nat.{ℕ, zero, suc, ◌+◌, ◌-◌, ◌*◌, ◌/◌, ◌%◌, ◌^◌, ◌≤◌}
use native.Mathlib.Nat.{add-zero}
use native.Mathlib.Omega.{arith}
use lib.ListN.{get_or}
use Rattle.run_gates.specs.declared.Drawn as DDrawn
use Rattle.tables.specs.declared.GateFields as DGateFields
use Rattle.tables.specs.declared.Kind as DKind
use Rattle.tables.specs.declared.Kind.TheVariants.{Not, Xor, And, Random, Constant, Or}
use Rattle.tables.specs.Tables.{kind_byte, kind_of}
use Rattle.tables.specs.Kinds.{kind_is}
use Rattle.tables.specs.Runs.{driven, drawn}
use Rattle.run_gates.specs.RunGates.{GateReady, GateSays}

-- what holds of the four pairs of bits holds of two bits
both_bits :
    (P : ℕ → ℕ → Type 0) → P 0 0 → P 0 1 → P 1 0 → P 1 1 → (a b : ℕ) → a ≤ 1 → b ≤ 1 → P a b
both_bits P p q r t zero zero h k = p
both_bits P p q r t zero (suc zero) h k = q
both_bits P p q r t zero (suc (suc b)) h k = absurd (omega arith)
both_bits P p q r t (suc zero) zero h k = r
both_bits P p q r t (suc zero) (suc zero) h k = t
both_bits P p q r t (suc zero) (suc (suc b)) h k = absurd (omega arith)
both_bits P p q r t (suc (suc a)) b h k = absurd (omega arith)

-- the truth tables of NOT, XOR, AND and OR
abbrev pub truth : DKind.Kind → ℕ → ℕ → ℕ
truth k a b = 14682211 / 2 ^ (4 * kind_byte (kind_is k) + 2 * a + b) % 2

-- a kind that is neither random nor a constant goes by the truth tables
truth_driven :
    (k : DKind.Kind) (a b : ℕ) → (k ≡ Random → ⊥) → (k ≡ Constant → ⊥) → a ≤ 1 → b ≤ 1
    → (l m c : ℕ) (v : ℕ → ℕ) → v l ≡ a → v m ≡ b → truth k a b ≡ driven (kind_is k) l m v c
truth_driven Not a b n o ha hb l m c v p q =
    rw p (both_bits (λ a b. truth Not a b ≡ 1 - a) refl refl refl refl a b ha hb)
truth_driven Xor a b n o ha hb l m c v p q =
    rw (p, q) (both_bits (λ a b. truth Xor a b ≡ (a + b) % 2) refl refl refl refl a b ha hb)
truth_driven And a b n o ha hb l m c v p q =
    rw (p, q) (both_bits (λ a b. truth And a b ≡ a * b) refl refl refl refl a b ha hb)
truth_driven Random a b n o ha hb l m c v p q = absurd (n refl)
truth_driven Constant a b n o ha hb l m c v p q = absurd (o refl)
truth_driven Or a b n o ha hb l m c v p q =
    rw (p, q) (both_bits (λ a b. truth Or a b ≡ 1 - (1 - a) * (1 - b)) refl refl refl refl a b ha hb)

-- a gate that is not random takes no bit
drawn_none : (k : DKind.Kind) → (k ≡ Random → ⊥) → drawn (kind_is k) ≡ 0
drawn_none Not h = refl
drawn_none Xor h = refl
drawn_none And h = refl
drawn_none Random h = absurd (h refl)
drawn_none Constant h = refl
drawn_none Or h = refl

-- the kind that a byte states, and its byte again
record Stated (b : ℕ) : Type 0 where
  kind : DKind.Kind
  named : kind_is kind ≡ kind_of b
  byte : b ≡ kind_byte (kind_is kind)

stated : (b : ℕ) → b ≤ 5 → Stated b
stated zero h = record { kind = Not; named = refl; byte = refl }
stated (suc zero) h = record { kind = Xor; named = refl; byte = refl }
stated (suc (suc zero)) h = record { kind = And; named = refl; byte = refl }
stated (suc (suc (suc zero))) h = record { kind = Random; named = refl; byte = refl }
stated (suc (suc (suc (suc zero)))) h = record { kind = Constant; named = refl; byte = refl }
stated (suc (suc (suc (suc (suc zero))))) h = record { kind = Or; named = refl; byte = refl }
stated (suc (suc (suc (suc (suc (suc b)))))) h = absurd (omega arith)

-- a random gate takes the next bit, a constant is its left operand; any other goes by the truth tables
module _ {x : DGateFields.GateFields} {a b : ℕ} {rs : List ℕ} {c : ℕ} where
  pub says_random :
      {r : DDrawn.Drawn} → x.kind ≡ 3 → r.value ≡ get_or rs c 0 → r.next ≡ c + 1 → GateSays x a b rs c r
  says_random e v n = record { value = λ m u p q. rw e v; next = rw e n }

  pub says_constant :
      {r : DDrawn.Drawn} → x.kind ≡ 4 → r.value ≡ x.left % 2 → r.next ≡ c → GateSays x a b rs c r
  says_constant e v n = record { value = λ m u p q. rw e v; next = rw (e, add-zero) n }

  module _ (ready : GateReady x a b rs c) (h : x.kind ≡ 3 → ⊥) (j : x.kind ≡ 4 → ⊥) where
    is : Stated x.kind
    is = stated x.kind ready.known

    no_random : is.kind ≡ Random → ⊥
    no_random e = h (is.byte ∙ ap (λ k. kind_byte (kind_is k)) e)

    no_constant : is.kind ≡ Constant → ⊥
    no_constant e = j (is.byte ∙ ap (λ k. kind_byte (kind_is k)) e)

    pub left_bit : a ≤ 1
    left_bit = ready.left is.kind is.named no_random no_constant

    pub says_truth :
        {r : DDrawn.Drawn} → r.value ≡ 14682211 / 2 ^ (4 * x.kind + 2 * a + b) % 2 → r.next ≡ c → GateSays x a b rs c r
    says_truth {r} v n =
        let row : r.value ≡ truth is.kind a b = rw is.byte at v in
        record {
          value = λ m u p q.
              row ∙ rw (← is.named) (truth_driven is.kind _ _ no_random no_constant left_bit ready.right _ m _ u p q);
          next = rw (← is.named, drawn_none is.kind no_random, add-zero) n;
        }

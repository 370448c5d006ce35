-- A plain gate in both runs, kind by kind.
-- Assumes nothing.
use mathlib.Core.Path.{◌≡◌, refl, sym, subst, subst₂}
use mathlib.Core.Bool.{Bool, true, false}
use mathlib.Core.Logic.{◌⊎◌, inl, inr}
use mathlib.Core.List.{List, [], ◌∷◌, map}
use Prim.Native.Nat.{ℕ, ◌≤◌}
use denote.Enum.Bare.{sameb}
use lib.ListN.{get_or, length}
use Rattle.tables.specs.declared.Kind as DKind
use Rattle.tables.specs.declared.Kind.TheVariants as Named
use Rattle.tables.specs.contracts.Kind.{the_type}
use Rattle.tables.specs.Kinds.{kind_is}
use Rattle.tables.specs.Tables.{Kind, NOT, XOR, AND, RANDOM, CONSTANT, OR, Gate, gate}
use Rattle.tables.specs.Inside.{ran_on}
use Rattle.tables.proofs.Ran.{ran_nil}
use Rattle.construction.specs.Gadgets.{Gadget}
use Rattle.construction.specs.Wires.{and_part, driver_of, new_wires}
use Rattle.secrecy.specs.Maps.{gate_flips}
use Rattle.secrecy.specs.Both.{BothFlip}
use Rattle.secrecy.proofs.Both.{both_none}
use Rattle.layout.specs.declared.Operands as DOperands
use Rattle.layout.specs.Layout.{share_wires, pieces_from, xor_gates, constant_gates}
use Rattle.layout.proofs.Pieces.{and_gates_lem, or_gates_lem, xor_gates_lem, constant_gates_lem}
use Rattle.map_gates.specs.Steps.{product_kind, product_gates, GateRan}

-- an AND or an OR, told apart by a test
pub product_is :
    (kind : DKind.Kind) {or : Bool} → (kind ≡ Named.And) ⊎ (kind ≡ Named.Or) → or ≡ sameb the_type kind Named.Or
    → kind_is kind ≡ product_kind or
product_is kind (inl e) t = rw (t, e) refl
product_is kind (inr e) t = rw (t, e) refl

module _ (G : Gadget) (left n k g w : ℕ) (o : DOperands.Operands) (ts : List ℕ) (at : ℕ) where
  abbrev a : List ℕ
  a = share_wires n o.left

  abbrev b : List ℕ
  b = share_wires n o.right

  module _ {m x x' y y' : List ℕ} where
    -- gates that draw nothing
    none_drawn :
        (kind : Kind) (gs : List Gate) → map driver_of (new_wires G kind left n g w a b) ≡ gs
        → gate_flips G kind n k a b (λ p. get_or x p 0) (λ p. get_or y p 0) ≡ [] → x' ≡ ran_on gs [] w x → y' ≡ ran_on gs [] w y
        → GateRan G kind left n k g w o ts at m m x x' y y'
    none_drawn kind gs are none one other =
        subst₂ (λ (hs : List Gate) (fs : List ℕ). BothFlip hs fs ts at w m m x x' y y') (sym are) (sym none)
        (both_none gs at w ts m one other)

    pub xor_gate :
        x' ≡ ran_on (pieces_from n 0 (xor_gates a b)) [] w x → y' ≡ ran_on (pieces_from n 0 (xor_gates a b)) [] w y
        → GateRan G XOR left n k g w o ts at m m x x' y y'
    xor_gate one other = none_drawn XOR (pieces_from n 0 (xor_gates a b)) (xor_gates_lem G left n g w a b) refl one other

    pub constant_gate :
        x' ≡ ran_on (pieces_from n 0 (constant_gates left)) [] w x → y' ≡ ran_on (pieces_from n 0 (constant_gates left)) [] w y
        → GateRan G CONSTANT left n k g w o ts at m m x x' y y'
    constant_gate one other =
        none_drawn CONSTANT (pieces_from n 0 (constant_gates left)) (constant_gates_lem G left n g w a b) refl one other

    pub not_gate :
        x' ≡ ran_on (gate NOT o.left.head 0 ∷ []) [] w x → y' ≡ ran_on (gate NOT o.left.head 0 ∷ []) [] w y
        → GateRan G NOT left n k g w o ts at m m x x' y y'
    not_gate one other = none_drawn NOT (gate NOT o.left.head 0 ∷ []) refl refl one other

  -- a random gate of a plain table would have no gates
  pub random_gate : {m x y : List ℕ} → w ≤ length x → w ≤ length y → GateRan G RANDOM left n k g w o ts at m m x x y y
  random_gate {x = x} {y = y} one other = none_drawn RANDOM [] refl refl (sym (ran_nil [] w x one)) (sym (ran_nil [] w y other))

  product_of :
      (or : Bool) {m m' x x' y y' : List ℕ}
      → BothFlip (product_gates G or n w a b)
      (gate_flips G (product_kind or) n k a b (λ p. get_or x p 0) (λ p. get_or y p 0)) ts at w m m' x x' y y'
      → GateRan G (product_kind or) left n k g w o ts at m m' x x' y y'
  product_of true {m} {m'} {x} {x'} {y} {y'} ran =
      subst
      (λ (gs : List Gate). BothFlip gs (gate_flips G OR n k a b (λ p. get_or x p 0) (λ p. get_or y p 0)) ts at w m m' x x' y y')
      (sym (or_gates_lem G left n g w a b)) ran
  product_of false {m} {m'} {x} {x'} {y} {y'} ran =
      subst
      (λ (gs : List Gate). BothFlip gs (gate_flips G AND n k a b (λ p. get_or x p 0) (λ p. get_or y p 0)) ts at w m m' x x' y y')
      (sym (and_gates_lem G n (and_part g) w a b)) ran

  -- an AND or an OR whose operands were read as r
  pub product_gate :
      (or : Bool) {r : DOperands.Operands} {m m' x x' y y' : List ℕ} → r ≡ o
      → BothFlip (product_gates G or n w (share_wires n r.left) (share_wires n r.right))
      (gate_flips G (product_kind or) n k (share_wires n r.left) (share_wires n r.right) (λ p. get_or x p 0) (λ p. get_or y p 0))
      ts at w m m' x x' y y'
      → GateRan G (product_kind or) left n k g w o ts at m m' x x' y y'
  product_gate or {r} {m} {m'} {x} {x'} {y} {y'} e ran =
      product_of or
      (subst
      (λ (q : DOperands.Operands). BothFlip (product_gates G or n w (share_wires n q.left) (share_wires n q.right))
      (gate_flips G (product_kind or) n k (share_wires n q.left) (share_wires n q.right) (λ p. get_or x p 0) (λ p. get_or y p 0))
      ts at w m m' x x' y y')
      e ran)

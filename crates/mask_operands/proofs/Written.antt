-- What was written of a plain gate, where the places that were read are where the shares are.
-- Assumes nothing.
use mathlib.Core.Path.{◌≡◌, sym, ap, ap₂, ◌∙◌}
use mathlib.Core.List.{List, map}
use Prim.Native.Nat.{ℕ}
use Rattle.tables.specs.Tables.{Kind, Gate, pair_bytes}
use Rattle.tables.specs.Inside.{put_at}
use Rattle.construction.specs.Gadgets.{Gadget}
use Rattle.construction.specs.Wires.{driver_of, new_wires}
use Rattle.layout.specs.declared.Operands as DOperands
use Rattle.layout.specs.Layout.{share_wires, operand_bytes}

-- whatever the gates of the kind are
pub written_where :
    (G : Gadget) (kind : Kind) (value n g w at : ℕ) (ops : List ℕ) {m : ℕ} {o o' : DOperands.Operands} {ops' : List ℕ}
    (gates : ℕ → List ℕ → List ℕ → List Gate) → ((A B : List ℕ) → map driver_of (new_wires G kind value n g w A B) ≡ gates n A B) → m ≡ n
    → o ≡ o' → ops' ≡ put_at at (pair_bytes (gates m (share_wires m o.left) (share_wires m o.right))) ops
    → ops' ≡ put_at at (operand_bytes (new_wires G kind value n g w (share_wires n o'.left) (share_wires n o'.right))) ops
written_where G kind value n g w at ops {m} {o} {o'} gates are shares same e =
    let bytes : ℕ → DOperands.Operands → List ℕ =
    λ k p. put_at at (pair_bytes (gates k (share_wires k p.left) (share_wires k p.right))) ops in
    e
    ∙ ap₂ bytes shares same
    ∙ ap {A = List Gate} {B = List ℕ} (λ gs. put_at at (pair_bytes gs) ops) (sym (are (share_wires n o'.left) (share_wires n o'.right)))

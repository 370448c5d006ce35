-- What holds of the new wires of each plain gate, from the shares of its operands, holds of the whole masked table: the induction over
-- the gates in table order. P is what holds of a wire, Q of the shares of a plain wire, and C what is known of the gates that are left.
-- Assumes nothing.
use mathlib.Core.Path.{◌≡◌, sym, ap, ◌∙◌, subst}
use mathlib.Core.List.{List, [], ◌∷◌, ◌++◌}
use Prim.Native.Nat.{ℕ, suc, ◌+◌}
use native.Mathlib.Omega.{arith}
use lib.ListN.{length, get_or, length-append}
use Rattle.tables.specs.Tables.{Gate, operands_of}
use Rattle.tables.proofs.Lists.{All, all_append, all_get_d}
use Rattle.tables.proofs.Run.{OfLeft, OfRight, read_left, read_right}
use Rattle.tables.proofs.Accept.{PlainGate, PlainGates, plain_reads}
use Rattle.construction.specs.Gadgets.{Gadget}
use Rattle.construction.specs.Wires.{Wire, new_wires, new_shares, cost, masked, shares_after}
use Rattle.construction.proofs.Each.{Each, each_append}
use Rattle.construction.proofs.Costs.{new_length}

module _
    (G : Gadget) (n : ℕ) (P : ℕ → Wire → Type 0) (Q : List ℕ → Type 0) (C : ℕ → ℕ → List (List ℕ) → List Gate → Type 0)
    (step :
    (g w : ℕ) (S : List (List ℕ)) (x : Gate) (xs : List Gate) → PlainGate (length S) x.kind x.left x.right
    → OfLeft (operands_of x.kind) (Q (get_or S x.left []))
    → OfRight (operands_of x.kind) (Q (get_or S x.right []))
    → C g w S (x ∷ xs)
    → (Each P w (new_wires G x.kind x.left n g w (get_or S x.left []) (get_or S x.right []))
    × Q (new_shares x.kind n w (get_or S x.left [])))
    × C (suc g) (w + cost x.kind n) (S ++ (new_shares x.kind n w (get_or S x.left []) ∷ [])) xs)
  where
    -- the shares come along, so that clocks can go on from them
    pub masked_each :
        (g w : ℕ) (S : List (List ℕ)) (xs : List Gate) → PlainGates (length S) xs → All Q S → C g w S xs
        → Each P w (masked G n g w S xs) × All Q (shares_after n w S xs)
    unfolding All Each masked shares_after PlainGates
    masked_each g w S [] p A c = (tt, A)
    masked_each g w S (x ∷ xs) p A c =
        let k = x.kind in
        let a = get_or S x.left [] in
        let b = get_or S x.right [] in
        let ws = new_wires G k x.left n g w a b in
        let T = S ++ (new_shares k n w a ∷ []) in
        let reads = plain_reads (length S) k x.left x.right p.0 in
        let here = step g w S x xs p.0
        (read_left (operands_of k) (length S) x.left x.right reads (all_get_d Q S x.left [] A))
        (read_right (operands_of k) (length S) x.left x.right reads (all_get_d Q S x.right [] A))
        c in
        let one : suc (length S) ≡ length T = sym (length-append S (new_shares k n w a ∷ []) ∙ omega arith) in
        let long : w + cost k n ≡ w + length ws = ap (λ (z : ℕ). w + z) (sym (new_length G k x.left n g w a b)) in
        let rest = masked_each (suc g) (w + cost k n) T xs
        (subst (λ (z : ℕ). PlainGates z xs) one p.1)
        (all_append Q S (new_shares k n w a ∷ []) A (here.0.1, tt))
        here.1 in (
          each_append P w ws _ here.0.0 (subst (λ (z : ℕ). Each P z (masked G n (suc g) (w + cost k n) T xs)) long rest.0),
          rest.1,
        )

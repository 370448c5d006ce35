-- The operands of an OR's wires, written one after another: two NOTs, the AND, a NOT.
-- Assumes nothing.
use mathlib.Core.Path.{◌≡◌, refl, sym, ap, ◌∙◌}
use mathlib.Core.List.{List, [], ◌∷◌, ◌++◌}
use Prim.Native.Nat.{ℕ, suc, ◌+◌, ◌*◌, ◌≤◌}
use native.Mathlib.Omega.{arith}
use lib.ListN.{length, length-append}
use Rattle.tables.specs.Tables.{NOT, OR, gate, two, pair_bytes}
use Rattle.tables.specs.Inside.{put_at}
use Rattle.tables.proofs.Format.{pairs_long}
use Rattle.tables.proofs.Put.{put_then}
use Rattle.construction.specs.Gadgets.{Gadget}
use Rattle.construction.specs.Wires.{share, first_on, and_shares, and_cost, cost}
use Rattle.layout.specs.Layout.{and_gates, or_gates}
use Rattle.layout.proofs.Bytes.{pairs_append}
use Rattle.layout.proofs.Pieces.{and_gates_long}

-- the two NOTs
abbrev nots_bytes : List ℕ → List ℕ → List ℕ
nots_bytes A B = (two (share A 0) ++ two 0) ++ (two (share B 0) ++ two 0)

-- all bytes, in the three parts that are written
or_parts :
    (G : Gadget) (n w : ℕ) (A B : List ℕ)
    → (nots_bytes A B ++ pair_bytes (and_gates G n (suc (suc w)) (first_on w A) (first_on (suc w) B)))
    ++ (two (share (and_shares n (suc (suc w))) 0) ++ two 0)
    ≡ pair_bytes (or_gates G n w A B)
unfolding pair_bytes
or_parts G n w A B =
    let v = suc (suc w) in
    let product = and_gates G n v (first_on w A) (first_on (suc w) B) in
    ap {A = List ℕ} {B = List ℕ} (λ y. nots_bytes A B ++ y)
    (sym (pairs_append product (gate NOT (share (and_shares n v) 0) 0 ∷ [])))

pub or_bytes :
    (G : Gadget) (n w at : ℕ) (A B b : List ℕ) {u u' end last : ℕ} {X Y b₁ b₂ b₃ b₄ : List ℕ} → 1 ≤ n → at + 4 * cost OR n ≤ length b
    → b₁ ≡ put_at at (two (share A 0) ++ two 0) b → b₂ ≡ put_at (at + 4) (two (share B 0) ++ two 0) b₁ → u ≡ suc w → u' ≡ suc (suc w)
    → X ≡ first_on w A → Y ≡ first_on u B → b₃ ≡ put_at (at + 8) (pair_bytes (and_gates G n u' X Y)) b₂
    → end ≡ at + 8 + 4 * and_cost n → last ≡ share (and_shares n u') 0 → b₄ ≡ put_at end (two last ++ two 0) b₃
    → b₄ ≡ put_at at (pair_bytes (or_gates G n w A B)) b
or_bytes G n w at A B b {u} {u'} {end} {last} {X} {Y} {b₁} {b₂} {b₃} {b₄} some room p₁ p₂ eu eu' ex ey p₃ ee el p₄ =
    let product = pair_bytes (and_gates G n u' X Y) in
    let long : length product ≡ 4 * and_cost n = pairs_long (and_gates G n u' X Y) ∙ ap (λ (y : ℕ). 4 * y) (and_gates_long G n u' X Y) in
    let both = put_then at (two (share A 0) ++ two 0) (two (share B 0) ++ two 0) b (omega arith) p₁ refl p₂ in
    let three = put_then at (nots_bytes A B) product b (omega arith) both refl p₃ in
    let four = put_then at (nots_bytes A B ++ product) (two last ++ two 0) b
    (omega (arith, length-append (nots_bytes A B) product, long))
    three
    (omega (arith, length-append (nots_bytes A B) product, long, ee))
    p₄ in
    let ey' : Y ≡ first_on (suc w) B = ey ∙ ap {A = ℕ} {B = List ℕ} (λ x. first_on x B) eu in
    four ∙ ap {A = List ℕ} {B = List ℕ} (λ y. put_at at y b) (rw (el, eu', ex, ey') (or_parts G n w A B))

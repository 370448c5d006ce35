-- A run solves the gates' equations over its random bits: from here on the order in which the values were found is forgotten.
-- Assumes nothing.
use mathlib.Core.Path.{◌≡◌, refl, sym, ap, ◌∙◌}
use mathlib.Core.List.{List, [], ◌∷◌, ◌++◌}
use Prim.Native.Nat.{ℕ, zero, suc, ◌+◌, ◌-◌, ◌*◌, ◌≤◌, ◌<◌}
use native.Mathlib.Nat.{add_assoc, add-zero}
use native.Mathlib.Omega.{arith}
use lib.Bits.{bit_and, bit_xor}
use lib.ListN.{length, get_or, drop, length-append, length-drop, get_or-append}
use lib.Seq.{drop-drop, get_or-drop, get_or_at, drop-append-le}
use Rattle.tables.specs.Tables.{Kind, NOT, XOR, AND, RANDOM, CONSTANT, OR, UNKNOWN, Gate, Operands}
use Rattle.tables.specs.Tables.{none_read, left_read, both_read, value_stated, operands_of, total}
use Rattle.tables.specs.Runs.{xor, driven, drawn, run_from, read_all, randoms}
use Rattle.tables.specs.Inside.{Bits}
use Rattle.tables.proofs.Lists.{bits_nil, bits_cons, bits_append, bits_drop}

-- v has, from wire w on, the values that the gates drive; the next random bit is the bit c of r
unfoldable pub Solves : ℕ → ℕ → List Gate → (ℕ → ℕ) → (ℕ → ℕ) → Type 0
Solves w c [] r v = Unit {0}
Solves w c (g ∷ gs) r v =
    (v w ≡ driven g.kind g.left g.right v (r c)) × Solves (suc w) (c + drawn g.kind) gs r v

-- the operands that are read come before wire w, and a value that is stated is a bit
abbrev pub ReadBefore : ℕ → Operands → ℕ → ℕ → Type 0
ReadBefore w none_read l r = Unit {0}
ReadBefore w left_read l r = l < w
ReadBefore w both_read l r = (l < w) × (r < w)
ReadBefore w value_stated l r = l ≤ 1

-- the wires that a gate reads come before wire w
abbrev pub Reads : ℕ → Kind → ℕ → ℕ → Type 0
Reads w k l r = ReadBefore w (operands_of k) l r

-- what is known of the left operand, and of the right one, where it is read
abbrev pub OfLeft : Operands → Type 0 → Type 0
OfLeft none_read T = Unit {0}
OfLeft left_read T = T
OfLeft both_read T = T
OfLeft value_stated T = Unit {0}

abbrev pub OfRight : Operands → Type 0 → Type 0
OfRight none_read T = Unit {0}
OfRight left_read T = Unit {0}
OfRight both_read T = T
OfRight value_stated T = Unit {0}

-- a fact of an operand that comes before wire w, where it is read
pub read_left : (o : Operands) (w l r : ℕ) {T : Type 0} → ReadBefore w o l r → (l < w → T) → OfLeft o T
read_left none_read w l r h t = tt
read_left left_read w l r h t = t h
read_left both_read w l r h t = t h.0
read_left value_stated w l r h t = tt

pub read_right : (o : Operands) (w l r : ℕ) {T : Type 0} → ReadBefore w o l r → (r < w → T) → OfRight o T
read_right none_read w l r h t = tt
read_right left_read w l r h t = tt
read_right both_read w l r h t = t h.1
read_right value_stated w l r h t = tt

unfoldable pub Earlier : ℕ → List Gate → Type 0
Earlier w [] = Unit {0}
Earlier w (g ∷ gs) = Reads w g.kind g.left g.right × Earlier (suc w) gs

-- what a gate drives depends on the wires that it reads alone
pub driven_local :
    (k : Kind) (l r w b : ℕ) (v u : ℕ → ℕ) → Reads w k l r → ((p : ℕ) → p < w → v p ≡ u p)
    → driven k l r v b ≡ driven k l r u b
driven_local NOT l r w b v u h e = ap (λ (y : ℕ). 1 - y) (e l h)
driven_local XOR l r w b v u h e = rw (e l h.0, e r h.1)
driven_local AND l r w b v u h e = rw (e l h.0, e r h.1)
driven_local RANDOM l r w b v u h e = refl
driven_local CONSTANT l r w b v u h e = refl
driven_local OR l r w b v u h e = rw (e l h.0, e r h.1)
driven_local (UNKNOWN k) l r w b v u h e = refl

pub bit_mul : (x y : ℕ) → x ≤ 1 → y ≤ 1 → x * y ≤ 1
bit_mul zero y p q = omega arith
bit_mul (suc zero) y p q = omega arith
bit_mul (suc (suc x)) y p q = absurd (omega arith)

-- the XOR and the AND of two bits, as code computes them
pub bit_xor_lem : (a b : ℕ) → a ≤ 1 → b ≤ 1 → bit_xor a b ≡ xor a b
bit_xor_lem zero b h k = omega arith
bit_xor_lem (suc zero) zero h k = refl
bit_xor_lem (suc zero) (suc zero) h k = refl
bit_xor_lem (suc zero) (suc (suc b)) h k = absurd (omega arith)
bit_xor_lem (suc (suc a)) b h k = absurd (omega arith)

pub bit_and_lem : (a b : ℕ) → a ≤ 1 → b ≤ 1 → bit_and a b ≡ a * b
bit_and_lem zero b h k = omega arith
bit_and_lem (suc zero) zero h k = refl
bit_and_lem (suc zero) (suc zero) h k = refl
bit_and_lem (suc zero) (suc (suc b)) h k = absurd (omega arith)
bit_and_lem (suc (suc a)) b h k = absurd (omega arith)

driven_bit : (k : Kind) (l r b : ℕ) (v : ℕ → ℕ) → ((p : ℕ) → v p ≤ 1) → b ≤ 1 → driven k l r v b ≤ 1
driven_bit NOT l r b v h hb = omega arith
driven_bit XOR l r b v h hb = omega arith
driven_bit AND l r b v h hb = bit_mul (v l) (v r) (h l) (h r)
driven_bit RANDOM l r b v h hb = hb
driven_bit CONSTANT l r b v h hb = omega arith
driven_bit OR l r b v h hb = omega arith
driven_bit (UNKNOWN k) l r b v h hb = omega arith

pub run_length : (gs : List Gate) (rs vs : List ℕ) → length (run_from gs rs vs) ≡ length vs + length gs
unfolding run_from
run_length [] rs vs = omega arith
run_length (g ∷ gs) rs vs =
    run_length gs _ _ ∙ simp length-append (omega arith)

pub run_keep :
    (gs : List Gate) (rs vs : List ℕ) (i : ℕ) → i < length vs → get_or (run_from gs rs vs) i 0 ≡ get_or vs i 0
unfolding run_from
run_keep [] rs vs i h = refl
run_keep (g ∷ gs) rs vs i h =
    run_keep gs _ _ i (simp length-append (omega arith)) ∙ get_or-append vs _ 0 i h

pub run_append :
    (gs hs : List Gate) (rs vs : List ℕ)
    → run_from (gs ++ hs) rs vs ≡ run_from hs (drop (randoms gs) rs) (run_from gs rs vs)
unfolding run_from total
run_append [] hs rs vs = refl
run_append (g ∷ gs) hs rs vs = run_append gs hs _ _ ∙ rw drop-drop

pub total_append : (f : Kind → ℕ) (gs hs : List Gate) → total f (gs ++ hs) ≡ total f gs + total f hs
unfolding total
total_append f [] hs = omega arith
total_append f (g ∷ gs) hs = omega (arith, total_append f gs hs)

pub run_bits : (gs : List Gate) (rs vs : List ℕ) → Bits rs → Bits vs → Bits (run_from gs rs vs)
unfolding run_from
run_bits [] rs vs hr hv = hv
run_bits (g ∷ gs) rs vs hr hv =
    run_bits gs _ _
    (bits_drop (drawn g.kind) rs hr)
    (bits_append vs _ hv (bits_cons _ [] (driven_bit g.kind g.left g.right _ _ hv (hr 0)) bits_nil))

pub solves_append :
    (w c : ℕ) (gs hs : List Gate) (r v : ℕ → ℕ) → Solves w c (gs ++ hs) r v
    → Solves w c gs r v × Solves (w + length gs) (c + randoms gs) hs r v
unfolding Solves total
solves_append w c [] hs r v s = (tt, rw (add-zero, add-zero) s)
solves_append w c (g ∷ gs) hs r v s =
    let t = solves_append (suc w) (c + drawn g.kind) gs hs r v s.1 in
    let e : w + suc (length gs) ≡ suc w + length gs = omega arith in
    ((s.0, t.0), rw (e, ← add_assoc) t.1)

-- from bit c of the random bits on
run_solves_at :
    (w c : ℕ) (gs : List Gate) (rs vs : List ℕ) → length vs ≡ w → Earlier w gs
    → Solves w c gs (λ x. get_or rs x 0) (λ p. get_or (run_from gs (drop c rs) vs) p 0)
unfolding Solves Earlier run_from
run_solves_at w c [] rs vs e h = tt
run_solves_at w c (g ∷ gs) rs vs e h =
    let k = g.kind in
    let x = driven k g.left g.right (λ p. get_or vs p 0) (get_or (drop c rs) 0 0) in
    let ws = vs ++ (x ∷ []) in
    let long : length ws ≡ suc w = simp length-append (omega arith) in
    let keep : (p : ℕ) → p < suc w → get_or (run_from gs (drop (c + drawn k) rs) ws) p 0 ≡ get_or ws p 0 =
    λ p hp. run_keep gs (drop (c + drawn k) rs) ws p (omega (arith, long)) in
    let bit : get_or (drop c rs) 0 0 ≡ get_or rs c 0 = get_or-drop c rs 0 0 ∙ ap (λ (i : ℕ). get_or rs i 0) (add-zero c) in
    let at : get_or ws w 0 ≡ x = get_or_at vs x [] 0 w e in
    let local : (p : ℕ) → p < w → get_or vs p 0 ≡ get_or (run_from gs (drop (c + drawn k) rs) ws) p 0 =
    λ p hp. sym (keep p (omega arith) ∙ get_or-append vs (x ∷ []) 0 p (omega arith)) in
    let is : x
    ≡ driven k g.left g.right (λ p. get_or (run_from gs (drop (c + drawn k) rs) ws) p 0) (get_or (drop c rs) 0 0) =
    driven_local k g.left g.right w (get_or (drop c rs) 0 0) _ _ h.0 local in
    let d : drop (drawn k) (drop c rs) ≡ drop (c + drawn k) rs = drop-drop (drawn k) c rs in
    rw d (
      keep w (omega arith) ∙ at ∙ is ∙ ap (λ (b : ℕ). driven k g.left g.right (λ p. get_or (run_from gs (drop
          (c + drawn k) rs) ws) p 0) b) bit,
      run_solves_at (suc w) (c + drawn k) gs rs ws long h.1,
    )

pub run_solves :
    (w : ℕ) (gs : List Gate) (rs vs : List ℕ) → length vs ≡ w → Earlier w gs
    → Solves w 0 gs (λ c. get_or rs c 0) (λ p. get_or (run_from gs rs vs) p 0)
run_solves w gs rs vs e h = run_solves_at w 0 gs rs vs e h

-- a gate that draws a bit finds it in the front part
front_bit :
    (k : Kind) (l r m : ℕ) (v : ℕ → ℕ) (ss rest : List ℕ) → length ss ≡ drawn k + m
    → driven k l r v (get_or (ss ++ rest) 0 0) ≡ driven k l r v (get_or ss 0 0)
front_bit NOT l r m v ss rest e = refl
front_bit XOR l r m v ss rest e = refl
front_bit AND l r m v ss rest e = refl
front_bit RANDOM l r m v ss rest e = get_or-append ss rest 0 0 (omega arith)
front_bit CONSTANT l r m v ss rest e = refl
front_bit OR l r m v ss rest e = refl
front_bit (UNKNOWN k) l r m v ss rest e = refl

-- only as many random bits matter as there are random gates
pub run_prefix :
    (gs : List Gate) (ss rest vs : List ℕ) → length ss ≡ randoms gs → run_from gs (ss ++ rest) vs ≡ run_from gs ss vs
unfolding run_from total
run_prefix [] ss rest vs e = refl
run_prefix (g ∷ gs) ss rest vs e =
    let d = drawn g.kind in
    rw (
      front_bit g.kind g.left g.right (randoms gs) (λ w. get_or vs w 0) ss rest e,
      drop-append-le d ss rest (omega arith),
    )
    (run_prefix gs (drop d ss) rest _ (length-drop d ss ∙ omega arith))

pub read_length : (vs ws : List ℕ) → length (read_all vs ws) ≡ length ws
unfolding read_all
read_length vs [] = refl
read_length vs (w ∷ ws) = ap suc (read_length vs ws)

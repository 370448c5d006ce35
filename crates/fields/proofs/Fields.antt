-- What stands at the fields of a gate and of an output of a table.
-- Assumes nothing.
use mathlib.Core.Path.{◌≡◌, refl, ap, ◌∙◌}
use mathlib.Core.List.{List}
use Prim.Native.Nat.{ℕ, zero, suc, ◌+◌, ◌*◌, ◌<◌}
use native.Mathlib.Nat.{add-suc}
use native.Mathlib.Omega.{arith}
use lib.ListN.{get_or, drop}
use lib.Seq.{get_or-drop}
use Rattle.tables.specs.Inside.{HasGates, GateIs}
use Rattle.tables.specs.Tables.{kind_of, gate, no_gate, gate_of, word, gates_from, words_from, table_of}

word_drop : (s : List ℕ) (p i : ℕ) → word (drop p s) i ≡ word s (p + i)
word_drop s p i = rw (get_or-drop p s i 0, get_or-drop p s (suc i) 0, add-suc)

-- the fields of gate g and of output o, as the bytes have them
gates_get_or :
    (m : ℕ) (ks ps : List ℕ) (g : ℕ) → g < m
    → get_or (gates_from m ks ps) g no_gate ≡ gate (kind_of (get_or ks g 0)) (word ps (4 * g)) (word ps (4 * g + 2))
unfolding gates_from
gates_get_or zero ks ps g h = absurd (omega arith)
gates_get_or (suc m) ks ps zero h = refl
gates_get_or (suc m) ks ps (suc g) h =
    let k : get_or (drop 1 ks) g 0 ≡ get_or ks (suc g) 0 = get_or-drop 1 ks g 0 ∙ ap (λ (i : ℕ). get_or ks i 0) {x = 1 + g} {y = suc g} (omega arith) in
    let a : 4 + 4 * g ≡ 4 * suc g = omega arith in
    let b : 4 + (4 * g + 2) ≡ 4 * suc g + 2 = omega arith in
    gates_get_or m (drop 1 ks) (drop 4 ps) g (omega arith)
    ∙ rw (k, word_drop ps 4 (4 * g), word_drop ps 4 (4 * g + 2), a, b)

words_get_or : (m : ℕ) (s : List ℕ) (o : ℕ) → o < m → get_or (words_from m s) o 0 ≡ word s (2 * o)
unfolding words_from
words_get_or zero s o h = absurd (omega arith)
words_get_or (suc m) s zero h = refl
words_get_or (suc m) s (suc o) h =
    let a : 2 + 2 * o ≡ 2 * suc o = omega arith in
    words_get_or m (drop 2 s) o (omega arith) ∙ rw (word_drop s 2 (2 * o), a)

gate_is :
    (s : List ℕ) (n g : ℕ) → n ≡ word s 2 → g < n
    → gate_of (table_of s) g ≡ gate (kind_of (get_or s (6 + g) 0)) (word s (6 + n + 4 * g)) (word s (8 + n + 4 * g))
unfolding table_of
gate_is s n g e h =
    let right : 6 + n + (4 * g + 2) ≡ 8 + n + 4 * g = omega arith in
    rw (← e)
    (gates_get_or n (drop 6 s) (drop (6 + n) s) g h
    ∙ rw (get_or-drop 6 s g 0, word_drop s (6 + n) (4 * g), word_drop s (6 + n) (4 * g + 2), right))

-- what was read at those places is gate g
pub gate_read :
    {s : List ℕ} {n g l r : ℕ} → HasGates s n → g < n → (l ≡ word s (6 + n + 4 * g)) × (l < 65536)
    → (r ≡ word s (8 + n + 4 * g)) × (r < 65536)
    → GateIs (gate_of (table_of s) g) (record { kind = get_or s (6 + g) 0; left = l; right = r })
gate_read {s} {n} {g} H h l r =
    rw (gate_is s n g H.stated h)
    (record { kind = refl; left = l.0; right = r.0; left_small = l.1; right_small = r.1 })

pub output_is :
    (s : List ℕ) (n m o : ℕ) → n ≡ word s 2 → m ≡ word s 4 → o < m
    → get_or (table_of s).outputs o 0 ≡ word s (6 + 5 * n + 2 * o)
unfolding table_of
output_is s n m o e f h =
    rw (← e, ← f) (words_get_or m (drop (6 + 5 * n) s) o h ∙ word_drop s (6 + 5 * n) (2 * o))

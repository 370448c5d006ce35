-- The lines of a table by their numbers: what each is in the table's bytes.
-- Assumes nothing.
use mathlib.Core.Path.{◌≡◌, refl, sym, ap, ◌∙◌}
use mathlib.Core.Bool.{true}
use mathlib.Core.List.{List, [], ◌∷◌}
use Prim.Native.Nat.{ℕ, zero, suc, ◌+◌, ◌-◌, ◌≤◌, ◌<◌}
use native.Mathlib.Nat.{add-zero}
use native.Mathlib.Omega.{arith}
use lib.ListN.{length, get_or, get_or-append}
use lib.Seq.{get_or-append-add}
use Rattle.tables.specs.Tables.{Gate, no_gate, gate_of, word, kind_of, known, table_of}
use Rattle.tables.specs.declared.GateFields as DGateFields
use Rattle.tables.specs.Inside.{GateIs}
use Rattle.tables.proofs.Accept.{inputs_of, gates_of_length, outputs_of_length}
use Rattle.tables.proofs.Format.{SoundGates, passed_sound_gates}
use Rattle.list_lines.specs.Lines.{inputs_line, gate_line, output_line, gate_lines, output_lines, table_lines}
use Rattle.list_lines.specs.Listed.{Listed, line_at, stated}
use Rattle.list_lines.proofs.Lines.{gate_lines_length, lines_length}

-- a gate's line, an output's line
gate_lines_at :
    (w : ℕ) (gs : List Gate) (j : ℕ) → j < length gs → get_or (gate_lines w gs) j [] ≡ gate_line (w + j) (get_or gs j no_gate)
unfolding gate_lines
gate_lines_at w [] j h = absurd (omega arith)
gate_lines_at w (g ∷ gs) zero h = rw add-zero
gate_lines_at w (g ∷ gs) (suc j) h =
    let e : w + suc j ≡ suc w + j = omega arith in rw e (gate_lines_at (suc w) gs j (omega arith))

output_lines_at :
    (o : ℕ) (ws : List ℕ) (j : ℕ) → j < length ws → get_or (output_lines o ws) j [] ≡ output_line (o + j) (get_or ws j 0)
unfolding output_lines
output_lines_at o [] j h = absurd (omega arith)
output_lines_at o (w ∷ ws) zero h = rw add-zero
output_lines_at o (w ∷ ws) (suc j) h =
    let e : o + suc j ≡ suc o + j = omega arith in rw e (output_lines_at (suc o) ws j (omega arith))

known_at : (w : ℕ) (gs : List Gate) (j : ℕ) → SoundGates w gs → j < length gs → known (get_or gs j no_gate).kind ≡ true
unfolding SoundGates
known_at w [] j S h = absurd (omega arith)
known_at w (g ∷ gs) zero S h = S.0.0
known_at w (g ∷ gs) (suc j) S h = known_at (suc w) gs j S.1 (omega arith)

-- line number j after the first of a table of n gates that passed
module _ (s : List ℕ) (H : Listed s) (j : ℕ) {n : ℕ} (en : n ≡ word s 2) where
  pub line_known : {x : DGateFields.GateFields} → j < n → GateIs (gate_of (table_of s) j) x → known (kind_of x.kind) ≡ true
  line_known h G =
      rw G.kind (known_at (table_of s).inputs (table_of s).gates j (passed_sound_gates s H.0) (omega (arith, gates_of_length s)))

  pub gate_line_lem :
      {i : ℕ} {x : DGateFields.GateFields} → j < n → i ≡ word s 0 → GateIs (gate_of (table_of s) j) x
      → gate_line (i + j) (stated x) ≡ line_at s (suc j)
  gate_line_lem h ei G =
      let t = table_of s in
      let within : j < length t.gates = omega (arith, gates_of_length s) in
      rw (ei ∙ sym (inputs_of s), G.kind, G.left, G.right)
      (sym
      (get_or-append (gate_lines t.inputs t.gates) (output_lines 0 t.outputs) [] j
      (omega (arith, within, gate_lines_length t.inputs t.gates))
      ∙ gate_lines_at t.inputs t.gates j within))

  pub line_output : {m : ℕ} → n ≤ j → m ≡ word s 4 → suc j < length (table_lines (table_of s)) → j - n < m
  line_output h e k = omega (arith, k, lines_length s H)

  pub output_line_lem :
      {w : ℕ} → n ≤ j → suc j < length (table_lines (table_of s)) → w ≡ get_or (table_of s).outputs (j - n) 0
      → output_line (j - n) w ≡ line_at s (suc j)
  output_line_lem h k ew =
      let t = table_of s in
      let first : 0 + (j - n) ≡ j - n = omega arith in
      let place : length (gate_lines t.inputs t.gates) + (j - n) ≡ j =
      omega (arith, gate_lines_length t.inputs t.gates, gates_of_length s) in
      let here = output_lines_at 0 t.outputs (j - n) (omega (arith, line_output h refl k, outputs_of_length s)) in
      rw ew
      (sym (rw first at here)
      ∙ sym (get_or-append-add (gate_lines t.inputs t.gates) (output_lines 0 t.outputs) (j - n) [])
      ∙ ap (λ (i : ℕ). line_at s (suc i)) place)

-- line number j of a table, the first and a later one
module _ (s : List ℕ) {j : ℕ} where
  pub first_line : {i : ℕ} → j ≡ 0 → i ≡ word s 0 → inputs_line i ≡ line_at s j
  first_line ej ei = rw (ej, ei, inputs_of s) refl

  pub later_line : (j ≡ 0 → ⊥) → line_at s (suc (j - 1)) ≡ line_at s j
  later_line h = ap (λ (i : ℕ). line_at s i) {x = suc (j - 1)} {y = j} (omega arith)

-- The lines of a table: what each is in the table's bytes, and how long: at most 13 bytes the first, 27 a gate's and 18 an output's.
-- Assumes nothing.
use mathlib.Core.Path.{◌≡◌, refl, ap}
use mathlib.Core.List.{List, [], ◌∷◌, ◌++◌}
use Prim.Native.Nat.{ℕ, suc, ◌+◌, ◌≤◌, ◌<◌}
use native.Mathlib.Omega.{arith}
use lib.ListN.{length, length-append}
use Rattle.tables.specs.Tables.{Kind, NOT, XOR, AND, RANDOM, CONSTANT, OR, UNKNOWN, Gate, wires, word}
use Rattle.tables.specs.Tables.{table_of}
use Rattle.tables.proofs.Lists.{All, all_map, all_append, all_get_d}
use Rattle.tables.proofs.Run.{Reads, Earlier}
use Rattle.tables.proofs.Accept.{Accepted, accepted, gates_of_length, outputs_of_length, outputs_passed}
use Rattle.tables.proofs.Format.{passed_sound_gates, sound_earlier}
use Rattle.text.specs.Text.{decimal, line_of}
use Rattle.std.proofs.lemmas.Fmt.{length-decimal-le}
use Rattle.text.proofs.Writing.{decimal_is}
use Rattle.list_lines.specs.Lines.{equals_word, kind_words, inputs_line, gate_lines, output_lines, table_lines}
use Rattle.list_lines.specs.Listed.{Listed, line_at}

-- a number of 16 bits and what follows it
five : (v : ℕ) (ys : List ℕ) → v < 65536 → length (decimal v ++ ys) ≤ 5 + length ys
five v ys h =
    let short = length-decimal-le 5 v (omega arith) (omega arith) (omega arith) in
    omega (arith, length-append (decimal v) ys, ap length (decimal_is v (omega arith)), short)

two_short : (x y : ℕ) → x < 65536 → y < 65536 → length (decimal x ++ (32 ∷ 119 ∷ (decimal y ++ (10 ∷ [])))) ≤ 13
two_short x y h i = omega (arith, five x (32 ∷ 119 ∷ (decimal y ++ (10 ∷ []))) h, five y (10 ∷ []) i)

kind_short :
    (w : ℕ) (k : Kind) (x y : ℕ) → w < 65536 → Reads w k x y → length (line_of equals_word (kind_words k x y)) ≤ 20
unfolding line_of
kind_short w NOT x y h e = omega (arith, five x (10 ∷ []) (omega arith))
kind_short w XOR x y h e = omega (arith, two_short x y (omega arith) (omega arith))
kind_short w AND x y h e = omega (arith, two_short x y (omega arith) (omega arith))
kind_short w RANDOM x y h e = omega arith
kind_short w CONSTANT x y h e = omega (arith, five x (10 ∷ []) (omega arith))
kind_short w OR x y h e = omega (arith, two_short x y (omega arith) (omega arith))
kind_short w (UNKNOWN k) x y h e = omega arith

inputs_short : (i : ℕ) → i < 65536 → length (inputs_line i) ≤ 13
unfolding line_of
inputs_short i h = omega (arith, five i (10 ∷ []) h)

gates_short : (w : ℕ) (gs : List Gate) → Earlier w gs → w + length gs ≤ 65535 → All (λ l. length l ≤ 27) (gate_lines w gs)
unfolding Earlier All gate_lines line_of
gates_short w [] e h = tt
gates_short w (g ∷ gs) e h =
    let line = kind_short w g.kind g.left g.right (omega (arith, h)) e.0 in
    let wire = five w (32 ∷ line_of equals_word (kind_words g.kind g.left g.right)) (omega (arith, h)) in
    (omega (arith, line, wire), gates_short (suc w) gs e.1 (omega (arith, h)))

outputs_short :
    (o : ℕ) (ws : List ℕ) → All (λ w. w < 65536) ws → o + length ws ≤ 65535 → All (λ l. length l ≤ 18) (output_lines o ws)
unfolding All output_lines line_of
outputs_short o [] a h = tt
outputs_short o (w ∷ ws) a h =
    let wire = five w (10 ∷ []) a.0 in
    let position = five o (32 ∷ 61 ∷ 32 ∷ 119 ∷ (decimal w ++ (10 ∷ []))) (omega (arith, h)) in
    (omega (arith, wire, position), outputs_short (suc o) ws a.1 (omega (arith, h)))

pub gate_lines_length : (w : ℕ) (gs : List Gate) → length (gate_lines w gs) ≡ length gs
unfolding gate_lines
gate_lines_length w [] = refl
gate_lines_length w (g ∷ gs) = ap suc (gate_lines_length (suc w) gs)

pub output_lines_length : (o : ℕ) (ws : List ℕ) → length (output_lines o ws) ≡ length ws
unfolding output_lines
output_lines_length o [] = refl
output_lines_length o (w ∷ ws) = ap suc (output_lines_length (suc o) ws)

-- the lines of a table that passed
module _ (s : List ℕ) (H : Listed s) where
  ok : Accepted s
  ok = accepted s H.0

  pub lines_length : length (table_lines (table_of s)) ≡ 1 + word s 2 + word s 4
  lines_length =
      let t = table_of s in
      omega (
        arith,
        length-append (gate_lines t.inputs t.gates) (output_lines 0 t.outputs),
        gate_lines_length t.inputs t.gates,
        output_lines_length 0 t.outputs,
        gates_of_length s,
        outputs_of_length s,
      )

  pub inputs_fit : length (inputs_line (table_of s).inputs) ≤ 13
  inputs_fit = inputs_short (table_of s).inputs (omega (arith, ok.few_wires))

  pub gates_fit : All (λ l. length l ≤ 27) (gate_lines (table_of s).inputs (table_of s).gates)
  gates_fit =
      gates_short _ _ (sound_earlier _ _ (passed_sound_gates s H.0)) (omega (arith, ok.few_wires))

  pub outputs_fit : All (λ l. length l ≤ 18) (output_lines 0 (table_of s).outputs)
  outputs_fit =
      let wires_few = ok.few_wires in
      outputs_short 0 (table_of s).outputs
      (all_map (λ w. w < wires (table_of s)) (λ w. w < 65536) (λ w h. omega (arith, h, wires_few)) _
      (outputs_passed 0 (wires (table_of s)) (table_of s).outputs ok.outputs))
      (omega (arith, H.1, outputs_of_length s))

  later_fit : All (λ l. length l ≤ 32) (gate_lines (table_of s).inputs (table_of s).gates ++ output_lines 0 (table_of s).outputs)
  later_fit =
      all_append (λ l. length l ≤ 32) _ _
      (all_map (λ l. length l ≤ 27) (λ l. length l ≤ 32) (λ l h. omega (arith, h)) _ gates_fit)
      (all_map (λ l. length l ≤ 18) (λ l. length l ≤ 32) (λ l h. omega (arith, h)) _ outputs_fit)

  -- 32 bytes hold every line
  pub line_short : (j : ℕ) → j < length (table_lines (table_of s)) → length (line_at s j) ≤ 32
  unfolding All
  line_short j h =
      all_get_d (λ l. length l ≤ 32) (table_lines (table_of s)) j [] (omega (arith, inputs_fit), later_fit) h

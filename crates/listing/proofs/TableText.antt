-- The text of a table: `list_room` bytes hold its lines; the call's answer.
-- Assumes nothing.
use mathlib.Core.Path.{◌≡◌, refl}
use mathlib.Core.Bool.{Bool, true, false}
use mathlib.Core.List.{List, [], ◌∷◌, ◌++◌, flatten}
use Prim.Native.Nat.{ℕ, ◌+◌, ◌*◌, ◌≤◌, ◌<◌}
use native.Mathlib.Omega.{arith}
use lib.ListN.{length, get_or, take, length-append}
use Rattle.tables.specs.declared.Refusal as DRefusal
use Rattle.tables.specs.Refusals.{none, passed}
use Rattle.tables.specs.Refusing.{fault_of}
use Rattle.tables.specs.Tables.{table_of, table_fault}
use Rattle.tables.proofs.Answers.{refusal_fails, none_passed}
use Rattle.tables.proofs.Accept.{accepted, outputs_of_length}
use Rattle.tables.proofs.Format.{Bytes, passed_sound}
use Rattle.tables.proofs.Cut.{cut_fault, cut_refused}
use Rattle.text.specs.Text.{refusal_line, PutsAll}
use Rattle.text.proofs.Writing.{refusal_long}
use Rattle.tables.proofs.Lists.{All}
use Rattle.list_lines.specs.Lines.{inputs_line, gate_lines, output_lines, table_lines}
use Rattle.list_lines.specs.Listed.{Listed}
use Rattle.list_lines.proofs.Lines.{inputs_fit, gates_fit, outputs_fit, gate_lines_length, output_lines_length}
use Rattle.listing.specs.Listing.{table_text, list_room, ListSays}

flatten_long : (k : ℕ) (ls : List (List ℕ)) → All (λ l. length l ≤ k) ls → length (flatten ls) ≤ k * length ls
unfolding All flatten
flatten_long k [] a = omega arith
flatten_long k (l ∷ ls) a = omega (arith, length-append l (flatten ls), a.0, flatten_long k ls a.1)

flatten_append : (ls ms : List (List ℕ)) → length (flatten (ls ++ ms)) ≡ length (flatten ls) + length (flatten ms)
unfolding flatten
flatten_append [] ms = omega arith
flatten_append (l ∷ ls) ms =
    omega (arith, length-append l (flatten (ls ++ ms)), length-append l (flatten ls), flatten_append ls ms)

-- all lines of a table that passed
module _ (s : List ℕ) (H : Listed s) where
  pub lines_short : length (flatten (table_lines (table_of s))) ≤ list_room
  unfolding flatten
  lines_short =
      let t = table_of s in
      let gates = gate_lines t.inputs t.gates in
      let outputs = output_lines 0 t.outputs in
      omega (
        arith,
        length-append (inputs_line t.inputs) (flatten (gates ++ outputs)),
        inputs_fit s H,
        flatten_append gates outputs,
        flatten_long 27 gates (gates_fit s H),
        flatten_long 18 outputs (outputs_fit s H),
        gate_lines_length t.inputs t.gates,
        output_lines_length 0 t.outputs,
        (accepted s H.0).few_wires,
        outputs_of_length s,
        H.1,
      )

-- the call's answer: the refusal, or the lines
pub list_refused :
    (s : List ℕ) (e : DRefusal.Refusal) {b out : List ℕ} {r : ℕ} → table_fault s ≡ fault_of e
    → PutsAll (refusal_line (fault_of e).number (fault_of e).place) b out r → ListSays s b out r
unfolding table_text
list_refused s e h P = rw (h, refusal_fails e) P

pub list_lines :
    (s : List ℕ) {b out : List ℕ} {r : ℕ} → table_fault s ≡ none
    → PutsAll (flatten (table_lines (table_of s))) b out r → ListSays s b out r
unfolding table_text
list_lines s h P = rw (none_passed h) P

-- ROOM bytes hold the text of every table
pub text_short : (s : List ℕ) → Bytes s → length (table_text s) ≤ list_room
unfolding table_text
text_short s B = go (passed (table_fault s)) refl
  where
    go : (t : Bool) → passed (table_fault s) ≡ t → length (table_text s) ≤ list_room
    go true e = rw e (lines_short s (e, omega (arith, (passed_sound s B e).few_outputs, outputs_of_length s)))
    go false e = rw e (omega (arith, refusal_long (table_fault s).number (table_fault s).place))

-- the first m bytes of an input that is longer than every table have its text
pub cut_listed :
    (m : ℕ) (s : List ℕ) → ((i : ℕ) → get_or s i 0 < 256) → 458746 < m → m ≤ length s → table_text (take m s) ≡ table_text s
unfolding table_text
cut_listed m s bytes h k = rw (cut_fault m s bytes h k, cut_refused m s bytes h k)

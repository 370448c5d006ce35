-- Reading what is written: a sound table's bytes have the stated length, pass the checks and read back as the table.
-- Each part is read from the front of what is left, whatever follows it.
-- Assumes nothing.
use mathlib.Core.Path.{◌≡◌, refl, sym, ap, ◌∙◌, subst}
use mathlib.Core.Bool.{true}
use mathlib.Core.List.{List, [], ◌∷◌, ◌++◌, append_assoc, append-nil}
use Prim.Native.Nat.{ℕ, zero, suc, ◌+◌, ◌*◌, ◌/◌, ◌%◌, ◌≤◌, ◌<◌}
use native.Mathlib.Nat.{add-zero}
use native.Mathlib.Omega.{arith}
use lib.ListN.{length, get_or, drop, length-append}
use lib.Seq.{drop_at, drop-drop}
use borrow.Author.Tests.{lt-ltb, le-ltb, eq-eqb, ne_eqb}
use Rattle.tables.specs.Refusals.{none, passed}
use Rattle.tables.specs.Tables.{Kind, NOT, XOR, AND, RANDOM, CONSTANT, OR, UNKNOWN, kind_of, kind_byte, Gate, no_gate}
use Rattle.tables.specs.Tables.{Table, wires, word, gates_from, words_from, table_of, kind_bytes, pair_bytes, word_bytes}
use Rattle.tables.specs.Tables.{table_bytes, table_long, known, operands_of, operands_ok, gate_fault, gates_fault}
use Rattle.tables.specs.Tables.{outputs_fault, table_fault}
use Rattle.tables.proofs.Tests.{both_passed}
use Rattle.tables.proofs.Lists.{All, all_get_d}
use Rattle.tables.proofs.Run.{Earlier}
use Rattle.tables.proofs.Accept.{inputs_of, outputs_of_length, accepted, gate_passed, outputs_passed}
use Rattle.tables.proofs.Accept.{operands_read}

-- gates that pass the checks, the first driving wire w
unfoldable pub SoundGates : ℕ → List Gate → Type 0
SoundGates w [] = Unit {0}
SoundGates w (g ∷ gs) =
    ((known g.kind ≡ true) × (operands_ok w (operands_of g.kind) g.left g.right ≡ true)) × SoundGates (suc w) gs

-- a table that the format can hold and that passes the checks
pub record Sound (t : Table) : Type 0 where
  pub some_input : 1 ≤ t.inputs
  pub some_output : 1 ≤ length t.outputs
  pub few_wires : wires t ≤ 65535
  pub few_outputs : length t.outputs ≤ 65535
  pub gates : SoundGates t.inputs t.gates
  pub outputs : All (λ o. o < wires t) t.outputs

pub sound_append :
    (w : ℕ) (gs hs : List Gate) → SoundGates w gs → SoundGates (w + length gs) hs → SoundGates w (gs ++ hs)
unfolding SoundGates
sound_append w [] hs a b = rw add-zero at b
sound_append w (g ∷ gs) hs a b =
    let e : w + suc (length gs) ≡ suc w + length gs = omega arith in
    (a.0, sound_append (suc w) gs hs a.1 (rw e at b))

pub sound_earlier : (w : ℕ) (gs : List Gate) → SoundGates w gs → Earlier w gs
unfolding SoundGates Earlier
sound_earlier w [] h = tt
sound_earlier w (g ∷ gs) h =
    (operands_read w (operands_of g.kind) g.left g.right h.0.1, sound_earlier (suc w) gs h.1)

pub kinds_long : (gs : List Gate) → length (kind_bytes gs) ≡ length gs
unfolding kind_bytes
kinds_long [] = refl
kinds_long (g ∷ gs) = ap suc (kinds_long gs)

pub pairs_long : (gs : List Gate) → length (pair_bytes gs) ≡ 4 * length gs
unfolding pair_bytes
pairs_long [] = refl
pairs_long (g ∷ gs) = omega (arith, pairs_long gs)

pub words_long : (ws : List ℕ) → length (word_bytes ws) ≡ 2 * length ws
unfolding word_bytes
words_long [] = refl
words_long (w ∷ ws) = omega (arith, words_long ws)

pub table_long_lem : (t : Table) → length (table_bytes t) ≡ table_long (length t.gates) (length t.outputs)
unfolding table_bytes
table_long_lem t = simp (length-append, kinds_long, pairs_long, words_long) (omega arith)

-- two bytes read back
word_two : (v : ℕ) → v % 256 + 256 * (v / 256) ≡ v
word_two v = omega arith

kind_back : (k : Kind) → known k ≡ true → kind_of (kind_byte k) ≡ k
kind_back NOT h = refl
kind_back XOR h = refl
kind_back AND h = refl
kind_back RANDOM h = refl
kind_back CONSTANT h = refl
kind_back OR h = refl
kind_back (UNKNOWN k) h = cc

words_back : (ws y : List ℕ) → words_from (length ws) (word_bytes ws ++ y) ≡ ws
unfolding words_from word_bytes
words_back [] y = refl
words_back (w ∷ ws) y = rw (word_two, words_back ws y)

gates_back :
    (w : ℕ) (gs : List Gate) (x y : List ℕ) → SoundGates w gs
    → gates_from (length gs) (kind_bytes gs ++ x) (pair_bytes gs ++ y) ≡ gs
unfolding SoundGates gates_from kind_bytes pair_bytes
gates_back w [] x y h = refl
gates_back w (g ∷ gs) x y h =
    rw (word_two g.left, word_two g.right, kind_back g.kind h.0.0, gates_back (suc w) gs x y h.1)

pub inputs_written : (t : Table) → word (table_bytes t) 0 ≡ t.inputs
unfolding table_bytes
inputs_written t = word_two t.inputs

pub gates_written : (t : Table) → word (table_bytes t) 2 ≡ length t.gates
unfolding table_bytes
gates_written t = word_two (length t.gates)

pub outputs_written : (t : Table) → word (table_bytes t) 4 ≡ length t.outputs
unfolding table_bytes
outputs_written t = word_two (length t.outputs)

pub table_ext : (t u : Table) → t.inputs ≡ u.inputs → t.gates ≡ u.gates → t.outputs ≡ u.outputs → t ≡ u
table_ext t u a b c = λ i. record { inputs = a i; gates = b i; outputs = c i }

-- what follows the sizes, the kinds and the pairs
drop_sizes :
    (t : Table)
    → drop 6 (table_bytes t) ≡ kind_bytes t.gates ++ (pair_bytes t.gates ++ word_bytes t.outputs)
unfolding table_bytes
drop_sizes t = refl

drop_kinds : (t : Table) → drop (6 + length t.gates) (table_bytes t) ≡ pair_bytes t.gates ++ word_bytes t.outputs
unfolding table_bytes
drop_kinds t =
    sym (drop-drop (length t.gates) 6 (table_bytes t))
    ∙ drop_at (kind_bytes t.gates) _ (length t.gates) (kinds_long t.gates)

drop_pairs : (t : Table) → drop (6 + 5 * length t.gates) (table_bytes t) ≡ word_bytes t.outputs
unfolding table_bytes
drop_pairs t =
    let ks = kind_bytes t.gates in
    let ps = pair_bytes t.gates in
    let os = word_bytes t.outputs in
    let n = 5 * length t.gates in
    let long : length (ks ++ ps) ≡ n = simp (length-append, kinds_long, pairs_long) (omega arith) in
    sym (drop-drop n 6 (table_bytes t))
    ∙ ap {A = List ℕ} {B = List ℕ} (drop n) (sym (append_assoc ks ps os))
    ∙ drop_at (ks ++ ps) os n long

gates_read : (t : Table) → Sound t → (table_of (table_bytes t)).gates ≡ t.gates
unfolding table_of
gates_read t h = rw (gates_written, drop_sizes, drop_kinds) (gates_back t.inputs t.gates _ _ h.gates)

outputs_read : (t : Table) → (table_of (table_bytes t)).outputs ≡ t.outputs
unfolding table_of
outputs_read t =
    rw (gates_written, outputs_written, drop_pairs, ← append-nil (word_bytes t.outputs))
    (words_back t.outputs [])

pub read_back : (t : Table) → Sound t → table_of (table_bytes t) ≡ t
read_back t h =
    table_ext
    (table_of (table_bytes t))
    t
    (inputs_of (table_bytes t) ∙ inputs_written t)
    (gates_read t h)
    (outputs_read t)

sound_gates_pass : (i w : ℕ) (gs : List Gate) → SoundGates w gs → gates_fault i w gs ≡ none
unfolding SoundGates gates_fault
sound_gates_pass i w [] h = refl
sound_gates_pass i w (g ∷ gs) h =
    rw (h.0.0, h.0.1) (sound_gates_pass (suc i) (suc w) gs h.1)

outputs_pass : (i w : ℕ) (os : List ℕ) → All (λ o. o < w) os → outputs_fault i w os ≡ none
unfolding All outputs_fault
outputs_pass i w [] h = refl
outputs_pass i w (o ∷ os) h = rw (lt-ltb o w h.0) (outputs_pass (suc i) w os h.1)

pub written_passes : (t : Table) → Sound t → table_fault (table_bytes t) ≡ none
unfolding table_fault
written_passes t h =
    let g = length t.gates in
    let o = length t.outputs in
    rw (
      read_back t h,
      inputs_written,
      gates_written,
      outputs_written,
      table_long_lem,
      le-ltb (table_long g o) 6 (omega arith),
      ne_eqb t.inputs 0 (λ e. omega (arith, h.some_input)),
      ne_eqb o 0 (λ e. omega (arith, h.some_output)),
      le-ltb 65535 (t.inputs + g) h.few_wires,
      eq-eqb (table_long g o) (table_long g o) refl,
      sound_gates_pass 0 t.inputs t.gates h.gates,
    )
    (outputs_pass 0 (wires t) t.outputs h.outputs)

-- the gates of bytes that passed
pub gates_passed : (i w : ℕ) (gs : List Gate) → passed (gates_fault i w gs) ≡ true → SoundGates w gs
unfolding SoundGates gates_fault
gates_passed i w [] h = tt
gates_passed i w (g ∷ gs) h =
    let a = both_passed (gate_fault i w g) (gates_fault (suc i) (suc w) gs) h in
    (gate_passed i w g a.0, gates_passed (suc i) (suc w) gs a.1)

pub passed_sound_gates :
    (s : List ℕ) → passed (table_fault s) ≡ true → SoundGates (table_of s).inputs (table_of s).gates
passed_sound_gates s h = gates_passed 0 (table_of s).inputs (table_of s).gates (accepted s h).gates

-- a list of bytes
abbrev pub Bytes : List ℕ → Type 0
Bytes s = All (λ b. b < 256) s

-- bytes that pass hold a sound table
pub passed_sound : (s : List ℕ) → Bytes s → passed (table_fault s) ≡ true → Sound (table_of s)
passed_sound s b h =
    let c = accepted s h in
    let low = all_get_d (λ b. b < 256) s 4 0 b (omega (arith, c.long)) in
    let high = all_get_d (λ b. b < 256) s 5 0 b (omega (arith, c.long)) in
    record {
      some_input = c.some_input;
      some_output = c.some_output;
      few_wires = c.few_wires;
      few_outputs = omega (arith, outputs_of_length s, low, high);
      gates = passed_sound_gates s h;
      outputs = outputs_passed 0 (wires (table_of s)) (table_of s).outputs c.outputs;
    }

-- a gate that passes the checks, by its number
pub sound_at :
    (w : ℕ) (gs : List Gate) (g : ℕ) → SoundGates w gs → g < length gs
    → let x = get_or gs g no_gate in
    (known x.kind ≡ true) × (operands_ok (w + g) (operands_of x.kind) x.left x.right ≡ true)
unfolding SoundGates
sound_at w [] g p h = absurd (omega arith)
sound_at w (x ∷ xs) zero p h = rw add-zero p.0
sound_at w (x ∷ xs) (suc g) p h =
    let y = get_or xs g no_gate in
    let z = sound_at (suc w) xs g p.1 (omega arith) in (
      z.0,
      subst (λ (v : ℕ). operands_ok v (operands_of y.kind) y.left y.right ≡ true) {x = suc w + g} {y = w + suc g} (omega arith)
          z.1,
    )

pub known_byte : (k : ℕ) → known (kind_of k) ≡ true → k ≤ 5
known_byte zero h = omega arith
known_byte (suc zero) h = omega arith
known_byte (suc (suc zero)) h = omega arith
known_byte (suc (suc (suc zero))) h = omega arith
known_byte (suc (suc (suc (suc zero)))) h = omega arith
known_byte (suc (suc (suc (suc (suc zero))))) h = omega arith
known_byte (suc (suc (suc (suc (suc (suc k)))))) h = let z : ◌≡◌ {A = ℕ} 0 1 = cc in omega arith

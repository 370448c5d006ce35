-- A run that no check refuses: what each step of it needs, and that the steps together leave the run's values and outputs.
-- Assumes nothing.
use mathlib.Core.Path.{◌≡◌, refl, sym, ap, ◌∙◌}
use mathlib.Core.List.{List, [], ◌∷◌, ◌++◌}
use Prim.Native.Nat.{ℕ, suc, ◌+◌, ◌*◌, ◌≤◌, ◌<◌}
use native.Mathlib.Numerals.{add-one}
use native.Mathlib.Omega.{arith}
use lib.ListN.{length, get_or, take, drop, set, take-append-drop, drop_of_length-le, get_or-append}
use lib.Seq.{take-append_seam, drop-cons}
use Rattle.std.specs.Prelude.{Ok, Err}
use Rattle.tables.specs.Tables.{Table, wires, word, table_of}
use Rattle.tables.specs.Runs.{run_from, run, read_all, outputs_of, randoms}
use Rattle.tables.specs.Packing.{unpacked, tape_of}
use Rattle.tables.specs.declared.Refusal as DRefusal
use Rattle.tables.specs.Refusals.{Fault, none}
use Rattle.tables.specs.Refusing.{fault_of, answer_of}
use Rattle.tables.specs.Says.{over, RunDone}
use Rattle.tables.specs.Inside.{HasOutputs, put_at}
use Rattle.run_gates.specs.RunGates.{RunReady}
use Rattle.running.specs.Running.{OutputsReady, ran_packed}
use Rattle.tables.proofs.Put.{put_zero, over_length, over_over, Writing, writing_front}
use Rattle.tables.proofs.Put.{writing_byte, writing_end}
use Rattle.tables.proofs.Lists.{All, all_get_d}
use Rattle.tables.proofs.Packing.{unpacked_length, unpacked_bits, tape_long_lem}
use Rattle.tables.proofs.Run.{run_length, run_prefix, read_length}
use Rattle.tables.proofs.Accept.{accepted, inputs_of, gates_of_length, outputs_of_length, outputs_are, outputs_passed}
use Rattle.tables.proofs.Answers.{answered_refused, answered_done, after_refused, after_passed}
use Rattle.tables.proofs.RunFault.{RunGood}

-- before output o: the values from it on are left to write
pub record Reading (t : Table) (vs start out : List ℕ) (o : ℕ) : Type 0 where
  pub writing : Writing (over (outputs_of t vs) start) o (read_all vs (drop o t.outputs)) out

module _ {s : List ℕ} {g q : ℕ} {vs start : List ℕ} (stated : HasOutputs s g q) (ready : OutputsReady s q vs start) where
  outputs_fit : length (outputs_of (table_of s) vs) ≤ length start
  outputs_fit = omega (arith, read_length vs (table_of s).outputs, outputs_are stated, ready.room)

  pub reading_start : Reading (table_of s) vs start start 0
  reading_start = record { writing = writing_front (outputs_of (table_of s) vs) start outputs_fit }

  module _ {out : List ℕ} {o : ℕ} (R : Reading (table_of s) vs start out o) where
    next :
        o < q
        → read_all vs (drop o (table_of s).outputs)
        ≡ get_or vs (get_or (table_of s).outputs o 0) 0 ∷ read_all vs (drop (suc o) (table_of s).outputs)
    unfolding read_all
    next h =
        ap {A = List ℕ} {B = List ℕ} (read_all vs)
        (drop-cons (table_of s).outputs o 0 (omega (arith, outputs_are stated)))

    pub reading_turn :
        {w : ℕ} → o < q → w ≡ get_or (table_of s).outputs o 0 → Reading (table_of s) vs start (set out o (get_or vs w 0)) (o + 1)
    reading_turn h e = rw add-one (record { writing = rw e (writing_byte R.writing _ _ (next h)) })

    pub reading_end : q ≤ o → out ≡ over (outputs_of (table_of s) vs) start
    unfolding read_all
    reading_end h =
        writing_end R.writing
        (ap {A = List ℕ} {B = List ℕ} (read_all vs)
        (drop_of_length-le (table_of s).outputs {i = o} (omega (arith, outputs_are stated))))

-- wires that have a value are read from the front
read_front : (vs ys ws : List ℕ) → All (λ w. w < length vs) ws → read_all (vs ++ ys) ws ≡ read_all vs ws
unfolding read_all All
read_front vs ys [] h = refl
read_front vs ys (w ∷ ws) h = rw (get_or-append vs ys 0 w h.0, read_front vs ys ws h.1)

module _ {s xs rs : List ℕ} (a b : List ℕ) (r : RunGood s xs rs (length a) (length b)) where
  abbrev t : Table
  t = table_of s

  abbrev ran : List ℕ
  ran = ran_packed t xs rs

  pub inputs_fit : length xs ≤ length a
  inputs_fit = omega (arith, r.supplied.inputs, r.values)

  ran_length : length ran ≡ wires t
  unfolding run
  ran_length = omega (arith, run_length t.gates (tape_of (randoms t.gates) rs) xs, r.supplied.inputs)

  pub wires_are : {g : ℕ} → g ≡ word s 2 → length xs + g ≡ wires t
  wires_are e = omega (arith, r.supplied.inputs, gates_of_length s)

  pub few_wires : wires t ≤ 65535
  few_wires = (accepted s r.accepted).few_wires

  -- as many random bits as there are random gates
  bits_due : randoms t.gates ≤ 8 * length rs
  bits_due = omega (arith, r.supplied.random)

  run_front : run_from t.gates (unpacked rs) xs ≡ ran
  unfolding run tape_of
  run_front =
      let n = randoms t.gates in
      ap (λ (l : List ℕ). run_from t.gates l xs) (sym (take-append-drop n (unpacked rs)))
      ∙ run_prefix t.gates (take n (unpacked rs)) (drop n (unpacked rs)) xs (tape_long_lem n rs bits_due)

  -- the inputs are put, then the gates run
  module _ {v : List ℕ} (put : v ≡ put_at 0 xs a) where
    put_over : v ≡ over xs a
    put_over = put ∙ put_zero xs a

    front : take (length xs) v ≡ xs
    front = rw put_over (take-append_seam xs (drop (length xs) a))

    pub run_ready : {g : ℕ} → g ≡ word s 2 → RunReady s (unpacked rs) v (length xs) g
    run_ready e =
        record {
          accepted = r.accepted;
          inputs = r.supplied.inputs ∙ inputs_of s;
          random = omega (arith, bits_due, unpacked_length rs);
          random_bits = unpacked_bits rs;
          room = omega (arith, ap length put_over, over_length xs a inputs_fit, wires_are e, r.values);
          input_bits_lem = rw front r.supplied.input_bits_lem;
        }

    pub run_values : {w : List ℕ} → w ≡ over (run_from t.gates (unpacked rs) (take (length xs) v)) v → w ≡ over ran a
    run_values e = e ∙ rw (front, run_front, put_over, over_over xs ran a (omega (arith, ran_length, r.supplied.inputs)))

  output_wires : All (λ o. o < length ran) t.outputs
  output_wires = rw ran_length (outputs_passed 0 (wires t) t.outputs (accepted s r.accepted).outputs)

  -- the outputs are read from the values
  module _ {w : List ℕ} (values : w ≡ over ran a) where
    output_small : (o : ℕ) → o < length t.outputs → get_or t.outputs o 0 < length w
    output_small o h =
        omega (
          arith,
          all_get_d (λ o. o < length ran) t.outputs o 0 output_wires h,
          ap length values,
          over_length ran a (omega (arith, ran_length, r.values)),
          ran_length,
          r.values,
        )

    pub outputs_ready : {q : ℕ} → q ≡ word s 4 → OutputsReady s q w b
    outputs_ready f = record {
      wires = λ o h. output_small o (omega (arith, outputs_of_length s, f));
      room = omega (arith, outputs_of_length s, r.outputs, f);
    }

    pub run_outputs : {b' : List ℕ} → b' ≡ over (outputs_of t w) b → b' ≡ over (outputs_of t ran) b
    run_outputs e =
        let read : outputs_of t w ≡ outputs_of t ran =
        rw values (read_front ran (drop (length ran) a) t.outputs output_wires) in
        rw read at e

-- what a refused run and a run that is not refused answer
pub run_refused :
    {f : Fault} (t : Table) (xs rs a b : List ℕ) (e : DRefusal.Refusal) → f ≡ fault_of e
    → RunDone f t xs rs a a b b (answer_of (Err e))
run_refused t xs rs a b e h = record {
  answer = answered_refused e h;
  values = after_refused e h (run t xs rs) a;
  outputs = after_refused e h (outputs_of t (run t xs rs)) b;
}

pub run_done :
    {f : Fault} (t : Table) (xs rs : List ℕ) {a a' b b' : List ℕ} {v : ℕ} → f ≡ none
    → (v ≡ wires t) × (a' ≡ over (run t xs rs) a) × (b' ≡ over (outputs_of t (run t xs rs)) b)
    → RunDone f t xs rs a a' b b' (answer_of (Ok v))
run_done {f} t xs rs {a} {a'} {b} {b'} h e = record {
  answer = rw e.0 (answered_done h);
  values = after_passed f (run t xs rs) a h e.1;
  outputs = after_passed f (outputs_of t (run t xs rs)) b h e.2;
}

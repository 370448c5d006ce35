-- The gate loop of a run. Its invariant says what is left: the values from wire n + i on of the whole run, which solves the gates.
-- Assumes nothing.
use mathlib.Core.Path.{◌≡◌, refl, sym, ap, subst, ◌∙◌}
use mathlib.Core.Bool.{true}
use mathlib.Core.List.{List, [], ◌∷◌, ◌++◌, append_assoc}
use Prim.Native.Nat.{ℕ, zero, suc, ◌+◌, ◌≤◌, ◌<◌}
use native.Mathlib.Nat.{add-zero, add-suc}
use native.Mathlib.Numerals.{add-one}
use native.Mathlib.Omega.{arith}
use lib.ListN.{length, get_or, take, drop, set, length-append, length-drop, take-append-drop, drop_of_length-le, get_or-append}
use lib.Seq.{length-take-le, get_or-take, take-take, take-length, take-append_seam, drop-cons}
use Rattle.run_gates.specs.declared.Drawn as DDrawn
use Rattle.tables.specs.declared.GateFields as DGateFields
use Rattle.tables.specs.declared.Kind as DKind
use Rattle.tables.specs.declared.Kind.TheVariants.{Not, Xor, And, Random, Constant, Or}
use Rattle.tables.specs.Kinds.{kind_is}
use Rattle.tables.specs.Tables.{Kind, NOT, XOR, AND, RANDOM, CONSTANT, OR, UNKNOWN, kind_of, Gate, no_gate, Table}
use Rattle.tables.specs.Tables.{gate_of, table_of, known, operands_of, total}
use Rattle.tables.specs.Runs.{driven, drawn, run_from, randoms}
use Rattle.tables.specs.Says.{over}
use Rattle.tables.specs.Inside.{Bits, put_at, HasGates, GateIs}
use Rattle.run_gates.specs.RunGates.{GateReady, GateSays, RunReady}
use Rattle.tables.proofs.Put.{Writing, writing_kept, writing_byte, writing_end}
use Rattle.tables.proofs.Run.{Solves, Reads, Earlier, driven_local, run_length, run_bits, run_solves}
use Rattle.tables.proofs.Accept.{inputs_of, gates_of_length, gates_are, accepted, accepted_few}
use Rattle.tables.proofs.Accept.{operands_below}
use Rattle.tables.proofs.Format.{SoundGates, sound_earlier, passed_sound_gates}

known_small : (k : ℕ) → known (kind_of k) ≡ true → k ≤ 5
known_small zero h = omega arith
known_small (suc zero) h = omega arith
known_small (suc (suc zero)) h = omega arith
known_small (suc (suc (suc zero))) h = omega arith
known_small (suc (suc (suc (suc zero)))) h = omega arith
known_small (suc (suc (suc (suc (suc zero))))) h = omega arith
known_small (suc (suc (suc (suc (suc (suc k)))))) h = let z : ◌≡◌ {A = ℕ} 0 1 = cc in omega arith

drawn_small : (k : Kind) → drawn k ≤ 1
drawn_small NOT = omega arith
drawn_small XOR = omega arith
drawn_small AND = omega arith
drawn_small RANDOM = omega arith
drawn_small CONSTANT = omega arith
drawn_small OR = omega arith
drawn_small (UNKNOWN k) = omega arith

-- a kind that is neither random nor a constant reads its left operand
reads_left : (k : DKind.Kind) (w l r : ℕ) → (k ≡ Random → ⊥) → (k ≡ Constant → ⊥) → Reads w (kind_is k) l r → l < w
reads_left Not w l r n o e = e
reads_left Xor w l r n o e = e.0
reads_left And w l r n o e = e.0
reads_left Random w l r n o e = absurd (n refl)
reads_left Constant w l r n o e = absurd (o refl)
reads_left Or w l r n o e = e.0

-- a run begins with what it was given
run_front : (gs : List Gate) (rs vs : List ℕ) → take (length vs) (run_from gs rs vs) ≡ vs
unfolding run_from
run_front [] rs vs = take-length vs
run_front (g ∷ gs) rs vs =
    let x = driven g.kind g.left g.right (λ w. get_or vs w 0) (get_or rs 0 0) in
    let ws = vs ++ (x ∷ []) in
    let all = run_from gs (drop (drawn g.kind) rs) ws in
    sym (take-take (length vs) (length ws) all (omega (arith, length-append vs (x ∷ []))))
    ∙ ap {A = List ℕ} {B = List ℕ} (take (length vs)) (run_front gs (drop (drawn g.kind) rs) ws)
    ∙ take-append_seam vs (x ∷ [])

-- a buffer that holds the first n values of a run already
writing_after :
    (n : ℕ) (xs b : List ℕ) → take n xs ≡ take n b → n ≤ length xs → length xs ≤ length b
    → Writing (over xs b) n (drop n xs) b
unfolding put_at
writing_after n xs b e h k =
    let far : n + length (drop n xs) ≡ length xs = omega (arith, length-drop n xs) in
    record {
      goal = rw (← e, far, ← append_assoc (take n xs) (drop n xs) (drop (length xs) b), take-append-drop);
      room = omega (arith, far);
    }

-- the run of a table on the first n values of a buffer
abbrev pub ran_from : Table → List ℕ → List ℕ → ℕ → List ℕ
ran_from t rs start n = run_from t.gates rs (take n start)

-- after gate i: c random bits are taken, and the first n + i values are those of the run
pub record Running (t : Table) (rs start : List ℕ) (n : ℕ) (vs : List ℕ) (c i : ℕ) : Type 0 where
  pub some_input : 1 ≤ n
  pub long : length (ran_from t rs start n) ≡ n + length t.gates
  pub bits : Bits (ran_from t rs start n)
  pub writing : Writing (over (ran_from t rs start n) start) (n + i) (drop (n + i) (ran_from t rs start n)) vs
  pub solves : Solves (n + i) c (drop i t.gates) (λ d. get_or rs d 0) (λ p. get_or (ran_from t rs start n) p 0)
  pub random : c + randoms (drop i t.gates) ≤ length rs
  pub few : c + length (drop i t.gates) ≤ 65536
  pub sound : SoundGates (n + i) (drop i t.gates)

module _ {s rs vs : List ℕ} {n g : ℕ} (gates : HasGates s g) (r : RunReady s rs vs n g) where
  front_long : length (take n vs) ≡ n
  front_long = length-take-le n vs (omega (arith, r.room))

  ran_long : length (ran_from (table_of s) rs vs n) ≡ n + length (table_of s).gates
  ran_long = omega (arith, run_length (table_of s).gates rs (take n vs), front_long)

  ran_fits : length (ran_from (table_of s) rs vs n) ≤ length vs
  ran_fits = omega (arith, ran_long, gates_are gates, r.room)

  pub running_start : Running (table_of s) rs vs n vs 0 0
  running_start =
      let t = table_of s in
      let inputs : n ≡ t.inputs = r.inputs ∙ sym (inputs_of s) in
      let sound : SoundGates n t.gates = rw inputs (passed_sound_gates s r.accepted) in
      let front : take n (ran_from t rs vs n) ≡ take n vs =
      ap (λ (m : ℕ). take m (ran_from t rs vs n)) (sym front_long) ∙ run_front t.gates rs (take n vs) in
      record {
        some_input = omega (arith, (accepted s r.accepted).some_input);
        long = ran_long;
        bits = run_bits t.gates rs (take n vs) r.random_bits r.input_bits_lem;
        writing = rw add-zero (writing_after n (ran_from t rs vs n) vs front (omega (arith, ran_long)) ran_fits);
        solves = rw add-zero (run_solves n t.gates rs (take n vs) front_long (sound_earlier n t.gates sound));
        random = omega (arith, r.random);
        few = omega (arith, gates_of_length s, accepted_few s r.accepted);
        sound = rw add-zero sound;
      }

-- one turn, at gate i
module _
    {s : List ℕ}
    {g : ℕ}
    (gates : HasGates s g)
    {rs start : List ℕ}
    {n : ℕ}
    {vs : List ℕ}
    {c i : ℕ}
    (r : Running (table_of s) rs start n vs c i)
    (before : i < g) where
  abbrev t : Table
  t = table_of s

  h : i < length t.gates
  h = omega (arith, gates_are gates)

  abbrev ran : List ℕ
  ran = ran_from t rs start n

  abbrev this : Gate
  this = gate_of t i

  abbrev later : List Gate
  later = drop (suc i) t.gates

  pub gates_left : drop i t.gates ≡ this ∷ later
  gates_left = drop-cons t.gates i no_gate h

  left_sound : SoundGates (n + i) (this ∷ later)
  left_sound = subst (λ (gs : List Gate). SoundGates (n + i) gs) gates_left r.sound

  left_solves : Solves (n + i) c (this ∷ later) (λ d. get_or rs d 0) (λ p. get_or ran p 0)
  left_solves =
      subst (λ (gs : List Gate). Solves (n + i) c gs (λ d. get_or rs d 0) (λ p. get_or ran p 0)) gates_left r.solves

  left_random : c + (drawn this.kind + randoms later) ≤ length rs
  unfolding total
  left_random = subst (λ (gs : List Gate). c + randoms gs ≤ length rs) gates_left r.random

  left_few : c + suc (length later) ≤ 65536
  left_few = omega (arith, r.few, ap length gates_left)

  -- both operands, also where they are not read: a constant's left one may be the wire that it drives
  earlier : (this.left ≤ n + i) × (this.right < n + i)
  unfolding SoundGates
  earlier =
      operands_below (n + i) (operands_of this.kind) this.left this.right (omega (arith, r.some_input))
      left_sound.0.1

  -- the values so far are the run's
  pub value_same : (w : ℕ) → w < n + i → get_or vs w 0 ≡ get_or ran w 0
  value_same w k =
      sym (get_or-take (n + i) vs w 0 k)
      ∙ ap (λ (l : List ℕ). get_or l w 0) (writing_kept r.writing)
      ∙ get_or-take (n + i) (over ran start) w 0 k
      ∙ get_or-append ran (drop (length ran) start) 0 w (omega (arith, r.long, h))

  value_bit : (w : ℕ) → w < n + i → get_or vs w 0 ≤ 1
  value_bit w k = rw (value_same w k) (r.bits w)

  random_there : this.kind ≡ RANDOM → c < length rs
  random_there e =
      let m : c + (drawn RANDOM + randoms later) ≤ length rs = rw e at left_random in omega arith

  ran_next : drop (n + i) ran ≡ get_or ran (n + i) 0 ∷ drop (suc (n + i)) ran
  ran_next = drop-cons ran (n + i) 0 (omega (arith, r.long, h))

  pub wire_there : n + i < length vs
  wire_there = omega (arith, r.writing.room, ap length ran_next)

  drives :
      driven this.kind this.left this.right (λ w. get_or vs w 0) (get_or rs c 0) ≡ get_or ran (n + i) 0
  unfolding Solves Earlier
  drives =
      driven_local this.kind this.left this.right (n + i) (get_or rs c 0) _ _
      (sound_earlier (n + i) (this ∷ later) left_sound).0
      value_same
      ∙ sym left_solves.0

  running_turn :
      {x c' : ℕ} → x ≡ get_or ran (n + i) 0 → c' ≡ c + drawn this.kind
      → Running t rs start n (set vs (n + i) x) c' (suc i)
  unfolding SoundGates Solves
  running_turn {x} {c'} ex ec =
      record {
        some_input = r.some_input;
        long = r.long;
        bits = r.bits;
        writing = rw (ex, add-suc) (writing_byte r.writing (get_or ran (n + i) 0) (drop (suc (n + i)) ran) ran_next);
        solves = rw (ec, add-suc) left_solves.1;
        random = omega (arith, left_random);
        few = omega (arith, left_few, drawn_small this.kind);
        sound = rw add-suc left_sound.1;
      }

  -- the gate that was read: it is ready, and its value makes the turn
  module _ {x : DGateFields.GateFields} (is : GateIs this x) where
    right_earlier : x.right < n + i
    right_earlier = omega (arith, is.right, earlier.1)

    -- both have a place among the values
    pub left_there : x.left < length vs
    left_there = omega (arith, is.left, earlier.0, wire_there)

    pub right_there : x.right < length vs
    right_there = omega (arith, right_earlier, wire_there)

    pub byte_small : x.kind ≤ 5
    unfolding SoundGates
    byte_small = known_small x.kind (rw is.kind left_sound.0.0)

    -- its kind, as the code names it
    left_earlier : (k : DKind.Kind) → kind_is k ≡ kind_of x.kind → (k ≡ Random → ⊥) → (k ≡ Constant → ⊥) → x.left < n + i
    unfolding Earlier
    left_earlier k named h j =
        reads_left k (n + i) x.left x.right h j
        (rw (named, is.kind, is.left, is.right) (sound_earlier (n + i) (this ∷ later) left_sound).0)

    pub gate_ready : GateReady x (get_or vs x.left 0) (get_or vs x.right 0) rs c
    gate_ready = record {
      known = byte_small;
      left = λ k named h j. value_bit x.left (left_earlier k named h j);
      right = value_bit x.right right_earlier;
      random = λ e. random_there (sym is.kind ∙ e);
      few = omega (arith, left_few);
    }

    pub gate_turn :
        {d : DDrawn.Drawn} → GateSays x (get_or vs x.left 0) (get_or vs x.right 0) rs c d
        → Running t rs start n (set vs (n + i) d.value) d.next (i + 1)
    gate_turn says =
        rw add-one (running_turn
        (rw (is.kind, is.left) at (says.value this.right (λ w. get_or vs w 0) refl (rw is.right)) ∙ drives)
        (rw is.kind at says.next))

pub running_end :
    {s : List ℕ} {g : ℕ} {rs start : List ℕ} {n : ℕ} {vs : List ℕ} {c i : ℕ} → HasGates s g → Running (table_of s) rs start n vs c i
    → g ≤ i → vs ≡ over (ran_from (table_of s) rs start n) start
running_end {s} {g} {rs} {start} {n} {vs} {c} {i} gates r h =
    writing_end r.writing (drop_of_length-le (ran_from (table_of s) rs start n) {i = n + i} (omega (arith, r.long, gates_are gates)))

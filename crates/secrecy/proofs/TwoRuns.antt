-- The mapped tape is document 01's: in the two complete runs the tapes differ exactly where its rules say, and no other
-- tape does. As the rules treat both runs alike, mapping from y to x leads back.
-- Assumes nothing.
use mathlib.Core.Path.{◌≡◌, sym, ap, ap₂, ◌∙◌, subst}
use mathlib.Core.Bool.{true}
use mathlib.Core.List.{List, ◌++◌, map}
use Prim.Native.Nat.{ℕ, ◌*◌}
use native.Mathlib.Omega.{arith}
use lib.ListN.{length, get_or, take, drop}
use lib.Seq.{take_at, drop_at}
use Rattle.tables.specs.Tables.{Table}
use Rattle.tables.specs.Runs.{run_from}
use Rattle.tables.specs.Inside.{Bits}
use Rattle.tables.proofs.Accept.{Plain}
use Rattle.construction.specs.Shares.{shares_of}
use Rattle.construction.specs.Gadgets.{Gadget}
use Rattle.construction.specs.Wires.{driver_of, input_shares, masked_wires, tape_long}
use Rattle.construction.specs.Codes.{encode, masked_run}
use Rattle.construction.proofs.Lawful.{Lawful}
use Rattle.construction.proofs.Placed.{placed_inputs, plain_inputs}
use Rattle.secrecy.specs.Maps.{flipped, input_flips, map_gates, mapped_at}
use Rattle.secrecy.specs.Laws.{gates_flips, tape_flips}
use Rattle.secrecy.specs.Claims.{is_tape, are_secrets}
use Rattle.secrecy.specs.Laws.{TwoRuns}
use Rattle.secrecy.proofs.Bits.{bits_all}
use Rattle.secrecy.proofs.Count.{of_bits}
use Rattle.secrecy.proofs.Inputs.{flipped_length, flipped_bits, flipped_twice, flipped_none, input_flips_length}
use Rattle.secrecy.proofs.Inputs.{input_flips_sym, input_flips_none, zero_append}
use Rattle.secrecy.proofs.Begun.{run_is, secrets_are, tape_is, enough, tape_front_long, rest_long, shares_long}
use Rattle.secrecy.proofs.Flips.{flipped_split, runs_flips, gates_flips_sym, gates_flips_none, Fixed, fixed_step}
use Rattle.secrecy.proofs.Flips.{map_gates_fixed}

pub is_tape_lem :
    (G : Gadget) (o : ℕ) (t : Table) (ts : List ℕ) → length ts ≡ tape_long G o t → Bits ts → is_tape G o t ts ≡ true
is_tape_lem G o t ts long bits =
    of_bits (tape_long G o t) ts (long, bits_all ts bits)

-- swapping the secrets and their runs changes nothing
tape_flips_sym :
    (G : Gadget) (o : ℕ) (t : Table) (k : ℕ) (xs ys vs us : List ℕ) → length xs ≡ length ys
    → tape_flips G o t k xs ys vs us ≡ tape_flips G o t k ys xs us vs
unfolding tape_flips
tape_flips_sym G o t k xs ys vs us e =
    ap₂ (λ (f h : List ℕ). f ++ h) (input_flips_sym o k xs ys e) (gates_flips_sym G (shares_of o) k _ _ t.gates _ _)

-- one run against itself flips nothing
tape_flips_none :
    (G : Gadget) → ((k i j : ℕ) → G.flip k i j 0 0 ≡ 0) → (o : ℕ) (t : Table) (k : ℕ) (xs vs : List ℕ) (i : ℕ)
    → get_or (tape_flips G o t k xs xs vs vs) i 0 ≡ 0
unfolding tape_flips
tape_flips_none G none o t k xs vs i =
    zero_append (input_flips o k xs xs) _
    (input_flips_none o k xs)
    (gates_flips_none G none (shares_of o) k _ _ t.gates (λ p. get_or vs p 0))
    i

module _ {G : Gadget} (L : Lawful G) (t : Table) (o k : ℕ) (P : Plain t) (xs ys ts : List ℕ)
    (long_x : length xs ≡ t.inputs) (long_y : length ys ≡ t.inputs) (long : length ts ≡ tape_long G o t) where
  -- the tape bits of the inputs
  abbrev input_bits : ℕ
  input_bits = 2 * o * t.inputs

  -- those of the second run
  abbrev front : List ℕ
  front = flipped (take input_bits ts) (input_flips o k xs ys)

  abbrev values : List ℕ
  values = encode o xs (take input_bits ts)

  abbrev rest : List ℕ
  rest =
      map_gates G (shares_of o) k 0 (shares_of o * t.inputs) (input_shares (shares_of o) t.inputs) t.gates
      (drop input_bits ts)
      values
      (encode o ys front)

  abbrev rest_flips : List ℕ → List ℕ → List ℕ
  rest_flips ps qs =
      runs_flips G (shares_of o) k 0 (shares_of o * t.inputs) (input_shares (shares_of o) t.inputs) t.gates
      (drop input_bits ts)
      qs
      values
      (encode o ys ps)

  front_long : length front ≡ input_bits
  front_long = flipped_length (take input_bits ts) (input_flips o k xs ys) ∙ tape_front_long L o t ts long

  flips_long : length (input_flips o k xs ys) ≡ input_bits
  flips_long = input_flips_length o k xs ys (long_x ∙ sym long_y) ∙ rw long_x

  -- the law of a second tape in two parts
  law_parts :
      (ps qs : List ℕ) → length ps ≡ input_bits
      → flipped ts (tape_flips G o t k xs ys (masked_run G o t xs ts) (masked_run G o t ys (ps ++ qs)))
      ≡ front ++ flipped (drop input_bits ts) (rest_flips ps qs)
  unfolding tape_flips
  law_parts ps qs e =
      let n = shares_of o in
      let hs = map driver_of (masked_wires G o t) in
      let second : masked_run G o t ys (ps ++ qs) ≡ run_from hs qs (encode o ys ps) =
      run_is G o t ys (ps ++ qs)
      ∙ ap₂ (λ (p q : List ℕ). run_from hs q (encode o ys p)) (take_at ps qs input_bits e) (drop_at ps qs input_bits e) in
      flipped_split input_bits ts (input_flips o k xs ys) _ flips_long (enough L o t ts long)
      ∙ ap₂
      (λ (A B : List ℕ).
      front
      ++ flipped (drop input_bits ts)
      (gates_flips G n k (n * t.inputs) (input_shares n t.inputs) t.gates (λ p. get_or A p 0) (λ p. get_or B p 0)))
      (run_is G o t xs ts)
      second

  -- the mapped tape has the law, and no other tape has it
  mapped_fixed :
      Fixed ts (λ us. tape_flips G o t k xs ys (masked_run G o t xs ts) (masked_run G o t ys us)) (mapped_at G o t k xs ys ts)
  unfolding mapped_at
  mapped_fixed =
      fixed_step input_bits ts front rest _ rest_flips (enough L o t ts long) front_long law_parts
      (map_gates_fixed L (shares_of o) k 0 (shares_of o * t.inputs) _ t.gates (drop input_bits ts) values _
      (omega arith)
      (plain_inputs (shares_of o) t P)
      (placed_inputs (shares_of o) t.inputs)
      (shares_long o t.inputs xs _ long_x (tape_front_long L o t ts long))
      (shares_long o t.inputs ys front long_y front_long)
      (rest_long L o t ts long))

  pub mapped_length : length (mapped_at G o t k xs ys ts) ≡ tape_long G o t
  mapped_length = ap length mapped_fixed.holds ∙ flipped_length ts _ ∙ long

  pub mapped_bits : Bits ts → Bits (mapped_at G o t k xs ys ts)
  mapped_bits bits = subst Bits (sym mapped_fixed.holds) (flipped_bits ts _ bits)

-- equal secrets map a tape to itself
pub mapped_itself :
    {G : Gadget} (L : Lawful G) → ((k i j : ℕ) → G.flip k i j 0 0 ≡ 0) → (t : Table) (o k : ℕ) → Plain t
    → (xs ts : List ℕ) → length xs ≡ t.inputs → length ts ≡ tape_long G o t → Bits ts → mapped_at G o t k xs xs ts ≡ ts
mapped_itself {G} L none t o k P xs ts long_x long bits =
    sym ((mapped_fixed L t o k P xs xs ts long_x long_x long).only ts
    (sym (flipped_none ts _ bits (tape_flips_none G none o t k xs (masked_run G o t xs ts)))))

-- the map is document 01's
pub two_runs :
    {G : Gadget} (L : Lawful G) → ((k i j : ℕ) → G.flip k i j 0 0 ≡ 0) → (t : Table) (o k : ℕ) → Plain t
    → TwoRuns G t o k
two_runs {G} L none t o k P =
    record {
      flips = λ xs ys ts hx hy ht.
          (mapped_fixed L t o k P xs ys ts (secrets_are t xs hx).0 (secrets_are t ys hy).0 (tape_is G o t ts ht).0).holds;
      only = λ xs ys ts us hx hy ht.
          (mapped_fixed L t o k P xs ys ts (secrets_are t xs hx).0 (secrets_are t ys hy).0 (tape_is G o t ts ht).0).only us;
      itself = λ xs ts hx ht.
          mapped_itself L none t o k P xs ts (secrets_are t xs hx).0 (tape_is G o t ts ht).0 (tape_is G o t ts ht).1;
    }

module _ {G : Gadget} (L : Lawful G) (t : Table) (o k : ℕ) (P : Plain t) (xs ys ts : List ℕ)
    (hx : are_secrets t xs ≡ true) (hy : are_secrets t ys ≡ true) (ht : is_tape G o t ts ≡ true) where
  -- the map gives tapes
  pub mapped_tape : is_tape G o t (mapped_at G o t k xs ys ts) ≡ true
  mapped_tape =
      let long_x = (secrets_are t xs hx).0 in
      let long_y = (secrets_are t ys hy).0 in
      let tape = tape_is G o t ts ht in
      is_tape_lem G o t (mapped_at G o t k xs ys ts)
      (mapped_length L t o k P xs ys ts long_x long_y tape.0)
      (mapped_bits L t o k P xs ys ts long_x long_y tape.0 tape.1)

  -- the map from y to x leads back
  pub mapped_back : mapped_at G o t k ys xs (mapped_at G o t k xs ys ts) ≡ ts
  mapped_back =
      let long_x = (secrets_are t xs hx).0 in
      let long_y = (secrets_are t ys hy).0 in
      let tape = tape_is G o t ts ht in
      let us = mapped_at G o t k xs ys ts in
      let vx = masked_run G o t xs ts in
      let vy = masked_run G o t ys us in
      let there : us ≡ flipped ts (tape_flips G o t k xs ys vx vy) =
      (mapped_fixed L t o k P xs ys ts long_x long_y tape.0).holds in
      let back : flipped us (tape_flips G o t k xs ys vx vy) ≡ ts =
      ap (λ (M : List ℕ). flipped M (tape_flips G o t k xs ys vx vy)) there
      ∙ flipped_twice ts (tape_flips G o t k xs ys vx vy) tape.1 in
      let law : ts ≡ flipped us (tape_flips G o t k ys xs vy vx) =
      sym back ∙ ap (flipped us) (tape_flips_sym G o t k xs ys vx vy (long_x ∙ sym long_y)) in
      let long_u = mapped_length L t o k P xs ys ts long_x long_y tape.0 in
      sym ((mapped_fixed L t o k P ys xs us long_y long_x long_u).only ts law)

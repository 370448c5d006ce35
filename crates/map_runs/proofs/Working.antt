-- The work of mapping: what each part needs once nothing is refused, and that the parts together leave the mapped tape and both
-- runs.
-- Assumes nothing.
use mathlib.Core.Path.{◌≡◌, refl, sym, ap, ap₂, ◌∙◌, subst}
use mathlib.Core.List.{List, ◌++◌, map}
use Prim.Native.Nat.{ℕ, ◌+◌, ◌*◌, ◌≤◌, ◌<◌}
use native.Mathlib.Omega.{arith}
use lib.ListN.{length, get_or, take, drop, length-append, length-drop, take-append-drop}
use lib.Seq.{take-take, take_at, drop_at, get_or-drop}
use Rattle.tables.specs.Tables.{Table, table_of, total}
use Rattle.tables.specs.Runs.{run, run_from, randoms}
use Rattle.tables.specs.Packing.{packed, unpacked, tape_of}
use Rattle.tables.specs.Says.{over}
use Rattle.tables.specs.Inside.{Bits, ran_on, RunsTo}
use Rattle.tables.proofs.Lists.{all_append, bits_back, drop_take}
use Rattle.tables.proofs.Packing.{unpacked_length, unpacked_bits, tape_long_lem, tape_bits, packed_tape, packed_bytes}
use Rattle.tables.proofs.Packing.{bytes_all, bytes_same, packed_over}
use Rattle.tables.proofs.Run.{run_length}
use Rattle.tables.proofs.Ran.{ran_is}
use Rattle.tables.proofs.Accept.{Plain}
use Rattle.tables.proofs.Put.{over_length, over_over}
use Rattle.construction.specs.Shares.{shares_of}
use Rattle.construction.specs.declared.And as DAnd
use Rattle.construction.specs.Gadgets.{Gadget, gadget_of}
use Rattle.construction.specs.Wires.{driver_of, input_shares, cost, masked, masked_table, tape_long}
use Rattle.construction.specs.Counts.{draws}
use Rattle.construction.specs.Codes.{encode, masked_run}
use Rattle.construction.proofs.Orders.{order_range}
use Rattle.construction.proofs.Lawful.{lawful}
use Rattle.construction.proofs.Costs.{masked_draws, masked_wires_lem}
use Rattle.construction.proofs.Codes.{encode_bits}
use Rattle.planning.specs.declared.Plan as DPlan
use Rattle.planning.specs.Plans.{PlanReady}
use Rattle.planning.proofs.Planning.{plan_passed, plan_fits}
use Rattle.secrecy.specs.Maps.{flipped, input_flips, map_gates, mapped_at}
use Rattle.secrecy.specs.Both.{BothRan, BothReady, flips_at}
use Rattle.secrecy.proofs.Inputs.{flipped_length, flipped_append, flipped_bits, flipped_between, input_flips_length}
use Rattle.secrecy.proofs.FlipsAt.{flips_at_length, flips_at_append, flips_at_front}
use Rattle.secrecy.proofs.Begun.{shares_long}
use Rattle.secrecy.proofs.TwoRuns.{mapped_length, mapped_bits}
use Rattle.map_inputs.specs.Flipping.{BeginReady, BegunSays}
use Rattle.map_gates.specs.Steps.{GatesRan}
use Rattle.map_runs.specs.Working.{WorkReady, WorkSays}

module _
    (and : DAnd.And)
    {s : List ℕ}
    {p : DPlan.Plan}
    {k : ℕ}
    {xs ys ts m a b : List ℕ}
    (R : PlanReady s p)
    (W : WorkReady p k xs ys ts m a b) where
  abbrev G : Gadget
  G = gadget_of and

  abbrev o : ℕ
  o = p.order

  abbrev t : Table
  t = table_of s

  abbrev n : ℕ
  n = shares_of o

  abbrev M : Table
  M = masked_table G o t

  -- the wires of the inputs' shares; the tape bits of the inputs, and those of the random gates
  abbrev w : ℕ
  w = p.shares * p.inputs

  abbrev split : ℕ
  split = 2 * o * p.inputs

  abbrev bits : List ℕ
  bits = tape_of p.tape ts

  abbrev front : List ℕ
  front = tape_of split ts

  abbrev rs : List ℕ
  rs = drop split bits

  -- the front of the mapped tape, and both encodings
  abbrev F : List ℕ
  F = flipped front (input_flips o k xs ys)

  abbrev E : List ℕ
  E = encode o xs front

  abbrev E' : List ℕ
  E' = encode o ys F

  order_fits : (1 ≤ o) × (o ≤ 15)
  order_fits = order_range o (plan_passed R).order

  plain : Plain t
  plain = (plan_passed R).plain

  split_is : split ≡ 2 * o * t.inputs
  split_is = ap (λ (i : ℕ). 2 * o * i) R.inputs

  inputs_are : w ≡ n * t.inputs
  inputs_are = ap₂ (λ (x y : ℕ). x * y) R.shares R.inputs

  tape_parts : p.tape ≡ split + randoms M.gates
  unfolding tape_long
  tape_parts = R.tape and ∙ ap (λ (y : ℕ). y + randoms M.gates) (sym split_is)

  first_long : length xs ≡ t.inputs
  first_long = W.first ∙ R.inputs

  second_long : length ys ≡ t.inputs
  second_long = W.second ∙ R.inputs

  pub split_fits : split ≤ p.tape
  split_fits = omega (arith, tape_parts)

  bits_due : length bits ≡ p.tape
  bits_due = tape_long_lem p.tape ts (omega (arith, W.tape))

  front_long : length front ≡ split
  front_long = tape_long_lem split ts (omega (arith, split_fits, W.tape))

  -- the two parts of the tape's bits
  front_is : take split bits ≡ front
  unfolding tape_of
  front_is = take-take split p.tape (unpacked ts) split_fits

  rest_is : take (randoms M.gates) (drop split (unpacked ts)) ≡ rs
  unfolding tape_of
  rest_is =
      sym (ap (λ (l : ℕ). drop split (take l (unpacked ts))) tape_parts ∙ drop_take split (randoms M.gates) (unpacked ts))

  F-long : length F ≡ split
  F-long = flipped_length front (input_flips o k xs ys) ∙ front_long

  E-long : length E ≡ n * t.inputs
  E-long = shares_long o t.inputs xs front first_long (front_long ∙ split_is)

  E'-long : length E' ≡ n * t.inputs
  E'-long = shares_long o t.inputs ys F second_long (F-long ∙ split_is)

  front_bits : Bits front
  front_bits = tape_bits split ts

  few : p.tape ≤ 65535
  few = omega (arith, (plan_fits R).tape, (plan_fits R).wires)

  pub begin_ready : BeginReady o k xs ys ts m a b
  begin_ready =
      let fits = plan_fits R in
      let shares : shares_of o * length xs ≡ n * t.inputs = ap (λ (i : ℕ). n * i) first_long in
      let due : 2 * o * length xs ≡ split = ap (λ (i : ℕ). 2 * o * i) W.first in
      record {
        order = order_fits.1;
        from_1 = W.from_1;
        to_n = omega (arith, W.to_n, R.shares);
        second = second_long ∙ sym first_long;
        tape = omega (arith, due, split_fits, W.tape);
        room = omega (arith, W.tape, W.mapped);
        few = omega (arith, inputs_are, fits.inputs, fits.wires);
        one = omega (arith, inputs_are, fits.inputs, W.one);
        other = omega (arith, inputs_are, fits.inputs, W.other);
        first_bits_lem = W.first_bits_lem;
        second_bits_lem = W.second_bits_lem;
      }

  masked_gates : M.gates ≡ map driver_of (masked G n 0 (n * t.inputs) (input_shares n t.inputs) t.gates)
  unfolding masked_table
  masked_gates = refl

  -- the random bits of the gates, and the wires that these drive
  draws_are : total (λ kd. draws kd n) t.gates ≡ randoms M.gates
  draws_are = sym (ap randoms masked_gates ∙ masked_draws (lawful and) n 0 (n * t.inputs) (input_shares n t.inputs) t.gates)

  wires_are : n * t.inputs + total (λ kd. cost kd n) t.gates ≡ p.wires
  wires_are = sym (R.wires and ∙ masked_wires_lem G o t)

  -- a run that was begun with the shares e
  module _ {v : List ℕ} (e v₀ : List ℕ) (long : length e ≡ n * t.inputs) (ev : v ≡ over e v₀) where
    taken : take (n * t.inputs) v ≡ e
    taken = rw ev (take_at e (drop (length e) v₀) (n * t.inputs) long)

    run_ready : Bits e → p.wires ≤ length v₀ → RunsTo (n * t.inputs) (total (λ kd. cost kd n) t.gates) v
    run_ready bits room =
        let same : length v ≡ length v₀ = ap length ev ∙ over_length e v₀ (omega (arith, long, wires_are)) in
        record { room = omega (arith, wires_are); bits = rw taken bits }

    -- what the gates leave of it, over what was lent
    run_left :
        {v' : List ℕ} (us : List ℕ) → v' ≡ ran_on M.gates us (n * t.inputs) v → v' ≡ over (run_from M.gates us e) v₀
    run_left us h =
        let ran = run_from M.gates us e in
        let short : length e ≤ length ran = omega (arith, run_length M.gates us e) in
        h ∙ ran_is M.gates us (n * t.inputs) v ∙ rw (taken, ev) (over_over e ran v₀ short)

  -- the mapped tape's bits of the random gates
  abbrev rest : List ℕ
  rest = map_gates G n k 0 (n * t.inputs) (input_shares n t.inputs) t.gates rs E E'

  mapped_parts : mapped_at G o t k xs ys bits ≡ F ++ rest
  unfolding mapped_at
  mapped_parts = rw (← split_is, front_is) refl

  -- these are bits, and as many as the tape has
  mapped_due : length (mapped_at G o t k xs ys bits) ≡ p.tape
  mapped_due =
      mapped_length (lawful and) t o k plain xs ys bits first_long second_long (bits_due ∙ R.tape and) ∙ sym (R.tape and)

  mapped_are_bits : Bits (mapped_at G o t k xs ys bits)
  mapped_are_bits =
      mapped_bits (lawful and) t o k plain xs ys bits first_long second_long (bits_due ∙ R.tape and) (tape_bits p.tape ts)

  -- a run of the masked table on a tape
  run_parts :
      (zs us : List ℕ)
      → masked_run G o t zs us ≡ run_from M.gates (drop split us) (encode o zs (take split us))
  unfolding masked_run run
  run_parts zs us = rw split_is

  -- the inputs' flips; the bits of the buffer in which the mapped tape begins
  abbrev fs : List ℕ
  fs = input_flips o k xs ys

  abbrev U : List ℕ
  U = unpacked (over ts m)

  fs_long : length fs ≡ split
  fs_long = input_flips_length o k xs ys (first_long ∙ sym second_long) ∙ ap (λ (i : ℕ). 2 * o * i) W.first

  U-long : length U ≡ 8 * length m
  U-long = unpacked_length (over ts m) ∙ ap (λ (c : ℕ). 8 * c) (over_length ts m (omega (arith, W.tape, W.mapped)))

  abbrev mapped : List ℕ
  mapped = mapped_at G o t k xs ys bits

  -- where the two tapes differ
  abbrev flips : List ℕ
  flips = fs ++ flipped rs rest

  rs_long : split + length rs ≡ p.tape
  rs_long = omega (arith, length-drop split bits, bits_due, split_fits)

  rest_long : length rest ≡ length rs
  rest_long = omega (arith, ap length mapped_parts ∙ length-append F rest, mapped_due, F-long, rs_long)

  flips_long : length flips ≡ length bits
  flips_long = omega (arith, length-append fs (flipped rs rest), flipped_length rs rest, fs_long, rs_long, bits_due)

  flipped_is : flipped bits flips ≡ mapped
  flipped_is =
      let parts : bits ≡ front ++ rs = sym (take-append-drop split bits) ∙ ap (λ (l : List ℕ). l ++ rs) front_is in
      let last : Bits rest = bits_back F rest (subst (λ (l : List ℕ). Bits l) mapped_parts mapped_are_bits) in
      ap (λ (l : List ℕ). flipped l flips) parts
      ∙ flipped_append front rs fs (flipped rs rest) (front_long ∙ sym fs_long)
      ∙ ap (λ (l : List ℕ). F ++ l) (flipped_between rs rest last rest_long)
      ∙ sym mapped_parts

  -- the tape's bytes are its bits, packed
  module _ (ht : (i : ℕ) → get_or ts i 0 < 256) where
    tape_is : packed bits ≡ ts
    tape_is = packed_tape p.tape ts W.tape (bytes_all ts ht) W.unused

    bits_there : U ≡ over bits U
    bits_there =
        let own : (s : List ℕ) → packed bits ≡ s → unpacked (over s m) ≡ over bits (unpacked (over s m)) =
        λ s e. subst (λ (r : List ℕ). unpacked (over r m) ≡ over bits (unpacked (over r m))) e
        (packed_over bits bits m (tape_bits p.tape ts) (tape_bits p.tape ts) refl) in
        own ts tape_is

  -- both runs begun, and the inputs' bits of the mapped tape flipped
  module _ {m₁ a₁ b₁ : List ℕ} (begun : BegunSays o k xs ys ts m m₁ a a₁ b b₁) where
    one_is : a₁ ≡ over E a
    one_is = begun.one ∙ ap (λ (i : ℕ). over (encode o xs (tape_of (2 * o * i) ts)) a) W.first

    other_is : b₁ ≡ over E' b
    other_is = begun.other ∙ ap (λ (i : ℕ). over (encode o ys (flipped (tape_of (2 * o * i) ts) fs)) b) W.first

    begun_long : length (unpacked m₁) ≡ 8 * length m
    begun_long =
        ap length begun.mapped ∙ flips_at_length 0 fs U (omega (arith, fs_long, U-long, split_fits, W.mapped)) ∙ U-long

    pub gates_ready :
        BothReady (p.shares * t.inputs) (total (λ kd. cost kd p.shares) t.gates) split
        (total (λ kd. draws kd p.shares) t.gates) (unpacked ts) (unpacked m₁) a₁ b₁
    gates_ready =
        rw R.shares
        (record {
          one = run_ready E a E-long one_is (encode_bits o xs front W.first_bits_lem front_bits) W.one;
          other =
              run_ready E' b E'-long other_is
              (encode_bits o ys F W.second_bits_lem (flipped_bits front fs front_bits))
              W.other;
          tape = omega (arith, draws_are, tape_parts, W.tape, unpacked_length ts);
          room = omega (arith, draws_are, tape_parts, W.mapped, begun_long);
          few = omega (arith, draws_are, tape_parts, few);
          bits = unpacked_bits ts;
        })

    module _ (m₂ : List ℕ) {a₂ b₂ : List ℕ} (gates : GatesRan G p.shares k t (unpacked ts) split (unpacked m₁) (unpacked m₂) a₁ a₂ b₁ b₂)
      where
        ran : BothRan M.gates rs rest split (n * t.inputs) (unpacked m₁) (unpacked m₂) a₁ a₂ b₁ b₂
        ran =
            let all : take (total (λ kd. draws kd n) t.gates) (drop split (unpacked ts)) ≡ rs =
            ap (λ (c : ℕ). take c (drop split (unpacked ts))) draws_are ∙ rest_is in
            rw (R.shares, all, taken E a E-long one_is, taken E' b E'-long other_is, ← masked_gates) at gates

        flips_are : unpacked m₂ ≡ flips_at 0 flips U
        flips_are =
            ran.mapped
            ∙ ap₂ (λ (i : ℕ) (l : List ℕ). flips_at i (flipped rs rest) l)
            {x = split} {y = 0 + length fs} (omega (arith, fs_long)) begun.mapped
            ∙ flips_at_append 0 fs (flipped rs rest) U (omega (arith, fs_long, U-long, split_fits, W.mapped))

        -- the bytes of the tape, of what is lent and of what is left are bytes
        module _ (ht : (i : ℕ) → get_or ts i 0 < 256) (hm : (i : ℕ) → get_or m i 0 < 256) (hm₂ : (i : ℕ) → get_or m₂ i 0 < 256) where
          mapped_is : m₂ ≡ over (packed mapped) m
          mapped_is =
              let ours : unpacked m₂ ≡ over mapped U =
              flips_are
              ∙ ap (flips_at 0 flips) (bits_there ht)
              ∙ flips_at_front flips bits U flips_long
              ∙ ap (λ (l : List ℕ). over l U) flipped_is in
              let due : unpacked (over (packed mapped) m) ≡ over mapped U =
              packed_over bits mapped m (tape_bits p.tape ts) mapped_are_bits (mapped_due ∙ sym bits_due)
              ∙ ap (λ (l : List ℕ). over mapped (unpacked (over l m))) (tape_is ht) in
              let rest_bytes = drop (length (packed mapped)) m in
              let bytes = all_append _ (packed mapped) rest_bytes (packed_bytes mapped mapped_are_bits)
              (bytes_all rest_bytes (λ i. rw (get_or-drop (length (packed mapped)) m i 0) (hm _))) in
              bytes_same m₂ (over (packed mapped) m) (bytes_all m₂ hm₂) bytes (ours ∙ sym due)

          pub work_done : WorkSays G s o k xs ys ts m m₂ a a₂ b b₂
          work_done =
              let second : masked_run G o t ys mapped ≡ run_from M.gates rest E' =
              run_parts ys mapped ∙ rw (mapped_parts, drop_at F rest split F-long, take_at F rest split F-long) in
              let first : masked_run G o t xs bits ≡ run_from M.gates rs E = run_parts xs bits ∙ rw front_is in
              record {
                mapped = rw (← R.tape and) mapped_is;
                one = rw (← R.tape and, first) (run_left E a E-long one_is rs ran.one);
                other = rw (← R.tape and, second) (run_left E' b E'-long other_is rest ran.other);
              }

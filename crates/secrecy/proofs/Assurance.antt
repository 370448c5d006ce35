-- The laws of the calls: each promise says what its call wrote, the bytes masking wrote read back as the masked table, and the
-- demands say the rest. In the same order, what a call wrote is what the next one is not refused with.
-- Assumes nothing.
use mathlib.Core.Path.{◌≡◌, refl, sym, ap, ap₂, ◌∙◌, subst}
use mathlib.Core.Bool.{Bool, true, cond}
use mathlib.Core.List.{List, [], ◌∷◌}
use Prim.Native.Nat.{ℕ, ◌+◌, ◌*◌, ◌≤◌, ◌<◌}
use native.Mathlib.Omega.{arith}
use borrow.Author.Tests.{eq-eqb, eqb-true}
use lib.Dec.{leb}
use lib.ListN.{length, get_or, take, drop, length-drop, get_or-append}
use lib.Seq.{length-take-le, take_at}
use Rattle.tables.specs.declared.Answer as DAnswer
use Rattle.tables.specs.Refusals.{Fault, passed}
use Rattle.tables.specs.Tables.{Table, wires, table_of, table_fault, table_bytes, word}
use Rattle.tables.specs.Runs.{run, read_all, outputs_of, randoms, probe_reads, of_each}
use Rattle.tables.specs.Inside.{Bits}
use Rattle.tables.specs.Packing.{bytes_for, packed, tape_of, spare}
use Rattle.tables.specs.Says.{Answered, Writes, over, after_call, run_fault}
use Rattle.tables.proofs.Tests.{and_true, both_passed}
use Rattle.tables.proofs.Lists.{All, bits_nil, bits_cons, bits_take, bits_drop}
use Rattle.tables.proofs.Packing.{packed_length, packed_spare}
use Rattle.tables.proofs.Run.{read_length}
use Rattle.tables.proofs.Accept.{Plain}
use Rattle.tables.proofs.Format.{outputs_written}
use Rattle.construction.specs.Shares.{shares_of}
use Rattle.construction.specs.declared.And as DAnd
use Rattle.construction.specs.Gadgets.{Gadget, gadget_of}
use Rattle.construction.specs.Wires.{masked_table, tape_long, probe_marks}
use Rattle.construction.specs.Codes.{encode, decode, masked_run}
use Rattle.construction.specs.Says.{plain_fault, mask_fault, decode_fault}
use Rattle.construction.proofs.Costs.{masked_wires_lem}
use Rattle.construction.proofs.Placed as Placed
use Rattle.construction.proofs.Codes.{encode_length, encode_bits}
use Rattle.construction.proofs.Lawful.{lawful}
use Rattle.construction.proofs.Hiding.{hiding}
use Rattle.construction.proofs.Passed.{plain_passed}
use Rattle.secrecy.specs.Maps.{single, free_share, mapped_at}
use Rattle.secrecy.specs.Claims.{all_bits, all_below, is_tape, are_secrets, read_by, in_bits, Hides}
use Rattle.secrecy.specs.Says.{map_fault}
use Rattle.secrecy.specs.Assurance.{Lent, written, Way, Calls, WayDone, Done, read_in, table_written}
use Rattle.secrecy.specs.Assurance.{ReadAlike, Assured, Assurance, WayRoom, Succeeds}
use Rattle.secrecy.proofs.Bits.{bits_all, all_bits_lem, all_below_lem}
use Rattle.secrecy.proofs.Count.{BitsOf, of_bits, bits_of, bits_once, indistinct}
use Rattle.secrecy.proofs.Packed.{tape_again, in_bytes_lem}
use Rattle.secrecy.proofs.Faults.{MapGood, map_good}
use Rattle.secrecy.proofs.Passes.{encode_passes, run_passes, decode_passes, map_passes}
use Rattle.secrecy.proofs.Begun.{tape_is, secrets_are, values_long, value_bits}
use Rattle.secrecy.proofs.Computing.{computes}
use Rattle.secrecy.proofs.Whole.{each_single, covers_pins, pins_below, pins_single, hides, demands}

-- a call that answered 0 was refused by none of its checks, and answers its value
answered_0 : (f : Fault) (v : ℕ) (r : DAnswer.Answer) → Answered f v r → r.number ≡ 0 → (passed f ≡ true) × (r.value ≡ v)
answered_0 f v r a z =
    let p : passed f ≡ true = eq-eqb f.number 0 (sym a.number ∙ z) in
    (p, a.value ∙ ap (λ (b : Bool). cond b v 0) p)

-- and a call that none of its checks refuses answers 0
answers_0 : (f : Fault) (v : ℕ) (r : DAnswer.Answer) → Answered f v r → passed f ≡ true → r.number ≡ 0
answers_0 f v r a p = a.number ∙ eqb-true f.number 0 p

-- what it wrote is at the front of the buffer
over_front : (xs b : List ℕ) (n : ℕ) → length xs ≡ n → take n (over xs b) ≡ xs
over_front xs b n e = take_at xs (drop (length xs) b) n e

left_0 : (f : Fault) (xs b b' : List ℕ) → passed f ≡ true → b' ≡ after_call f xs b → b' ≡ over xs b
left_0 f xs b b' p e = e ∙ ap (λ (t : Bool). cond t (over xs b) b) p

-- reading wires at the front of a longer buffer
read_over : (vs b ps : List ℕ) → All (λ p. p < length vs) ps → read_all (over vs b) ps ≡ read_all vs ps
unfolding All read_all
read_over vs b [] a = refl
read_over vs b (p ∷ ps) a =
    ap₂ (λ (x : ℕ) (l : List ℕ). x ∷ l) (get_or-append vs (drop (length vs) b) 0 p a.0) (read_over vs b ps a.1)

read_bits : (vs ws : List ℕ) → Bits vs → Bits (read_all vs ws)
unfolding read_all
read_bits vs [] b = bits_nil
read_bits vs (w ∷ ws) b = bits_cons (get_or vs w 0) (read_all vs ws) (b w) (read_bits vs ws b)

wrote :
    (f : Fault) (xs : List ℕ) (b : Lent) (r : DAnswer.Answer) → Writes f xs b.before b.after r → r.number ≡ 0
    → written b r ≡ xs
wrote f xs b r w z =
    let ok = answered_0 f (length xs) r w.answer z in
    ap₂ (λ (k : ℕ) (ys : List ℕ). take k ys) ok.1 (left_0 f xs b.before b.after ok.0 w.written)
    ∙ over_front xs b.before (length xs) refl

-- what one secret's way left: the values of its run, at the front of their buffer, and what was decoded
record WayLeft {o : ℕ} {m xs ts : List ℕ} (values outs : List ℕ) (w : Way o m xs ts) : Type 0 where
  count : length values ≡ w.ran.value
  ran : written w.values w.ran ≡ values
  read : (ws : List ℕ) → All (λ p. p < length values) ws → read_all w.values.after ws ≡ read_all values ws
  decoded : written w.bits w.decoded ≡ outs

module _ (a : DAnd.And) where
  abbrev G : Gadget
  G = gadget_of a

  -- one secret's way, through the bytes that masking wrote
  module _ (s : List ℕ) (o : ℕ) (plain : passed (plain_fault G s o) ≡ true) (m xs ts : List ℕ)
      (is : m ≡ table_bytes (masked_table G o (table_of s))) (hx : are_secrets (table_of s) xs ≡ true)
      (ht : is_tape G o (table_of s) ts ≡ true) where
    abbrev t : Table
    t = table_of s

    abbrev values : List ℕ
    values = masked_run G o t xs ts

    front : 2 * o * length xs ≡ 2 * o * t.inputs
    front = ap (λ (y : ℕ). 2 * o * y) (secrets_are t xs hx).0

    read_back : table_of m ≡ masked_table G o t
    read_back = ap table_of is ∙ ((demands a).written_back s o plain).read_back

    -- the two parts of the tape, each packed for itself
    abbrev k : ℕ
    k = 2 * o * length xs

    abbrev r : ℕ
    r = randoms (table_of m).gates

    tape_long_lem : length ts ≡ k + r
    tape_long_lem =
        (tape_is G o t ts ht).0
        ∙ ((demands a).written_back s o plain).tape
        ∙ ap₂ (λ (i : ℕ) (l : List ℕ). i + randoms (table_of l).gates) (sym front) (sym is)

    tape_bits : Bits ts
    tape_bits = (tape_is G o t ts ht).1

    front_bits : BitsOf k (take k ts)
    front_bits = (length-take-le k ts (omega (arith, tape_long_lem)), bits_all (take k ts) (bits_take k ts tape_bits))

    rest_bits : BitsOf r (drop k ts)
    rest_bits = (length-drop k ts ∙ omega (arith, tape_long_lem), bits_all (drop k ts) (bits_drop k ts tape_bits))

    front_part : tape_of k (packed (take k ts)) ≡ take k ts
    front_part = tape_again k (take k ts) front_bits

    rest_part : tape_of r (packed (drop k ts)) ≡ drop k ts
    rest_part = tape_again r (drop k ts) rest_bits

    -- the shares, run as the table that was written and as the masked table
    same_run : run (table_of m) (encode o xs (take k ts)) (drop k ts) ≡ values
    unfolding masked_run
    same_run =
        ap (λ (u : Table). run u (encode o xs (take k ts)) (drop k ts)) read_back
        ∙ ap (λ (i : ℕ). run (masked_table G o t) (encode o xs (take i ts)) (drop i ts)) front

    -- the calls of the way, one after the other
    module _ (w : Way o m xs ts) where
      module _ (encode_ok : w.encoded.number ≡ 0) where
        encoded : written w.shares w.encoded ≡ encode o xs (take k ts)
        encoded = wrote _ _ w.shares w.encoded w.encode_says encode_ok ∙ ap (encode o xs) front_part

        abbrev raw : List ℕ
        raw = run (table_of m) (written w.shares w.encoded) (tape_of r (packed (drop k ts)))

        run_is : raw ≡ values
        run_is = ap₂ (λ (l u : List ℕ). run (table_of m) l u) encoded rest_part ∙ same_run

        abbrev fault_of : Fault
        fault_of =
            run_fault m
            (written w.shares w.encoded)
            (packed (drop k ts))
            (length w.values.before)
            (length w.outputs.before)

        module _ (run_ok : w.ran.number ≡ 0) where
          ran : (passed fault_of ≡ true) × (w.ran.value ≡ wires (table_of m))
          ran = answered_0 fault_of _ w.ran w.run_says.answer run_ok

          values_left : w.values.after ≡ over values w.values.before
          values_left =
              left_0 fault_of raw w.values.before w.values.after ran.0 w.run_says.values
              ∙ ap (λ (l : List ℕ). over l w.values.before) run_is

          values_count : length values ≡ w.ran.value
          values_count =
              values_long (lawful a) o t (plain_passed G s o plain).plain xs ts hx ht
              ∙ ap wires (sym read_back)
              ∙ sym ran.1

          outputs_left : w.outputs.after ≡ over (outputs_of (masked_table G o t) values) w.outputs.before
          outputs_left =
              left_0 fault_of (outputs_of (table_of m) raw) w.outputs.before w.outputs.after ran.0 w.run_says.outputs
              ∙ ap₂ (λ (u : Table) (l : List ℕ). over (outputs_of u l) w.outputs.before) read_back run_is

          -- the masked outputs, as the next call takes them
          masked_outputs : take (word m 4) w.outputs.after ≡ outputs_of (masked_table G o t) values
          masked_outputs =
              ap₂ (λ (k : ℕ) (l : List ℕ). take k l)
              (ap (λ (l : List ℕ). word l 4) is ∙ outputs_written (masked_table G o t))
              outputs_left
              ∙ over_front (outputs_of (masked_table G o t) values) w.outputs.before _ (read_length values (masked_table G o t).outputs)

          left : w.decoded.number ≡ 0 → WayLeft values (outputs_of t (run t xs [])) w
          left decode_ok =
              record {
                count = values_count;
                ran =
                    ap (take w.ran.value) values_left
                    ∙ over_front values w.values.before w.ran.value values_count;
                read =
                    λ ws below.
                    ap (λ (l : List ℕ). read_all l ws) values_left ∙ read_over values w.values.before ws below;
                decoded =
                    wrote _ _ w.bits w.decoded w.decode_says decode_ok
                    ∙ ap (decode o) masked_outputs
                    ∙ (computes (lawful a) o t (plain_passed G s o plain).plain).same_outputs xs ts hx ht;
              }

      -- with room, none of them is refused
      module _ (room : WayRoom G t w) where
        shares_are : shares_of o * length xs ≡ shares_of o * t.inputs
        shares_are = ap (λ (y : ℕ). shares_of o * y) (secrets_are t xs hx).0

        encode_goes : w.encoded.number ≡ 0
        encode_goes =
            let p = plain_passed G s o plain in
            answers_0 _ _ w.encoded w.encode_says.answer
            (encode_passes o xs (packed (take k ts)) (length w.shares.before) p.order
            (omega (arith, shares_are, masked_wires_lem G o t, p.few_wires))
            (bits_all xs (secrets_are t xs hx).1)
            (packed_length (take k ts) ∙ ap (λ (n : ℕ). bytes_for n) front_bits.0)
            (unused k (take k ts) front_bits)
            (omega (arith, shares_are, room.shares)))
          where
            unused : (n : ℕ) (bs : List ℕ) → BitsOf n bs → spare n (packed bs) ≡ 0
            unused n bs b = subst (λ (j : ℕ). spare j (packed bs) ≡ 0) b.0 (packed_spare bs (all_bits_lem bs b.1))

        run_goes : w.ran.number ≡ 0
        unfolding masked_table
        run_goes =
            let p = plain_passed G s o plain in
            let back = (demands a).written_back s o plain in
            let shares = encode o xs (take k ts) in
            let long : length shares ≡ shares_of o * length xs = encode_length o xs (take k ts) front_bits.0 in
            let bits = encode_bits o xs (take k ts) (secrets_are t xs hx).1 (bits_take k ts tape_bits) in
            answers_0 (fault_of encode_goes) _ w.ran w.run_says.answer
            (run_passes m (written w.shares w.encoded) (packed (drop k ts)) _ _
            (ap table_fault is ∙ back.unrefused)
            (ap length (encoded encode_goes) ∙ long ∙ shares_are ∙ sym (ap (λ (u : Table). u.inputs) read_back))
            (ap all_bits (encoded encode_goes) ∙ bits_all shares bits)
            (packed_length (drop k ts) ∙ ap (λ (n : ℕ). bytes_for n) rest_bits.0)
            (subst (λ (j : ℕ). spare j (packed (drop k ts)) ≡ 0) rest_bits.0
            (packed_spare (drop k ts) (bits_drop k ts tape_bits)))
            (subst (λ (u : Table). wires u ≤ length w.values.before) (sym read_back) room.values)
            (subst (λ (u : Table). length u.outputs ≤ length w.outputs.before) (sym read_back)
            (omega (arith, (Placed.masked_outputs G o t p.plain).0, room.outputs))))

        decode_goes : w.decoded.number ≡ 0
        decode_goes =
            let p = plain_passed G s o plain in
            let outs = outputs_of (masked_table G o t) values in
            let got : take (word m 4) w.outputs.after ≡ outs = masked_outputs encode_goes run_goes in
            let long : length outs ≡ shares_of o * length t.outputs =
            read_length values (masked_table G o t).outputs ∙ (Placed.masked_outputs G o t p.plain).0 in
            answers_0 _ _ w.decoded w.decode_says.answer
            (subst (λ (l : List ℕ). passed (decode_fault o l (length w.bits.before)) ≡ true) (sym got)
            (decode_passes o outs (length w.bits.before) (length t.outputs) p.order
            (omega (arith, long, p.few_outputs))
            long
            (bits_all outs
            (read_bits values (masked_table G o t).outputs (value_bits (lawful a) o t p.plain xs ts hx ht)))
            room.bits))

        goes : WayDone w
        goes = record { encode_ok = encode_goes; run_ok = run_goes; decode_ok = decode_goes }

  module _ (s : List ℕ) (o : ℕ) (xs ys ts ps : List ℕ) (c : Calls G s o xs ys ts ps) (mask_ok : c.masked.number ≡ 0) where
    abbrev plain : Table
    plain = table_of s

    abbrev l : ℕ
    l = tape_long G o plain

    abbrev f : Fault
    f = map_fault G s o xs ys ts ps (length c.tape.before) (length c.one.before) (length c.other.before)

    is : table_written c ≡ table_bytes (masked_table G o plain)
    is = wrote _ _ c.table c.masked c.mask_says mask_ok

    -- mapping was not refused
    module _ (ok : passed f ≡ true) where
      h : MapGood G s o xs ys ts ps (length c.tape.before) (length c.one.before) (length c.other.before)
      h = map_good G s o xs ys ts ps _ _ _ ok

      -- the bits of the tape, and those of the mapped tape
      abbrev bs : List ℕ
      bs = tape_of l ts

      abbrev ms : List ℕ
      ms = mapped_at G o plain (free_share (probe_marks G) o plain ps) xs ys bs

      abbrev us : List ℕ
      us = tape_of l (take (length ts) c.tape.after)

      accepted : Plain plain
      accepted = (plain_passed G s o h.plain).plain

      hides_pins : Hides in_bits G (probe_marks G) probe_reads plain o
      hides_pins = hides (hiding a) plain o (covers_pins (lawful a) plain o accepted) accepted

      of_ms : BitsOf l ms
      of_ms = bits_of l ms ((hides_pins ps h.probes xs ys h.first h.second).a_tape bs h.tape)

      us_is : us ≡ ms
      us_is =
          let long : length (packed ms) ≡ length ts =
          packed_length ms ∙ ap (λ (n : ℕ). bytes_for n) of_ms.0 ∙ sym h.long in
          let back : take (length ts) c.tape.after ≡ packed ms =
          ap (take (length ts)) (left_0 f (packed ms) c.tape.before c.tape.after ok c.map_says.mapped_tape)
          ∙ over_front (packed ms) c.tape.before (length ts) long in
          ap (tape_of l) back ∙ tape_again l ms of_ms

      tape_us : is_tape G o plain us ≡ true
      tape_us = subst (λ (v : List ℕ). is_tape G o plain v ≡ true) (sym us_is) (of_bits l ms of_ms)

      -- with room, all others go too
      all_go : c.mapping.number ≡ 0 → WayRoom G plain c.first → WayRoom G plain c.second → Done c
      all_go map_ok first second =
          record {
            mask_ok = mask_ok;
            map_ok = map_ok;
            first = goes s o h.plain (table_written c) xs bs is h.first h.tape c.first first;
            second = goes s o h.plain (table_written c) ys us is h.second tape_us c.second second;
          }

      -- what mapping left of a run
      filled :
          (b : Lent) (vs : List ℕ) (n : ℕ) → b.after ≡ after_call f vs b.before → length vs ≡ n → take n b.after ≡ vs
      filled b vs n e long = ap (take n) (left_0 f vs b.before b.after ok e) ∙ over_front vs b.before n long

      module _ (done : Done c) where
        -- what both ways left; the second went with the mapped tape
        first : WayLeft (masked_run G o plain xs bs) (outputs_of plain (run plain xs [])) c.first
        first =
            let d = done.first in
            left s o h.plain (table_written c) xs bs is h.first h.tape c.first d.encode_ok d.run_ok d.decode_ok

        second : WayLeft (masked_run G o plain ys ms) (outputs_of plain (run plain ys [])) c.second
        second =
            let d = done.second in
            subst (λ (v : List ℕ). WayLeft (masked_run G o plain ys v) (outputs_of plain (run plain ys [])) c.second) us_is
            (left s o h.plain (table_written c) ys us is h.second tape_us c.second d.encode_ok d.run_ok d.decode_ok)

        -- the wires of the masked table have values in each run
        in_run : (zs vs ws : List ℕ) → are_secrets plain zs ≡ true → is_tape G o plain vs ≡ true
            → All (λ p. p < wires (masked_table G o plain)) ws → All (λ p. p < length (masked_run G o plain zs vs)) ws
        in_run zs vs ws hz hv =
            subst (λ (n : ℕ). All (λ p. p < n) ws) (sym (values_long (lawful a) o plain accepted zs vs hz hv))

        -- the wires that the probes read, by what a probe reads
        read_alike :
            (rd : Table → ℕ → List ℕ) → Hides in_bits G (probe_marks G) rd plain o
            → All (λ p. p < wires (masked_table G o plain)) (read_by G rd o plain ps)
            → ReadAlike G s o xs ys ts ps c (read_by G rd o plain ps)
        read_alike rd H below =
            let ws = read_by G rd o plain ps in
            let I = H ps h.probes xs ys h.first h.second in
            let map : List ℕ → List ℕ → List ℕ → List ℕ = mapped_at G o plain (free_share (probe_marks G) o plain ps) in
            let runs : (zs vs : List ℕ) → are_secrets plain zs ≡ true → is_tape G o plain vs ≡ true
            → read_in o (table_written c) ws zs vs ≡ read_all (masked_run G o plain zs vs) ws =
            λ zs vs hz hv.
            ap (λ (r : List ℕ). read_all r ws) (same_run s o h.plain (table_written c) zs vs is hz hv) in
            record {
              same_left =
                  second.read ws (in_run ys ms ws h.second (of_bits l ms of_ms) below)
                  ∙ I.same_seen bs h.tape
                  ∙ sym (first.read ws (in_run xs bs ws h.first h.tape below));
              untold =
                  in_bytes_lem l (are_secrets plain) map (read_in o (table_written c) ws)
                  (λ zs us' hz hw.
                  let I = H ps h.probes zs us' hz hw in
                  indistinct (in_bits l) (bits_once l) (map zs us') (map us' zs) I.a_tape I.leads_back
                  (read_in o (table_written c) ws zs)
                  (read_in o (table_written c) ws us')
                  (λ vs hv. runs us' _ hw (I.a_tape vs hv) ∙ I.same_seen vs hv ∙ sym (runs zs vs hz hv)));
            }

        -- the probes are wires of the masked table
        probes_below : All (λ p. p < wires (masked_table G o plain)) ps
        probes_below =
            all_below_lem (wires (masked_table G o plain)) ps
            (and_true (leb (length ps) o) (all_below (wires (masked_table G o plain)) ps) h.probes).1

        assured : Assured G s o xs ys ts ps c
        assured =
            record {
              with_pins =
                  subst (λ (m : Table). ReadAlike G s o xs ys ts ps c (of_each (probe_reads m) ps))
                  (sym (ap table_of is ∙ ((demands a).written_back s o h.plain).read_back))
                  (read_alike probe_reads hides_pins (pins_below (lawful a) plain o accepted ps probes_below));
              single_values =
                  subst (ReadAlike G s o xs ys ts ps c) (each_single (masked_table G o plain) ps)
                  (read_alike single (pins_single in_bits bits_once G (probe_marks G) plain o hides_pins)
                  (rw (each_single (masked_table G o plain) ps) probes_below));
              first_run =
                  filled c.one (masked_run G o plain xs bs) _ c.map_says.first_run first.count ∙ sym first.ran;
              second_run =
                  filled c.other (masked_run G o plain ys ms) _ c.map_says.second_run second.count ∙ sym second.ran;
              first_decoded = first.decoded;
              second_decoded = second.decoded;
            }

  -- the laws
  pub assurance : Assurance G
  assurance s o xs ys ts ps c done =
      let ok = (answered_0 (f s o xs ys ts ps c done.mask_ok) _ c.mapping c.map_says.answer done.map_ok).0 in
      assured s o xs ys ts ps c done.mask_ok ok done

  pub succeeds : Succeeds G
  unfolding mask_fault
  succeeds s o xs ys ts ps c g =
      let masked = (answered_0 (mask_fault G s o (length c.table.before)) _ c.masked c.mask_says.answer g.mask_ok).0 in
      let plain = (both_passed (plain_fault G s o) _ masked).0 in
      let ok = map_passes G s o xs ys ts ps _ _ _ (plain_passed G s o plain).none g.first_secret g.second_secret g.tape
      g.probes g.tape_room g.one_room g.other_room in
      all_go s o xs ys ts ps c g.mask_ok ok
      (answers_0 (f s o xs ys ts ps c g.mask_ok) _ c.mapping c.map_says.answer ok)
      g.first_room
      g.second_room

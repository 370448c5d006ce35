-- What the calls themselves do, as two laws about whatever buffers and answers masking, mapping, encoding, running and decoding leave.
-- If each was made as below and answered 0, then the wires that the probes read, pins and all, have the same values in both runs,
-- and in the runs of the table that masking wrote they do not tell the two secrets apart, whatever the tape. And where masking
-- answered 0, the secrets, the tape and the probes are accepted and the buffers have room, all the others answer 0 too.
-- Nothing is said here of how the calls work: only their promises are used, of masking and mapping those with the same gadget G.
-- Assumes nothing.
use Rattle.std.specs.Prelude.{◌≡◌, true, List, [], ℕ, ◌*◌, ◌≤◌, length, take, drop}
use Rattle.tables.specs.declared.Answer as DAnswer
use Rattle.tables.specs.Tables.{Table, wires, table_of, word}
use Rattle.tables.specs.Runs.{run, read_all, outputs_of, probe_reads, of_each}
use Rattle.tables.specs.Packing.{bytes_for, packed, tape_of}
use Rattle.tables.specs.Says.{RunSays}
use Rattle.construction.specs.Shares.{shares_of}
use Rattle.construction.specs.Gadgets.{Gadget}
use Rattle.construction.specs.Wires.{masked_table, tape_long, probe_marks}
use Rattle.construction.specs.Codes.{encode}
use Rattle.construction.specs.Says.{MaskSays, EncodeSays, DecodeSays}
use Rattle.secrecy.specs.Maps.{free_share, mapped_at}
use Rattle.secrecy.specs.Claims.{are_secrets, are_probes, Hidden}
use Rattle.secrecy.specs.Packed.{is_packed, in_bytes}
use Rattle.secrecy.specs.Says.{MapSays}

-- a lent buffer before and after a call, and the call's answer
pub record Lent : Type 0 where
  pub before : List ℕ
  pub after : List ℕ

-- the bytes that a call answered to have written
abbrev pub written : Lent → DAnswer.Answer → List ℕ
written b r = take r.value b.after

-- one secret's way through the masked table m, with the bits ts of a tape: encoded with the front of them, run with the rest,
-- decoded. "Encoding and running each take their own part of the tape, packed for itself"
pub record Way (o : ℕ) (m xs ts : List ℕ) : Type 0 where
  pub shares : Lent
  pub encoded : DAnswer.Answer
  pub encode_says : EncodeSays o xs (packed (take (2 * o * length xs) ts)) shares.before shares.after encoded
  pub values : Lent
  pub outputs : Lent
  pub ran : DAnswer.Answer
  pub run_says :
      RunSays m
      (written shares encoded)
      (packed (drop (2 * o * length xs) ts))
      values.before
      values.after
      outputs.before
      outputs.after
      ran
  pub bits : Lent
  pub decoded : DAnswer.Answer
  -- the masked table's third size is the number of its outputs
  pub decode_says : DecodeSays o (take (word m 4) outputs.after) bits.before bits.after decoded

-- the calls: masking wrote m; mapping wrote the mapped tape and both runs; each secret went its way, y with the mapped tape.
-- "the map takes the whole tape as one"
pub record Calls (G : Gadget) (s : List ℕ) (o : ℕ) (xs ys ts ps : List ℕ) : Type 0 where
  pub table : Lent
  pub masked : DAnswer.Answer
  pub mask_says : MaskSays G s o table.before table.after masked
  pub tape : Lent
  pub one : Lent
  pub other : Lent
  pub mapping : DAnswer.Answer
  pub map_says :
      MapSays G (probe_marks G) s o xs ys ts ps
      tape.before
      tape.after
      one.before
      one.after
      other.before
      other.after
      mapping
  pub first : Way o (written table masked) xs (tape_of (tape_long G o (table_of s)) ts)
  pub second : Way o (written table masked) ys (tape_of (tape_long G o (table_of s)) (take (length ts) tape.after))

-- they all answered 0
pub record WayDone {o : ℕ} {m xs ts : List ℕ} (w : Way o m xs ts) : Type 0 where
  pub encode_ok : w.encoded.number ≡ 0
  pub run_ok : w.ran.number ≡ 0
  pub decode_ok : w.decoded.number ≡ 0

pub record Done {G : Gadget} {s : List ℕ} {o : ℕ} {xs ys ts ps : List ℕ} (c : Calls G s o xs ys ts ps) : Type 0 where
  pub mask_ok : c.masked.number ≡ 0
  pub map_ok : c.mapping.number ≡ 0
  pub first : WayDone c.first
  pub second : WayDone c.second

-- what is read of the wires ws in the run of the table m on the secret xs with the bits of a tape: encoded with the front of them, run
-- with the rest
abbrev pub read_in : ℕ → List ℕ → List ℕ → List ℕ → List ℕ → List ℕ
read_in o m ws xs ts =
    let k = 2 * o * length xs in
    read_all (run (table_of m) (encode o xs (take k ts)) (drop k ts)) ws

-- the bytes that masking wrote
abbrev pub table_written : {G : Gadget} {s : List ℕ} {o : ℕ} {xs ys ts ps : List ℕ} → Calls G s o xs ys ts ps → List ℕ
table_written c = written c.table c.masked

-- reading the wires ws does not tell secrets apart
pub record ReadAlike (G : Gadget) (s : List ℕ) (o : ℕ) (xs ys ts ps : List ℕ) (c : Calls G s o xs ys ts ps) (ws : List ℕ)
    : Type 0 where
  -- each of these wires has the same value in both runs
  pub same_left : read_all c.second.values.after ws ≡ read_all c.first.values.after ws
  -- and in the runs of the table that masking wrote, with all packed tapes, they tell no two secrets apart
  pub untold :
      Hidden (in_bytes (tape_long G o (table_of s)))
      (are_secrets (table_of s))
      (mapped_at G o (table_of s) (free_share (probe_marks G) o (table_of s) ps))
      (read_in o (table_written c) ws)

-- what then holds of the bytes that the calls left
pub record Assured (G : Gadget) (s : List ℕ) (o : ℕ) (xs ys ts ps : List ℕ) (c : Calls G s o xs ys ts ps) : Type 0 where
  -- "A read wire in demand 3 means all these values" (Card 9): the probed wires with their pins, and the probed wires alone
  pub with_pins : ReadAlike G s o xs ys ts ps c (of_each (probe_reads (table_of (table_written c))) ps)
  pub single_values : ReadAlike G s o xs ys ts ps c ps
  -- the buffers that mapping filled are those two runs
  pub first_run : take c.first.ran.value c.one.after ≡ written c.first.values c.first.ran
  pub second_run : take c.second.ran.value c.other.after ≡ written c.second.values c.second.ran
  -- decoding gives the plain table's outputs
  pub first_decoded : written c.first.bits c.first.decoded ≡ outputs_of (table_of s) (run (table_of s) xs [])
  pub second_decoded : written c.second.bits c.second.decoded ≡ outputs_of (table_of s) (run (table_of s) ys [])

-- for all of them
abbrev pub Assurance : Gadget → Type 0
Assurance G =
    (s : List ℕ) (o : ℕ) (xs ys ts ps : List ℕ) (c : Calls G s o xs ys ts ps) → Done c → Assured G s o xs ys ts ps c

-- room for a way through the masked table of t
pub record WayRoom (G : Gadget) (t : Table) {o : ℕ} {m xs ts : List ℕ} (w : Way o m xs ts) : Type 0 where
  pub shares : shares_of o * t.inputs ≤ length w.shares.before
  pub values : wires (masked_table G o t) ≤ length w.values.before
  pub outputs : shares_of o * length t.outputs ≤ length w.outputs.before
  pub bits : length t.outputs ≤ length w.bits.before

-- masking answered 0, what the calls are given is accepted, and the buffers have room
pub record Given {G : Gadget} {s : List ℕ} {o : ℕ} {xs ys ts ps : List ℕ} (c : Calls G s o xs ys ts ps) : Type 0 where
  pub mask_ok : c.masked.number ≡ 0
  pub first_secret : are_secrets (table_of s) xs ≡ true
  pub second_secret : are_secrets (table_of s) ys ≡ true
  pub tape : is_packed (tape_long G o (table_of s)) ts ≡ true
  pub probes : are_probes G o (table_of s) ps ≡ true
  pub tape_room : bytes_for (tape_long G o (table_of s)) ≤ length c.tape.before
  pub one_room : wires (masked_table G o (table_of s)) ≤ length c.one.before
  pub other_room : wires (masked_table G o (table_of s)) ≤ length c.other.before
  pub first_room : WayRoom G (table_of s) c.first
  pub second_room : WayRoom G (table_of s) c.second

-- then all of them answer 0
abbrev pub Succeeds : Gadget → Type 0
Succeeds G = (s : List ℕ) (o : ℕ) (xs ys ts ps : List ℕ) (c : Calls G s o xs ys ts ps) → Given c → Done c

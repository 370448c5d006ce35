-- The M cases of document 01, "Table of examples", as one table of statements about the definitions, with the costs of an AND,
-- the forecast line, the table without gates and a masked NOT; those with tapes in packed form too (Card 4); what probes read
-- and carry with their pins (Card 9); and a map of the first AND alone, by which a probe on the second
-- reads another value.
-- Assumes nothing.
use Rattle.std.specs.Prelude.{◌≡◌, List, [], ◌∷◌, ◌++◌, ℕ, ◌+◌, ◌-◌, ◌*◌, get_or, take, drop}
use Rattle.tables.specs.Refusals.{Fault, none, fault}
use Rattle.tables.specs.Tables.{gate, NOT, XOR, AND, RANDOM, Table, table_of, table_fault}
use Rattle.tables.specs.Runs.{read_all, outputs_of, probe_reads}
use Rattle.tables.specs.Packing.{packed, tape_of}
use Rattle.construction.specs.Shares.{shares_of, tri}
use Rattle.construction.specs.Gadgets.{isw, dom}
use Rattle.construction.specs.Wires.{cost, masked_table, tape_long, wire_marks, probe_marks}
use Rattle.construction.specs.Codes.{decode, masked_run}
use Rattle.construction.specs.Says.{plain_fault, encode_fault}
use Rattle.forecasting.specs.Lines.{forecast_line}
use Rattle.secrecy.specs.Maps.{free_share, mapped}
use Rattle.secrecy.specs.Says.{map_fault}

-- "02 00 01 00 01 00, 02, 00 00 01 00, 02 00": two inputs, one AND of them, output
abbrev pub and_bytes : List ℕ
and_bytes = 2 ∷ 0 ∷ 1 ∷ 0 ∷ 1 ∷ 0 ∷ 2 ∷ 0 ∷ 0 ∷ 1 ∷ 0 ∷ 2 ∷ 0 ∷ []

abbrev pub the_and : Table
the_and = table_of and_bytes

-- "G = 0, output 0": one input, which is the output
abbrev pub no_gates : Table
no_gates = table_of (1 ∷ 0 ∷ 0 ∷ 0 ∷ 1 ∷ 0 ∷ 0 ∷ 0 ∷ [])

-- one input, one NOT of it, output
abbrev pub the_not : Table
the_not = table_of (1 ∷ 0 ∷ 1 ∷ 0 ∷ 1 ∷ 0 ∷ 0 ∷ 0 ∷ 0 ∷ 0 ∷ 0 ∷ 1 ∷ 0 ∷ [])

-- one input, the constant 1, output
abbrev pub the_constant : Table
the_constant = table_of (1 ∷ 0 ∷ 1 ∷ 0 ∷ 1 ∷ 0 ∷ 4 ∷ 1 ∷ 0 ∷ 0 ∷ 0 ∷ 1 ∷ 0 ∷ [])

-- "secrets 1 1, tape 1 0 0 1 1 0 1" and "to secrets 0 1"
abbrev pub secrets : List ℕ
secrets = 1 ∷ 1 ∷ []

abbrev pub to_secrets : List ℕ
to_secrets = 0 ∷ 1 ∷ []

abbrev pub tape : List ℕ
tape = 1 ∷ 0 ∷ 0 ∷ 1 ∷ 1 ∷ 0 ∷ 1 ∷ []

-- all wires, and the outputs, of the AND masked at 1
abbrev pub values_of : List ℕ → List ℕ → List ℕ
values_of xs ts = masked_run isw 1 the_and xs ts

abbrev pub shares_out : List ℕ → List ℕ → List ℕ
shares_out xs ts = outputs_of (masked_table isw 1 the_and) (values_of xs ts)

-- the wires that a probe on a wire of the AND masked at 1 reads
abbrev pub reads_at : ℕ → List ℕ
reads_at w = probe_reads (masked_table isw 1 the_and) w

abbrev pub tape_to : List ℕ → List ℕ → List ℕ
tape_to ys ps = mapped isw (probe_marks isw) 1 the_and secrets ys tape ps

-- what a probe on wire 10 reads after the map from secrets 1 1 to 1 0, of another tape, by the marks mk
abbrev pub pin_tape : List ℕ
pin_tape = 1 ∷ 1 ∷ 0 ∷ 1 ∷ 1 ∷ 0 ∷ 1 ∷ []

abbrev pub pins_after : (ℕ → Table → ℕ → List ℕ) → List ℕ
pins_after mk =
    let ys : List ℕ = 1 ∷ 0 ∷ [] in
    read_all (values_of ys (mapped isw mk 1 the_and secrets ys pin_tape (10 ∷ []))) (reads_at 10)

-- two inputs, the AND of them, the AND of this and the second input, output; and a tape for it
abbrev pub two_ands : Table
two_ands = table_of (2 ∷ 0 ∷ 2 ∷ 0 ∷ 1 ∷ 0 ∷ 2 ∷ 2 ∷ 0 ∷ 0 ∷ 1 ∷ 0 ∷ 2 ∷ 0 ∷ 1 ∷ 0 ∷ 3 ∷ 0 ∷ [])

abbrev pub two_tape : List ℕ
two_tape = tape ++ (0 ∷ 0 ∷ 0 ∷ [])

-- the mapped tape of a probe on wire 50, share 2 of the second AND's result
abbrev pub both_mapped : List ℕ
both_mapped = mapped isw (probe_marks isw) 1 two_ands secrets to_secrets two_tape (50 ∷ [])

-- "a map that treats the first AND properly and copies the rest": the inputs' bits and the first AND's are mapped, the others are
-- the tape's
abbrev pub first_alone : List ℕ
first_alone =
    let m = 2 * 1 * two_ands.inputs + tri (shares_of 1) in
    take m both_mapped ++ drop m two_tape

-- the value of wire 50
abbrev pub wire50 : List ℕ → List ℕ → ℕ
wire50 xs ts = get_or (masked_run isw 1 two_ands xs ts) 50 0

-- "The tape 1 0 0 1 1 0 1 becomes the byte 59 in hexadecimal"
abbrev pub tape_byte : List ℕ
tape_byte = 89 ∷ []

-- the same of packed tapes
abbrev pub packed_out : List ℕ → List ℕ → List ℕ
packed_out xs s = outputs_of (masked_table isw 1 the_and) (masked_run isw 1 the_and xs (tape_of (tape_long isw 1 the_and) s))

abbrev pub packed_to : List ℕ → List ℕ → List ℕ
packed_to ys ps = packed (mapped isw (probe_marks isw) 1 the_and secrets ys (tape_of (tape_long isw 1 the_and) tape_byte) ps)

-- mapping with the order 1, a packed tape and the probes ps, into buffers of just the right length
abbrev pub mapped_fault : List ℕ → List ℕ → Fault
mapped_fault s ps = map_fault isw and_bytes 1 secrets to_secrets s ps 1 30 30

abbrev pub probed : List ℕ → Fault
probed ps = mapped_fault tape_byte ps

pub record MCases : Type 0 where
  -- "An AND costs n² + 5n(n−1)/2 wires, of which n(n−1)/2 are random: 24 and 3 at t = 1; 75 and 10 at t = 2; 3,286 and
  -- 465 at t = 15"
  pub cost_at_1 : cost AND (shares_of 1) ≡ 24
  pub random_at_1 : tri (shares_of 1) ≡ 3
  pub cost_at_2 : cost AND (shares_of 2) ≡ 75
  pub random_at_2 : tri (shares_of 2) ≡ 10
  pub cost_at_15 : cost AND (shares_of 15) ≡ 3286
  pub random_at_15 : tri (shares_of 15) ≡ 465
  -- "For 01, 02 00 01 00 01 00, 02, 00 00 01 00, 02 00 the line is `3 30 7 132`"
  pub line : forecast_line (1 ∷ and_bytes) ≡ 51 ∷ 32 ∷ 51 ∷ 48 ∷ 32 ∷ 55 ∷ 32 ∷ 49 ∷ 51 ∷ 50 ∷ 10 ∷ []
  -- M: "masked at 1, its outputs are wires 23, 26, 29"
  pub outputs_at_1 : (masked_table isw 1 the_and).outputs ≡ 23 ∷ 26 ∷ 29 ∷ []
  -- M: "wire 10 is XOR(8,9)"
  pub wire_10 :
      get_or (masked_table isw 1 the_and).gates (10 - (masked_table isw 1 the_and).inputs) (gate RANDOM 0 0) ≡ gate XOR 8 9
  -- M: "secrets 1 1, tape 1 0 0 1 1 0 1: outputs 1 1 1"
  pub run_outputs : shares_out secrets tape ≡ 1 ∷ 1 ∷ 1 ∷ []
  -- M: "decoded 1"
  pub run_decoded : decode 1 (shares_out secrets tape) ≡ 1 ∷ []
  -- M: "probe 7, to secrets 0 1: k = 3"
  pub free_7 : free_share (probe_marks isw) 1 the_and (7 ∷ []) ≡ 3
  -- M: "tape unchanged"
  pub tape_7 : tape_to to_secrets (7 ∷ []) ≡ tape
  -- M: "outputs 1 1 0"
  pub outputs_7 : shares_out to_secrets (tape_to to_secrets (7 ∷ [])) ≡ 1 ∷ 1 ∷ 0 ∷ []
  -- M: "probe 29, to secrets 0 1: k = 1"
  pub free_29 : free_share (probe_marks isw) 1 the_and (29 ∷ []) ≡ 1
  -- M: "tape 0 0 0 1 0 0 1"
  pub tape_29 : tape_to to_secrets (29 ∷ []) ≡ 0 ∷ 0 ∷ 0 ∷ 1 ∷ 0 ∷ 0 ∷ 1 ∷ []
  -- M: "wire 29 stays 1"
  pub wire_29 : get_or (values_of secrets tape) 29 0 ≡ 1
  pub wire_29_stays : get_or (values_of to_secrets (tape_to to_secrets (29 ∷ []))) 29 0 ≡ 1
  -- M: "outputs 0 1 1"
  pub outputs_29 : shares_out to_secrets (tape_to to_secrets (29 ∷ [])) ≡ 0 ∷ 1 ∷ 1 ∷ []
  -- M: "equal secrets: the tape maps to itself"
  pub equal_secrets : tape_to secrets (29 ∷ []) ≡ tape
  -- M: "probe list 6, 6 at t = 1: 12"
  pub probes_6_6 : probed (6 ∷ 6 ∷ []) ≡ fault 12 0
  -- M: "Probe 30: 13, place 0"
  pub probe_30 : probed (30 ∷ []) ≡ fault 13 0
  -- M: "Probe 29: accepted"
  pub probe_29 : probed (29 ∷ []) ≡ none
  -- M: "order 15 accepted"
  pub order_15 : plain_fault isw and_bytes 15 ≡ none
  -- M: "0 and 16: 6"
  pub order_0 : plain_fault isw and_bytes 0 ≡ fault 6 0
  pub order_16 : plain_fault isw and_bytes 16 ≡ fault 6 0
  -- M: "five bytes: 1", whatever the bytes
  pub five_bytes : (a b c d e : ℕ) → table_fault (a ∷ b ∷ c ∷ d ∷ e ∷ []) ≡ fault 1 0
  -- M: "Sizes 0 0 1: 2, in six bytes or more", whatever follows
  pub six_bytes : table_fault (0 ∷ 0 ∷ 0 ∷ 0 ∷ 1 ∷ 0 ∷ []) ≡ fault 2 0
  pub or_more : (rest : List ℕ) → table_fault (0 ∷ 0 ∷ 0 ∷ 0 ∷ 1 ∷ 0 ∷ rest) ≡ fault 2 0
  -- "G = 0, output 0: masked outputs 0, 1, 2 at t = 1"
  pub outputs_no_gates : (masked_table isw 1 no_gates).outputs ≡ 0 ∷ 1 ∷ 2 ∷ []
  -- "NOT: one new wire, the NOT of share 1. Shares 2 to n are the operand's wires"
  pub not_gates_lem : (masked_table isw 1 the_not).gates ≡ gate NOT 0 0 ∷ []
  pub not_outputs : (masked_table isw 1 the_not).outputs ≡ 3 ∷ 1 ∷ 2 ∷ []
  -- Card 4: "The tape 1 0 0 1 1 0 1 becomes the byte 59 in hexadecimal"
  pub packed_tape : packed tape ≡ tape_byte
  pub unpacked_tape : tape_of 7 tape_byte ≡ tape
  -- "Encoding and running each take their own part of the tape, packed for itself": 09 and 05 in hexadecimal
  pub encoder_part : packed (take 4 tape) ≡ 9 ∷ []
  pub run_part : packed (drop 4 tape) ≡ 5 ∷ []
  -- the M cases with tapes, packed
  pub packed_run_outputs : packed_out secrets tape_byte ≡ 1 ∷ 1 ∷ 1 ∷ []
  pub packed_7 : packed_to to_secrets (7 ∷ []) ≡ tape_byte
  pub packed_29 : packed_to to_secrets (29 ∷ []) ≡ 72 ∷ []
  pub packed_outputs_29 : packed_out to_secrets (72 ∷ []) ≡ 0 ∷ 1 ∷ 1 ∷ []
  pub packed_equal_secrets : packed_to secrets (29 ∷ []) ≡ tape_byte
  -- "refusal 10 then means the wrong number of bytes, and 11 a set unused bit, whose place is that byte, counted after the secrets"
  pub two_bytes : mapped_fault (89 ∷ 0 ∷ []) [] ≡ fault 10 0
  pub no_byte : mapped_fault [] [] ≡ fault 10 0
  pub unused_bit : mapped_fault (217 ∷ []) [] ≡ fault 11 4
  pub whole_tape_encoded : encode_fault 1 secrets tape_byte 6 ≡ fault 11 2
  -- Card 9: "one probe on a gate as reading its output and the wires on its operands": a sum, z(2,1), a product, and z(1,2), which is
  -- random
  pub reads_22 : reads_at 22 ≡ 22 ∷ 21 ∷ 6 ∷ []
  pub reads_10 : reads_at 10 ≡ 10 ∷ 8 ∷ 9 ∷ []
  pub reads_7 : reads_at 7 ≡ 7 ∷ 0 ∷ 4 ∷ []
  pub reads_6 : reads_at 6 ≡ 6 ∷ []
  -- an input wire
  pub reads_5 : reads_at 5 ≡ 5 ∷ []
  -- "An unused operand or a constant's value is no pin"
  pub reads_not : probe_reads (masked_table isw 1 the_not) 3 ≡ 3 ∷ 0 ∷ []
  pub reads_constant : probe_reads (masked_table isw 1 the_constant) 3 ≡ 3 ∷ []
  -- "A probe on z(j,i) then carries {i,j}", by itself {j}; and the third wire of the DOM AND, by itself {i}
  pub marks_10 : probe_marks isw 1 the_and 10 ≡ 1 ∷ 2 ∷ []
  pub single_10 : wire_marks isw 1 the_and 10 ≡ 2 ∷ []
  pub dom_marks_8 : probe_marks dom 1 the_and 8 ≡ 1 ∷ 2 ∷ []
  pub dom_single_8 : wire_marks dom 1 the_and 8 ≡ 1 ∷ []
  -- the others as before
  pub marks_22 : probe_marks isw 1 the_and 22 ≡ 1 ∷ []
  pub marks_6 : probe_marks isw 1 the_and 6 ≡ 1 ∷ []
  -- so the free share of a probe on z(2,1) is another
  pub free_10 : free_share (probe_marks isw) 1 the_and (10 ∷ []) ≡ 3
  pub single_free_10 : free_share (wire_marks isw) 1 the_and (10 ∷ []) ≡ 1
  -- with the marks of single wires, the map to secrets 1 0 keeps z(2,1) and changes its pins; with joined marks it keeps all three
  pub pins_10 : read_all (values_of secrets pin_tape) (reads_at 10) ≡ 0 ∷ 0 ∷ 0 ∷ []
  pub single_pins_10 : pins_after (wire_marks isw) ≡ 0 ∷ 1 ∷ 1 ∷ []
  pub joined_pins_10 : pins_after (probe_marks isw) ≡ 0 ∷ 0 ∷ 0 ∷ []
  -- of two ANDs both are mapped: a probe on share 2 of the second's result has k = 1, and its wire stays
  pub reads_50 : probe_reads (masked_table isw 1 two_ands) 50 ≡ 50 ∷ 49 ∷ 40 ∷ []
  pub free_50 : free_share (probe_marks isw) 1 two_ands (50 ∷ []) ≡ 1
  pub tape_50 : both_mapped ≡ 0 ∷ 0 ∷ 0 ∷ 1 ∷ 0 ∷ 0 ∷ 1 ∷ 1 ∷ 0 ∷ 0 ∷ []
  pub wire_50 : wire50 secrets two_tape ≡ 0
  pub wire_50_stays : wire50 to_secrets both_mapped ≡ 0
  -- where the second AND's random bits are copied, it changes
  pub first_alone_tape : first_alone ≡ 0 ∷ 0 ∷ 0 ∷ 1 ∷ 0 ∷ 0 ∷ 1 ∷ 0 ∷ 0 ∷ 0 ∷ []
  pub first_alone_changes_50 : wire50 to_secrets first_alone ≡ 1

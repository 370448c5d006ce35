-- The M cases, each computed.
-- Assumes nothing.
use mathlib.Core.Path.{◌≡◌, refl}
use mathlib.Core.Bool.{false}
use mathlib.Core.List.{List, ◌∷◌}
use Prim.Native.Nat.{ℕ}
use native.Mathlib.Omega.{arith}
use lib.Dec.{ltb}
use lib.ListN.{length}
use borrow.Author.Tests.{le-ltb}
use Rattle.tables.specs.Refusals.{fault, bad_bit}
use Rattle.tables.specs.Tables.{table_of, table_fault, gates_from, words_from, gates_fault, outputs_fault, random_fault, total}
use Rattle.tables.specs.Tables.{kind_bytes, pair_bytes, word_bytes, table_bytes}
use Rattle.tables.specs.Runs.{run, run_from, read_all, of_each}
use Rattle.tables.specs.Packing.{number_of, digits_of, pack_from, packed, unpacked, tape_of, spare, spare_fault}
use Rattle.construction.specs.Shares.{up_from, in_turn, pairs_from, tri, pair_at, row}
use Rattle.construction.specs.Wires.{adding, and_wires, input_origins, masked}
use Rattle.construction.specs.Wires.{shares_after, output_shares, masked_table, origins, tape_long, insert, joined, probe_marks}
use Rattle.construction.specs.Codes.{xor_all, encode, decode_from, decode, masked_run}
use Rattle.construction.specs.Says.{plain_fault, encode_fault}
use Rattle.text.specs.Text.{digits, line_of}
use Rattle.forecasting.specs.Lines.{line_fault, forecast_line}
use Rattle.secrecy.specs.Maps.{free_from, free_share, flipped, each_flip, map_gates, mapped_at}
use Rattle.secrecy.specs.Says.{bad_probe, supply_fault, probes_fault, room_fault, map_fault}
use Rattle.cases.specs.Cases.{MCases}

-- a table of six bytes or more is long enough for its sizes
sizes_0_0_1 : (rest : List ℕ) → table_fault (0 ∷ 0 ∷ 0 ∷ 0 ∷ 1 ∷ 0 ∷ rest) ≡ fault 2 0
unfolding table_fault
sizes_0_0_1 rest =
    let s : List ℕ = 0 ∷ 0 ∷ 0 ∷ 0 ∷ 1 ∷ 0 ∷ rest in
    let long : ltb (length s) 6 ≡ false = le-ltb (length s) 6 (omega arith) in
    rw long

pub m_cases : MCases
unfolding bad_bit table_of table_fault gates_from words_from gates_fault outputs_fault random_fault kind_bytes pair_bytes
    word_bytes table_bytes run run_from read_all total up_from in_turn pairs_from tri pair_at row adding and_wires
    input_origins masked shares_after output_shares masked_table origins tape_long xor_all encode decode_from decode
    masked_run plain_fault digits line_of line_fault forecast_line of_each free_from free_share flipped each_flip
    map_gates mapped_at bad_probe supply_fault probes_fault room_fault map_fault number_of digits_of pack_from packed unpacked
    tape_of spare spare_fault encode_fault insert joined probe_marks
m_cases =
    record {
      cost_at_1 = refl;
      random_at_1 = refl;
      cost_at_2 = refl;
      random_at_2 = refl;
      cost_at_15 = refl;
      random_at_15 = refl;
      line = refl;
      outputs_at_1 = refl;
      wire_10 = refl;
      run_outputs = refl;
      run_decoded = refl;
      free_7 = refl;
      tape_7 = refl;
      outputs_7 = refl;
      free_29 = refl;
      tape_29 = refl;
      wire_29 = refl;
      wire_29_stays = refl;
      outputs_29 = refl;
      equal_secrets = refl;
      probes_6_6 = refl;
      probe_30 = refl;
      probe_29 = refl;
      order_15 = refl;
      order_0 = refl;
      order_16 = refl;
      five_bytes = λ a b c d e. refl;
      six_bytes = refl;
      or_more = sizes_0_0_1;
      outputs_no_gates = refl;
      not_gates_lem = refl;
      not_outputs = refl;
      packed_tape = refl;
      unpacked_tape = refl;
      encoder_part = refl;
      run_part = refl;
      packed_run_outputs = refl;
      packed_7 = refl;
      packed_29 = refl;
      packed_outputs_29 = refl;
      packed_equal_secrets = refl;
      two_bytes = refl;
      no_byte = refl;
      unused_bit = refl;
      whole_tape_encoded = refl;
      reads_22 = refl;
      reads_10 = refl;
      reads_7 = refl;
      reads_6 = refl;
      reads_5 = refl;
      reads_not = refl;
      reads_constant = refl;
      marks_10 = refl;
      single_10 = refl;
      dom_marks_8 = refl;
      dom_single_8 = refl;
      marks_22 = refl;
      marks_6 = refl;
      free_10 = refl;
      single_free_10 = refl;
      pins_10 = refl;
      single_pins_10 = refl;
      joined_pins_10 = refl;
      reads_50 = refl;
      free_50 = refl;
      tape_50 = refl;
      wire_50 = refl;
      wire_50_stays = refl;
      first_alone_tape = refl;
      first_alone_changes_50 = refl;
    }

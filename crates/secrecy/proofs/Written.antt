-- What masking writes: the closed sizes, and that the bytes pass the checks and read back as the masked table.
-- Assumes nothing.
use mathlib.Core.Path.{◌≡◌, sym, ap, ap₂, ◌∙◌}
use mathlib.Core.Bool.{true}
use mathlib.Core.List.{List, map}
use Prim.Native.Nat.{ℕ, ◌+◌, ◌*◌, ◌≤◌}
use native.Mathlib.Nat.{mul-le-mul_left}
use native.Mathlib.Omega.{arith}
use lib.ListN.{length, take, drop, length-append, length-map}
use Rattle.tables.specs.Refusals.{passed}
use Rattle.tables.specs.Tables.{Table, wires, table_of}
use Rattle.tables.specs.Runs.{run, randoms}
use Rattle.tables.proofs.Accept.{Plain}
use Rattle.tables.proofs.Format.{Sound, SoundGates, table_long_lem, read_back, written_passes}
use Rattle.construction.specs.Shares.{shares_of}
use Rattle.construction.specs.Gadgets.{Gadget}
use Rattle.construction.specs.Wires.{origin_of, input_origins, masked_wires, masked_table, origins, tape_long}
use Rattle.construction.specs.Codes.{encode, masked_run}
use Rattle.construction.specs.Says.{plain_fault}
use Rattle.construction.proofs.Lawful.{Lawful}
use Rattle.construction.proofs.Costs.{masked_length, masked_wires_lem, masked_tape, input_origins_length}
use Rattle.construction.proofs.Placed.{placed_inputs, plain_inputs, masked_outputs, masked_sound}
use Rattle.construction.proofs.Passed.{plain_passed}
use Rattle.secrecy.specs.Claims.{WrittenBack}
use Rattle.secrecy.specs.Laws.{ClosedSizes}
use Rattle.secrecy.proofs.Begun.{values_long}

module _ {G : Gadget} (L : Lawful G) (o : ℕ) (t : Table) (P : Plain t) where
  origins_are : length (origins G o t) ≡ wires (masked_table G o t)
  unfolding origins
  origins_are =
      let n = shares_of o in
      length-append (input_origins n t.inputs) (map origin_of (masked_wires G o t))
      ∙ ap₂ (λ (y z : ℕ). y + z)
      (input_origins_length n t.inputs)
      (length-map (masked_wires G o t) origin_of ∙ masked_length G n 0 _ _ t.gates)
      ∙ sym (masked_wires_lem G o t)

  pub sized : ClosedSizes G t o
  sized =
      record {
        wires_are = masked_wires_lem G o t;
        tape_is = masked_tape L o t;
        outputs_are = (masked_outputs G o t P).0;
        bytes_are = table_long_lem (masked_table G o t);
        origins_are = origins_are;
        values_are = λ xs ts hx ht. values_long L o t P xs ts hx ht;
      }

  masked_gates_sound : SoundGates (masked_table G o t).inputs (masked_table G o t).gates
  unfolding masked_table
  masked_gates_sound =
      let n = shares_of o in
      masked_sound L n 0 (n * t.inputs) _ t.gates (omega arith)
      (plain_inputs n t P)
      (placed_inputs n t.inputs)

  some_masked_input : 1 ≤ (masked_table G o t).inputs
  unfolding masked_table
  some_masked_input = omega (arith, mul-le-mul_left (shares_of o) P.some_input)

  masked_table_sound :
      wires (masked_table G o t) ≤ 65535 → shares_of o * length t.outputs ≤ 65535 → Sound (masked_table G o t)
  masked_table_sound hw ho =
      record {
        some_input = some_masked_input;
        some_output = omega (arith, (masked_outputs G o t P).0, mul-le-mul_left (shares_of o) P.some_output);
        few_wires = hw;
        few_outputs = omega (arith, (masked_outputs G o t P).0);
        gates = masked_gates_sound;
        outputs = (masked_outputs G o t P).1;
      }

pub written : {G : Gadget} → Lawful G → (s : List ℕ) (o : ℕ) → passed (plain_fault G s o) ≡ true → WrittenBack G s o
unfolding tape_long masked_run
written {G} L s o h =
    let t = table_of s in
    let p = plain_passed G s o h in
    let sound = masked_table_sound L o t p.plain p.few_wires p.few_outputs in
    let same = read_back (masked_table G o t) sound in
    record {
      unrefused = written_passes (masked_table G o t) sound;
      read_back = same;
      tape = ap (λ (m : Table). 2 * o * t.inputs + randoms m.gates) (sym same);
      same_run = λ xs ts.
          ap
          (λ (m : Table). run m (encode o xs (take (2 * o * t.inputs) ts)) (drop (2 * o * t.inputs) ts))
          same;
    }

-- A run of the masked table on secrets and a tape, as values that solve its gates: lengths, bits, and the input shares.
-- Assumes nothing.
use mathlib.Core.Path.{◌≡◌, refl, sym, ap, ◌∙◌, subst}
use mathlib.Core.Bool.{true}
use mathlib.Core.List.{List, map}
use Prim.Native.Nat.{ℕ, ◌+◌, ◌*◌, ◌≤◌, ◌<◌}
use native.Mathlib.Omega.{arith}
use borrow.Author.Tests.{eqb-true}
use lib.Dec.{eqb}
use lib.ListN.{length, get_or, take, drop, length-drop}
use lib.Seq.{length-take-le}
use Rattle.tables.specs.Tables.{Gate, Table, wires, total}
use Rattle.tables.specs.Runs.{run, run_from}
use Rattle.tables.specs.Inside.{Bits}
use Rattle.tables.proofs.Tests.{and_true}
use Rattle.tables.proofs.Lists.{bits_take, bits_drop}
use Rattle.tables.proofs.Run.{Solves, run_length, run_keep, run_solves, run_bits}
use Rattle.tables.proofs.Accept.{Plain}
use Rattle.construction.specs.Shares.{shares_of}
use Rattle.construction.specs.Gadgets.{Gadget}
use Rattle.construction.specs.Wires.{driver_of, masked_wires, masked_table, tape_long}
use Rattle.construction.specs.Counts.{draws}
use Rattle.construction.specs.Codes.{encode, masked_run}
use Rattle.construction.proofs.Lawful.{Lawful}
use Rattle.construction.proofs.Costs.{masked_tape}
use Rattle.construction.proofs.Placed.{masked_earlier}
use Rattle.construction.proofs.Codes.{encode_length, encode_bits}
use Rattle.secrecy.specs.Claims.{all_bits, is_tape, are_secrets}
use Rattle.secrecy.proofs.Bits.{all_bits_lem}

-- the masked table's gates
abbrev pub gates_of : Gadget → ℕ → Table → List Gate
gates_of G o t = map driver_of (masked_wires G o t)

pub run_is :
    (G : Gadget) (o : ℕ) (t : Table) (xs ts : List ℕ)
    → masked_run G o t xs ts
    ≡ run_from (gates_of G o t) (drop (2 * o * t.inputs) ts) (encode o xs (take (2 * o * t.inputs) ts))
unfolding masked_run run masked_table
run_is G o t xs ts = refl

-- secrets and tapes as facts
pub secrets_are : (t : Table) (xs : List ℕ) → are_secrets t xs ≡ true → (length xs ≡ t.inputs) × Bits xs
secrets_are t xs h =
    let both = and_true (eqb (length xs) t.inputs) (all_bits xs) h in
    (eqb-true (length xs) t.inputs both.0, all_bits_lem xs both.1)

pub tape_is :
    (G : Gadget) (o : ℕ) (t : Table) (ts : List ℕ) → is_tape G o t ts ≡ true → (length ts ≡ tape_long G o t) × Bits ts
tape_is G o t ts h =
    let both = and_true (eqb (length ts) (tape_long G o t)) (all_bits ts) h in
    (eqb-true (length ts) (tape_long G o t) both.0, all_bits_lem ts both.1)

-- the two parts of a tape, and the shares of the inputs
module _ {G : Gadget} (L : Lawful G) (o : ℕ) (t : Table) (ts : List ℕ) (long : length ts ≡ tape_long G o t) where
  pub enough : 2 * o * t.inputs ≤ length ts
  enough = omega (arith, masked_tape L o t)

  pub tape_front_long : length (take (2 * o * t.inputs) ts) ≡ 2 * o * t.inputs
  tape_front_long = length-take-le (2 * o * t.inputs) ts enough

  pub rest_long : length (drop (2 * o * t.inputs) ts) ≡ total (λ k. draws k (shares_of o)) t.gates
  rest_long = length-drop (2 * o * t.inputs) ts ∙ omega (arith, masked_tape L o t)

pub shares_long :
    (o m : ℕ) (xs bs : List ℕ) → length xs ≡ m → length bs ≡ 2 * o * m → length (encode o xs bs) ≡ shares_of o * m
shares_long o m xs bs e f = encode_length o xs bs (f ∙ rw e) ∙ rw e

module _ {G : Gadget} (L : Lawful G) (o : ℕ) (t : Table) (P : Plain t) (xs ts : List ℕ)
    (hx : are_secrets t xs ≡ true) (ht : is_tape G o t ts ≡ true) where
  pub begun_long : length (encode o xs (take (2 * o * t.inputs) ts)) ≡ shares_of o * t.inputs
  begun_long = shares_long o t.inputs xs _ (secrets_are t xs hx).0 (tape_front_long L o t ts (tape_is G o t ts ht).0)

  pub values_long : length (masked_run G o t xs ts) ≡ wires (masked_table G o t)
  unfolding masked_table
  values_long =
      ap length (run_is G o t xs ts)
      ∙ run_length (gates_of G o t) _ _
      ∙ ap (λ (y : ℕ). y + length (gates_of G o t)) begun_long

  pub value_bits : Bits (masked_run G o t xs ts)
  value_bits =
      let bits = (tape_is G o t ts ht).1 in
      rw run_is
      (run_bits (gates_of G o t) _ _ (bits_drop (2 * o * t.inputs) ts bits)
      (encode_bits o xs _ (secrets_are t xs hx).1 (bits_take (2 * o * t.inputs) ts bits)))

  pub values_solve :
      Solves (shares_of o * t.inputs) 0 (gates_of G o t)
      (λ c. get_or (drop (2 * o * t.inputs) ts) c 0)
      (λ p. get_or (masked_run G o t xs ts) p 0)
  values_solve =
      let w = shares_of o * t.inputs in
      subst
      (λ (vs : List ℕ). Solves w 0 (gates_of G o t) (λ c. get_or (drop (2 * o * t.inputs) ts) c 0) (λ p. get_or vs p 0))
      (sym (run_is G o t xs ts))
      (run_solves w (gates_of G o t) (drop (2 * o * t.inputs) ts) _ begun_long (masked_earlier L o t P))

  -- an input wire has its share
  pub value_of_input :
      (p : ℕ) → p < shares_of o * t.inputs
      → get_or (masked_run G o t xs ts) p 0 ≡ get_or (encode o xs (take (2 * o * t.inputs) ts)) p 0
  value_of_input p h =
      rw run_is (run_keep (gates_of G o t) _ _ p (subst (λ (y : ℕ). p < y) (sym begun_long) h))

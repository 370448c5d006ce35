-- Calls that no check refuses: what encoding, running, decoding and mapping are to be given for that.
-- Assumes nothing.
use mathlib.Core.Path.{◌≡◌, refl, ap, ◌∙◌}
use mathlib.Core.Bool.{true, ◌&&◌}
use mathlib.Core.List.{List, [], ◌∷◌}
use Prim.Native.Nat.{ℕ, suc, ◌+◌, ◌*◌, ◌/◌, ◌%◌, ◌≤◌}
use native.Mathlib.Nat.{mul-mod_right, div-eq_of_eq-mul_right}
use native.Mathlib.Omega.{arith}
use borrow.Author.Tests.{eq-eqb, eqb-true, le-ltb, leb-true}
use lib.Dec.{eqb, ltb, leb}
use lib.ListN.{length}
use Rattle.tables.specs.Refusals.{none, passed, bad_bit}
use Rattle.tables.specs.Tables.{wires, table_of, table_fault}
use Rattle.tables.specs.Runs.{randoms}
use Rattle.tables.specs.Packing.{bytes_for, spare, spare_fault}
use Rattle.tables.specs.Says.{supplied_fault, lent_fault, run_fault}
use Rattle.tables.proofs.Tests.{and_true}
use Rattle.construction.specs.Shares.{shares_of}
use Rattle.construction.specs.Gadgets.{Gadget}
use Rattle.construction.specs.Wires.{masked_table, tape_long}
use Rattle.construction.specs.Says.{order_ok, plain_fault, encode_fault, decode_fault}
use Rattle.secrecy.specs.Claims.{all_bits, all_below, are_secrets, are_probes}
use Rattle.secrecy.specs.Packed.{is_packed}
use Rattle.secrecy.specs.Says.{bad_probe, supply_fault, probes_fault, room_fault, map_fault}
use Rattle.secrecy.proofs.Faults.{bad_both}

bits_none : (i : ℕ) (bs : List ℕ) → all_bits bs ≡ true → bad_bit i bs ≡ none
unfolding bad_bit
bits_none i [] h = refl
bits_none i (b ∷ bs) h =
    let a = and_true (leb b 1) (all_bits bs) h in
    rw a.0 (bits_none (suc i) bs a.1)

probes_none : (i w : ℕ) (ps : List ℕ) → all_below w ps ≡ true → bad_probe i w ps ≡ none
unfolding bad_probe
probes_none i w [] h = refl
probes_none i w (p ∷ ps) h =
    let a = and_true (ltb p w) (all_below w ps) h in
    rw a.0 (probes_none (suc i) w ps a.1)

spare_none : (i n : ℕ) (s : List ℕ) → spare n s ≡ 0 → spare_fault i n s ≡ none
unfolding spare_fault
spare_none i n s e = rw (eq-eqb (spare n s) 0 e) refl

pub encode_passes :
    (o : ℕ) (xs ts : List ℕ) (room : ℕ) → order_ok o ≡ true → shares_of o * length xs ≤ 65535 → all_bits xs ≡ true
    → length ts ≡ bytes_for (2 * o * length xs) → spare (2 * o * length xs) ts ≡ 0 → shares_of o * length xs ≤ room
    → passed (encode_fault o xs ts room) ≡ true
unfolding encode_fault
encode_passes o xs ts room order few bits long unused fits =
    rw (
      order,
      le-ltb 65535 (shares_of o * length xs) few,
      eq-eqb (length ts) (bytes_for (2 * o * length xs)) long,
      bits_none 0 xs bits,
      spare_none (length xs) (2 * o * length xs) ts unused,
      le-ltb room (shares_of o * length xs) fits,
    )
    refl

pub run_passes :
    (s xs rs : List ℕ) (a b : ℕ) → table_fault s ≡ none → length xs ≡ (table_of s).inputs → all_bits xs ≡ true
    → length rs ≡ bytes_for (randoms (table_of s).gates) → spare (randoms (table_of s).gates) rs ≡ 0
    → wires (table_of s) ≤ a → length (table_of s).outputs ≤ b → passed (run_fault s xs rs a b) ≡ true
unfolding run_fault supplied_fault lent_fault
run_passes s xs rs a b table inputs bits long unused values outputs =
    rw (
      table,
      eq-eqb (length xs) (table_of s).inputs inputs,
      eq-eqb (length rs) (bytes_for (randoms (table_of s).gates)) long,
      bits_none 0 xs bits,
      spare_none (length xs) (randoms (table_of s).gates) rs unused,
      le-ltb a (wires (table_of s)) values,
      le-ltb b (length (table_of s).outputs) outputs,
    )
    refl

pub decode_passes :
    (o : ℕ) (bs : List ℕ) (room c : ℕ) → order_ok o ≡ true → length bs ≤ 65535 → length bs ≡ shares_of o * c
    → all_bits bs ≡ true → c ≤ room → passed (decode_fault o bs room) ≡ true
unfolding decode_fault
decode_passes o bs room c order few groups bits fits =
    let whole : length bs % shares_of o ≡ 0 = ap (λ (y : ℕ). y % shares_of o) groups ∙ mul-mod_right (shares_of o) c in
    let count : length bs / shares_of o ≡ c = div-eq_of_eq-mul_right (omega arith) groups in
    rw (
      order,
      le-ltb 65535 (length bs) few,
      eq-eqb (length bs % shares_of o) 0 whole,
      bits_none 0 bs bits,
      count,
      le-ltb room c fits,
    )
    refl

pub map_passes :
    (G : Gadget) (s : List ℕ) (o : ℕ) (xs ys ts ps : List ℕ) (a b c : ℕ) → plain_fault G s o ≡ none
    → are_secrets (table_of s) xs ≡ true → are_secrets (table_of s) ys ≡ true → is_packed (tape_long G o (table_of s)) ts ≡ true
    → are_probes G o (table_of s) ps ≡ true → bytes_for (tape_long G o (table_of s)) ≤ a
    → wires (masked_table G o (table_of s)) ≤ b → wires (masked_table G o (table_of s)) ≤ c
    → passed (map_fault G s o xs ys ts ps a b c) ≡ true
unfolding map_fault supply_fault probes_fault room_fault
map_passes G s o xs ys ts ps a b c plain hx hy ht hp tape one other =
    let l = tape_long G o (table_of s) in
    let w = wires (masked_table G o (table_of s)) in
    let x = and_true (eqb (length xs) (table_of s).inputs) (all_bits xs) hx in
    let y = and_true (eqb (length ys) (table_of s).inputs) (all_bits ys) hy in
    let packed = and_true (eqb (length ts) (bytes_for l)) (all_below 256 ts && eqb (spare l ts) 0) ht in
    let unused = eqb-true (spare l ts) 0 (and_true (all_below 256 ts) (eqb (spare l ts) 0) packed.1).1 in
    let probes = and_true (leb (length ps) o) (all_below w ps) hp in
    rw (
      plain,
      x.0,
      y.0,
      packed.0,
      bad_both xs ys,
      bits_none 0 xs x.1,
      bits_none (length xs) ys y.1,
      spare_none (length xs + length ys) l ts unused,
      le-ltb o (length ps) (leb-true (length ps) o probes.0),
      probes_none 0 w ps probes.1,
      le-ltb a (bytes_for l) tape,
      le-ltb b w one,
      le-ltb c w other,
    )
    refl

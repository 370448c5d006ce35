-- The refusals of mapping: what holds of a call that none of them refuses.
-- Assumes nothing.
use mathlib.Core.Path.{◌≡◌, refl, ap, ◌∙◌}
use mathlib.Core.Bool.{true, ◌&&◌, ◌||◌, not}
use mathlib.Core.List.{List, [], ◌∷◌, ◌++◌}
use Prim.Native.Nat.{ℕ, suc, ◌+◌, ◌≤◌}
use native.Mathlib.Nat.{zero-add}
use native.Mathlib.Omega.{arith}
use borrow.Author.Tests.{ltb-false, le-leb, eqb-true, not-false}
use lib.Dec.{eqb, ltb, leb}
use lib.ListN.{length}
use Rattle.tables.specs.Refusals.{none, passed, or_else, refused_if, bad_bit}
use Rattle.tables.specs.Tables.{wires, table_of}
use Rattle.tables.specs.Packing.{bytes_for, tape_of, spare, spare_fault}
use Rattle.tables.proofs.Tests.{and_true, and_intro, or_false, both_passed, not_refused, if_none, else_none}
use Rattle.tables.proofs.Accept.{cond_passed}
use Rattle.tables.proofs.Bad.{bad_append, bad_bits}
use Rattle.tables.proofs.Packing.{tape_long_lem, tape_bits}
use Rattle.construction.specs.Gadgets.{Gadget}
use Rattle.construction.specs.Wires.{masked_table, tape_long}
use Rattle.construction.specs.Says.{plain_fault}
use Rattle.secrecy.specs.Claims.{all_bits, all_below, is_tape, are_secrets, are_probes}
use Rattle.secrecy.specs.Says.{bad_probe, supply_fault, probes_fault, room_fault, map_fault}
use Rattle.secrecy.proofs.Bits.{bits_all}
use Rattle.secrecy.proofs.TwoRuns.{is_tape_lem}

-- the secrets joined: "first secret, second secret"
pub bad_both :
    (xs ys : List ℕ) → bad_bit 0 (xs ++ ys) ≡ or_else (bad_bit 0 xs) (bad_bit (length xs) ys)
bad_both xs ys = bad_append 0 xs ys ∙ ap (λ (n : ℕ). or_else (bad_bit 0 xs) (bad_bit n ys)) (zero-add (length xs))

good_bits : (i : ℕ) (bs : List ℕ) → passed (bad_bit i bs) ≡ true → all_bits bs ≡ true
good_bits i bs h = bits_all bs (bad_bits i bs h)

good_probes : (i w : ℕ) (ps : List ℕ) → passed (bad_probe i w ps) ≡ true → all_below w ps ≡ true
unfolding bad_probe
good_probes i w [] h = refl
good_probes i w (p ∷ ps) h =
    let a = cond_passed (ltb p w) (bad_probe (suc i) w ps) 13 i refl h in
    and_intro (ltb p w) (all_below w ps) a.0 (good_probes (suc i) w ps a.1)

pub record MapGood (G : Gadget) (s : List ℕ) (o : ℕ) (xs ys ts ps : List ℕ) (a b c : ℕ) : Type 0 where
  pub none : map_fault G s o xs ys ts ps a b c ≡ none
  pub plain : passed (plain_fault G s o) ≡ true
  pub first : are_secrets (table_of s) xs ≡ true
  pub second : are_secrets (table_of s) ys ≡ true
  pub long : length ts ≡ bytes_for (tape_long G o (table_of s))
  pub unused : spare (tape_long G o (table_of s)) ts ≡ 0
  pub tape : is_tape G o (table_of s) (tape_of (tape_long G o (table_of s)) ts) ≡ true
  pub probes : are_probes G o (table_of s) ps ≡ true
  pub mapped : bytes_for (tape_long G o (table_of s)) ≤ a
  pub one : wires (masked_table G o (table_of s)) ≤ b
  pub other : wires (masked_table G o (table_of s)) ≤ c

no_spare : (i n : ℕ) (s : List ℕ) → passed (spare_fault i n s) ≡ true → spare n s ≡ 0
unfolding spare_fault
no_spare i n s h = eqb-true (spare n s) 0 (cond_passed (eqb (spare n s) 0) none 11 _ refl h).0

pub map_good :
    (G : Gadget) (s : List ℕ) (o : ℕ) (xs ys ts ps : List ℕ) (a b c : ℕ)
    → passed (map_fault G s o xs ys ts ps a b c) ≡ true → MapGood G s o xs ys ts ps a b c
unfolding map_fault supply_fault probes_fault room_fault
map_good G s o xs ys ts ps a b c h =
    let t = table_of s in
    let w = wires (masked_table G o t) in
    let l = tape_long G o t in
    let counts = eqb (length xs) t.inputs && (eqb (length ys) t.inputs && eqb (length ts) (bytes_for l)) in
    let many = ltb o (length ps) in
    let short = ltb a (bytes_for l) || (ltb b w || ltb c w) in
    let room = refused_if short 9 in
    let probes = or_else (refused_if many 12) (bad_probe 0 w ps) in
    let unused = spare_fault (length xs + length ys) l ts in
    let bad = or_else (bad_bit 0 (xs ++ ys)) unused in
    let supply = or_else (refused_if (not counts) 10) bad in
    let all = both_passed (plain_fault G s o) (or_else supply (or_else probes room)) h in
    let parts = both_passed supply (or_else probes room) all.1 in
    let later = both_passed probes room parts.1 in
    let supplied = both_passed (refused_if (not counts) 10) bad parts.0 in
    let probed = both_passed (refused_if many 12) (bad_probe 0 w ps) later.0 in
    let one = and_true (eqb (length xs) t.inputs) _ (not-false counts (not_refused (not counts) 10 refl supplied.0)) in
    let two = and_true (eqb (length ys) t.inputs) (eqb (length ts) (bytes_for l)) one.1 in
    let good = both_passed (bad_bit 0 (xs ++ ys)) unused supplied.1 in
    let bits = both_passed (bad_bit 0 xs) (bad_bit (length xs) ys) (rw (bad_both xs ys) at good.0) in
    let bytes : length ts ≡ bytes_for l = eqb-true (length ts) (bytes_for l) two.1 in
    let long = or_false (ltb a (bytes_for l)) (ltb b w || ltb c w) (not_refused short 9 refl later.1) in
    let runs = or_false (ltb b w) (ltb c w) long.1 in
    record {
      none =
          else_none (plain_fault G s o) (or_else supply (or_else probes room)) all.0
          (else_none supply (or_else probes room) parts.0
          (else_none probes room later.0 (if_none short 9 refl later.1)));
      plain = all.0;
      first = and_intro (eqb (length xs) t.inputs) (all_bits xs) one.0 (good_bits 0 xs bits.0);
      second = and_intro (eqb (length ys) t.inputs) (all_bits ys) two.0 (good_bits (length xs) ys bits.1);
      long = bytes;
      unused = no_spare (length xs + length ys) l ts good.1;
      tape = is_tape_lem G o t (tape_of l ts) (tape_long_lem l ts (omega (arith, bytes))) (tape_bits l ts);
      probes =
          and_intro (leb (length ps) o) (all_below w ps)
          (le-leb (length ps) o (ltb-false o (length ps) (not_refused many 12 refl probed.0)))
          (good_probes 0 w ps probed.1);
      mapped = ltb-false a (bytes_for l) long.0;
      one = ltb-false b w runs.0;
      other = ltb-false c w runs.1;
    }

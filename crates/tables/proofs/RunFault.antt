-- The refusals of a run: what holds where none of them answers.
-- Assumes nothing.
use mathlib.Core.Path.{◌≡◌, refl}
use mathlib.Core.Bool.{true, ◌&&◌, ◌||◌, not}
use mathlib.Core.List.{List}
use Prim.Native.Nat.{ℕ, ◌≤◌}
use lib.Dec.{eqb, ltb}
use lib.ListN.{length}
use borrow.Author.Tests.{ltb-false, eqb-true, not-false}
use Rattle.tables.specs.Refusals.{passed, or_else, refused_if, bad_bit}
use Rattle.tables.specs.Tables.{Table, wires, table_of, table_fault}
use Rattle.tables.specs.Runs.{randoms}
use Rattle.tables.specs.Inside.{Bits}
use Rattle.tables.specs.Packing.{bytes_for, spare_fault}
use Rattle.tables.specs.Says.{supplied_fault, lent_fault, run_fault}
use Rattle.tables.proofs.Tests.{and_true, or_false, both_passed, not_refused}
use Rattle.tables.proofs.Bad.{bad_bits}

-- what holds of what is supplied to a run where neither 10 nor 11 answers
pub record Supplied (t : Table) (xs rs : List ℕ) : Type 0 where
  pub inputs : length xs ≡ t.inputs
  pub random : length rs ≡ bytes_for (randoms t.gates)
  pub input_bits_lem : Bits xs

supplied_good : (t : Table) (xs rs : List ℕ) → passed (supplied_fault t xs rs) ≡ true → Supplied t xs rs
unfolding supplied_fault
supplied_good t xs rs h =
    let n = randoms t.gates in
    let count = eqb (length xs) t.inputs && eqb (length rs) (bytes_for n) in
    let unused = spare_fault (length xs) n rs in
    let p = both_passed (refused_if (not count) 10) (or_else (bad_bit 0 xs) unused) h in
    let c = and_true _ _ (not-false count (not_refused (not count) 10 refl p.0)) in
    record {
      inputs = eqb-true _ _ c.0;
      random = eqb-true _ _ c.1;
      input_bits_lem = bad_bits 0 xs (both_passed (bad_bit 0 xs) unused p.1).0;
    }

-- what holds of a run that no check refuses
pub record RunGood (s xs rs : List ℕ) (a b : ℕ) : Type 0 where
  pub accepted : passed (table_fault s) ≡ true
  pub supplied : Supplied (table_of s) xs rs
  pub values : wires (table_of s) ≤ a
  pub outputs : length (table_of s).outputs ≤ b

pub run_good : (s xs rs : List ℕ) (a b : ℕ) → passed (run_fault s xs rs a b) ≡ true → RunGood s xs rs a b
unfolding run_fault lent_fault
run_good s xs rs a b h =
    let t = table_of s in
    let room = ltb a (wires t) || ltb b (length t.outputs) in
    let p = both_passed (table_fault s) (or_else (supplied_fault t xs rs) (refused_if room 9)) h in
    let q = both_passed (supplied_fault t xs rs) (refused_if room 9) p.1 in
    let m = or_false _ _ (not_refused room 9 refl q.1) in
    record {
      accepted = p.0;
      supplied = supplied_good t xs rs q.0;
      values = ltb-false _ _ m.0;
      outputs = ltb-false _ _ m.1;
    }

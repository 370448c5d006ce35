-- What checking and running promise (document 01, "What each call takes and writes" and "What a contract says"): for every
-- input the number, the place, the value and every lent byte afterwards.
-- Assumes nothing.
use Rattle.std.specs.Prelude.{◌≡◌, ◌&&◌, ◌||◌, not, cond, List, ◌++◌, ℕ, eqb, ltb, length, drop}
use Rattle.tables.specs.declared.Answer as DAnswer
use Rattle.tables.specs.Refusals.{Fault, passed, or_else, refused_if, bad_bit}
use Rattle.tables.specs.Tables.{Table, wires, table_of, table_fault}
use Rattle.tables.specs.Runs.{run, outputs_of, randoms}
use Rattle.tables.specs.Packing.{bytes_for, tape_of, spare_fault}

-- number and place are the fault's; the value is v on success and 0 on a refusal
pub record Answered (f : Fault) (v : ℕ) (r : DAnswer.Answer) : Type 0 where
  pub number : r.number ≡ f.number
  pub place : r.place ≡ f.place
  pub value : r.value ≡ cond (passed f) v 0

-- "A success changes only the bytes that it is said to write": xs at the front of the lent ys
abbrev pub over : List ℕ → List ℕ → List ℕ
over xs ys = xs ++ drop (length xs) ys

-- "Each returns its number and a place, and changes no lent byte": what a lent buffer b holds afterwards
abbrev pub after_call : Fault → List ℕ → List ℕ → List ℕ
after_call f xs b = cond (passed f) (over xs b) b

-- a call with the fault f that writes xs into the lent b, which becomes b', and answers how many bytes these are
pub record Writes (f : Fault) (xs b b' : List ℕ) (r : DAnswer.Answer) : Type 0 where
  pub answer : Answered f (length xs) r
  pub written : b' ≡ after_call f xs b

-- checking answers the number of wires; "checking and running have 1 to 5"
pub record CheckSays (s : List ℕ) (r : DAnswer.Answer) : Type 0 where
  pub answer : Answered (table_fault s) (wires (table_of s)) r

-- what a run of a table is supplied with, its inputs and its random bits, packed: 10, then 11
unfoldable pub supplied_fault : Table → List ℕ → List ℕ → Fault
supplied_fault t xs rs =
    let n = randoms t.gates in
    or_else
    (refused_if (not (eqb (length xs) t.inputs && eqb (length rs) (bytes_for n))) 10)
    (or_else (bad_bit 0 xs) (spare_fault (length xs) n rs))

-- the lengths lent for the values and the outputs of a run: 9
unfoldable pub lent_fault : Table → ℕ → ℕ → Fault
lent_fault t a b = refused_if (ltb a (wires t) || ltb b (length t.outputs)) 9

-- running: 1 to 5, 10, 11, 9; a and b are the lengths lent for the values and the outputs
unfoldable pub run_fault : List ℕ → List ℕ → List ℕ → ℕ → ℕ → Fault
run_fault s xs rs a b = or_else (table_fault s) (or_else (supplied_fault (table_of s) xs rs) (lent_fault (table_of s) a b))

-- a run with the fault f answers the number of wires; "it writes wire values and outputs"
pub record RunDone (f : Fault) (t : Table) (xs rs a a' b b' : List ℕ) (r : DAnswer.Answer) : Type 0 where
  pub answer : Answered f (wires t) r
  pub values : a' ≡ after_call f (run t xs rs) a
  pub outputs : b' ≡ after_call f (outputs_of t (run t xs rs)) b

-- running with packed random bits: the lent buffers a and b become a' and b'
abbrev pub RunSays : List ℕ → List ℕ → List ℕ → List ℕ → List ℕ → List ℕ → List ℕ → DAnswer.Answer → Type 0
RunSays s xs rs a a' b b' r =
    let t = table_of s in
    RunDone (run_fault s xs rs (length a) (length b)) t xs (tape_of (randoms t.gates) rs) a a' b b' r

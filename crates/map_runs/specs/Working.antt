-- For contracts inside the library only: no promise of a call cites this.
-- What the work of mapping takes and leaves, once nothing is refused (document 01, "Marks and the mapped tape"): both runs are
-- begun with the encodings, the front of the mapped tape is put, and the gates follow in table order.
-- Assumes nothing.
use Rattle.std.specs.Prelude.{◌≡◌, List, ℕ, ◌≤◌, length}
use Rattle.tables.specs.Tables.{table_of}
use Rattle.tables.specs.Packing.{bytes_for, packed, tape_of, spare}
use Rattle.tables.specs.Says.{over}
use Rattle.tables.specs.Inside.{Bits}
use Rattle.construction.specs.Gadgets.{Gadget}
use Rattle.construction.specs.Wires.{tape_long}
use Rattle.construction.specs.Codes.{masked_run}
use Rattle.planning.specs.declared.Plan as DPlan
use Rattle.secrecy.specs.Maps.{mapped_at}

-- of a plain table's plan: a share number k, both secrets, a packed tape, and room for the mapped tape and both runs
pub record WorkReady (p : DPlan.Plan) (k : ℕ) (xs ys ts m a b : List ℕ) : Type 0 where
  pub from_1 : 1 ≤ k
  pub to_n : k ≤ p.shares
  pub first : length xs ≡ p.inputs
  pub second : length ys ≡ p.inputs
  pub tape : length ts ≡ bytes_for p.tape
  pub unused : spare p.tape ts ≡ 0
  pub first_bits_lem : Bits xs
  pub second_bits_lem : Bits ys
  pub mapped : bytes_for p.tape ≤ length m
  pub one : p.wires ≤ length a
  pub other : p.wires ≤ length b

-- the mapped tape, packed, and both runs
pub record WorkSays (G : Gadget) (s : List ℕ) (o k : ℕ) (xs ys ts m m' a a' b b' : List ℕ) : Type 0 where
  pub mapped : m' ≡ over (packed (mapped_at G o (table_of s) k xs ys (tape_of (tape_long G o (table_of s)) ts))) m
  pub one : a' ≡ over (masked_run G o (table_of s) xs (tape_of (tape_long G o (table_of s)) ts)) a
  pub other :
      b'
      ≡ over
      (masked_run G o (table_of s) ys (mapped_at G o (table_of s) k xs ys (tape_of (tape_long G o (table_of s)) ts)))
      b

-- For contracts inside the library only: no promise of a call cites this. What is told of a plain table at an order.
-- Assumes nothing.
use Rattle.std.specs.Prelude.{◌≡◌, List, [], ◌∷◌, ◌++◌, ℕ, ◌*◌, length, Result, Ok, Err}
use Rattle.tables.specs.declared.Refusal as DRefusal
use Rattle.tables.specs.Refusing.{fault_of}
use Rattle.tables.specs.Tables.{Table, wires, table_long}
use Rattle.text.specs.Text.{decimal, refusal_line}
use Rattle.construction.specs.Shares.{shares_of}
use Rattle.construction.specs.Gadgets.{isw}
use Rattle.construction.specs.Wires.{masked_table, tape_long}
use Rattle.sizes_line.specs.declared.Six as DSix
use Rattle.sizes_line.specs.Lines.{largest_order, six_line}

-- the six figures of a plain table at an order; the masked table has n outputs for each
pub record SixOf (o : ℕ) (t : Table) (r : DSix.Six) : Type 0 where
  pub shares : r.shares ≡ shares_of o
  pub wires : r.wires ≡ wires (masked_table isw o t)
  pub tape : r.tape ≡ tape_long isw o t
  pub bytes : r.bytes ≡ table_long (length (masked_table isw o t).gates) (shares_of o * length t.outputs)
  pub outputs : r.outputs ≡ shares_of o * length t.outputs
  pub largest : r.largest ≡ largest_order t

-- the line of six figures, and its end from the fourth on
abbrev pub six_text : DSix.Six → List ℕ
six_text z = six_line z.shares z.wires z.tape z.bytes z.outputs z.largest

abbrev pub later_text : DSix.Six → List ℕ
later_text z = 32 ∷ (decimal z.bytes ++ (32 ∷ (decimal z.outputs ++ (32 ∷ (decimal z.largest ++ (10 ∷ []))))))

-- the line of what is told
abbrev pub told_line : Result DSix.Six DRefusal.Refusal → List ℕ
told_line (Ok z) = six_text z
told_line (Err e) = refusal_line (fault_of e).number (fault_of e).place

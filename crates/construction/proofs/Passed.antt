-- What it says of a plain table and an order that none of 1 to 8 refuses them.
-- Assumes nothing.
use mathlib.Core.Path.{◌≡◌, refl}
use mathlib.Core.Bool.{true}
use mathlib.Core.List.{List}
use Prim.Native.Nat.{ℕ, ◌*◌, ◌≤◌}
use borrow.Author.Tests.{ltb-false}
use lib.Dec.{ltb}
use lib.ListN.{length}
use Rattle.tables.specs.Refusals.{none, passed, or_else, refused_if}
use Rattle.tables.specs.Tables.{wires, table_of, table_fault, random_fault}
use Rattle.tables.proofs.Tests.{both_passed, not_refused, or_false, if_none, else_none}
use Rattle.tables.proofs.Accept.{Plain, accepted_plain}
use Rattle.construction.specs.Shares.{shares_of}
use Rattle.construction.specs.Gadgets.{Gadget}
use Rattle.construction.specs.Wires.{masked_table}
use Rattle.construction.specs.Says.{order_ok, order_fault, too_many, plain_fault}
use Rattle.construction.proofs.Orders.{order_passed}

pub record PlainPassed (G : Gadget) (s : List ℕ) (o : ℕ) : Type 0 where
  pub none : plain_fault G s o ≡ none
  pub table : passed (table_fault s) ≡ true
  pub random : passed (random_fault 0 (table_of s).gates) ≡ true
  pub plain : Plain (table_of s)
  pub order : order_ok o ≡ true
  pub few_wires : wires (masked_table G o (table_of s)) ≤ 65535
  pub few_outputs : shares_of o * length (table_of s).outputs ≤ 65535

pub plain_passed : (G : Gadget) (s : List ℕ) (o : ℕ) → passed (plain_fault G s o) ≡ true → PlainPassed G s o
unfolding plain_fault
plain_passed G s o h =
    let t = table_of s in
    let many = refused_if (too_many G o t) 8 in
    let random = random_fault 0 t.gates in
    let after = or_else random many in
    let a = both_passed (table_fault s) (or_else (order_fault o) after) h in
    let b = both_passed (order_fault o) after a.1 in
    let c = both_passed random many b.1 in
    let few = or_false _ (ltb 65535 (shares_of o * length t.outputs)) (not_refused (too_many G o t) 8 refl c.1) in
    let last = else_none random many c.0 (if_none (too_many G o t) 8 refl c.1) in
    record {
      none =
          else_none (table_fault s) (or_else (order_fault o) after) a.0
          (else_none (order_fault o) after b.0 last);
      table = a.0;
      random = c.0;
      plain = accepted_plain s a.0 c.0;
      order = order_passed o b.0;
      few_wires = ltb-false 65535 _ few.0;
      few_outputs = ltb-false 65535 _ few.1;
    }

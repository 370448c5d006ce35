-- Refusals 1 to 7 of a plain table and an order: those that do not depend on the sizes of its masked table.
-- Assumes nothing.
use Rattle.std.specs.Prelude.{List, ℕ}
use Rattle.tables.specs.Refusals.{Fault, or_else}
use Rattle.tables.specs.Tables.{table_of, table_fault, random_fault}
use Rattle.construction.specs.Says.{order_fault}

-- "A call that takes a plain table and an order has 1 to 8", without 8: `plain_fault` but for its last part
abbrev pub maskable_fault : List ℕ → ℕ → Fault
maskable_fault s o = or_else (table_fault s) (or_else (order_fault o) (random_fault 0 (table_of s).gates))

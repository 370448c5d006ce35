-- Totals of figures, the sizes of the masked table, the refusals and the forecast of a plain table, by how many gates there are of each
-- kind.
-- Assumes nothing.
use mathlib.Core.Path.{◌≡◌, refl, ap, subst, ◌∙◌}
use mathlib.Core.Bool.{Bool, true, false, ◌||◌, cond}
use mathlib.Core.List.{List, [], ◌∷◌}
use Prim.Native.Nat.{ℕ, ◌+◌, ◌*◌}
use native.Mathlib.Omega.{arith}
use lib.Dec.{ltb}
use lib.ListN.{length}
use Rattle.tables.specs.declared.Counts as DCounts
use Rattle.tables.specs.Refusals.{Fault, fault, none, passed, or_else, refused_if}
use Rattle.tables.specs.Tables.{Kind, NOT, XOR, AND, RANDOM, CONSTANT, OR, UNKNOWN, Gate, total}
use Rattle.tables.specs.Tables.{Table, wires, table_of, table_bytes, table_fault, random_fault}
use Rattle.tables.specs.Counted.{of_kind, counts_of}
use Rattle.tables.proofs.Format.{table_long_lem}
use Rattle.tables.proofs.Accept.{Plain, accepted_plain}
use Rattle.construction.specs.declared.Sizes as DSizes
use Rattle.construction.specs.Shares.{shares_of, tri}
use Rattle.construction.specs.Gadgets.{Gadget}
use Rattle.construction.specs.Wires.{cost, masked_table, tape_long}
use Rattle.construction.specs.Says.{order_ok, order_fault, too_many, plain_fault, Forecast, ForecastSays}
use Rattle.construction.specs.Counts.{draws, counted, refused8, figures_by, too_many_by, forecast_by}
use Rattle.construction.proofs.Lawful.{Lawful}
use Rattle.construction.proofs.Placed.{masked_outputs}
use Rattle.construction.proofs.Costs.{masked_wires_lem, masked_tape}

-- a figure that only known kinds have, of one gate and in total: so many gates of each kind, times the figure
module _ (f : Kind → ℕ) (unknown : (k : ℕ) → f (UNKNOWN k) ≡ 0) where
  pub by_kind :
      (k : Kind)
      → f k
      ≡ of_kind 0 k * f NOT + of_kind 1 k * f XOR + of_kind 2 k * f AND + of_kind 3 k * f RANDOM + of_kind 4 k * f CONSTANT
      + of_kind 5 k * f OR
  by_kind NOT = omega arith
  by_kind XOR = omega arith
  by_kind AND = omega arith
  by_kind RANDOM = omega arith
  by_kind CONSTANT = omega arith
  by_kind OR = omega arith
  by_kind (UNKNOWN k) = omega (arith, unknown k)

  pub total_counted : (gs : List Gate) → total f gs ≡ counted f (counts_of gs)
  unfolding total
  total_counted [] = omega arith
  total_counted (g ∷ gs) = omega (arith, by_kind g.kind, total_counted gs)

-- so many ANDs and no other gate
abbrev ands_alone : ℕ → DCounts.Counts
ands_alone a = record { nots = 0; xors = 0; ands = a; randoms = 0; constants = 0; ors = 0 }

-- "3 30 7 132"
one_and : forecast_by 1 2 1 (ands_alone 1) ≡ record { number = 0; place = 0; shares = 3; wires = 30; tape = 7; bytes = 132 }
unfolding tri
one_and = refl

-- "Two inputs, 2,730 ANDs, t = 1: 65,526 wires, accepted; 2,731: 8. At t = 1, 21,845 outputs pass, 21,846: 8"
most_ands : ((forecast_by 1 2 1 (ands_alone 2730)).wires ≡ 65526) × (forecast_by 1 2 1 (ands_alone 2731) ≡ refused8)
unfolding tri
most_ands = (refl, refl)

most_outputs : ((forecast_by 1 2 21845 (ands_alone 1)).number ≡ 0) × (forecast_by 1 2 21846 (ands_alone 1) ≡ refused8)
unfolding tri
most_outputs = (refl, refl)

-- the figures of a table by its counts
abbrev pub figures_of : ℕ → Table → DSizes.Sizes
figures_of o t = figures_by o t.inputs (length t.outputs) (counts_of t.gates)

abbrev pub many_of : ℕ → Table → Bool
many_of o t = too_many_by o t.inputs (length t.outputs) (counts_of t.gates)

module _ (G : Gadget) (o : ℕ) (t : Table) where
  pub wires_counted : wires (masked_table G o t) ≡ (figures_of o t).wires
  wires_counted =
      masked_wires_lem G o t
      ∙ ap (λ (y : ℕ). shares_of o * t.inputs + y) (total_counted (λ k. cost k (shares_of o)) (λ k. refl) t.gates)

  pub tape_counted : Lawful G → tape_long G o t ≡ (figures_of o t).tape
  tape_counted L =
      masked_tape L o t
      ∙ ap (λ (y : ℕ). 2 * o * t.inputs + y) (total_counted (λ k. draws k (shares_of o)) (λ k. refl) t.gates)

  many_counted : too_many G o t ≡ many_of o t
  many_counted = ap (λ (w : ℕ). ltb 65535 w || ltb 65535 (shares_of o * length t.outputs)) wires_counted

  pub masked_inputs : (masked_table G o t).inputs ≡ shares_of o * t.inputs
  unfolding masked_table
  masked_inputs = refl

  pub bytes_counted : Plain t → length (table_bytes (masked_table G o t)) ≡ (figures_of o t).bytes
  bytes_counted P =
      omega (arith, table_long_lem (masked_table G o t), (masked_outputs G o t P).0, masked_inputs, wires_counted)

-- the refusals by the counts
pub fault_counted :
    (G : Gadget) (s : List ℕ) (o : ℕ)
    → plain_fault G s o
    ≡ or_else
    (table_fault s)
    (or_else (order_fault o) (or_else (random_fault 0 (table_of s).gates) (refused_if (many_of o (table_of s)) 8)))
unfolding plain_fault
fault_counted G s o = rw (many_counted G o (table_of s))

-- 8 alone is left where 1 to 7 accept
module _ (G : Gadget) (s : List ℕ) (o : ℕ) (table : passed (table_fault s) ≡ true) (order : order_ok o ≡ true)
    (plain : passed (random_fault 0 (table_of s).gates) ≡ true) where
  pub eight_counted : plain_fault G s o ≡ refused_if (many_of o (table_of s)) 8
  eight_counted = fault_counted G s o ∙ rw (table, order, plain)

  -- the forecast by the counts
  pub forecast_counted :
      Lawful G → {r : DSizes.Sizes} → ForecastSays G s o r
      → r ≡ forecast_by o (table_of s).inputs (length (table_of s).outputs) (counts_of (table_of s).gates)
  forecast_counted L {r} F = by_case (many_of o (table_of s)) (plain_fault G s o) eight_counted F
    where
      by_case : (b : Bool) (f : Fault) → f ≡ refused_if b 8 → Forecast G f (table_of s) o r → r ≡ cond b refused8 (figures_of o (table_of s))
      by_case true f e R =
          let Q : Forecast G (fault 8 0) (table_of s) o r = subst (λ (x : Fault). Forecast G x (table_of s) o r) e R in
          λ j.
          record {
            number = Q.number j;
            place = Q.place j;
            shares = Q.shares j;
            wires = Q.wires j;
            tape = Q.tape j;
            bytes = Q.bytes j;
          }
      by_case false f e R =
          let Q : Forecast G none (table_of s) o r = subst (λ (x : Fault). Forecast G x (table_of s) o r) e R in
          λ j.
          record {
            number = Q.number j;
            place = Q.place j;
            shares = Q.shares j;
            wires = (Q.wires ∙ wires_counted G o (table_of s)) j;
            tape = (Q.tape ∙ tape_counted G o (table_of s) L) j;
            bytes = (Q.bytes ∙ bytes_counted G o (table_of s) (accepted_plain s table plain)) j;
          }

-- Further laws that tie the definitions to document 01: closed sizes, the free share, the two complete runs; to
-- Card 9: the marks of a probe; and to Card 3: the counts decide the forecast.
-- The statements only; proofs/ has the proofs. No promise of a call cites them.
-- Assumes nothing.
use Rattle.std.specs.Prelude.{◌≡◌, Bool, true, false, ◌&&◌, List, [], ◌∷◌, ◌++◌, ℕ, ◌+◌, ◌*◌, ◌≤◌, ◌<◌, eqb, ltb, length, get_or}
use Rattle.tables.specs.Tables.{AND, Table, wires, table_of, table_bytes, table_long, total, Gate}
use Rattle.tables.specs.Runs.{probe_reads, of_each}
use Rattle.tables.specs.Counted.{counts_of}
use Rattle.construction.specs.Shares.{shares_of}
use Rattle.construction.specs.Gadgets.{is_in, Gadget}
use Rattle.construction.specs.Wires.{cost, masked_table, origins, tape_long, new_shares, input_shares, wire_marks, probe_marks}
use Rattle.construction.specs.declared.Sizes as DSizes
use Rattle.construction.specs.Codes.{masked_run}
use Rattle.construction.specs.Says.{ForecastSays}
use Rattle.construction.specs.Counts.{draws, too_many_by, forecast_by}
use Rattle.secrecy.specs.Maps.{single, carried, free_share, flipped, input_flips, gate_flips, mapped_at}
use Rattle.secrecy.specs.Claims.{accepted, is_tape, are_secrets, are_probes, Tapes, EachOnce, Hides}

-- what document 01's rules flip, read off two complete runs v and u
unfoldable pub gates_flips : Gadget → ℕ → ℕ → ℕ → List (List ℕ) → List Gate → (ℕ → ℕ) → (ℕ → ℕ) → List ℕ
gates_flips G n k w S [] v u = []
gates_flips G n k w S (x ∷ xs) v u =
    let a = get_or S x.left [] in
    let b = get_or S x.right [] in
    gate_flips G x.kind n k a b v u
    ++ gates_flips G n k (w + cost x.kind n) (S ++ (new_shares x.kind n w a ∷ [])) xs v u

-- the inputs' flips, then those of the ANDs in table order
unfoldable pub tape_flips : Gadget → ℕ → Table → ℕ → List ℕ → List ℕ → List ℕ → List ℕ → List ℕ
tape_flips G o t k xs ys vs us =
    let n = shares_of o in
    input_flips o k xs ys
    ++ gates_flips G n k (n * t.inputs)
    (input_shares n t.inputs)
    t.gates
    (λ p. get_or vs p 0)
    (λ p. get_or us p 0)

-- the closed sizes: "An AND costs n² + 5n(n−1)/2 wires, of which n(n−1)/2 are random"; "The length is 6 + 5G + 2O"
pub record ClosedSizes (G : Gadget) (t : Table) (o : ℕ) : Type 0 where
  pub wires_are :
      wires (masked_table G o t) ≡ shares_of o * t.inputs + total (λ k. cost k (shares_of o)) t.gates
  pub tape_is : tape_long G o t ≡ 2 * o * t.inputs + total (λ k. draws k (shares_of o)) t.gates
  pub outputs_are : length (masked_table G o t).outputs ≡ shares_of o * length t.outputs
  pub bytes_are :
      length (table_bytes (masked_table G o t))
      ≡ table_long (length (masked_table G o t).gates) (length (masked_table G o t).outputs)
  -- every wire of the masked table has an origin, and a run a value for every wire
  pub origins_are : length (origins G o t) ≡ wires (masked_table G o t)
  pub values_are :
      (xs ts : List ℕ) → are_secrets t xs ≡ true → is_tape G o t ts ≡ true
      → length (masked_run G o t xs ts) ≡ wires (masked_table G o t)

-- k is the free share of n where the numbers cs are carried: one of 1 to n, not carried, and every smaller one is
pub record Free (n : ℕ) (cs : List ℕ) (k : ℕ) : Type 0 where
  pub from_1 : 1 ≤ k
  pub to_n : k ≤ n
  pub uncarried : is_in k cs ≡ false
  pub smallest : (i : ℕ) → 1 ≤ i → i < k → is_in i cs ≡ true

-- ascending, each number once
abbrev pub rising : List ℕ → Bool
rising [] = true
rising (m ∷ []) = true
rising (m ∷ x ∷ xs) = ltb m x && rising (x ∷ xs)

-- share numbers ms are those of cs joined: "joined, still two at most" (Card 9)
pub record Joins (cs ms : List ℕ) : Type 0 where
  pub two : length ms ≤ 2
  pub ascending : rising ms ≡ true
  pub same : (k : ℕ) → is_in k ms ≡ is_in k cs

-- the map is document 01's: in the two complete runs the tapes differ exactly where its rules say, and no other tape does
pub record TwoRuns (G : Gadget) (t : Table) (o k : ℕ) : Type 0 where
  pub flips :
      (xs ys ts : List ℕ) → are_secrets t xs ≡ true → are_secrets t ys ≡ true → is_tape G o t ts ≡ true
      → mapped_at G o t k xs ys ts
      ≡ flipped ts (tape_flips G o t k xs ys (masked_run G o t xs ts) (masked_run G o t ys (mapped_at G o t k xs ys ts)))
  pub only :
      (xs ys ts us : List ℕ) → are_secrets t xs ≡ true → are_secrets t ys ≡ true → is_tape G o t ts ≡ true
      → us ≡ flipped ts (tape_flips G o t k xs ys (masked_run G o t xs ts) (masked_run G o t ys us))
      → us ≡ mapped_at G o t k xs ys ts
  -- equal secrets map a tape to itself
  pub itself :
      (xs ts : List ℕ) → are_secrets t xs ≡ true → is_tape G o t ts ≡ true → mapped_at G o t k xs xs ts ≡ ts

-- further laws of every accepted table
pub record Laws (G : Gadget) : Type 0 where
  pub sized : (s : List ℕ) (o : ℕ) → accepted s o ≡ true → ClosedSizes G (table_of s) o
  pub free :
      (s : List ℕ) (o : ℕ) (ps : List ℕ) → accepted s o ≡ true → are_probes G o (table_of s) ps ≡ true
      → Free (shares_of o) (carried (probe_marks G) o (table_of s) ps) (free_share (probe_marks G) o (table_of s) ps)
  -- the marks of a probe are those of the wires that it reads
  pub joins :
      (s : List ℕ) (o w : ℕ) → accepted s o ≡ true → w < wires (masked_table G o (table_of s))
      → Joins (of_each (wire_marks G o (table_of s)) (probe_reads (masked_table G o (table_of s)) w)) (probe_marks G o (table_of s) w)
  -- what holds where a probe reads its pins too holds of single values, with the same map, whatever the marks
  pub single_values :
      (F : ℕ → Tapes) → ((n : ℕ) → EachOnce (F n)) → (s : List ℕ) (o : ℕ) (mk : ℕ → Table → ℕ → List ℕ)
      → Hides F G mk probe_reads (table_of s) o → Hides F G mk single (table_of s) o
  pub two_runs : (s : List ℕ) (o k : ℕ) → accepted s o ≡ true → TwoRuns G (table_of s) o k

-- "The order, I, O and the number of gates of each kind alone decide the four figures, or 8, by one stated formula"
pub record CountsDecide (G : Gadget) : Type 0 where
  -- for every table and order that 1 to 7 accept, forecasting answers by the formula of the table's counts
  pub formula :
      (s : List ℕ) (o : ℕ) (r : DSizes.Sizes) → accepted s o ≡ true → ForecastSays G s o r
      → r ≡ forecast_by o (table_of s).inputs (length (table_of s).outputs) (counts_of (table_of s).gates)
  -- with 8 exactly where the formula says 8
  pub eight :
      (s : List ℕ) (o : ℕ) (r : DSizes.Sizes) → accepted s o ≡ true → ForecastSays G s o r
      → eqb r.number 8 ≡ too_many_by o (table_of s).inputs (length (table_of s).outputs) (counts_of (table_of s).gates)
  -- so tables of the same counts have the same answer
  pub alike :
      (s s' : List ℕ) (o : ℕ) (r r' : DSizes.Sizes) → accepted s o ≡ true → accepted s' o ≡ true
      → (table_of s).inputs ≡ (table_of s').inputs → length (table_of s).outputs ≡ length (table_of s').outputs
      → counts_of (table_of s).gates ≡ counts_of (table_of s').gates → ForecastSays G s o r → ForecastSays G s' o r' → r ≡ r'
  -- and what an AND draws is closed: "n(n−1)/2"
  pub closed : (n : ℕ) → 2 * draws AND n + n ≡ n * n

-- Demands 2 and 3 for every accepted table, order, secrets, tape and probe list, of a gadget G. The statements only; proofs/ has
-- the proofs, for both ANDs.
-- Assumes nothing.
use Rattle.std.specs.Prelude.{◌≡◌, Bool, true, false, ◌&&◌, cond, List, [], ◌∷◌, ◌++◌, map, ℕ, zero, suc, ◌+◌, ◌*◌, eqb, ltb, leb, length, take, drop}
use Rattle.tables.specs.Refusals.{none, passed}
use Rattle.tables.specs.Tables.{Table, wires, table_of, table_bytes, table_fault, random_fault}
use Rattle.tables.specs.Runs.{run, read_all, outputs_of, randoms, probe_reads, of_each}
use Rattle.construction.specs.Gadgets.{Gadget}
use Rattle.construction.specs.Wires.{masked_table, tape_long, wire_marks, probe_marks}
use Rattle.construction.specs.Codes.{encode, decode, masked_run}
use Rattle.construction.specs.Says.{order_ok, plain_fault}
use Rattle.secrecy.specs.Maps.{single, free_share, mapped_at}

-- "one byte a bit, 0 or 1"
abbrev pub all_bits : List ℕ → Bool
all_bits [] = true
all_bits (b ∷ bs) = leb b 1 && all_bits bs

-- a list of n bits
abbrev pub is_bits : ℕ → List ℕ → Bool
is_bits n bs = eqb (length bs) n && all_bits bs

-- a plain table and an order that neither 1 to 5, 6 nor 7 refuses; without 8 the claims hold of larger tables too
abbrev pub accepted : List ℕ → ℕ → Bool
accepted s o = passed (table_fault s) && (order_ok o && passed (random_fault 0 (table_of s).gates))

-- "The tapes of demand 3 are all those that neither 10 nor 11 refuses"
abbrev pub is_tape : Gadget → ℕ → Table → List ℕ → Bool
is_tape G o t ts = is_bits (tape_long G o t) ts

-- the secrets that neither 10 nor 11 refuses
abbrev pub are_secrets : Table → List ℕ → Bool
are_secrets t xs = is_bits t.inputs xs

-- every number is below w
abbrev pub all_below : ℕ → List ℕ → Bool
all_below w [] = true
all_below w (p ∷ ps) = ltb p w && all_below w ps

-- "12 more than t; 13 no wire of the masked table"
abbrev pub are_probes : Gadget → ℕ → Table → List ℕ → Bool
are_probes G o t ps = leb (length ps) o && all_below (wires (masked_table G o t)) ps

-- every list of n bits
unfoldable pub all_tapes : ℕ → List (List ℕ)
all_tapes zero = [] ∷ []
all_tapes (suc n) = map (λ ts. 0 ∷ ts) (all_tapes n) ++ map (λ ts. 1 ∷ ts) (all_tapes n)

-- whether two lists are equal
abbrev pub same : List ℕ → List ℕ → Bool
same [] [] = true
same [] (y ∷ ys) = false
same (x ∷ xs) [] = false
same (x ∷ xs) (y ∷ ys) = eqb x y && same xs ys

-- how many of the lists pass a test
unfoldable pub how_many : (List ℕ → Bool) → List (List ℕ) → ℕ
how_many f [] = 0
how_many f (ts ∷ rest) = cond (f ts) 1 0 + how_many f rest

-- tapes of one form: which lists are such tapes, all of them, the bits that a tape holds, and the tape that holds bits
pub record Tapes : Type 0 where
  pub is_one : List ℕ → Bool
  pub all : List (List ℕ)
  pub bits : List ℕ → List ℕ
  pub holding : List ℕ → List ℕ

-- n bits, one number for each
abbrev pub in_bits : ℕ → Tapes
in_bits n = record { is_one = is_bits n; all = all_tapes n; bits = λ ts. ts; holding = λ ts. ts }

-- `all` has nothing but such tapes, and each of them exactly once
pub record EachOnce (T : Tapes) : Type 0 where
  pub only : how_many T.is_one T.all ≡ length T.all
  pub once : (ts : List ℕ) → T.is_one ts ≡ true → how_many (λ us. same ts us) T.all ≡ 1

-- demand 3: of two runs, of which one gives seen and the other seen' with a tape, by a map of tapes and a map back
pub record Indistinct (is_one : List ℕ → Bool) (all : List (List ℕ)) (to back seen seen' : List ℕ → List ℕ) : Type 0 where
  -- "document 01's map takes the tapes one-to-one onto themselves": it gives tapes, and the map back leads back
  pub a_tape : (ts : List ℕ) → is_one ts ≡ true → is_one (to ts) ≡ true
  pub leads_back : (ts : List ℕ) → is_one ts ≡ true → back (to ts) ≡ ts
  -- "each read wire keeps its value"
  pub same_seen : (ts : List ℕ) → is_one ts ≡ true → seen' (to ts) ≡ seen ts
  -- "each pattern comes from as many tapes for one key as for the other"
  pub as_many :
      (pattern : List ℕ) → how_many (λ ts. same (seen ts) pattern) all ≡ how_many (λ ts. same (seen' ts) pattern) all

-- so of any two secrets, with tapes of a form: the map and what is seen are given by secrets and by the bits of a tape
abbrev pub Hidden :
    Tapes → (List ℕ → Bool) → (List ℕ → List ℕ → List ℕ → List ℕ) → (List ℕ → List ℕ → List ℕ) → Type 0
Hidden T areSecret map see =
    (xs ys : List ℕ) → areSecret xs ≡ true → areSecret ys ≡ true
    → Indistinct T.is_one T.all
    (λ ts. T.holding (map xs ys (T.bits ts)))
    (λ ts. T.holding (map ys xs (T.bits ts)))
    (λ ts. see xs (T.bits ts))
    (λ ts. see ys (T.bits ts))

-- where the map has the free share k, and the values of the wires ws of the masked table are seen
abbrev pub HidesAt : (ℕ → Tapes) → Gadget → ℕ → Table → ℕ → List ℕ → Type 0
HidesAt F G o t k ws =
    Hidden (F (tape_long G o t)) (are_secrets t) (mapped_at G o t k) (λ xs ts. read_all (masked_run G o t xs ts) ws)

-- the wires of the masked table that the probes read, in list order; rd gives those of a probe
abbrev pub read_by : Gadget → (Table → ℕ → List ℕ) → ℕ → Table → List ℕ → List ℕ
read_by G rd o t ps = of_each (rd (masked_table G o t)) ps

-- of any probes, by their marks mk and what a probe reads: "A pattern lists the values that the probes read, in list order"
abbrev pub Hides :
    (ℕ → Tapes) → Gadget → (ℕ → Table → ℕ → List ℕ) → (Table → ℕ → List ℕ) → Table → ℕ → Type 0
Hides F G mk rd t o =
    (ps : List ℕ) → are_probes G o t ps ≡ true → HidesAt F G o t (free_share mk o t ps) (read_by G rd o t ps)

-- demand 2
pub record Computes (G : Gadget) (t : Table) (o : ℕ) : Type 0 where
  -- "encode, run, decode gives the plain table's outputs for every secret and tape"
  pub same_outputs :
      (xs ts : List ℕ) → are_secrets t xs ≡ true → is_tape G o t ts ≡ true
      → decode o (outputs_of (masked_table G o t) (masked_run G o t xs ts)) ≡ outputs_of t (run t xs [])
  -- "decoding an encoded bit gives the bit"
  pub decodes :
      (xs ts : List ℕ) → all_bits xs ≡ true → all_bits ts ≡ true → length ts ≡ 2 * o * length xs
      → decode o (encode o xs ts) ≡ xs

-- what masking writes reads back as the masked table, which is accepted and has a tape bit for each random gate
pub record WrittenBack (G : Gadget) (s : List ℕ) (o : ℕ) : Type 0 where
  pub unrefused : table_fault (table_bytes (masked_table G o (table_of s))) ≡ none
  pub read_back : table_of (table_bytes (masked_table G o (table_of s))) ≡ masked_table G o (table_of s)
  pub tape :
      tape_long G o (table_of s)
      ≡ 2 * o * (table_of s).inputs + randoms (table_of (table_bytes (masked_table G o (table_of s)))).gates
  -- demands 2 and 3 are of the bytes written: the table read back runs as the masked table does
  pub same_run :
      (xs ts : List ℕ)
      → run
      (table_of (table_bytes (masked_table G o (table_of s))))
      (encode o xs (take (2 * o * (table_of s).inputs) ts))
      (drop (2 * o * (table_of s).inputs) ts)
      ≡ masked_run G o (table_of s) xs ts

-- demand 3 for every table and order, with tapes of a form
pub record Third (F : ℕ → Tapes) (G : Gadget) : Type 0 where
  pub tapes : (n : ℕ) → EachOnce (F n)
  -- "A read wire in demand 3 means all these values" (Card 9): a probe's wire and its pins
  pub with_pins : (s : List ℕ) (o : ℕ) → accepted s o ≡ true → Hides F G (probe_marks G) probe_reads (table_of s) o
  -- document 01's own words, "A probe reads the value of one wire", with the marks of one wire
  pub single_values : (s : List ℕ) (o : ℕ) → accepted s o ≡ true → Hides F G (wire_marks G) single (table_of s) o

-- the demands, for every table and order
pub record Demands (G : Gadget) : Type 0 where
  pub second : (s : List ℕ) (o : ℕ) → accepted s o ≡ true → Computes G (table_of s) o
  pub third : Third in_bits G
  pub written_back : (s : List ℕ) (o : ℕ) → passed (plain_fault G s o) ≡ true → WrittenBack G s o

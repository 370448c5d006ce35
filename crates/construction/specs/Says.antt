-- What forecasting, masking, encoding, decoding and the marks call promise (document 01, "What each call takes and writes",
-- "Refusals" and "What a contract says"). G is the AND that masking uses, mk the marks of a probe by order, table and wire.
-- Assumes nothing.
use Rattle.std.specs.Prelude.{◌≡◌, Bool, ◌&&◌, ◌||◌, not, cond, List, ℕ, suc, ◌*◌, ◌/◌, ◌%◌, eqb, ltb, leb, length, get_or}
use Rattle.tables.specs.declared.Answer as DAnswer
use Rattle.construction.specs.declared.Sizes as DSizes
use Rattle.construction.specs.declared.Marks as DMarks
use Rattle.tables.specs.Refusals.{Fault, passed, or_else, refused_if, bad_bit}
use Rattle.tables.specs.Tables.{Table, wires, table_of, table_fault, random_fault, table_bytes}
use Rattle.tables.specs.Packing.{bytes_for, tape_of, spare_fault}
use Rattle.tables.specs.Says.{Writes}
use Rattle.construction.specs.Shares.{shares_of}
use Rattle.construction.specs.Gadgets.{Gadget}
use Rattle.construction.specs.Wires.{masked_table, tape_long}
use Rattle.construction.specs.Codes.{encode, decode}

-- "6 order not 1 to 15"
abbrev pub order_ok : ℕ → Bool
order_ok o = leb 1 o && leb o 15

-- 6 where the order is not 1 to 15
abbrev pub order_fault : ℕ → Fault
order_fault o = refused_if (not (order_ok o)) 6

-- "8 more than 65,535 masked wires, masked outputs"
abbrev pub too_many : Gadget → ℕ → Table → Bool
too_many G o t = ltb 65535 (wires (masked_table G o t)) || ltb 65535 (shares_of o * length t.outputs)

-- "A call that takes a plain table and an order has 1 to 8"
unfoldable pub plain_fault : Gadget → List ℕ → ℕ → Fault
plain_fault G s o =
    let t = table_of s in
    or_else
    (table_fault s)
    (or_else (order_fault o) (or_else (random_fault 0 t.gates) (refused_if (too_many G o t) 8)))

-- forecasting with the fault f: "The four figures are those of the table that masking writes"
pub record Forecast (G : Gadget) (f : Fault) (t : Table) (o : ℕ) (r : DSizes.Sizes) : Type 0 where
  pub number : r.number ≡ f.number
  pub place : r.place ≡ f.place
  pub shares : r.shares ≡ cond (passed f) (shares_of o) 0
  pub wires : r.wires ≡ cond (passed f) (wires (masked_table G o t)) 0
  pub tape : r.tape ≡ cond (passed f) (tape_long G o t) 0
  pub bytes : r.bytes ≡ cond (passed f) (length (table_bytes (masked_table G o t))) 0

-- forecasting: 1 to 8
abbrev pub ForecastSays : Gadget → List ℕ → ℕ → DSizes.Sizes → Type 0
ForecastSays G s o r = Forecast G (plain_fault G s o) (table_of s) o r

-- the bytes that masking writes
abbrev pub masked_bytes : Gadget → List ℕ → ℕ → List ℕ
masked_bytes G s o = table_bytes (masked_table G o (table_of s))

-- masking: 1 to 8, then 9 for the buffer of the given length
unfoldable pub mask_fault : Gadget → List ℕ → ℕ → ℕ → Fault
mask_fault G s o room = or_else (plain_fault G s o) (refused_if (ltb room (length (masked_bytes G s o))) 9)

-- masking answers the bytes written
abbrev pub MaskSays : Gadget → List ℕ → ℕ → List ℕ → List ℕ → DAnswer.Answer → Type 0
MaskSays G s o b b' r = Writes (mask_fault G s o (length b)) (masked_bytes G s o) b b' r

-- encoding with a packed tape: 6, 8 ("share bits alone"), 10, 11, 9
unfoldable pub encode_fault : ℕ → List ℕ → List ℕ → ℕ → Fault
encode_fault o xs ts room =
    let l = 2 * o * length xs in
    or_else
    (order_fault o)
    (or_else
    (refused_if (ltb 65535 (shares_of o * length xs)) 8)
    (or_else
    (refused_if (not (eqb (length ts) (bytes_for l))) 10)
    (or_else
    (or_else (bad_bit 0 xs) (spare_fault (length xs) l ts))
    (refused_if (ltb room (shares_of o * length xs)) 9))))

-- encoding answers the bits written: "it writes n share bits a secret"
abbrev pub EncodeSays : ℕ → List ℕ → List ℕ → List ℕ → List ℕ → DAnswer.Answer → Type 0
EncodeSays o xs ts b b' r =
    Writes (encode_fault o xs ts (length b)) (encode o xs (tape_of (2 * o * length xs) ts)) b b' r

-- decoding: 6, 8, 10 ("a multiple of n"), 11, 9
unfoldable pub decode_fault : ℕ → List ℕ → ℕ → Fault
decode_fault o bs room =
    or_else
    (order_fault o)
    (or_else
    (refused_if (ltb 65535 (length bs)) 8)
    (or_else
    (refused_if (not (eqb (length bs % suc (2 * o)) 0)) 10)
    (or_else (bad_bit 0 bs) (refused_if (ltb room (length bs / suc (2 * o))) 9))))

-- decoding answers the bits written: "it writes one bit for each n"
abbrev pub DecodeSays : ℕ → List ℕ → List ℕ → List ℕ → DAnswer.Answer → Type 0
DecodeSays o bs b b' r = Writes (decode_fault o bs (length b)) (decode o bs) b b' r

-- marks: 1 to 8, then 13 with place 0
unfoldable pub marks_fault : Gadget → List ℕ → ℕ → ℕ → Fault
marks_fault G s o w = or_else (plain_fault G s o) (refused_if (leb (wires (masked_table G o (table_of s))) w) 13)

-- one or two share numbers ms, 0 for none, with the fault f
pub record Marked (f : Fault) (ms : List ℕ) (r : DMarks.Marks) : Type 0 where
  pub number : r.number ≡ f.number
  pub place : r.place ≡ f.place
  pub first : r.first ≡ cond (passed f) (get_or ms 0 0) 0
  pub second : r.second ≡ cond (passed f) (get_or ms 1 0) 0

-- the marks call answers the marks of a probe on a wire
abbrev pub MarksSay : Gadget → (ℕ → Table → ℕ → List ℕ) → List ℕ → ℕ → ℕ → DMarks.Marks → Type 0
MarksSay G mk s o w r = Marked (marks_fault G s o w) (mk o (table_of s) w) r

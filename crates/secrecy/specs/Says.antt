-- What mapping promises (document 01, "What each call takes and writes", "Refusals" and "What a contract says").
-- Assumes nothing.
use Rattle.std.specs.Prelude.{◌≡◌, ◌&&◌, ◌||◌, not, cond, List, [], ◌∷◌, ◌++◌, ℕ, suc, ◌+◌, eqb, ltb, length}
use Rattle.tables.specs.declared.Answer as DAnswer
use Rattle.tables.specs.Refusals.{Fault, fault, none, or_else, refused_if, bad_bit}
use Rattle.tables.specs.Tables.{Table, wires, table_of}
use Rattle.tables.specs.Packing.{bytes_for, packed, tape_of, spare_fault}
use Rattle.tables.specs.Says.{Answered, after_call}
use Rattle.construction.specs.Gadgets.{Gadget}
use Rattle.construction.specs.Wires.{masked_table, tape_long}
use Rattle.construction.specs.Codes.{masked_run}
use Rattle.construction.specs.Says.{plain_fault}
use Rattle.secrecy.specs.Maps.{free_share, mapped}

-- "13 no wire of the masked table", at the probe's position
unfoldable pub bad_probe : ℕ → ℕ → List ℕ → Fault
bad_probe i w [] = none
bad_probe i w (p ∷ ps) = cond (ltb p w) (bad_probe (suc i) w ps) (fault 13 i)

-- "10 a wrong count; 11 a byte above 1", where i secret bits and l tape bits, packed, are due: "first secret, second secret, tape"
unfoldable pub supply_fault : ℕ → ℕ → List ℕ → List ℕ → List ℕ → Fault
supply_fault i l xs ys ts =
    or_else
    (refused_if (not (eqb (length xs) i && (eqb (length ys) i && eqb (length ts) (bytes_for l)))) 10)
    (or_else (bad_bit 0 (xs ++ ys)) (spare_fault (length xs + length ys) l ts))

-- "12 more than t; 13 no wire of the masked table", which has w wires
unfoldable pub probes_fault : ℕ → ℕ → List ℕ → Fault
probes_fault o w ps = or_else (refused_if (ltb o (length ps)) 12) (bad_probe 0 w ps)

-- "9 a lent buffer shorter than what the call writes into it": l tape bits, packed, and w values of each run; a, b and c are lent
unfoldable pub room_fault : ℕ → ℕ → ℕ → ℕ → ℕ → Fault
room_fault l w a b c = refused_if (ltb a (bytes_for l) || (ltb b w || ltb c w)) 9

-- "10, 11, 12, 13, 9", by the numbers of inputs, tape bits and masked wires
abbrev pub call_fault : ℕ → ℕ → ℕ → ℕ → List ℕ → List ℕ → List ℕ → List ℕ → ℕ → ℕ → ℕ → Fault
call_fault o i l w xs ys ts ps a b c =
    or_else (supply_fault i l xs ys ts) (or_else (probes_fault o w ps) (room_fault l w a b c))

-- mapping with the gadget G: 1 to 8, then those
unfoldable pub map_fault : Gadget → List ℕ → ℕ → List ℕ → List ℕ → List ℕ → List ℕ → ℕ → ℕ → ℕ → Fault
map_fault G s o xs ys ts ps a b c =
    let t = table_of s in
    or_else
    (plain_fault G s o)
    (call_fault o t.inputs (tape_long G o t) (wires (masked_table G o t)) xs ys ts ps a b c)

-- a mapping with the refusal f answers the free share; "it writes the mapped tape and both runs", and the mapped tape is packed:
-- "Unused high bits of the last byte are 0 and the map keeps them so"
pub record MapDone (f : Fault) (G : Gadget) (mk : ℕ → Table → ℕ → List ℕ) (t : Table) (o : ℕ)
    (xs ys ts ps a a' b b' c c' : List ℕ) (r : DAnswer.Answer) : Type 0 where
  pub answer : Answered f (free_share mk o t ps) r
  pub mapped_tape : a' ≡ after_call f (packed (mapped G mk o t xs ys ts ps)) a
  pub first_run : b' ≡ after_call f (masked_run G o t xs ts) b
  pub second_run : c' ≡ after_call f (masked_run G o t ys (mapped G mk o t xs ys ts ps)) c

-- mapping a packed tape: the lent buffers a, b and c become a', b' and c'
abbrev pub MapSays :
    Gadget → (ℕ → Table → ℕ → List ℕ) → List ℕ → ℕ
    → List ℕ → List ℕ → List ℕ → List ℕ → List ℕ → List ℕ → List ℕ → List ℕ → List ℕ → List ℕ → DAnswer.Answer → Type 0
MapSays G mk s o xs ys ts ps a a' b b' c c' r =
    let t = table_of s in
    MapDone (map_fault G s o xs ys ts ps (length a) (length b) (length c)) G mk t o
    xs ys (tape_of (tape_long G o t) ts) ps a a' b b' c c' r

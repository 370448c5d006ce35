-- Encoding, decoding, and a run of the masked table on a tape (document 01, "Tape, encoding, decoding"). The tape is the
-- paper's word for all random bits of a run, the encoder's and the random gates'.
-- Assumes nothing.
use Rattle.std.specs.Prelude.{List, [], ◌∷◌, ◌++◌, ℕ, zero, suc, ◌*◌, ◌/◌, length, take, drop}
use Rattle.tables.specs.Tables.{Table}
use Rattle.tables.specs.Runs.{xor, run}
use Rattle.construction.specs.Shares.{shares_of}
use Rattle.construction.specs.Gadgets.{Gadget}
use Rattle.construction.specs.Wires.{masked_table}

-- the XOR of a bit and all bits of a list
unfoldable pub xor_all : ℕ → List ℕ → ℕ
xor_all v [] = v
xor_all v (b ∷ bs) = xor_all (xor v b) bs

-- "Shares 1 to 2t of an input are its tape bits; share n is their XOR with the secret"
unfoldable pub encode : ℕ → List ℕ → List ℕ → List ℕ
encode o [] ts = []
encode o (x ∷ xs) ts =
    take (2 * o) ts ++ (xor_all x (take (2 * o) ts) ∷ encode o xs (drop (2 * o) ts))

-- "Decoding XORs n neighbouring outputs": c times
unfoldable pub decode_from : ℕ → ℕ → List ℕ → List ℕ
decode_from zero n bs = []
decode_from (suc c) n bs = xor_all 0 (take n bs) ∷ decode_from c n (drop n bs)

-- "Decoding XORs n neighbouring outputs"
unfoldable pub decode : ℕ → List ℕ → List ℕ
decode o bs = decode_from (length bs / suc (2 * o)) (shares_of o) bs

-- "encodes x and runs the masked table, both with the tape"
unfoldable pub masked_run : Gadget → ℕ → Table → List ℕ → List ℕ → List ℕ
masked_run G o t xs tape =
    let k = 2 * o * t.inputs in
    run (masked_table G o t) (encode o xs (take k tape)) (drop k tape)

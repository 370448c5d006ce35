-- Packed tapes as the calls take them (Card 4): that they and the tapes of bits stand one to one, and demand 3 for them. The
-- statements only; proofs/ has the proofs.
-- Assumes nothing.
use Rattle.std.specs.Prelude.{◌≡◌, Bool, true, ◌&&◌, List, map, ℕ, eqb, length}
use Rattle.tables.specs.Packing.{bytes_for, packed, tape_of, spare}
use Rattle.construction.specs.Gadgets.{Gadget}
use Rattle.secrecy.specs.Claims.{all_bits, is_bits, all_below, all_tapes, Tapes, Third}

-- the bytes that neither 10 nor 11 refuses as a tape of n bits: "Unused high bits of the last byte are 0"
abbrev pub is_packed : ℕ → List ℕ → Bool
is_packed n s = eqb (length s) (bytes_for n) && (all_below 256 s && eqb (spare n s) 0)

-- every packed tape of n bits
abbrev pub all_packed : ℕ → List (List ℕ)
all_packed n = map packed (all_tapes n)

-- tapes of n bits, eight to a byte
abbrev pub in_bytes : ℕ → Tapes
in_bytes n = record { is_one = is_packed n; all = all_packed n; bits = tape_of n; holding = packed }

-- packed tapes and tapes of bits stand one to one
pub record Packs : Type 0 where
  -- "Count the bytes by rounding up"
  pub bytes : (bs : List ℕ) → length (packed bs) ≡ bytes_for (length bs)
  -- bits packed are accepted, and unpacked they are the bits
  pub packs : (bs : List ℕ) → all_bits bs ≡ true → is_packed (length bs) (packed bs) ≡ true
  pub unpacked : (bs : List ℕ) → all_bits bs ≡ true → tape_of (length bs) (packed bs) ≡ bs
  -- bytes that are accepted hold n bits, and these packed are the bytes
  pub bits : (n : ℕ) (s : List ℕ) → is_packed n s ≡ true → is_bits n (tape_of n s) ≡ true
  pub packed_again : (n : ℕ) (s : List ℕ) → is_packed n s ≡ true → packed (tape_of n s) ≡ s

-- for every table and order
pub record PackedDemands (G : Gadget) : Type 0 where
  pub one_to_one : Packs
  pub third : Third in_bytes G

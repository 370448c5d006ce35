-- Packed tapes (Card 4): bits to bytes and back, and what stands above the last bit.
-- Assumes nothing.
use Rattle.std.specs.Prelude.{cond, List, [], ◌∷◌, ◌++◌, ℕ, zero, suc, ◌+◌, ◌-◌, ◌*◌, ◌/◌, ◌%◌, ◌^◌, eqb, length, get_or, take, drop}
use Rattle.tables.specs.Refusals.{Fault, fault, none}

-- "Count the bytes by rounding up": how many bytes n bits take
abbrev pub bytes_for : ℕ → ℕ
bytes_for n = (n + 7) / 8

-- the number that bits are, "lowest bit first"
unfoldable pub number_of : List ℕ → ℕ
number_of [] = 0
number_of (b ∷ bs) = b + 2 * number_of bs

-- the k lowest bits of a number
unfoldable pub digits_of : ℕ → ℕ → List ℕ
digits_of zero v = []
digits_of (suc k) v = v % 2 ∷ digits_of k (v / 2)

-- "eight bits to a byte": k bytes of bits
unfoldable pub pack_from : ℕ → List ℕ → List ℕ
pack_from zero bs = []
pack_from (suc k) bs = number_of (take 8 bs) ∷ pack_from k (drop 8 bs)

-- bits to bytes
unfoldable pub packed : List ℕ → List ℕ
packed bs = pack_from (bytes_for (length bs)) bs

-- all bits of some bytes
unfoldable pub unpacked : List ℕ → List ℕ
unpacked [] = []
unpacked (v ∷ s) = digits_of 8 v ++ unpacked s

-- bytes to bits: the tape of n bits that they hold
unfoldable pub tape_of : ℕ → List ℕ → List ℕ
tape_of n s = take n (unpacked s)

-- "Unused high bits of the last byte": the number that stands above bit n
unfoldable pub spare : ℕ → List ℕ → ℕ
spare n s = get_or s (n / 8) 0 / 2 ^ (n % 8)

-- "11 a set unused bit, whose place is that byte, counted after the secrets", which are i bits; a tape of n bits
unfoldable pub spare_fault : ℕ → ℕ → List ℕ → Fault
spare_fault i n s = cond (eqb (spare n s) 0) none (fault 11 (i + (length s - 1)))

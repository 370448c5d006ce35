-- For contracts inside the library only: no promise of a call cites this.
-- What mapping the inputs' bits takes, and beginning both runs with them (document 01, "Marks and the mapped tape").
-- Assumes nothing.
use Rattle.std.specs.Prelude.{◌≡◌, List, ℕ, ◌+◌, ◌*◌, ◌≤◌, ◌<◌, length, take}
use Rattle.tables.specs.Inside.{Bits}
use Rattle.tables.specs.Packing.{unpacked, tape_of}
use Rattle.tables.specs.Says.{over}
use Rattle.construction.specs.Shares.{shares_of}
use Rattle.construction.specs.Codes.{encode}
use Rattle.secrecy.specs.Maps.{flipped, input_flips}
use Rattle.secrecy.specs.Both.{flips_at}

-- secrets x and y of as many bits, a share number k, and c bits for each input at the front of us
pub record FlipReady (c k : ℕ) (xs ys us : List ℕ) : Type 0 where
  pub from_1 : 1 ≤ k
  pub second : length ys ≡ length xs
  pub room : c * length xs ≤ length us
  pub few : c * length xs + k < 4294967296
  pub first_bits_lem : Bits xs
  pub second_bits_lem : Bits ys
  pub bits : Bits (take (c * length xs) us)

-- secrets x and y of as many bits and a share number k; the packed tape s has 2t bits for each input, and there is room for it
-- in m, and for both encodings in a and b
pub record BeginReady (o k : ℕ) (xs ys s m a b : List ℕ) : Type 0 where
  pub order : o ≤ 15
  pub from_1 : 1 ≤ k
  pub to_n : k ≤ shares_of o
  pub second : length ys ≡ length xs
  pub tape : 2 * o * length xs ≤ 8 * length s
  pub room : length s ≤ length m
  pub few : shares_of o * length xs ≤ 65535
  pub one : shares_of o * length xs ≤ length a
  pub other : shares_of o * length xs ≤ length b
  pub first_bits_lem : Bits xs
  pub second_bits_lem : Bits ys

-- the mapped tape begins as the tape with the inputs' bits flipped; both encodings are written, the second with the bits flipped
pub record BegunSays (o k : ℕ) (xs ys s m m' a a' b b' : List ℕ) : Type 0 where
  pub mapped : unpacked m' ≡ flips_at 0 (input_flips o k xs ys) (unpacked (over s m))
  pub one : a' ≡ over (encode o xs (tape_of (2 * o * length xs) s)) a
  pub other : b' ≡ over (encode o ys (flipped (tape_of (2 * o * length xs) s) (input_flips o k xs ys))) b

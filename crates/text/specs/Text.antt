-- Text as bytes of ASCII: numbers in decimal, lines of words parted by single spaces, and the line of a refusal (document 01,
-- "The forecast program": "`refused`, number, place"); and what putting text into a lent buffer promises.
-- Assumes nothing.
use Rattle.std.specs.Prelude.{◌≡◌, true, false, cond, List, [], ◌∷◌, ◌++◌, ℕ, zero, suc, ◌+◌, ◌/◌, ◌%◌, ltb, length}
use Rattle.tables.specs.Says.{over}
use Rattle.tables.specs.Inside.{put_at}

-- a number's decimal digits, the highest first; c bounds how many
unfoldable pub digits : ℕ → ℕ → List ℕ
digits zero v = []
digits (suc c) v =
    elim (ltb v 10) [ true ↦ (48 + v) ∷ [] | false ↦ digits c (v / 10) ++ ((48 + v % 10) ∷ []) ]

-- a number of 32 bits has at most ten digits
abbrev pub decimal : ℕ → List ℕ
decimal v = digits 10 v

-- words parted by one space, and a line feed
unfoldable pub line_of : List ℕ → List (List ℕ) → List ℕ
line_of w [] = w ++ (10 ∷ [])
line_of w (x ∷ xs) = w ++ (32 ∷ line_of x xs)

-- the word `refused`
abbrev pub refused_word : List ℕ
refused_word = 114 ∷ 101 ∷ 102 ∷ 117 ∷ 115 ∷ 101 ∷ 100 ∷ []

-- "`refused`, number, place"
abbrev pub refusal_line : ℕ → ℕ → List ℕ
refusal_line n p = line_of refused_word (decimal n ∷ decimal p ∷ [])

-- xs stands at a place of the lent bytes, which else are as they were, and r is the next place
pub record Puts (at : ℕ) (xs b b' : List ℕ) (r : ℕ) : Type 0 where
  pub bytes : b' ≡ put_at at xs b
  pub next : r ≡ at + length xs

-- xs stands at the front of the lent bytes, and r is its length; where fewer are lent than xs has, they are as they were
pub record PutsAll (xs b b' : List ℕ) (r : ℕ) : Type 0 where
  pub bytes : b' ≡ cond (ltb (length b) (length xs)) b (over xs b)
  pub length_is : r ≡ cond (ltb (length b) (length xs)) 0 (length xs)

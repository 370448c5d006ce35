-- The loops over lines: what is put so far, before what is left, is the whole.
-- Assumes nothing.
use mathlib.Core.Path.{◌≡◌, sym, ap, ◌∙◌}
use mathlib.Core.List.{List, [], ◌++◌, flatten}
use Prim.Native.Nat.{ℕ, suc, ◌+◌, ◌≤◌, ◌<◌}
use native.Mathlib.Nat.{zero-add}
use native.Mathlib.Numerals.{add-one}
use native.Mathlib.Omega.{arith}
use lib.ListN.{length, get_or, drop, length-append, drop_of_length-le}
use lib.Seq.{drop-cons}
use Rattle.tables.specs.Inside.{put_at}
use Rattle.tables.proofs.Put.{Writing, writing_piece, writing_end}
use Rattle.text.specs.Text.{Puts}

-- the lines from number j on are left, and those before it take up `at` bytes
pub record Left (ls : List (List ℕ)) (j at : ℕ) : Type 0 where
  pub within : j ≤ length ls
  pub sum : at + length (flatten (drop j ls)) ≡ length (flatten ls)

flatten_step : (ls : List (List ℕ)) (j : ℕ) → j < length ls → flatten (drop j ls) ≡ get_or ls j [] ++ flatten (drop (suc j) ls)
unfolding flatten
flatten_step ls j h = ap {A = List (List ℕ)} {B = List ℕ} flatten (drop-cons ls j [] h)

module _ {ls : List (List ℕ)} {j at : ℕ} (L : Left ls j at) where
  pub left_end : length ls ≤ j → at ≡ length (flatten ls)
  unfolding flatten
  left_end h =
      let none = ap {A = List (List ℕ)} {B = ℕ} (λ ms. length (flatten ms)) (drop_of_length-le ls {i = j} h) in
      omega (arith, L.sum, none)

  module _ (h : j < length ls) where
    left_length : length (flatten (drop j ls)) ≡ length (get_or ls j []) + length (flatten (drop (suc j) ls))
    left_length = ap length (flatten_step ls j h) ∙ length-append (get_or ls j []) (flatten (drop (suc j) ls))

    pub left_most : at + length (get_or ls j []) ≤ length (flatten ls)
    left_most = omega (arith, L.sum, left_length)

    pub left_turn : {r : ℕ} → r ≡ at + length (get_or ls j []) → Left ls (j + 1) r
    left_turn {r} e = rw add-one (record { within = h; sum = omega (arith, L.sum, left_length, e) })

-- and the lines so far are put at the front of b
pub record Putting (ls : List (List ℕ)) (b out : List ℕ) (j at : ℕ) : Type 0 where
  pub rest : Left ls j at
  pub writing : Writing (put_at 0 (flatten ls) b) at (flatten (drop j ls)) out

module _ {ls : List (List ℕ)} {b : List ℕ} (room : length (flatten ls) ≤ length b) where
  module _ {out : List ℕ} {j at : ℕ} (P : Putting ls b out j at) where
    pub putting_turn : {out' : List ℕ} {r : ℕ} → j < length ls → Puts at (get_or ls j []) out out' r → Putting ls b out' (j + 1) r
    putting_turn h Q =
        let next = Q.next in
        record {
          rest = left_turn P.rest h next;
          writing = rw add-one (writing_piece P.writing (get_or ls j []) (flatten (drop (suc j) ls)) (flatten_step ls j h) Q.bytes next);
        }

    pub putting_end : length ls ≤ j → Puts 0 (flatten ls) b out at
    unfolding flatten
    putting_end h =
        let none = ap {A = List (List ℕ)} {B = List ℕ} flatten (drop_of_length-le ls {i = j} h) in
        record { bytes = writing_end P.writing none; next = left_end P.rest h ∙ sym (zero-add _) }

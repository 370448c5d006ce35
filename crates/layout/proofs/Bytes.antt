-- Pieces one after another, the operands of gates in pieces, and pieces of one size that a loop writes.
-- Assumes nothing.
use mathlib.Core.Path.{◌≡◌, refl, sym, ap, ap₂, ◌∙◌}
use mathlib.Core.List.{List, [], ◌∷◌, ◌++◌, map, map-append, append_assoc, append-nil}
use Prim.Native.Nat.{ℕ, zero, suc, ◌+◌, ◌-◌, ◌*◌, ◌≤◌, ◌<◌}
use native.Mathlib.Numerals.{add-one}
use native.Mathlib.Omega.{arith}
use lib.ListN.{length, length-append, length-map}
use Rattle.tables.specs.Tables.{Gate, pair_bytes}
use Rattle.tables.specs.Inside.{put_at}
use Rattle.tables.proofs.Format.{pairs_long}
use Rattle.tables.proofs.Put.{Writing, writing_start, writing_fits, writing_piece, writing_end, put_length}
use Rattle.construction.specs.Wires.{Wire, driver_of}
use Rattle.layout.specs.Layout.{operand_bytes, pieces_from}

pub pairs_append : (gs hs : List Gate) → pair_bytes (gs ++ hs) ≡ pair_bytes gs ++ pair_bytes hs
unfolding pair_bytes
pairs_append [] hs = refl
pairs_append (g ∷ gs) hs = rw (pairs_append gs hs)

pub operands_append : (xs ys : List Wire) → operand_bytes (xs ++ ys) ≡ operand_bytes xs ++ operand_bytes ys
operands_append xs ys = rw map-append (pairs_append (map driver_of xs) (map driver_of ys))

pub operands_long : (xs : List Wire) → length (operand_bytes xs) ≡ 4 * length xs
operands_long xs = pairs_long (map driver_of xs) ∙ rw length-map

pub pieces_none : {A : Type 0} (m c : ℕ) (f : ℕ → List A) → m ≤ c → pieces_from (m - c) c f ≡ []
unfolding pieces_from
pieces_none m c f h = let e : m - c ≡ 0 = omega arith in rw e refl

pub pieces_some :
    {A : Type 0} (m c : ℕ) (f : ℕ → List A) → c < m → pieces_from (m - c) c f ≡ f c ++ pieces_from (m - suc c) (suc c) f
unfolding pieces_from
pieces_some m c f h = let e : m - c ≡ suc (m - suc c) = omega arith in rw e refl

-- one piece more, at the end
pub pieces_snoc : {A : Type 0} (c s : ℕ) (f : ℕ → List A) → pieces_from (suc c) s f ≡ pieces_from c s f ++ f (s + c)
unfolding pieces_from
pieces_snoc {A} zero s f = append-nil (f s) ∙ ap {A = ℕ} {B = List A} f {x = s} {y = s + 0} (omega arith)
pieces_snoc {A} (suc c) s f =
    ap {A = List A} {B = List A} (λ y. f s ++ y)
    (pieces_snoc c (suc s) f
    ∙ ap {A = ℕ} {B = List A} (λ i. pieces_from c (suc s) f ++ f i) {x = suc s + c} {y = s + suc c} (omega arith))
    ∙ sym (append_assoc (f s) (pieces_from c (suc s) f) (f (s + suc c)))

pub pieces_long :
    {A : Type 0} (size c s : ℕ) (f : ℕ → List A) → ((i : ℕ) → i < s + c → length (f i) ≡ size)
    → length (pieces_from c s f) ≡ size * c
unfolding pieces_from
pieces_long size zero s f h = omega arith
pieces_long size (suc c) s f h =
    length-append (f s) (pieces_from c (suc s) f)
    ∙ omega (arith, h s (omega arith), pieces_long size c (suc s) f (λ i k. h i (omega arith)))

pub pieces_same :
    {A : Type 0} (c s : ℕ) (f g : ℕ → List A) → ((i : ℕ) → i < s + c → f i ≡ g i) → pieces_from c s f ≡ pieces_from c s g
unfolding pieces_from
pieces_same zero s f g h = refl
pieces_same {A} (suc c) s f g h =
    ap₂ {A = List A} {B = List A} {C = List A} (λ x y. x ++ y) (h s (omega arith))
    (pieces_same c (suc s) f g (λ i k. h i (omega arith)))

-- what goes through appended lists goes through pieces
pub pieces_through :
    {A B : Type 0} (h : List A → List B) → h [] ≡ [] → ((xs ys : List A) → h (xs ++ ys) ≡ h xs ++ h ys) → (c s : ℕ)
    (f : ℕ → List A) → h (pieces_from c s f) ≡ pieces_from c s (λ i. h (f i))
unfolding pieces_from
pieces_through h e a zero s f = e
pieces_through h e a (suc c) s f = a (f s) (pieces_from c (suc s) f) ∙ rw (pieces_through h e a c (suc s) f) refl

pub pairs_pieces :
    (c s : ℕ) (f : ℕ → List Gate) → pair_bytes (pieces_from c s f) ≡ pieces_from c s (λ i. pair_bytes (f i))
unfolding pair_bytes
pairs_pieces c s f = pieces_through pair_bytes refl pairs_append c s f

-- m pieces of a size go to a place of b₀; c of them are put, the buffer is now b, and the next one goes to another place
pub record PutPieces (size at m : ℕ) (f : ℕ → List ℕ) (b₀ : List ℕ) (to c : ℕ) (b : List ℕ) : Type 0 where
  pub left : Writing (put_at at (pieces_from m 0 f) b₀) to (pieces_from (m - c) c f) b
  pub long : length b ≡ length b₀
  pub place : to ≡ at + size * c
  pub within : c ≤ m

pub put_pieces_start :
    (size at to m : ℕ) (f : ℕ → List ℕ) (b : List ℕ) → ((i : ℕ) → i < m → length (f i) ≡ size) → to ≡ at
    → at + size * m ≤ length b → PutPieces size at m f b to 0 b
put_pieces_start size at to m f b each e h =
    let whole : m - 0 ≡ m = omega arith in
    let long = pieces_long size m 0 f (λ i k. each i (omega arith)) in
    record {
      left = rw (e, whole) (writing_start at (pieces_from m 0 f) b (omega arith));
      long = refl;
      place = omega arith;
      within = omega arith;
    }

module _ {size at m : ℕ} {f : ℕ → List ℕ} {b₀ : List ℕ} {to c : ℕ} {b : List ℕ} (W : PutPieces size at m f b₀ to c b) where
  pub put_pieces_turn :
      (to' : ℕ) {xs : List ℕ} (b' : List ℕ) → c < m → length (f c) ≡ size → xs ≡ f c → b' ≡ put_at to xs b
      → to' ≡ to + size → PutPieces size at m f b₀ to' (c + 1) b'
  put_pieces_turn to' {xs} b' h long piece put₀ next =
      let put : b' ≡ put_at to (f c) b = put₀ ∙ ap {A = List ℕ} {B = List ℕ} (λ y. put_at to y b) piece in
      let cut = pieces_some m c f h in
      rw add-one
      (record {
        left = writing_piece W.left (f c) _ cut put (omega arith);
        long = ap length put ∙ put_length to (f c) b (writing_fits W.left (f c) _ cut) ∙ W.long;
        place = omega (arith, W.place);
        within = h;
      })

  pub put_pieces_end : m ≤ c → b ≡ put_at at (pieces_from m 0 f) b₀
  put_pieces_end h = writing_end W.left (pieces_none m c f h)

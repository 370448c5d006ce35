-- The kinds of a gate's new wires: repeated pieces, that depend on neither wires nor shares.
-- Assumes nothing.
use mathlib.Core.Path.{◌≡◌, refl, sym, ap, ap₂, ◌∙◌}
use mathlib.Core.List.{List, [], ◌∷◌, ◌++◌, map, map-append}
use Prim.Native.Nat.{ℕ, zero, suc, ◌+◌, ◌-◌, ◌*◌, ◌≤◌, ◌<◌}
use native.Mathlib.Omega.{arith}
use lib.ListN.{length, get_or, take, drop, set, replicate, length-set, length-append, length-map, length-replicate}
use lib.ListN.{replicate-append-replicate}
use lib.Seq.{drop-drop}
use borrow.Rule.Slice.PartMut.{mid_of, put_mid, mid_len}
use denote.Enum.Declared.{tag_of}
use Rattle.tables.specs.contracts.Kind.{the_type}
use Rattle.tables.specs.declared.Kind as DKind
use Rattle.tables.specs.declared.Kind.TheVariants as Named
use Rattle.tables.specs.Kinds.{kind_is}
use Rattle.tables.specs.Tables.{Kind, NOT, XOR, AND, RANDOM, CONSTANT, OR, UNKNOWN, kind_byte, Gate, gate, kind_bytes}
use Rattle.tables.specs.Inside.{put_at}
use Rattle.tables.proofs.Format.{kinds_long}
use Rattle.tables.proofs.Put.{put_length, put_set, put_past, put_then}
use Rattle.construction.specs.Shares.{in_turn, pairs, tri, pair_at}
use Rattle.construction.specs.Gadgets.{Gadget}
use Rattle.construction.specs.Wires.{and_part, Wire, driver_of, share, first_on, pair_wire, and_shares, and_cost, new_wires}
use Rattle.construction.specs.Wires.{new_shares, cost}
use Rattle.construction.specs.Wires.{masked}
use Rattle.construction.proofs.Lawful.{Lawful}
use Rattle.layout.specs.Layout.{pieces_from, pair_gates, sum_gates, high_gates, row_gates, rows_gates, and_gates}
use Rattle.layout.proofs.Bytes.{pieces_same, pieces_long, pieces_through}
use Rattle.layout.proofs.Pieces.{pairs_in_turn, xor_gates_lem, constant_gates_lem, and_gates_lem, or_gates_lem}
use Rattle.mask_kinds.specs.Kinds.{wire_kinds, pair_kinds, row_kinds, and_kinds, new_kinds, gate_kinds, XorsFrom}

kinds_append : (gs hs : List Gate) → kind_bytes (gs ++ hs) ≡ kind_bytes gs ++ kind_bytes hs
unfolding kind_bytes
kinds_append [] hs = refl
kinds_append (g ∷ gs) hs = rw (kinds_append gs hs)

pub wire_kinds_append : (xs ys : List Wire) → wire_kinds (xs ++ ys) ≡ wire_kinds xs ++ wire_kinds ys
wire_kinds_append xs ys = rw map-append (kinds_append (map driver_of xs) (map driver_of ys))

pub wire_kinds_long : (xs : List Wire) → length (wire_kinds xs) ≡ length xs
wire_kinds_long xs = kinds_long (map driver_of xs) ∙ rw length-map

-- a byte repeated, as pieces one after another
replicate_from : (m c v : ℕ) → replicate m v ≡ pieces_from m c (λ _. v ∷ [])
unfolding pieces_from
replicate_from zero c v = refl
replicate_from (suc m) c v = rw (replicate_from m (suc c) v) refl

pub replicate_pieces : (m v : ℕ) → replicate m v ≡ pieces_from m 0 (λ _. v ∷ [])
replicate_pieces m v = replicate_from m 0 v

pub row_kinds_long : (n : ℕ) → 1 ≤ n → length (row_kinds n) ≡ n
row_kinds_long n h = omega (arith, length-replicate {A = ℕ} (n - 1) 1)

-- bytes of which all from a place on are the kind of an XOR gate
abbrev ones : ℕ → List ℕ
ones n = replicate n 1

drop_ones : (k n : ℕ) → drop k (ones n) ≡ ones (n - k)
drop_ones zero n = ap ones {x = n} {y = n - 0} (omega arith)
drop_ones (suc k) zero = ap ones {x = 0} {y = 0 - suc k} (omega arith)
drop_ones (suc k) (suc n) = drop_ones k n ∙ ap ones {x = n - k} {y = suc n - suc k} (omega arith)

xors_later : (at k : ℕ) (b : List ℕ) → XorsFrom at b → XorsFrom (at + k) b
xors_later at k b h =
    sym (drop-drop k at b)
    ∙ ap {A = List ℕ} {B = List ℕ} (λ ys. drop k ys) h
    ∙ drop_ones k (length b - at)
    ∙ ap ones {x = length b - at - k} {y = length b - (at + k)} (omega arith)

pub xors_after :
    (at : ℕ) {at' : ℕ} (xs b : List ℕ) {b' : List ℕ} → XorsFrom at b → at + length xs ≤ length b → b' ≡ put_at at xs b
    → at' ≡ at + length xs → XorsFrom at' b'
xors_after at xs b h fits put next =
    let long = put_length at xs b fits in
    rw (next, put, long) (put_past at xs b fits ∙ xors_later at (length xs) b h)

-- one byte, and the kinds of XOR gates that stand after it
xors_head :
    (at m v : ℕ) (b : List ℕ) → XorsFrom at b → at + suc m ≤ length b → set b at v ≡ put_at at (v ∷ ones m) b
unfolding put_at
xors_head at m v b h fits =
    let rest = length b - (at + suc m) in
    let far : at + suc (length (ones m)) ≡ at + suc m = omega (arith, length-replicate {A = ℕ} m 1) in
    let tail : drop (at + 1) b ≡ ones m ++ drop (at + suc m) b =
    xors_later at 1 b h
    ∙ ap ones {x = length b - (at + 1)} {y = m + rest} (omega arith)
    ∙ sym (replicate-append-replicate {A = ℕ} m rest 1)
    ∙ ap {A = List ℕ} {B = List ℕ} (λ ys. ones m ++ ys) (sym (xors_later at (suc m) b h)) in
    put_set at v b (omega arith) ∙ rw (far, tail) refl

pub row_head :
    (at n : ℕ) (b : List ℕ) → 1 ≤ n → XorsFrom at b → at + n ≤ length b → set b at 2 ≡ put_at at (row_kinds n) b
row_head at n b some h fits = xors_head at (n - 1) 2 b h (omega arith)

-- the kinds of gates in pieces
kinds_pieces :
    (c s : ℕ) (f : ℕ → List Gate) → kind_bytes (pieces_from c s f) ≡ pieces_from c s (λ i. kind_bytes (f i))
unfolding kind_bytes
kinds_pieces c s f = pieces_through kind_bytes refl kinds_append c s f

-- gates of one kind
same_kinds :
    (k : Kind) (m : ℕ) (l r : ℕ → ℕ) → kind_bytes (pieces_from m 0 (λ c. gate k (l c) (r c) ∷ [])) ≡ replicate m (kind_byte k)
unfolding kind_bytes
same_kinds k m l r = kinds_pieces m 0 (λ c. gate k (l c) (r c) ∷ []) ∙ sym (replicate_pieces m (kind_byte k))

row_kinds_lem :
    (G : Gadget) (n w v : ℕ) (a b : List ℕ) (i : ℕ) → i < n → kind_bytes (row_gates G n w v a b i) ≡ row_kinds n
unfolding kind_bytes
row_kinds_lem G n w v a b i h =
    let low : ℕ → ℕ = λ j. pair_wire w G.low (pair_at n i (suc i + j)) in
    ap {A = List ℕ} {B = List ℕ} (λ y. 2 ∷ y)
    (kinds_append (high_gates G n w v i) (pieces_from (n - suc i) 0 (sum_gates (v + i) low))
    ∙ ap₂ {A = List ℕ} {B = List ℕ} {C = List ℕ} (λ y z. y ++ z) (same_kinds XOR i _ _) (same_kinds XOR (n - suc i) _ _)
    ∙ replicate-append-replicate {A = ℕ} i (n - suc i) 1
    ∙ ap ones {x = i + (n - suc i)} {y = n - 1} (omega arith))

and_kinds_lem :
    {G : Gadget} → Lawful G → (n w : ℕ) (a b : List ℕ) → kind_bytes (and_gates G n w a b) ≡ and_kinds n
unfolding kind_bytes
and_kinds_lem {G} L n w a b =
    let F = pair_gates G a b in
    let v = w + 5 * tri n in
    kinds_append (in_turn 5 w (pairs n) F) (rows_gates G n w v a b)
    ∙ ap₂ {A = List ℕ} {B = List ℕ} {C = List ℕ} (λ y z. y ++ z)
    (ap {A = List Gate} {B = List ℕ} kind_bytes (pairs_in_turn n 5 w F)
    ∙ kinds_pieces (tri n) 0 _
    ∙ pieces_same (tri n) 0 _ _ (λ c h. L.kinds _ _ _ _ _))
    (kinds_pieces n 0 _ ∙ pieces_same n 0 _ _ (λ i h. row_kinds_lem G n w (v + n * i) a b i (omega arith)))

pub new_kinds_lem :
    {G : Gadget} → Lawful G → (k : Kind) (l n g w : ℕ) (a b : List ℕ) → wire_kinds (new_wires G k l n g w a b) ≡ new_kinds k n
unfolding kind_bytes
new_kinds_lem {G} L NOT l n g w a b = refl
new_kinds_lem {G} L XOR l n g w a b =
    ap {A = List Gate} {B = List ℕ} kind_bytes (xor_gates_lem G l n g w a b) ∙ same_kinds XOR n (share a) (share b)
new_kinds_lem {G} L AND l n g w a b =
    ap {A = List Gate} {B = List ℕ} kind_bytes (and_gates_lem G n (and_part g) w a b) ∙ and_kinds_lem L n w a b
new_kinds_lem {G} L RANDOM l n g w a b = refl
new_kinds_lem {G} L CONSTANT l n g w a b =
    ap {A = List Gate} {B = List ℕ} kind_bytes (constant_gates_lem G l n g w a b) ∙ same_kinds CONSTANT n _ (λ _. 0)
new_kinds_lem {G} L OR l n g w a b =
    let v = suc (suc w) in
    let A = first_on w a in
    let B = first_on (suc w) b in
    let last = gate NOT (share (and_shares n v) 0) 0 ∷ [] in
    ap {A = List Gate} {B = List ℕ} kind_bytes (or_gates_lem G l n g w a b)
    ∙ ap {A = List ℕ} {B = List ℕ} (λ ks. 0 ∷ 0 ∷ ks)
    (kinds_append (and_gates G n v A B) last
    ∙ ap {A = List ℕ} {B = List ℕ} (λ ks. ks ++ (0 ∷ [])) (and_kinds_lem L n v A B))
new_kinds_lem {G} L (UNKNOWN c) l n g w a b = refl

pub masked_kinds :
    {G : Gadget} → Lawful G → (n g w : ℕ) (S : List (List ℕ)) (xs : List Gate) → wire_kinds (masked G n g w S xs) ≡ gate_kinds n xs
unfolding masked gate_kinds kind_bytes
masked_kinds {G} L n g w S [] = refl
masked_kinds {G} L n g w S (x ∷ xs) =
    wire_kinds_append (new_wires G x.kind x.left n g w (get_or S x.left []) (get_or S x.right [])) _
    ∙ ap₂ {A = List ℕ} {B = List ℕ} {C = List ℕ} (λ p q. p ++ q)
    (new_kinds_lem L x.kind x.left n g w _ _)
    (masked_kinds L n (suc g) (w + cost x.kind n) (S ++ (new_shares x.kind n w (get_or S x.left []) ∷ [])) xs)

-- an AND's kinds
pub and_kinds_long : (n : ℕ) → 1 ≤ n → length (and_kinds n) ≡ and_cost n
and_kinds_long n some =
    length-append (pieces_from (tri n) 0 (λ _. pair_kinds)) (pieces_from n 0 (λ _. row_kinds n))
    ∙ omega (
      arith,
      pieces_long 5 (tri n) 0 (λ _. pair_kinds) (λ _ _. refl),
      pieces_long n n 0 (λ _. row_kinds n) (λ _ _. row_kinds_long n some),
    )

-- the kind of an XOR, where the kinds of XOR gates stand already
pub xor_head :
    (n at : ℕ) (b : List ℕ) → 1 ≤ n → at + n ≤ length b → XorsFrom at b → set b at 1 ≡ put_at at (replicate n 1) b
xor_head zero at b some fits xors = absurd (omega arith)
xor_head (suc n) at b some fits xors = xors_head at n 1 b xors fits

-- a part that was lent comes back with the bytes xs
pub part_is : (a e : ℕ) (xs b : List ℕ) → a + length xs ≡ e → put_mid a (e - a) b xs ≡ put_at a xs b
unfolding put_at
part_is a e xs b h =
    ap {A = List ℕ} {B = List ℕ} (λ d. take a b ++ (xs ++ d))
    (drop-drop (e - a) a b ∙ ap {A = ℕ} {B = List ℕ} (λ k. drop k b) {x = a + (e - a)} {y = a + length xs} (omega arith))

pub filled :
    (at m v : ℕ) (b : List ℕ) {x : List ℕ} → at + m ≤ length b → x ≡ replicate (length (mid_of at (at + m - at) b)) v
    → put_mid at (at + m - at) b x ≡ put_at at (replicate m v) b
filled at m v b fits e =
    let long : length (mid_of at (at + m - at) b) ≡ m = omega (arith, mid_len at (at + m) b fits) in
    rw (e, long) (part_is at (at + m) (replicate m v) b (omega (arith, length-replicate {A = ℕ} m v)))

-- a kind's byte
pub byte_is : (k : DKind.Kind) → tag_of the_type k ≡ kind_byte (kind_is k)
byte_is Named.Not = refl
byte_is Named.Xor = refl
byte_is Named.And = refl
byte_is Named.Random = refl
byte_is Named.Constant = refl
byte_is Named.Or = refl

-- the kinds of an OR: two NOTs
pub nots_written :
    (at : ℕ) (b : List ℕ) → at + 2 ≤ length b → set (set b at 0) (at + 1) 0 ≡ put_at at (0 ∷ 0 ∷ []) b
nots_written at b fits =
    put_then at (0 ∷ []) (0 ∷ []) b (omega arith) (put_set at 0 b (omega arith)) refl
    (put_set (at + 1) 0 (set b at 0) (omega (arith, length-set b at 0)))

-- the AND, and the last NOT
pub or_written :
    (at n : ℕ) (b : List ℕ) {at' : ℕ} {b' : List ℕ} → 1 ≤ n → at + cost OR n ≤ length b
    → b' ≡ put_at (at + 2) (and_kinds n) (set (set b at 0) (at + 1) 0) → at' ≡ at + 2 + and_cost n
    → (length b' ≡ length b) × (set b' at' 0 ≡ put_at at (new_kinds OR n) b)
or_written at n b {at'} {b'} some fits put next =
    let ks = and_kinds n in
    let long = and_kinds_long n some in
    let both : b' ≡ put_at at (0 ∷ 0 ∷ ks) b =
    put_then at (0 ∷ 0 ∷ []) ks b (omega arith) (nots_written at b (omega arith)) refl put in
    let same : length b' ≡ length b = ap length both ∙ put_length at (0 ∷ 0 ∷ ks) b (omega (arith, long)) in (
      same,
      put_then at (0 ∷ 0 ∷ ks) (0 ∷ []) b (omega (arith, long)) both (omega (arith, long, next)) (put_set at' 0 b' (omega (arith, same))),
    )

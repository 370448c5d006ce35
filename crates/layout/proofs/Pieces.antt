-- The new wires of a plain gate as gates in pieces one after another, as the loops go over them; the plain gate's number does not matter.
-- Assumes nothing.
use mathlib.Core.Path.{◌≡◌, refl, sym, ap, ap₂, ◌∙◌}
use mathlib.Core.Bool.{cond}
use mathlib.Core.List.{List, [], ◌∷◌, ◌++◌, map, map-append}
use Prim.Native.Nat.{ℕ, zero, suc, ◌+◌, ◌-◌, ◌*◌, ◌≤◌, ◌<◌}
use native.Mathlib.Nat.{zero-add, add-zero}
use native.Mathlib.Omega.{arith}
use lib.Dec.{eqb}
use lib.ListN.{length, get_or, length-append, length-map}
use Rattle.tables.specs.Tables.{NOT, XOR, AND, CONSTANT, OR, Gate, gate}
use Rattle.construction.specs.Shares.{up_from, in_turn, Pair, pair_of, pairs, tri, pair_at, row}
use Rattle.construction.specs.Gadgets.{first, Gadget}
use Rattle.construction.specs.Wires.{Part, sum, in_and, Origin, and_part, xor_share, constant_share, or_part, driver_of, wire, share}
use Rattle.construction.specs.Wires.{first_on, pair_wires}
use Rattle.construction.specs.Wires.{adding, pair_wire, row_wires, and_wires, and_shares, and_cost, new_wires}
use Rattle.layout.specs.Layout.{pieces_from, sum_gates, high_gates, low_gates, row_gates, rows_gates}
use Rattle.layout.specs.Layout.{xor_gates, constant_gates, and_gates, or_gates}
use Rattle.layout.proofs.Bytes.{pieces_long, pieces_same}
use Rattle.construction.proofs.Sum.{up_length, up_plus, up_shift}
use Rattle.construction.proofs.Rows.{pairs_length, pair_below, pair_closed}
use Rattle.construction.proofs.Costs.{and_length, or_driven}
use Rattle.construction.proofs.Placed.{index_small}

-- blocks for a counted list, from block c on: the block c starts at wire w + size·c
in_turn_from :
    {A B : Type 0} (size w m s c : ℕ) (g : ℕ → A) (F : ℕ → A → List B)
    → in_turn size (w + size * c) (up_from m (s + c) g) F ≡ pieces_from m c (λ d. F (w + size * d) (g (s + d)))
unfolding pieces_from in_turn up_from
in_turn_from size w zero s c g F = refl
in_turn_from size w (suc m) s c g F =
    let e : w + size * c + size ≡ w + size * suc c = omega arith in
    let k : suc (s + c) ≡ s + suc c = omega arith in
    rw (e, k, in_turn_from size w m s (suc c) g F) refl

pub in_turn_pieces :
    {A B : Type 0} (size w m s : ℕ) (g : ℕ → A) (F : ℕ → A → List B)
    → in_turn size w (up_from m s g) F ≡ pieces_from m 0 (λ d. F (w + size * d) (g (s + d)))
in_turn_pieces size w m s g F =
    let e : w ≡ w + size * 0 = omega arith in
    let k : s ≡ s + 0 = omega arith in
    ap (λ (v : ℕ). in_turn size v (up_from m s g) F) e
    ∙ ap (λ (v : ℕ). in_turn size (w + size * 0) (up_from m v g) F) k
    ∙ in_turn_from size w m s 0 g F

pub in_turn_map :
    {A B C : Type 0} (size w : ℕ) (xs : List A) (F : ℕ → A → List B) (h : B → C)
    → map h (in_turn size w xs F) ≡ in_turn size w xs (λ v x. map h (F v x))
unfolding in_turn
in_turn_map size w [] F h = refl
in_turn_map size w (x ∷ xs) F h = rw (map-append, in_turn_map size (w + size) xs F h) refl

-- a list by its entries
up_get : {A : Type 0} (xs : List A) (d : A) → xs ≡ up_from (length xs) 0 (λ i. get_or xs i d)
unfolding up_from
up_get [] d = refl
up_get {A} (x ∷ xs) d =
    ap {A = List A} {B = List A} (λ ys. x ∷ ys)
    (up_get xs d ∙ sym (up_shift (length xs) 0 (λ i. get_or (x ∷ xs) i d)))

-- pair number c of n shares
abbrev pub pair_number : ℕ → ℕ → Pair
pair_number n c = get_or (pairs n) c (pair_of 0 0)

-- blocks for all pairs, by the pairs' numbers
pub pairs_in_turn :
    {B : Type 0} (n size w : ℕ) (F : ℕ → Pair → List B)
    → in_turn size w (pairs n) F ≡ pieces_from (tri n) 0 (λ c. F (w + size * c) (pair_number n c))
pairs_in_turn n size w F =
    let all = up_get (pairs n) (pair_of 0 0) in
    ap {A = List Pair} (λ ps. in_turn size w ps F) all
    ∙ (simp zero-add at (in_turn_pieces size w (length (pairs n)) 0 (pair_number n) F))
    ∙ ap (λ (m : ℕ). pieces_from m 0 (λ c. F (w + size * c) (pair_number n c))) (pairs_length n 0)

-- a running sum's wires, those of the first sums and those of the others
adding_append :
    (o : ℕ → Origin) (m last : ℕ) (xs ys : List ℕ)
    → adding o m last (suc last) (xs ++ ys)
    ≡ adding o m last (suc last) xs ++ adding o (m + length xs) (last + length xs) (suc (last + length xs)) ys
unfolding adding
adding_append o m last [] ys = rw (add-zero m, add-zero last) refl
adding_append o m last (x ∷ xs) ys =
    let e : last + suc (length xs) ≡ suc last + length xs = omega arith in
    let k : m + suc (length xs) ≡ suc m + length xs = omega arith in
    rw (e, k, adding_append o (suc m) (suc last) xs ys) refl

adding_from :
    (o : ℕ → Origin) (m last c s : ℕ) (z : ℕ → ℕ)
    → map driver_of (adding o m (last + s) (suc (last + s)) (up_from c s z)) ≡ pieces_from c s (sum_gates last z)
unfolding adding pieces_from up_from
adding_from o m last zero s z = refl
adding_from o m last (suc c) s z =
    let e : suc (last + s) ≡ last + suc s = omega arith in rw (e, adding_from o (suc m) last c (suc s) z) refl

adding_pieces :
    (o : ℕ → Origin) (m last c : ℕ) (z : ℕ → ℕ)
    → map driver_of (adding o m last (suc last) (up_from c 0 z)) ≡ pieces_from c 0 (sum_gates last z)
adding_pieces o m last c z = rw add-zero at (adding_from o m last c 0 z)

-- z is the wire after the pair (j, i), while there is one, and the first wire of the pair (i, i + 1) where j is i
abbrev pub Upright : ℕ → ℕ → ℕ → ℕ → ℕ → Type 0
Upright n w i j z = 2 * z + 5 * (j * j) + 15 * j ≡ 2 * w + 10 * i + 10 * (n * j)

pub upright_start : (n w i : ℕ) → Upright n w i 0 (w + 5 * i)
upright_start n w i = omega arith

pub upright_turn :
    (n w i j z : ℕ) → j < i → i < n → Upright n w i j z → Upright n w i (j + 1) (z + 5 * (n - 2 - j))
upright_turn n w i j z h k e = omega arith

pub upright_high :
    (n w i j z : ℕ) → j < i → i < n → Upright n w i j z → z ≡ w + 5 * pair_at n j i + 5
upright_high n w i j z h k e = omega (arith, pair_closed n j i h k)

pub upright_within :
    (n w i j z : ℕ) → j < i → i < n → Upright n w i j z → z ≤ w + 5 * tri n
upright_within n w i j z h k e = omega (arith, upright_high n w i j z h k e, pair_below n j i h k)

pub upright_low :
    (n w i j z : ℕ) → suc i < n → j ≡ i → Upright n w i j z → z ≡ pair_wire w first (pair_at n i (suc i))
upright_low n w i j z h k e =
    let end : Upright n w i i z = rw k at e in omega (arith, pair_closed n i (suc i) (omega arith) h)

-- the wires of the pairs (i, j) follow one another
pub low_same :
    (G : Gadget) (n w i z v m : ℕ) → m ≡ n - suc i → (suc i < n → z ≡ pair_wire w first (pair_at n i (suc i)))
    → pieces_from (n - suc i) 0 (sum_gates v (λ j. pair_wire w G.low (pair_at n i (suc i + j)))) ≡ low_gates G z v m
low_same G n w i z v m e h =
    rw e
    (pieces_same (n - suc i) 0 _ _
    (λ c k.
    ap (λ (y : ℕ). gate XOR (v + c) y ∷ [])
    (omega (
      arith,
      h (omega arith),
      pair_closed n i (suc i) (omega arith) (omega arith),
      pair_closed n i (suc i + c) (omega arith) (omega arith),
    ))))

pub low_within :
    (G : Gadget) (n w i z c : ℕ) → z ≡ pair_wire w first (pair_at n i (suc i)) → suc i + c < n
    → pair_wire z G.low c < w + 5 * tri n
low_within G n w i z c e h =
    omega (
      arith,
      index_small G.low,
      pair_closed n i (suc i) (omega arith) (omega arith),
      pair_closed n i (suc i + c) (omega arith) h,
      pair_below n i (suc i + c) (omega arith) h,
    )

pub high_long : (G : Gadget) (n w v i : ℕ) → length (high_gates G n w v i) ≡ i
high_long G n w v i =
    omega (arith, pieces_long 1 i 0 (sum_gates v (λ j. pair_wire w G.high (pair_at n j i))) (λ _ _. refl))

pub row_long : (G : Gadget) (n w v : ℕ) (a b : List ℕ) (i : ℕ) → i < n → length (row_gates G n w v a b i) ≡ n
row_long G n w v a b i h =
    let lasts = sum_gates (v + i) (λ j. pair_wire w G.low (pair_at n i (suc i + j))) in
    let low = pieces_long 1 (n - suc i) 0 lasts (λ _ _. refl) in
    omega (arith, high_long G n w v i, length-append (high_gates G n w v i) (pieces_from (n - suc i) 0 lasts))

-- a row's wires
row_gates_lem :
    (G : Gadget) (n : ℕ) (part : Part → Origin) (w v : ℕ) (a b : List ℕ) (i : ℕ)
    → map driver_of (row_wires part a b (row n (pair_wire w G.low) (pair_wire w G.high)) v i) ≡ row_gates G n w v a b i
unfolding row
row_gates_lem G n part w v a b i =
    let o : ℕ → Origin = λ m. part (sum i m) in
    let high : ℕ → ℕ = λ j. pair_wire w G.high (pair_at n j i) in
    let low : ℕ → ℕ = λ j. pair_wire w G.low (pair_at n i j) in
    let moved = rw add-zero at (up_plus (n - suc i) (suc i) 0 low) in
    let long : length (up_from i 0 high) ≡ i = up_length i 0 high in
    ap {A = List Gate} {B = List Gate} (λ y. gate AND (share a i) (share b i) ∷ y)
    (rw (
      adding_append o 1 v (up_from i 0 high) (up_from (n - suc i) (suc i) low),
      map-append driver_of,
      long,
      moved,
      adding_pieces o 1 v i high,
      adding_pieces o (1 + i) (v + i) (n - suc i) (λ j. low (suc i + j)),
    )
    refl)

-- one gate for each share
shares_from :
    (m c : ℕ) (f : ℕ → Gate) (o : ℕ → Origin)
    → map driver_of (up_from m c (λ s. wire (f s) (o s))) ≡ pieces_from m c (λ s. f s ∷ [])
unfolding pieces_from up_from
shares_from zero c f o = refl
shares_from (suc m) c f o = rw (shares_from m (suc c) f o) refl

pub xor_gates_lem :
    (G : Gadget) (l n g w : ℕ) (a b : List ℕ) → map driver_of (new_wires G XOR l n g w a b) ≡ pieces_from n 0 (xor_gates a b)
xor_gates_lem G l n g w a b = shares_from n 0 (λ s. gate XOR (share a s) (share b s)) (xor_share g)

pub constant_gates_lem :
    (G : Gadget) (l n g w : ℕ) (a b : List ℕ)
    → map driver_of (new_wires G CONSTANT l n g w a b) ≡ pieces_from n 0 (constant_gates l)
constant_gates_lem G l n g w a b = shares_from n 0 (λ s. gate CONSTANT (cond (eqb s 0) l 0) 0) (constant_share g)

pub and_gates_lem :
    (G : Gadget) (n : ℕ) (part : Part → Origin) (w : ℕ) (a b : List ℕ)
    → map driver_of (and_wires G n part w a b) ≡ and_gates G n w a b
unfolding and_wires
and_gates_lem G n part w a b =
    let F = pair_wires G part a b in
    let v = w + 5 * tri n in
    let R = row_wires part a b (row n (pair_wire w G.low) (pair_wire w G.high)) in
    let is = up_from n 0 (λ i. i) in
    let of_rows : map driver_of (in_turn n v is R) ≡ rows_gates G n w v a b =
    in_turn_map n v is R driver_of
    ∙ (simp zero-add at (in_turn_pieces n v n 0 (λ i. i) (λ u i. map driver_of (R u i))))
    ∙ pieces_same n 0 _ _ (λ i _. row_gates_lem G n part w (v + n * i) a b i) in
    map-append driver_of (in_turn 5 w (pairs n) F) (in_turn n v is R)
    ∙ ap₂ {A = List Gate} {B = List Gate} {C = List Gate} (λ x y. x ++ y) (in_turn_map 5 w (pairs n) F driver_of) of_rows

pub and_gates_long : (G : Gadget) (n w : ℕ) (a b : List ℕ) → length (and_gates G n w a b) ≡ and_cost n
and_gates_long G n w a b =
    sym (ap length (and_gates_lem G n (and_part 0) w a b))
    ∙ length-map (and_wires G n (and_part 0) w a b) driver_of
    ∙ and_length G n (and_part 0) w a b

pub or_gates_lem :
    (G : Gadget) (l n g w : ℕ) (a b : List ℕ) → map driver_of (new_wires G OR l n g w a b) ≡ or_gates G n w a b
or_gates_lem G l n g w a b =
    or_driven G l n g w a b
    ∙ ap {A = List Gate} {B = List Gate}
    (λ gs. gate NOT (share a 0) 0 ∷ gate NOT (share b 0) 0 ∷ (gs ++ (gate NOT (share (and_shares n (suc (suc w))) 0) 0 ∷ [])))
    (and_gates_lem G n (λ p. or_part g (in_and p)) (suc (suc w)) (first_on w a) (first_on (suc w) b))

-- The traversals of wires in blocks, once: what holds of each wire at its number, and how a run's equations fall apart into
-- those of the blocks. Everything over pairs and rows goes through these laws.
-- Assumes nothing.
use mathlib.Core.Path.{◌≡◌, refl, sym, ap, ◌∙◌, subst, subst₂}
use mathlib.Core.List.{List, [], ◌∷◌, ◌++◌, map, map-append, append_assoc}
use Prim.Native.Nat.{ℕ, zero, suc, ◌+◌, ◌*◌, ◌<◌}
use native.Mathlib.Omega.{arith}
use lib.ListN.{length, get_or, length-append, length-map, get_or-append}
use lib.Seq.{get_or-append-add}
use Rattle.tables.specs.Runs.{randoms, drawn}
use Rattle.tables.proofs.Lists.{All}
use Rattle.tables.proofs.Run.{Solves, solves_append, total_append}
use Rattle.construction.specs.Shares.{up_from, in_turn}
use Rattle.construction.specs.Wires.{Wire, driver_of}
use Rattle.construction.proofs.Sum.{up_length, up_at}
use Rattle.tables.specs.Tables.{total}

-- P of each element with its wire number, the first being w
unfoldable pub Each : {A : Type 0} → (ℕ → A → Type 0) → ℕ → List A → Type 0
Each P w [] = Unit {0}
Each P w (x ∷ xs) = P w x × Each P (suc w) xs

pub each_append :
    {A : Type 0} (P : ℕ → A → Type 0) (w : ℕ) (xs ys : List A) → Each P w xs → Each P (w + length xs) ys
    → Each P w (xs ++ ys)
unfolding Each
each_append P w [] ys a b = subst (λ (x : ℕ). Each P x ys) (omega arith) b
each_append P w (x ∷ xs) ys a b =
    (a.0, each_append P (suc w) xs ys a.1 (subst (λ (x : ℕ). Each P x ys) (omega arith) b))

pub each_at :
    {A : Type 0} (P : ℕ → A → Type 0) (w : ℕ) (xs : List A) (i : ℕ) (d : A) → Each P w xs → i < length xs
    → P (w + i) (get_or xs i d)
unfolding Each
each_at P w [] i d a h = absurd (omega arith)
each_at P w (x ∷ xs) zero d a h = subst (λ (y : ℕ). P y x) (omega arith) a.0
each_at P w (x ∷ xs) (suc i) d a h =
    subst (λ (y : ℕ). P y (get_or xs i d)) (omega arith) (each_at P (suc w) xs i d a.1 (omega arith))

pub each_map :
    {A B : Type 0} (P : ℕ → A → Type 0) (Q : ℕ → B → Type 0) (f : A → B) → ((w : ℕ) (x : A) → P w x → Q w (f x))
    → (w : ℕ) (xs : List A) → Each P w xs → Each Q w (map f xs)
unfolding Each
each_map P Q f h w [] a = tt
each_map P Q f h w (x ∷ xs) a = (h w x a.0, each_map P Q f h (suc w) xs a.1)

-- every block has as many wires as its size, and draws d random bits
abbrev pub Spans : {A B : Type 0} → ℕ → (ℕ → A → List B) → A → Type 0
Spans size f x = (w : ℕ) → length (f w x) ≡ size

abbrev pub Draws : {A : Type 0} → ℕ → (ℕ → A → List Wire) → A → Type 0
Draws d f x = (w : ℕ) → randoms (map driver_of (f w x)) ≡ d

pub in_turn_length :
    {A B : Type 0} (size w : ℕ) (xs : List A) (f : ℕ → A → List B) → All (Spans size f) xs
    → length (in_turn size w xs f) ≡ size * length xs
unfolding All in_turn
in_turn_length size w [] f a = omega arith
in_turn_length size w (x ∷ xs) f a =
    length-append (f w x) (in_turn size (w + size) xs f)
    ∙ omega (arith, a.0 w, in_turn_length size (w + size) xs f a.1)

pub in_turn_append :
    {A B : Type 0} (size w : ℕ) (xs ys : List A) (f : ℕ → A → List B)
    → in_turn size w (xs ++ ys) f ≡ in_turn size w xs f ++ in_turn size (w + size * length xs) ys f
unfolding in_turn
in_turn_append {B = B} size w [] ys f = ap {A = ℕ} {B = List B} (λ v. in_turn size v ys f) {x = w} {y = w + size * 0} (omega arith)
in_turn_append {B = B} size w (x ∷ xs) ys f =
    let next : w + size + size * length xs ≡ w + size * suc (length xs) = omega arith in
    ap {A = List B} {B = List B} (λ l. f w x ++ l)
    (in_turn_append size (w + size) xs ys f ∙ rw next refl)
    ∙ sym (append_assoc (f w x) (in_turn size (w + size) xs f) (in_turn size (w + size * suc (length xs)) ys f))

pub in_turn_draws :
    {A : Type 0} (size d w : ℕ) (xs : List A) (f : ℕ → A → List Wire) → All (Draws d f) xs
    → randoms (map driver_of (in_turn size w xs f)) ≡ d * length xs
unfolding All in_turn total
in_turn_draws size d w [] f a = omega arith
in_turn_draws size d w (x ∷ xs) f a =
    rw map-append
    (total_append drawn (map driver_of (f w x)) (map driver_of (in_turn size (w + size) xs f))
    ∙ omega (arith, a.0 w, in_turn_draws size d (w + size) xs f a.1))

-- block q starts at wire w + size·q
pub each_in_turn :
    {A B : Type 0} (P : ℕ → B → Type 0) (size w : ℕ) (xs : List A) (f : ℕ → A → List B) (e : A) → All (Spans size f) xs
    → ((q : ℕ) → q < length xs → Each P (w + size * q) (f (w + size * q) (get_or xs q e)))
    → Each P w (in_turn size w xs f)
unfolding All Each in_turn
each_in_turn P size w [] f e a h = tt
each_in_turn P size w (x ∷ xs) f e a h =
    each_append P w (f w x) (in_turn size (w + size) xs f)
    (subst (λ (y : ℕ). Each P y (f y x)) (omega arith) (h 0 (omega arith)))
    (subst (λ (y : ℕ). Each P y (in_turn size (w + size) xs f))
    (omega (arith, a.0 w))
    (each_in_turn P size (w + size) xs f e a.1
    (λ q hq. subst (λ (y : ℕ). Each P y (f y (get_or xs q e))) (omega arith) (h (suc q) (omega arith)))))

-- what stands at place r of block q
pub in_turn_at :
    {A B : Type 0} (size w : ℕ) (xs : List A) (f : ℕ → A → List B) (e : A) (d : B) → All (Spans size f) xs
    → (q r p : ℕ) → q < length xs → r < size → p ≡ size * q + r
    → get_or (in_turn size w xs f) p d ≡ get_or (f (w + size * q) (get_or xs q e)) r d
unfolding All in_turn
in_turn_at size w [] f e d a q r p hq hr ep = absurd (omega arith)
in_turn_at size w (x ∷ xs) f e d a zero r p hq hr ep =
    let here : p ≡ r = omega arith in
    let from : w + size * 0 ≡ w = omega arith in
    rw (here, from) (get_or-append (f w x) (in_turn size (w + size) xs f) d r (omega (arith, a.0 w)))
in_turn_at size w (x ∷ xs) f e d a (suc q) r p hq hr ep =
    let rest = in_turn size (w + size) xs f in
    let past : p ≡ length (f w x) + (size * q + r) = omega (arith, a.0 w) in
    let from : w + size * suc q ≡ w + size + size * q = omega arith in
    rw (past, from)
    (get_or-append-add (f w x) rest (size * q + r) d
    ∙ in_turn_at size (w + size) xs f e d a.1 q r (size * q + r) (omega arith) hr refl)

pub each_up :
    {A : Type 0} (P : ℕ → A → Type 0) (c s w : ℕ) (f : ℕ → A) → ((i : ℕ) → i < c → P (w + i) (f (s + i)))
    → Each P w (up_from c s f)
unfolding Each up_from
each_up P zero s w f h = tt
each_up P (suc c) s w f h = (
  subst₂ (λ (y z : ℕ). P y (f z)) {x = w + 0} {y = w} {u = s + 0} {v = s} (omega arith) (omega arith) (h 0 (omega arith)),
  each_up P c (suc s) (suc w) f
      (λ i k. subst₂ (λ (y z : ℕ). P y (f z)) {x = w + suc i} {u = s + suc i} (omega arith) (omega arith) (h (suc i) (omega arith))),
)

-- the same where the blocks are numbered themselves, as rows are
pub each_rows :
    {B : Type 0} (P : ℕ → B → Type 0) (size n w : ℕ) (f : ℕ → ℕ → List B) → All (Spans size f) (up_from n 0 (λ i. i))
    → ((i : ℕ) → i < n → Each P (w + size * i) (f (w + size * i) i))
    → Each P w (in_turn size w (up_from n 0 (λ i. i)) f)
each_rows P size n w f a h =
    each_in_turn P size w (up_from n 0 (λ i. i)) f 0 a
    (λ q k.
    let hq : q < n = omega (arith, up_length n 0 (λ (i : ℕ). i)) in
    subst (λ (i : ℕ). Each P (w + size * q) (f (w + size * q) i))
    (sym (up_at n 0 (λ (i : ℕ). i) q 0 hq ∙ omega arith))
    (h q hq))

-- and its equations begin at random bit c + d·q
pub solves_in_turn :
    {A : Type 0} (size d w c : ℕ) (xs : List A) (f : ℕ → A → List Wire) (e : A) (r v : ℕ → ℕ)
    → All (Spans size f) xs → All (Draws d f) xs → Solves w c (map driver_of (in_turn size w xs f)) r v
    → (q : ℕ) → q < length xs
    → Solves (w + size * q) (c + d * q) (map driver_of (f (w + size * q) (get_or xs q e))) r v
unfolding All in_turn
solves_in_turn size d w c [] f e r v a b s q h = absurd (omega arith)
solves_in_turn size d w c (x ∷ xs) f e r v a b s q h =
    let gs = map driver_of (f w x) in
    let hs = map driver_of (in_turn size (w + size) xs f) in
    let t = solves_append w c gs hs r v (rw map-append at s) in
    let el : w + length gs ≡ w + size = ap (λ (y : ℕ). w + y) (length-map (f w x) driver_of ∙ a.0 w) in
    let er : c + randoms gs ≡ c + d = ap (λ (y : ℕ). c + y) (b.0 w) in
    let rest : Solves (w + size) (c + d) hs r v =
    subst₂ (λ (y z : ℕ). Solves y z hs r v) el er t.1 in
    go q h t.0 (solves_in_turn size d (w + size) (c + d) xs f e r v a.1 b.1 rest)
  where
    go : (q : ℕ) → q < suc (length xs) → Solves w c (map driver_of (f w x)) r v
        → ((q : ℕ) → q < length xs
        → Solves (w + size + size * q) (c + d + d * q) (map driver_of (f (w + size + size * q) (get_or xs q e))) r v)
        → Solves (w + size * q) (c + d * q) (map driver_of (f (w + size * q) (get_or (x ∷ xs) q e))) r v
    go zero h s₀ ss =
        subst₂ (λ (y z : ℕ). Solves y z (map driver_of (f y x)) r v) {y = w + size * 0} (omega arith) (omega arith) s₀
    go (suc q) h s₀ ss =
        subst₂ (λ (y z : ℕ). Solves y z (map driver_of (f y (get_or xs q e))) r v)
        (omega arith)
        (omega arith)
        (ss q (omega arith))

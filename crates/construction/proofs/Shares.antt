-- The shares of every plain wire add up to its plain value: kind by kind for one gate, then by induction over the gates.
-- Assumes nothing.
use mathlib.Core.Path.{◌≡◌, refl, sym, ap, ◌∙◌, subst, subst₂}
use mathlib.Core.Bool.{Bool, true, false, cond}
use mathlib.Core.List.{List, [], ◌∷◌, ◌++◌, map, map-append}
use Prim.Native.Nat.{ℕ, zero, suc, ◌+◌, ◌-◌, ◌*◌, ◌/◌, ◌%◌, ◌≤◌, ◌<◌}
use native.Mathlib.Nat.{zero-add}
use native.Mathlib.Omega.{arith}
use lib.Dec.{eqb, ltb}
use lib.ListN.{length, get_or, length-append, length-map, get_or-append}
use lib.Seq.{get_or_at}
use borrow.Author.Tests.{ltb-true, ltb-false, ne_eqb}
use Rattle.tables.specs.Tables.{Kind, NOT, XOR, AND, RANDOM, CONSTANT, OR, UNKNOWN, Gate, gate}
use Rattle.tables.specs.Runs.{xor, driven, drawn, randoms}
use Rattle.tables.proofs.Run.{Solves, solves_append}
use Rattle.tables.proofs.Accept.{PlainGate, PlainGates}
use Rattle.construction.specs.Shares.{up_from}
use Rattle.construction.specs.Gadgets.{Gadget}
use Rattle.construction.specs.Wires.{Part, in_and, Origin, and_part, xor_share, constant_share, or_part, wire, driver_of, share, first_on}
use Rattle.construction.specs.Wires.{and_wires, and_shares, and_cost, new_wires, cost, new_shares, masked, shares_after}
use Rattle.construction.specs.Counts.{draws}
use Rattle.construction.proofs.Sum.{sum_of, sum_add, sum_cong, sum_parity, up_length, up_all, sum_from, sum_by_index}
use Rattle.construction.proofs.Lawful.{Lawful}
use Rattle.construction.proofs.Costs.{or_and, or_and_length, or_driven, new_length, new_draws}
use Rattle.construction.proofs.Products.{and_adds}

-- n wires that add up to x modulo 2
abbrev pub Carries : ℕ → (ℕ → ℕ) → List ℕ → ℕ → Type 0
Carries n v a x = (length a ≡ n) × (sum_of v a % 2 ≡ x)

-- each plain wire has n shares, which add up to its value
abbrev pub Shared : ℕ → (ℕ → ℕ) → (ℕ → ℕ) → List (List ℕ) → Type 0
Shared n v x S = (i : ℕ) → i < length S → Carries n v (get_or S i []) (x i)

-- the values of wires of one kind, one for each share
pub share_values :
    (k : Kind) (c s w d : ℕ) (l m : ℕ → ℕ) (o : ℕ → Origin) (r v : ℕ → ℕ) → drawn k ≡ 0
    → Solves w d (map driver_of (up_from c s (λ i. wire (gate k (l i) (m i)) (o i)))) r v
    → (i : ℕ) → i < c → v (w + i) ≡ driven k (l (s + i)) (m (s + i)) v (r d)
unfolding Solves up_from
share_values k zero s w d l m o r v dry t i h = absurd (omega arith)
share_values k (suc c) s w d l m o r v dry t zero h =
    let e : w + 0 ≡ w = omega arith in
    let f : s + 0 ≡ s = omega arith in
    rw (e, f) t.0
share_values k (suc c) s w d l m o r v dry t (suc i) h =
    let e : w + suc i ≡ suc w + i = omega arith in
    let f : s + suc i ≡ suc s + i = omega arith in
    let same : d + drawn k ≡ d = omega (arith, dry) in
    rw (e, f) (share_values k c (suc s) (suc w) d l m o r v dry (rw same at t.1) i (omega arith))

-- a list's sum over its places, where its length is n
by_share :
    (n : ℕ) (v : ℕ → ℕ) (a : List ℕ) → length a ≡ n
    → sum_of v a ≡ sum_of (λ s. v (share a s)) (up_from n 0 (λ s. s))
by_share n v a e = rw e at (sum_by_index v 0 a)

mul_parity : (a b x y : ℕ) → a % 2 ≡ x → b % 2 ≡ y → (a * b) % 2 ≡ x * y
mul_parity a b x y p q =
    let ea : a ≡ x + 2 * (a / 2) = omega arith in
    let eb : b ≡ y + 2 * (b / 2) = omega arith in
    ap (λ (z : ℕ). (z * b) % 2) ea
    ∙ ap (λ (z : ℕ). ((x + 2 * (a / 2)) * z) % 2) eb
    ∙ go x y (a / 2) (b / 2) (omega arith) (omega arith)
  where
    go : (x y h k : ℕ) → x ≤ 1 → y ≤ 1 → ((x + 2 * h) * (y + 2 * k)) % 2 ≡ x * y
    go zero y h k p q = omega arith
    go (suc zero) y h k p q = omega arith
    go (suc (suc x)) y h k p q = absurd (omega arith)

-- NOT changes the sum by one
not_shares :
    (n w x : ℕ) (a : List ℕ) (v : ℕ → ℕ) → 1 ≤ n → ((q : ℕ) → v q ≤ 1) → Carries n v a x → v w ≡ 1 - v (share a 0)
    → Carries n v (first_on w a) (1 - x)
unfolding sum_of
not_shares n w x [] v one bits h s = absurd (omega arith)
not_shares n w x (z ∷ zs) v one bits h s = (h.0, omega (arith, bits z, h.1, s))

-- XOR adds the sums
xor_adds :
    (n w c g : ℕ) (a b : List ℕ) (r v : ℕ → ℕ) → length a ≡ n → length b ≡ n
    → Solves w c (map driver_of (up_from n 0 (λ s. wire (gate XOR (share a s) (share b s)) (xor_share g s)))) r v
    → sum_of v (up_from n w (λ s. s)) % 2 ≡ (sum_of v a + sum_of v b) % 2
xor_adds n w c g a b r v ha hb t =
    let ids = up_from n 0 (λ s. s) in
    let value : (i : ℕ) → i < n → v (w + i) ≡ xor (v (share a i)) (v (share b i)) =
    λ i h. rw zero-add at (share_values XOR n 0 w c (share a) (share b) (xor_share g) r v refl t i h) in
    let each : sum_of (λ i. v (w + i)) ids % 2 ≡ sum_of (λ i. v (share a i) + v (share b i)) ids % 2 =
    sum_parity _ _ ids (up_all _ n 0 (λ i. i) (λ i _ h. omega (arith, value i (omega arith)))) in
    omega (
      arith,
      sum_from v n w,
      sum_add (λ i. v (share a i)) (λ i. v (share b i)) ids,
      by_share n v a ha,
      by_share n v b hb,
    )

-- AND multiplies the sums
and_shares_lem :
    {G : Gadget} (L : Lawful G) (n : ℕ) (part : Part → Origin) (w c x y : ℕ) (a b : List ℕ) (r v : ℕ → ℕ)
    → ((q : ℕ) → v q ≤ 1) → Carries n v a x → Carries n v b y → Solves w c (map driver_of (and_wires G n part w a b)) r v
    → Carries n v (and_shares n w) (x * y)
and_shares_lem L n part w c x y a b r v bits left right s =
    let product = and_adds L n part w c a b r v s bits in (
      up_length n 0 _,
      rw (← by_share n v a left.0, ← by_share n v b right.0) at product
          ∙ mul_parity (sum_of v a) (sum_of v b) x y left.1 right.1,
    )

-- the shares of a constant add up to its value
constant_adds :
    (n w c g l : ℕ) (r v : ℕ → ℕ) → 1 ≤ n
    → Solves w c (map driver_of (up_from n 0 (λ s. wire (gate CONSTANT (cond (eqb s 0) l 0) 0) (constant_share g s)))) r v
    → sum_of v (up_from n w (λ s. s)) % 2 ≡ l % 2
unfolding sum_of up_from
constant_adds zero w c g l r v one t = absurd (omega arith)
constant_adds (suc n) w c g l r v one t =
    let value = share_values CONSTANT (suc n) 0 w c (λ s. cond (eqb s 0) l 0) (λ s. 0) (constant_share g) r v refl t in
    let first : v w ≡ l % 2 = ap v {x = w} {y = w + 0} (omega arith) ∙ value 0 (omega arith) in
    let others : sum_of v (up_from n (suc w) (λ s. s)) ≡ sum_of (λ s. 0) (up_from n (suc w) (λ s. s)) =
    sum_cong v (λ s. 0) _ (up_all _ n (suc w) (λ s. s) (λ i h k. go i h k value)) in
    omega (arith, first, others, sum_none (up_from n (suc w) (λ s. s)))
  where
    go : (i : ℕ) → suc w ≤ i → i < suc w + n
        → ((i : ℕ) → i < suc n → v (w + i) ≡ cond (eqb (0 + i) 0) l 0 % 2) → v i ≡ 0
    go i h k value =
        let d = i - suc w in
        ap v {x = i} {y = w + suc d} (omega arith) ∙ value (suc d) (omega arith) ∙ rw (ne_eqb (0 + suc d) 0 (λ e. omega arith))

    sum_none : (xs : List ℕ) → sum_of (λ s. 0) xs ≡ 0
    sum_none [] = refl
    sum_none (x ∷ xs) = omega (arith, sum_none xs)

-- what the wires of an OR satisfy: its three NOTs, and the AND between them
pub record OrSolves (G : Gadget) (n g w c : ℕ) (a b : List ℕ) (r v : ℕ → ℕ) : Type 0 where
  pub left : v w ≡ 1 - v (share a 0)
  pub right : v (suc w) ≡ 1 - v (share b 0)
  pub product : Solves (suc (suc w)) c (map driver_of (or_and G n g w a b)) r v
  pub last : v (suc (suc w) + and_cost n) ≡ 1 - v (share (and_shares n (suc (suc w))) 0)

pub or_solves :
    (G : Gadget) (l n g w c : ℕ) (a b : List ℕ) (r v : ℕ → ℕ) → Solves w c (map driver_of (new_wires G OR l n g w a b)) r v
    → OrSolves G n g w c a b r v
unfolding Solves
or_solves G l n g w c a b r v s =
    let last = gate NOT (share (and_shares n (suc (suc w))) 0) 0 ∷ [] in
    let same = subst (λ (gs : List Gate). Solves w c gs r v) (or_driven G l n g w a b) s in
    let rest = subst (λ (d : ℕ). Solves (suc (suc w)) d (map driver_of (or_and G n g w a b) ++ last) r v)
    {x = c + 0 + 0} {y = c} (omega arith) same.1.1 in
    let t = solves_append (suc (suc w)) c (map driver_of (or_and G n g w a b)) last r v rest in
    record { left = same.0; right = same.1.0; product = t.0; last = rw or_and_length at t.1.0 }

-- one gate that drives plain wire p, where its operands' shares add up to their values; a plain gate draws no bit
gate_shares :
    {G : Gadget} (L : Lawful G) (k : Kind) (n g w c p l m bit : ℕ) (a b : List ℕ) (r v x : ℕ → ℕ) → 1 ≤ n
    → ((q : ℕ) → v q ≤ 1) → PlainGate p k l m → (l < p → Carries n v a (x l)) → (m < p → Carries n v b (x m))
    → Solves w c (map driver_of (new_wires G k l n g w a b)) r v
    → Carries n v (new_shares k n w a) (driven k l m x bit)
unfolding Solves
gate_shares L NOT n g w c p l m bit a b r v x one bits pl ha hb s =
    not_shares n w (x l) a v one bits (ha pl) s.0
gate_shares L XOR n g w c p l m bit a b r v x one bits pl ha hb s =
    let left = ha pl.0 in
    let right = hb pl.1 in
    (up_length n w _, xor_adds n w c g a b r v left.0 right.0 s ∙ omega arith)
gate_shares L AND n g w c p l m bit a b r v x one bits pl ha hb s =
    and_shares_lem L n (and_part g) w c (x l) (x m) a b r v bits (ha pl.0) (hb pl.1) s
gate_shares L RANDOM n g w c p l m bit a b r v x one bits pl ha hb s = absurd pl
gate_shares L CONSTANT n g w c p l m bit a b r v x one bits pl ha hb s =
    (up_length n w _, constant_adds n w c g l r v one s)
gate_shares {G} L OR n g w c p l m bit a b r v x one bits pl ha hb s =
    let u = suc (suc w) in
    let wires = or_solves G l n g w c a b r v s in
    let product = and_shares_lem L n (λ p. or_part g (in_and p)) u c (1 - x l) (1 - x m) (first_on w a) (first_on (suc w) b) r v bits
    (not_shares n w (x l) a v one bits (ha pl.0) wires.left)
    (not_shares n (suc w) (x m) b v one bits (hb pl.1) wires.right)
    wires.product in
    not_shares n (u + and_cost n) ((1 - x l) * (1 - x m)) (and_shares n u) v one bits product wires.last
gate_shares L (UNKNOWN k) n g w c p l m bit a b r v x one bits pl ha hb s = absurd pl

-- one plain wire more
shared_next :
    (n : ℕ) (v x : ℕ → ℕ) (S : List (List ℕ)) (a : List ℕ) → Shared n v x S → Carries n v a (x (length S))
    → Shared n v x (S ++ (a ∷ []))
shared_next n v x S a h k i hi = go (ltb i (length S)) refl
  where
    go : (b : Bool) → ltb i (length S) ≡ b → Carries n v (get_or (S ++ (a ∷ [])) i []) (x i)
    go true e =
        let early : i < length S = ltb-true i (length S) e in
        rw (get_or-append S (a ∷ []) [] i early) (h i early)
    go false e =
        let last : i ≡ length S = omega (arith, ltb-false i (length S) e, length-append S (a ∷ [])) in
        rw (get_or_at S a [] [] i (sym last), last) k

-- the shares of every plain wire add up to its value; y and d are never used, as plain gates draw nothing
pub masked_shares :
    {G : Gadget} (L : Lawful G) (n g w c d : ℕ) (S : List (List ℕ)) (gs : List Gate) (r v y x : ℕ → ℕ) → 1 ≤ n
    → ((p : ℕ) → v p ≤ 1) → PlainGates (length S) gs → Solves w c (map driver_of (masked G n g w S gs)) r v
    → Solves (length S) d gs y x → Shared n v x S → Shared n v x (shares_after n w S gs)
unfolding masked shares_after PlainGates Solves
masked_shares L n g w c d S [] r v y x one bits pl s t h = h
masked_shares {G} L n g w c d S (z ∷ zs) r v y x one bits pl s t h =
    let k = z.kind in
    let a = get_or S z.left [] in
    let b = get_or S z.right [] in
    let T = S ++ (new_shares k n w a ∷ []) in
    let new = new_wires G k z.left n g w a b in
    let rest = masked G n (suc g) (w + cost k n) T zs in
    let u = solves_append w c (map driver_of new) (map driver_of rest) r v (rw map-append at s) in
    let long : w + length (map driver_of new) ≡ w + cost k n =
    ap (λ (q : ℕ). w + q) (length-map new driver_of ∙ new_length G k z.left n g w a b) in
    let drew : c + randoms (map driver_of new) ≡ c + draws k n = ap (λ (q : ℕ). c + q) (new_draws L k z.left n g w a b) in
    let more : suc (length S) ≡ length T = omega (arith, length-append S (new_shares k n w a ∷ [])) in
    let made = gate_shares L k n g w c (length S) z.left z.right (y d) a b r v x one bits
    pl.0
    (h z.left)
    (h z.right)
    u.0 in
    masked_shares L n (suc g) (w + cost k n) (c + draws k n) (d + drawn k) T zs r v y x one bits
    (rw more at pl.1)
    (subst₂ (λ (p q : ℕ). Solves p q (map driver_of rest) r v) long drew u.1)
    (rw more at t.1)
    (shared_next n v x S (new_shares k n w a) h (rw (← t.0) at made))

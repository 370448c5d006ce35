-- Where shares stand: each plain wire has n shares on wires before the next new wire, so every operand of a masked gate is an
-- earlier wire.
-- Assumes nothing.
use mathlib.Core.Path.{◌≡◌, refl, sym, ap, ap₂, ◌∙◌, subst}
use mathlib.Core.List.{List, [], ◌∷◌, ◌++◌, map, map-append}
use Prim.Native.Nat.{ℕ, zero, suc, ◌+◌, ◌*◌, ◌≤◌, ◌<◌}
use mathlib.Core.Bool.{Bool, true, false, cond}
use lib.Dec.{eqb}
use borrow.Author.Tests.{lt-ltb}
use Rattle.tables.proofs.Tests.{and_intro}
use native.Mathlib.Nat.{mul-le-mul_left}
use native.Mathlib.Omega.{arith}
use lib.ListN.{length, get_or, drop, length-append, length-map, length-drop}
use lib.Seq.{get_or-drop}
use Rattle.tables.specs.Tables.{Kind, NOT, XOR, AND, RANDOM, CONSTANT, OR, UNKNOWN, Gate, gate, Table, wires, known, total}
use Rattle.tables.specs.Tables.{left_read, value_stated, operands_of, operands_ok}
use Rattle.tables.proofs.Lists.{All, all_append, all_get_d, all_map}
use Rattle.tables.proofs.Format.{SoundGates, sound_append, sound_earlier}
use Rattle.tables.proofs.Run.{OfLeft, OfRight, read_left, Earlier}
use Rattle.tables.proofs.Accept.{PlainGate, PlainGates, Plain, plain_reads}
use Rattle.construction.specs.Shares.{shares_of, pair_of, pairs, tri, pair_at}
use Rattle.construction.specs.Gadgets.{Five, first, second, third, fourth, fifth, index_of, Gadget}
use Rattle.construction.specs.Wires.{Part, in_and, Origin, and_part, or_part, Wire, share, first_on, driver_of, adding, pair_wires}
use Rattle.construction.specs.Wires.{pair_wire, and_wires, and_shares, and_cost, new_wires, new_shares, input_shares, cost}
use Rattle.construction.specs.Wires.{masked, masked_wires, shares_after, output_shares}
use Rattle.construction.specs.Wires.{masked_table}
use Rattle.construction.proofs.Sum.{up_length, up_all}
use Rattle.construction.proofs.Rows.{pairs_length, pairs_in, pair_below, row_all}
use Rattle.construction.proofs.Each.{Each, each_up}
use Rattle.construction.proofs.Lawful.{Lawful, both_below}
use Rattle.construction.proofs.Costs.{or_and, or_and_length, or_driven, new_length, masked_wires_lem}
use Rattle.construction.proofs.Products.{row_terms, each_and}

-- n wires, all before wire w
abbrev pub Stands : ℕ → ℕ → List ℕ → Type 0
Stands n w a = (length a ≡ n) × All (λ x. x < w) a

abbrev pub Placed : ℕ → ℕ → List (List ℕ) → Type 0
Placed n w S = All (Stands n w) S

stands_later : (n w w' : ℕ) → w ≤ w' → (a : List ℕ) → Stands n w a → Stands n w' a
stands_later n w w' h a s = (s.0, all_map _ _ (λ x k. omega arith) a s.1)

pub share_below : (n w : ℕ) (a : List ℕ) → Stands n w a → (i : ℕ) → i < n → share a i < w
share_below n w a s i h = all_get_d _ a i 0 s.1 (omega (arith, s.0))

all_drop : {A : Type 0} (P : A → Type 0) (n : ℕ) (xs : List A) → All P xs → All P (drop n xs)
unfolding All
all_drop P zero xs a = a
all_drop P (suc n) [] a = a
all_drop P (suc n) (x ∷ xs) a = all_drop P n xs a.1

-- row i of n rows of n wires ends before the AND does
pub row_ends : (n i : ℕ) → i < n → n * i + n ≤ n * n
row_ends n i h = omega (arith, mul-le-mul_left n h)

-- the other shares, where the first is on another wire
pub drop_share : (a : List ℕ) (i : ℕ) → share (drop 1 a) i ≡ share a (suc i)
drop_share a i = get_or-drop 1 a i 0 ∙ ap (share a) {x = 1 + i} {y = suc i} (omega arith)

-- shares of which the first is on another wire
first_stands :
    (n w u : ℕ) (a : List ℕ) → 1 ≤ n → w ≤ u → Stands n w a → Stands n (suc u) (first_on u a)
unfolding All
first_stands n w u a h k s = (
  omega (arith, length-drop 1 a, s.0),
  (omega arith, all_map _ _ (λ x e. omega arith) (drop 1 a) (all_drop (λ x. x < w) 1 a s.1)),
)

and_stands : (n w : ℕ) → Stands n (w + and_cost n) (and_shares n w)
and_stands n w = (up_length n 0 _, up_all _ n 0 _ (λ i _ k. omega (arith, row_ends n i (omega arith))))

-- the wires of a result's shares come before what follows the gate
new_stands :
    (k : Kind) (n w p l r : ℕ) (a : List ℕ) → 1 ≤ n → PlainGate p k l r → OfLeft (operands_of k) (Stands n w a)
    → Stands n (w + cost k n) (new_shares k n w a)
new_stands NOT n w p l r a h g s =
    stands_later n (suc w) (w + 1) (omega arith) (first_on w a) (first_stands n w w a h (omega arith) s)
new_stands XOR n w p l r a h g s = (up_length n w _, up_all _ n w _ (λ i _ k. k))
new_stands AND n w p l r a h g s = and_stands n w
new_stands RANDOM n w p l r a h g s = absurd g
new_stands CONSTANT n w p l r a h g s = (up_length n w _, up_all _ n w _ (λ i _ k. k))
new_stands OR n w p l r a h g s =
    let u = suc (suc w) + and_cost n in
    stands_later n (suc u) (w + (and_cost n + 3)) (omega arith) (first_on u (and_shares n (suc (suc w))))
    (first_stands n u u (and_shares n (suc (suc w))) h (omega arith) (and_stands n (suc (suc w))))
new_stands (UNKNOWN c) n w p l r a h g s = absurd g

pub placed_inputs : (n m : ℕ) → Placed n (n * m) (input_shares n m)
placed_inputs n m =
    up_all _ m 0 _
    (λ i _ k. (up_length n (n * i) _, up_all _ n (n * i) _ (λ x _ h. omega (arith, mul-le-mul_left {m = suc i} {n = m} n (omega arith)))))

-- the gates of a plain table read among the inputs' shares and their own
pub plain_inputs : (n : ℕ) (t : Table) → Plain t → PlainGates (length (input_shares n t.inputs)) t.gates
plain_inputs n t P = subst (λ (y : ℕ). PlainGates y t.gates) (sym (up_length t.inputs 0 _)) P.gates

-- the shares that a plain gate reads
pub placed_at : (n w : ℕ) (S : List (List ℕ)) (i : ℕ) → Placed n w S → i < length S → Stands n w (get_or S i [])
placed_at n w S i P h = all_get_d (Stands n w) S i [] P h

pub placed_step :
    (k : Kind) (n w l r : ℕ) (S : List (List ℕ)) → 1 ≤ n → PlainGate (length S) k l r → Placed n w S
    → Placed n (w + cost k n) (S ++ (new_shares k n w (get_or S l []) ∷ []))
unfolding All
placed_step k n w l r S h g P =
    all_append _ S _
    (all_map _ _ (stands_later n w (w + cost k n) (omega arith)) S P) (
      new_stands k n w (length S) l r (get_or S l []) h g
          (read_left (operands_of k) (length S) l r (plain_reads (length S) k l r g) (placed_at n w S l P)),
      tt,
    )

-- the shares of an operand matter only where it is read
pub new_shares_read :
    (k : Kind) (n w : ℕ) (a a' : List ℕ) → OfLeft (operands_of k) (a ≡ a') → new_shares k n w a ≡ new_shares k n w a'
new_shares_read NOT n w a a' e = ap (first_on w) e
new_shares_read XOR n w a a' e = refl
new_shares_read AND n w a a' e = refl
new_shares_read RANDOM n w a a' e = refl
new_shares_read CONSTANT n w a a' e = refl
new_shares_read OR n w a a' e = refl
new_shares_read (UNKNOWN c) n w a a' e = refl

pub new_wires_read :
    (G : Gadget) (k : Kind) (l n g w : ℕ) (a a' b b' : List ℕ) → OfLeft (operands_of k) (a ≡ a') → OfRight (operands_of k) (b ≡ b')
    → new_wires G k l n g w a b ≡ new_wires G k l n g w a' b'
new_wires_read G NOT l n g w a a' b b' e f = ap (λ (x : List ℕ). new_wires G NOT l n g w x b) e
new_wires_read G XOR l n g w a a' b b' e f = ap₂ (new_wires G XOR l n g w) e f
new_wires_read G AND l n g w a a' b b' e f = ap₂ (new_wires G AND l n g w) e f
new_wires_read G RANDOM l n g w a a' b b' e f = refl
new_wires_read G CONSTANT l n g w a a' b b' e f = refl
new_wires_read G OR l n g w a a' b b' e f = ap₂ (new_wires G OR l n g w) e f
new_wires_read G (UNKNOWN c) l n g w a a' b b' e f = refl

-- a wire whose gate passes the checks
abbrev pub Ok : ℕ → Wire → Type 0
Ok w x =
    let g = x.driver in
    (known g.kind ≡ true) × (operands_ok w (operands_of g.kind) g.left g.right ≡ true)

each_sound : (w : ℕ) (xs : List Wire) → SoundGates w (map driver_of xs) → Each Ok w xs
unfolding SoundGates Each
each_sound w [] s = tt
each_sound w (x ∷ xs) s = (s.0, each_sound (suc w) xs s.1)

sound_each : (w : ℕ) (xs : List Wire) → Each Ok w xs → SoundGates w (map driver_of xs)
unfolding SoundGates Each
sound_each w [] s = tt
sound_each w (x ∷ xs) s = (s.0, sound_each (suc w) xs s.1)

adding_ok :
    (o : ℕ → Origin) (m last next : ℕ) (zs : List ℕ) → last < next → All (λ z. z < next) zs
    → Each Ok next (adding o m last next zs)
unfolding All Each adding
adding_ok o m last next [] h a = tt
adding_ok o m last next (z ∷ zs) h a = (
  (refl, both_below last z next h a.0),
  adding_ok o (suc m) next (suc next) zs (omega arith) (all_map _ _ (λ z k. omega arith) zs a.1),
)

pub index_small : (f : Five) → index_of f < 5
index_small first = omega arith
index_small second = omega arith
index_small third = omega arith
index_small fourth = omega arith
index_small fifth = omega arith

module _ {G : Gadget} (L : Lawful G) (n : ℕ) (part : Part → Origin) (w : ℕ) (a b : List ℕ) (sa : Stands n w a) (sb : Stands n w b)
  where
    pair_wire_below : (f : Five) (q : ℕ) → q < tri n → pair_wire w f q < w + 5 * tri n
    pair_wire_below f q h = omega (arith, index_small f)

    and_sound : SoundGates w (map driver_of (and_wires G n part w a b))
    unfolding Each
    and_sound =
        sound_each w (and_wires G n part w a b)
        (each_and G n part w a b Ok
        (λ q h.
        let p = get_or (pairs n) q (pair_of 0 0) in
        let k = all_get_d _ (pairs n) q (pair_of 0 0) (pairs_in n) (omega (arith, pairs_length n 0)) in
        let below : (i : ℕ) → i < n → (share a i < w + 5 * q) × (share b i < w + 5 * q) =
        λ i hi. omega (arith, share_below n w a sa i hi, share_below n w b sb i hi) in
        let lo = below p.lower (omega arith) in
        let up = below p.upper k.1 in
        each_sound (w + 5 * q) (pair_wires G part a b (w + 5 * q) p) (L.sound (w + 5 * q) _ _ _ _ lo.0 up.1 up.0 lo.1))
        (λ i h.
        let v = w + 5 * tri n + n * i in
        let ha : share a i < v = omega (arith, share_below n w a sa i h) in
        let hb : share b i < v = omega (arith, share_below n w b sb i h) in (
          (refl, both_below (share a i) (share b i) v ha hb),
          adding_ok _ 1 v (suc v) (row_terms G n w i) (omega arith)
              (row_all (λ z. z < suc v) n _ _ i h
              (λ j k. omega (arith, pair_wire_below G.high (pair_at n j i) (pair_below n j i k h)))
              (λ j k l. omega (arith, pair_wire_below G.low (pair_at n i j) (pair_below n i j k l)))),
        )))

-- the NOT of share 1
not_sound : (n w : ℕ) (a : List ℕ) → 1 ≤ n → Stands n w a → operands_ok w left_read (share a 0) 0 ≡ true
not_sound n w a h s = and_intro _ true (lt-ltb _ w (share_below n w a s 0 h)) refl

-- a constant's value, or 0
value_sound : (b : Bool) (w l : ℕ) → l ≤ 1 → operands_ok w value_stated (cond b l 0) 0 ≡ true
value_sound true w l h = and_intro _ true (lt-ltb l 2 (omega arith)) refl
value_sound false w l h = refl

new_sound :
    {G : Gadget} (L : Lawful G) (k : Kind) (n g w l r : ℕ) (S : List (List ℕ)) → 1 ≤ n → PlainGate (length S) k l r
    → Placed n w S → SoundGates w (map driver_of (new_wires G k l n g w (get_or S l []) (get_or S r [])))
unfolding SoundGates
new_sound L NOT n g w l r S h x P = ((refl, not_sound n w (get_or S l []) h (placed_at n w S l P x)), tt)
new_sound L XOR n g w l r S h x P =
    let a = get_or S l [] in
    let b = get_or S r [] in
    let sa = placed_at n w S l P x.0 in
    let sb = placed_at n w S r P x.1 in
    sound_each w _
    (each_up Ok n 0 w _
    (λ i k.
    let ha : share a (0 + i) < w + i = omega (arith, share_below n w a sa (0 + i) (omega arith)) in
    let hb : share b (0 + i) < w + i = omega (arith, share_below n w b sb (0 + i) (omega arith)) in
    (refl, both_below _ _ (w + i) ha hb)))
new_sound L AND n g w l r S h x P =
    and_sound L n (and_part g) w (get_or S l []) (get_or S r []) (placed_at n w S l P x.0) (placed_at n w S r P x.1)
new_sound L RANDOM n g w l r S h x P = absurd x
new_sound L CONSTANT n g w l r S h x P =
    sound_each w _ (each_up Ok n 0 w _ (λ i k. (refl, value_sound (eqb (0 + i) 0) (w + i) l x)))
new_sound {G} L OR n g w l r S h x P =
    let a = get_or S l [] in
    let b = get_or S r [] in
    let v = suc (suc w) in
    let sa = placed_at n w S l P x.0 in
    let sb = placed_at n w S r P x.1 in
    let now = and_sound L n (λ p. or_part g (in_and p)) v (first_on w a) (first_on (suc w) b)
    (stands_later n (suc w) v (omega arith) (first_on w a) (first_stands n w w a h (omega arith) sa))
    (first_stands n w (suc w) b h (omega arith) sb) in
    let last : SoundGates (v + length (map driver_of (or_and G n g w a b))) (gate NOT (share (and_shares n v) 0) 0 ∷ []) =
    rw or_and_length ((refl, not_sound n (v + and_cost n) (and_shares n v) h (and_stands n v)), tt) in
    subst (SoundGates w) (sym (or_driven G l n g w a b)) (
      (refl, not_sound n w a h sa),
      (
        (refl, not_sound n (suc w) b h (stands_later n w (suc w) (omega arith) b sb)),
        sound_append v (map driver_of (or_and G n g w a b)) _ now last,
      ),
    )
new_sound L (UNKNOWN c) n g w l r S h x P = absurd x

pub masked_sound :
    {G : Gadget} (L : Lawful G) (n g w : ℕ) (S : List (List ℕ)) (xs : List Gate) → 1 ≤ n → PlainGates (length S) xs
    → Placed n w S → SoundGates w (map driver_of (masked G n g w S xs))
unfolding masked PlainGates SoundGates
masked_sound L n g w S [] h x P = tt
masked_sound {G} L n g w S (y ∷ ys) h x P =
    let k = y.kind in
    let a = get_or S y.left [] in
    let ws = new_wires G k y.left n g w a (get_or S y.right []) in
    let T = S ++ (new_shares k n w a ∷ []) in
    let long : w + length (map driver_of ws) ≡ w + cost k n =
    ap (λ (z : ℕ). w + z) (length-map ws driver_of ∙ new_length G k y.left n g w a (get_or S y.right [])) in
    let one : suc (length S) ≡ length T = sym (length-append S (new_shares k n w a ∷ []) ∙ omega arith) in
    let rest = map driver_of (masked G n (suc g) (w + cost k n) T ys) in
    rw map-append
    (sound_append w (map driver_of ws) rest
    (new_sound L k n g w y.left y.right S h x.0 P)
    (subst (λ (z : ℕ). SoundGates z rest) (sym long)
    (masked_sound L n (suc g) (w + cost k n) T ys h
    (subst (λ (z : ℕ). PlainGates z ys) one x.1)
    (placed_step k n w y.left y.right S h x.0 P))))

-- the gates of the masked table of a plain one read earlier wires
pub masked_earlier :
    {G : Gadget} (L : Lawful G) (o : ℕ) (t : Table) → Plain t
    → Earlier (shares_of o * t.inputs) (map driver_of (masked_wires G o t))
masked_earlier L o t P =
    let n = shares_of o in
    sound_earlier (n * t.inputs) _
    (masked_sound L n 0 (n * t.inputs) _ t.gates (omega arith) (plain_inputs n t P) (placed_inputs n t.inputs))

-- once the gates are masked, every plain wire's shares stand among the wires
pub placed_after :
    (n w : ℕ) (S : List (List ℕ)) (xs : List Gate) → 1 ≤ n → PlainGates (length S) xs → Placed n w S
    → Placed n (w + total (λ k. cost k n) xs) (shares_after n w S xs)
unfolding PlainGates shares_after total
placed_after n w S [] h x P = subst (λ (y : ℕ). Placed n y S) {x = w} {y = w + 0} (omega arith) P
placed_after n w S (y ∷ ys) h x P =
    let k = y.kind in
    let a = new_shares k n w (get_or S y.left []) in
    let T = S ++ (a ∷ []) in
    let one : suc (length S) ≡ length T = sym (length-append S (a ∷ []) ∙ omega arith) in
    subst (λ (z : ℕ). Placed n z (shares_after n (w + cost k n) T ys))
    {x = w + cost k n + total (λ k. cost k n) ys}
    {y = w + (cost k n + total (λ k. cost k n) ys)}
    (omega arith)
    (placed_after n (w + cost k n) T ys h
    (subst (λ (z : ℕ). PlainGates z ys) one x.1)
    (placed_step k n w y.left y.right S h x.0 P))

pub shares_after_length :
    (n w : ℕ) (S : List (List ℕ)) (gs : List Gate) → length (shares_after n w S gs) ≡ length S + length gs
unfolding shares_after
shares_after_length n w S [] = omega arith
shares_after_length n w S (g ∷ gs) =
    shares_after_length n (w + cost g.kind n) (S ++ (new_shares g.kind n w (get_or S g.left []) ∷ [])) gs
    ∙ omega (arith, length-append S (new_shares g.kind n w (get_or S g.left []) ∷ []))

-- the masked outputs: n wires for each output
outputs_stand :
    (n w : ℕ) (S : List (List ℕ)) (os : List ℕ) → Placed n w S → All (λ o. o < length S) os
    → Stands (n * length os) w (output_shares S os)
unfolding All output_shares
outputs_stand n w S [] P a = (omega arith, tt)
outputs_stand n w S (o ∷ os) P a =
    let s = placed_at n w S o P a.0 in
    let rest = outputs_stand n w S os P a.1 in (
      length-append (get_or S o []) (output_shares S os) ∙ omega (arith, s.0, rest.0),
      all_append (λ x. x < w) (get_or S o []) (output_shares S os) s.1 rest.1,
    )

-- the masked outputs, n for each, are wires of the masked table
pub masked_outputs :
    (G : Gadget) (o : ℕ) (t : Table) → Plain t
    → Stands (shares_of o * length t.outputs) (wires (masked_table G o t)) (masked_table G o t).outputs
unfolding masked_table
masked_outputs G o t P =
    let n = shares_of o in
    let w = n * t.inputs in
    let S = input_shares n t.inputs in
    let long : length S ≡ t.inputs = up_length t.inputs 0 _ in
    let all : length (shares_after n w S t.gates) ≡ wires t =
    shares_after_length n w S t.gates ∙ ap (λ (y : ℕ). y + length t.gates) long in
    let placed =
    placed_after n w S t.gates (omega arith)
    (subst (λ (y : ℕ). PlainGates y t.gates) (sym long) P.gates)
    (placed_inputs n t.inputs) in
    subst (λ (y : ℕ). Stands (n * length t.outputs) y (output_shares (shares_after n w S t.gates) t.outputs))
    (sym (masked_wires_lem G o t))
    (outputs_stand n _ (shares_after n w S t.gates) t.outputs placed
    (all_map _ _ (λ i h. omega (arith, all)) t.outputs P.outputs))

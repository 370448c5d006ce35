-- Two runs whose random bits differ by the map's flips agree on every wire that does not carry the free share k, and so
-- on every share other than k: gate by gate, the AND by its pairs and its rows.
-- Assumes nothing.
use mathlib.Core.Path.{◌≡◌, refl, sym, ap, ap₂, ◌∙◌, subst, subst₂}
use mathlib.Core.Bool.{false, cond}
use mathlib.Core.List.{List, [], ◌∷◌, ◌++◌, map, map-append}
use Prim.Native.Nat.{ℕ, zero, suc, ◌+◌, ◌-◌, ◌*◌, ◌≤◌, ◌<◌}
use native.Mathlib.Omega.{arith}
use lib.Dec.{eqb}
use lib.ListN.{length, get_or, drop, length-map, length-drop, get_or-append}
use lib.Seq.{get_or-append-add}
use borrow.Author.Tests.{ne_eqb}
use Rattle.tables.specs.Tables.{Kind, NOT, XOR, AND, RANDOM, CONSTANT, OR, UNKNOWN, Gate, gate, operands_of, total}
use Rattle.tables.specs.Runs.{xor, randoms}
use Rattle.tables.proofs.Tests.{or_intro}
use Rattle.tables.proofs.Lists.{All, all_get_d}
use Rattle.tables.proofs.Run.{Solves, solves_append, OfLeft, OfRight}
use Rattle.tables.proofs.Accept.{PlainGate, PlainGates}
use Rattle.construction.specs.Shares.{up_from, Pair, pair_of, pairs, tri, pair_at}
use Rattle.construction.specs.Gadgets.{is_in, Five, Gadget}
use Rattle.construction.specs.Wires.{Part, pair, own, sum, in_and, last_not, Origin, and_part, xor_share, constant_share, or_part, part_marks}
use Rattle.construction.specs.Wires.{marks, Wire, wire, driver_of, share, first_on, adding, row_wires, pair_wire, and_wires, and_shares}
use Rattle.construction.specs.Wires.{and_cost, new_wires, new_shares, cost, masked, shares_after}
use Rattle.construction.specs.Counts.{draws}
use Rattle.construction.proofs.Sum.{up_length, up_at}
use Rattle.construction.proofs.Rows.{pairs_length, pairs_in, pair_at_lem, row_length, row_all}
use Rattle.construction.proofs.Each.{Each, each_append, each_at, each_up}
use Rattle.construction.proofs.Lawful.{Lawful}
use Rattle.construction.proofs.Costs.{adding_length, and_length, or_and, new_length, new_draws}
use Rattle.construction.proofs.Shares.{share_values, or_solves}
use Rattle.construction.proofs.Products.{row_terms, five_wire, each_five, and_share_at, each_and, and_pair, and_row}
use Rattle.construction.proofs.Placed.{drop_share}
use Rattle.construction.proofs.Gatewise.{masked_each}
use Rattle.secrecy.specs.Maps.{pair_flip, values_of, gate_flips}
use Rattle.secrecy.specs.Laws.{gates_flips}
use Rattle.secrecy.proofs.Flips.{gate_flips_length, first_not_flips}
use Rattle.construction.proofs.Hiding.{Hiding, not_first}

-- shares other than k have the same value in both runs
abbrev Off : (ℕ → ℕ) → (ℕ → ℕ) → ℕ → List ℕ → Type 0
Off v u k a = (i : ℕ) → i < length a → (suc i ≡ k → ⊥) → v (share a i) ≡ u (share a i)

-- a wire that does not carry k
abbrev pub Kept : Gadget → ℕ → (ℕ → ℕ) → (ℕ → ℕ) → ℕ → Wire → Type 0
Kept G k v u w x = is_in k (marks G x.origin) ≡ false → v w ≡ u w

-- n shares that agree off k
abbrev pub Alike : ℕ → (ℕ → ℕ) → (ℕ → ℕ) → ℕ → List ℕ → Type 0
Alike n v u k a = (length a ≡ n) × Off v u k a

uncarried : (k i : ℕ) → (i ≡ k → ⊥) → is_in k (i ∷ []) ≡ false
uncarried k i h = or_intro (eqb k i) false (ne_eqb k i (λ e. h (sym e))) refl

map_at : {A : Type 0} (f : A → ℕ) (xs : List A) (q : ℕ) (d : A) → q < length xs → get_or (map f xs) q 0 ≡ f (get_or xs q d)
map_at f [] q d h = absurd (omega arith)
map_at f (x ∷ xs) zero d h = refl
map_at f (x ∷ xs) (suc q) d h = map_at f xs q d (omega arith)

-- a running sum of what agrees agrees
adding_agrees :
    (o : ℕ → Origin) (m last next c : ℕ) (zs : List ℕ) (r s v u : ℕ → ℕ) → v last ≡ u last → All (λ z. v z ≡ u z) zs
    → Solves next c (map driver_of (adding o m last next zs)) r v
    → Solves next c (map driver_of (adding o m last next zs)) s u
    → Each (λ p x. v p ≡ u p) next (adding o m last next zs)
unfolding All Each adding Solves
adding_agrees o m last next c [] r s v u e a sv su = tt
adding_agrees o m last next c (z ∷ zs) r s v u e a sv su =
    let here : v next ≡ u next = sv.0 ∙ ap₂ xor e a.0 ∙ sym su.0 in
    (here, adding_agrees o (suc m) next (suc next) (c + 0) zs r s v u here a.1 sv.1 su.1)

-- the sums of row i carry share i alone
adding_kept :
    (G : Gadget) (part : Part → Origin) (same : (p : Part) → marks G (part p) ≡ part_marks G p) (k i m last next : ℕ)
    (zs : List ℕ) (v u : ℕ → ℕ)
    → ((suc i ≡ k → ⊥) → Each (λ p x. v p ≡ u p) next (adding (λ m. part (sum i m)) m last next zs))
    → Each (Kept G k v u) next (adding (λ m. part (sum i m)) m last next zs)
unfolding Each adding
adding_kept G part same k i m last next [] v u h = tt
adding_kept G part same k i m last next (z ∷ zs) v u h = (
  (λ e. (h (not_first k (suc i) [] (ap (is_in k) (sym (same (sum i m))) ∙ e)).0).0),
  adding_kept G part same k i (suc m) next (suc next) zs v u (λ ne. (h ne).1),
)

module _
    {G : Gadget} (H : Hiding G) (n : ℕ) (part : Part → Origin) (same : (p : Part) → marks G (part p) ≡ part_marks G p)
    (w c k : ℕ) (a b : List ℕ) (r s v u : ℕ → ℕ)
    (sa : Alike n v u k a) (sb : Alike n v u k b)
    (bv : (p : ℕ) → v p ≤ 1) (bu : (p : ℕ) → u p ≤ 1) (br : (q : ℕ) → r q ≤ 1)
    (sv : Solves w c (map driver_of (and_wires G n part w a b)) r v)
    (su : Solves w c (map driver_of (and_wires G n part w a b)) s u)
    (flips :
    (q : ℕ) → q < tri n → s (c + q) ≡ xor (r (c + q)) (get_or (gate_flips G AND n k a b v u) q 0))
  where
    both_agree : (i : ℕ) → i < n → (suc i ≡ k → ⊥) → (v (share a i) ≡ u (share a i)) × (v (share b i) ≡ u (share b i))
    both_agree i h ne = (sa.1 i (omega (arith, sa.0)) ne, sb.1 i (omega (arith, sb.0)) ne)

    -- the wires of pair number q agree where they do not carry k, p being its shares
    abbrev Agreed : ℕ → Pair → Type 0
    Agreed q p =
        (f : Five) → is_in k (G.marks (suc p.lower) (suc p.upper) f) ≡ false
        → v (pair_wire w f q) ≡ u (pair_wire w f q)

    pair_agrees : (q : ℕ) → q < tri n → Agreed q (get_or (pairs n) q (pair_of 0 0))
    pair_agrees q h =
        let p = get_or (pairs n) q (pair_of 0 0) in
        let long : q < length (pairs n) = omega (arith, pairs_length n 0) in
        let inside = all_get_d _ (pairs n) q (pair_of 0 0) (pairs_in n) long in
        H.agrees k (suc p.lower) (suc p.upper) (w + 5 * q) (c + q) _ _ _ _ r s v u
        (λ e. omega arith)
        bv
        bu
        (br (c + q))
        (and_pair H.lawful n part w c a b r v sv q h)
        (and_pair H.lawful n part w c a b s u su q h)
        (flips q h
        ∙ ap (λ (y : ℕ). xor (r (c + q)) y)
        (map_at (pair_flip G k (values_of v a) (values_of v b) (values_of u a) (values_of u b)) (pairs n) q (pair_of 0 0) long))
        (both_agree p.lower (omega arith))
        (both_agree p.upper (omega arith))

    -- the same where the pair is known
    pair_agrees_at :
        (q i j : ℕ) → q < tri n → get_or (pairs n) q (pair_of 0 0) ≡ pair_of i j → Agreed q (pair_of i j)
    pair_agrees_at q i j h e = subst (Agreed q) e (pair_agrees q h)

    -- what row i adds carries share i alone
    terms_agree : (i : ℕ) → i < n → (suc i ≡ k → ⊥) → All (λ z. v z ≡ u z) (row_terms G n w i)
    terms_agree i h ne =
        row_all (λ z. v z ≡ u z) n _ _ i h
        (λ j l.
        let at = pair_at_lem n j i (pair_of 0 0) l h in
        pair_agrees_at (pair_at n j i) j i at.0 at.1 G.high
        (ap (is_in k) (H.lawful.high_mark (suc j) (suc i)) ∙ uncarried k (suc i) ne))
        (λ j l m.
        let at = pair_at_lem n i j (pair_of 0 0) l m in
        pair_agrees_at (pair_at n i j) i j at.0 at.1 G.low
        (ap (is_in k) (H.lawful.low_mark (suc i) (suc j)) ∙ uncarried k (suc i) ne))

    abbrev row_from : ℕ → ℕ
    row_from i = w + 5 * tri n + n * i

    row_agrees :
        (i : ℕ) → i < n → (suc i ≡ k → ⊥)
        → Each (λ p x. v p ≡ u p) (row_from i) (row_wires part a b (row_terms G n w) (row_from i) i)
    unfolding Each Solves
    row_agrees i h ne =
        let tv = and_row H.lawful n part w c a b r v sv i h in
        let tu = and_row H.lawful n part w c a b s u su i h in
        let both = both_agree i h ne in
        let here : v (row_from i) ≡ u (row_from i) =
        tv.0 ∙ ap₂ (λ (x y : ℕ). x * y) both.0 both.1 ∙ sym tu.0 in
        (here, adding_agrees _ 1 _ _ _ _ r s v u here (terms_agree i h ne) tv.1 tu.1)

    row_kept :
        (i : ℕ) → i < n → Each (Kept G k v u) (row_from i) (row_wires part a b (row_terms G n w) (row_from i) i)
    unfolding Each
    row_kept i h = (
      (λ e. (row_agrees i h (not_first k (suc i) [] (ap (is_in k) (sym (same (own i))) ∙ e)).0).0),
      adding_kept G part same k i 1 _ _ _ v u (λ ne. (row_agrees i h ne).1),
    )

    and_kept : Each (Kept G k v u) w (and_wires G n part w a b)
    and_kept =
        each_and G n part w a b (Kept G k v u)
        (λ q h.
        let p = get_or (pairs n) q (pair_of 0 0) in
        each_five (Kept G k v u) (w + 5 * q) (five_wire G part a b (w + 5 * q) p)
        (λ f e. pair_agrees q h f (ap (is_in k) (sym (same (pair f p.lower p.upper))) ∙ e)))
        row_kept

    -- the last wire of each row
    and_alike : Alike n v u k (and_shares n w)
    and_alike = (
      up_length n 0 _,
      λ i h ne.
          let below : i < n = omega (arith, up_length n 0 (λ i. w + 5 * tri n + n * i + (n - 1))) in
          let long : n - 1 < length (row_wires part a b (row_terms G n w) (row_from i) i) =
          omega (
            arith,
            adding_length (λ m. part (sum i m)) 1 (row_from i) (suc (row_from i)) (row_terms G n w i),
            row_length n (pair_wire w G.low) (pair_wire w G.high) i below,
          ) in
          let at = and_share_at n w i below in
          ap v at
          ∙ each_at _ (row_from i) _ (n - 1) (wire (gate AND 0 0) (part (own i))) (row_agrees i below ne) long
          ∙ sym (ap u at),
    )

-- shares of which the first is on another wire, where that one agrees
first_alike :
    (n w k : ℕ) (a : List ℕ) (v u : ℕ → ℕ) → 1 ≤ n → Alike n v u k a → ((1 ≡ k → ⊥) → v w ≡ u w)
    → Alike n v u k (first_on w a)
first_alike n w k a v u one s h = (omega (arith, length-drop 1 a, s.0), off)
  where
    off : Off v u k (first_on w a)
    off zero l ne = h ne
    off (suc i) l ne =
        let at : share (drop 1 a) i ≡ share a (suc i) = drop_share a i in
        ap v at ∙ s.1 (suc i) (omega (arith, length-drop 1 a)) ne ∙ sym (ap u at)

-- the NOT of share 1
not_agrees :
    (n w k : ℕ) (a : List ℕ) (v u : ℕ → ℕ) → 1 ≤ n → Alike n v u k a → v w ≡ 1 - v (share a 0) → u w ≡ 1 - u (share a 0)
    → (1 ≡ k → ⊥) → v w ≡ u w
not_agrees n w k a v u one s ev eu ne = ev ∙ ap (λ (y : ℕ). 1 - y) (s.1 0 (omega (arith, s.0)) ne) ∙ sym eu

-- a gate for each share, marked by share
shares_agree :
    (G : Gadget) (n w k : ℕ) (d : ℕ → Gate) (o : ℕ → Origin) (v u : ℕ → ℕ) → ((s : ℕ) → marks G (o s) ≡ suc s ∷ [])
    → ((i : ℕ) → i < n → (suc i ≡ k → ⊥) → v (w + i) ≡ u (w + i))
    → Each (Kept G k v u) w (up_from n 0 (λ s. wire (d s) (o s))) × Alike n v u k (up_from n w (λ s. s))
shares_agree G n w k d o v u marked here = (
  each_up _ n 0 w _
      (λ i h e. here i h (λ q. (not_first k (suc (0 + i)) [] (ap (is_in k) (sym (marked (0 + i))) ∙ e)).0 (omega (arith, q)))),
  (
    up_length n w _,
    λ i hi ne.
        let below : i < n = omega (arith, up_length n w (λ (z : ℕ). z)) in
        let at : share (up_from n w (λ s. s)) i ≡ w + i = up_at n w (λ z. z) i 0 below in
        ap v at ∙ here i below ne ∙ sym (ap u at),
  ),
)

-- one gate, by kind
new_agrees :
    {G : Gadget} (H : Hiding G) (kd : Kind) (n g w c k p l r' : ℕ) (a b : List ℕ) (r s v u : ℕ → ℕ) → 1 ≤ n
    → PlainGate p kd l r' → OfLeft (operands_of kd) (Alike n v u k a) → OfRight (operands_of kd) (Alike n v u k b)
    → ((p : ℕ) → v p ≤ 1) → ((p : ℕ) → u p ≤ 1) → ((q : ℕ) → r q ≤ 1)
    → Solves w c (map driver_of (new_wires G kd l n g w a b)) r v
    → Solves w c (map driver_of (new_wires G kd l n g w a b)) s u
    → ((q : ℕ) → q < draws kd n → s (c + q) ≡ xor (r (c + q)) (get_or (gate_flips G kd n k a b v u) q 0))
    → Each (Kept G k v u) w (new_wires G kd l n g w a b) × Alike n v u k (new_shares kd n w a)
unfolding Each Solves
new_agrees H NOT n g w c k p l r' a b r s v u h x sa sb bv bu br sv su fl =
    let here = not_agrees n w k a v u h sa sv.0 su.0 in
    (((λ e. here (not_first k 1 [] e).0), tt), first_alike n w k a v u h sa here)
new_agrees {G} H XOR n g w c k p l r' a b r s v u h x sa sb bv bu br sv su fl =
    shares_agree G n w k _ (xor_share g) v u (λ i. refl)
    (λ i hi ne.
    let e : 0 + i ≡ i = omega arith in
    rw e at (share_values XOR n 0 w c (share a) (share b) (xor_share g) r v refl sv i hi)
    ∙ ap₂ xor (sa.1 i (omega (arith, sa.0)) ne) (sb.1 i (omega (arith, sb.0)) ne)
    ∙ sym (rw e at (share_values XOR n 0 w c (share a) (share b) (xor_share g) s u refl su i hi)))
new_agrees H AND n g w c k p l r' a b r s v u h x sa sb bv bu br sv su fl = (
  and_kept H n (and_part g) (λ q. refl) w c k a b r s v u sa sb bv bu br sv su fl,
  and_alike H n (and_part g) (λ q. refl) w c k a b r s v u sa sb bv bu br sv su fl,
)
new_agrees H RANDOM n g w c k p l r' a b r s v u h x sa sb bv bu br sv su fl = absurd x
new_agrees {G} H CONSTANT n g w c k p l r' a b r s v u h x sa sb bv bu br sv su fl =
    let value : ℕ → ℕ = λ i. cond (eqb i 0) l 0 in
    shares_agree G n w k _ (constant_share g) v u (λ i. refl)
    (λ i hi ne.
    share_values CONSTANT n 0 w c value (λ i. 0) (constant_share g) r v refl sv i hi
    ∙ sym (share_values CONSTANT n 0 w c value (λ i. 0) (constant_share g) s u refl su i hi))
new_agrees {G} H OR n g w c k p l r' a b r s v u h x sa sb bv bu br sv su fl =
    let t = suc (suc w) in
    let part : Part → Origin = λ p. or_part g (in_and p) in
    let one = or_solves G l n g w c a b r v sv in
    let other = or_solves G l n g w c a b s u su in
    let left = not_agrees n w k a v u h sa one.left other.left in
    let right = not_agrees n (suc w) k b v u h sb one.right other.right in
    let A = first_alike n w k a v u h sa left in
    let B = first_alike n (suc w) k b v u h sb right in
    let flips = first_not_flips G n k w a b v u one.left one.right other.left other.right in
    let F : (q : ℕ) → q < tri n
    → s (c + q) ≡ xor (r (c + q)) (get_or (gate_flips G AND n k (first_on w a) (first_on (suc w) b) v u) q 0) =
    λ q hq. fl q hq ∙ ap (λ (fs : List ℕ). xor (r (c + q)) (get_or fs q 0)) flips in
    let kept = and_kept H n part (λ q. refl) t c k _ _ r s v u A B bv bu br one.product other.product F in
    let product = and_alike H n part (λ q. refl) t c k _ _ r s v u A B bv bu br one.product other.product F in
    let last = not_agrees n (t + and_cost n) k (and_shares n t) v u h product one.last other.last in
    let end = wire (gate NOT (share (and_shares n t) 0) 0) (or_part g last_not) ∷ [] in
    let long : t + and_cost n ≡ t + length (or_and G n g w a b) =
    ap (λ (y : ℕ). t + y) (sym (and_length G n part t (first_on w a) (first_on (suc w) b))) in (
      (
        (λ e. left (not_first k 1 [] e).0),
        (
          (λ e. right (not_first k 1 [] e).0),
          each_append _ t (or_and G n g w a b) end kept
              (subst (λ (y : ℕ). Each (Kept G k v u) y end) long ((λ e. last (not_first k 1 [] e).0), tt)),
        ),
      ),
      first_alike n (t + and_cost n) k (and_shares n t) v u h product last,
    )
new_agrees H (UNKNOWN d) n g w c k p l r' a b r s v u h x sa sb bv bu br sv su fl = absurd x

-- the random bits of the second run: the first m and those after them
flips_split :
    (fs gs : List ℕ) (m t c : ℕ) (r s : ℕ → ℕ) → length fs ≡ m
    → ((q : ℕ) → q < m + t → s (c + q) ≡ xor (r (c + q)) (get_or (fs ++ gs) q 0))
    → ((q : ℕ) → q < m → s (c + q) ≡ xor (r (c + q)) (get_or fs q 0))
    × ((q : ℕ) → q < t → s (c + m + q) ≡ xor (r (c + m + q)) (get_or gs q 0))
flips_split fs gs m t c r s e h = (
  (λ q l. h q (omega arith) ∙ ap (xor (r (c + q))) (get_or-append fs gs 0 q (omega arith))),
  (λ q l.
      let at : c + m + q ≡ c + (length fs + q) = omega arith in
      rw at (h (length fs + q) (omega arith) ∙ ap (xor (r (c + (length fs + q)))) (get_or-append-add fs gs q 0))),
)

-- the equations of the first gate's wires and of the others
masked_split :
    {G : Gadget} (L : Lawful G) (kd : Kind) (l n g w c : ℕ) (a b : List ℕ) (rest : List Wire) (r v : ℕ → ℕ)
    → Solves w c (map driver_of (new_wires G kd l n g w a b ++ rest)) r v
    → Solves w c (map driver_of (new_wires G kd l n g w a b)) r v
    × Solves (w + cost kd n) (c + draws kd n) (map driver_of rest) r v
masked_split {G} L kd l n g w c a b rest r v s =
    let ws = new_wires G kd l n g w a b in
    let t = solves_append w c (map driver_of ws) (map driver_of rest) r v (rw map-append at s) in
    let long : w + length (map driver_of ws) ≡ w + cost kd n =
    ap (λ (y : ℕ). w + y) (length-map ws driver_of ∙ new_length G kd l n g w a b) in
    let bits : c + randoms (map driver_of ws) ≡ c + draws kd n =
    ap (λ (y : ℕ). c + y) (new_draws L kd l n g w a b) in
    (t.0, subst₂ (λ (x y : ℕ). Solves x y (map driver_of rest) r v) long bits t.1)

-- what is known of the gates that are left: the equations of their wires in both runs, from random bit `bits` on, and what the second
-- run flips
record Left (G : Gadget) (n k : ℕ) (r s v u : ℕ → ℕ) (g w : ℕ) (S : List (List ℕ)) (gs : List Gate) : Type 0 where
  bits : ℕ
  one : Solves w bits (map driver_of (masked G n g w S gs)) r v
  other : Solves w bits (map driver_of (masked G n g w S gs)) s u
  flips :
      (q : ℕ) → q < total (λ kd. draws kd n) gs
      → s (bits + q) ≡ xor (r (bits + q)) (get_or (gates_flips G n k w S gs v u) q 0)

-- the gates in table order; the shares come along, so that clocks can go on from them
pub masked_agrees :
    {G : Gadget} (H : Hiding G) (n g w c k : ℕ) (S : List (List ℕ)) (gs : List Gate) (r s v u : ℕ → ℕ) → 1 ≤ n
    → PlainGates (length S) gs → ((p : ℕ) → v p ≤ 1) → ((p : ℕ) → u p ≤ 1) → ((q : ℕ) → r q ≤ 1)
    → Solves w c (map driver_of (masked G n g w S gs)) r v
    → Solves w c (map driver_of (masked G n g w S gs)) s u
    → ((q : ℕ) → q < total (λ kd. draws kd n) gs
    → s (c + q) ≡ xor (r (c + q)) (get_or (gates_flips G n k w S gs v u) q 0))
    → All (Alike n v u k) S
    → Each (Kept G k v u) w (masked G n g w S gs) × All (Alike n v u k) (shares_after n w S gs)
unfolding masked total gates_flips
masked_agrees {G} H n g w c k S gs r s v u h x bv bu br sv su fl A =
    masked_each G n (Kept G k v u) (Alike n v u k) (Left G n k r s v u)
    (λ g w S y ys p sa sb L.
    let kd = y.kind in
    let a = get_or S y.left [] in
    let b = get_or S y.right [] in
    let T = S ++ (new_shares kd n w a ∷ []) in
    let rest = masked G n (suc g) (w + cost kd n) T ys in
    let tv = masked_split H.lawful kd y.left n g w L.bits a b rest r v L.one in
    let tu = masked_split H.lawful kd y.left n g w L.bits a b rest s u L.other in
    let fs = flips_split (gate_flips G kd n k a b v u) (gates_flips G n k (w + cost kd n) T ys v u) (draws kd n)
    (total (λ kd. draws kd n) ys) L.bits r s (gate_flips_length G kd n k a b v u) L.flips in (
      new_agrees H kd n g w L.bits k (length S) y.left y.right a b r s v u h p sa sb bv bu br tv.0 tu.0 fs.0,
      record { bits = L.bits + draws kd n; one = tv.1; other = tu.1; flips = fs.1 },
    ))
    g w S gs x A
    (record { bits = c; one = sv; other = su; flips = fl })

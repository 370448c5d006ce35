-- What the wires of a masked AND satisfy, for every lawful gadget: what holds of each wire of its pairs and rows holds of all, its
-- equations fall apart into those of its pairs and of its rows, and the last wires of the rows add up to the product of the sums.
-- Assumes nothing.
use mathlib.Core.Path.{◌≡◌, refl, ap, ◌∙◌, subst, subst₂}
use mathlib.Core.List.{List, [], ◌∷◌, map, map-append}
use Prim.Native.Nat.{ℕ, suc, ◌+◌, ◌-◌, ◌*◌, ◌%◌, ◌≤◌, ◌<◌}
use native.Mathlib.Omega.{arith}
use lib.ListN.{length, get_or, length-map}
use Rattle.tables.specs.Runs.{randoms}
use Rattle.tables.proofs.Run.{Solves, solves_append}
use Rattle.construction.specs.Shares.{up_from, in_turn, Pair, pair_of, pairs, tri, row}
use Rattle.construction.specs.Gadgets.{Five, first, second, third, fourth, fifth, all_five, index_of, Gadget}
use Rattle.construction.specs.Wires.{Part, pair, sum, Origin, Wire, wire, driver_of, share, pair_wires, adding, row_wires, pair_wire}
use Rattle.construction.specs.Wires.{and_wires, and_shares}
use Rattle.construction.proofs.Sum.{sum_of, sum_add, sum_parity, up_length, up_at, up_all, up_ids, sum_by_index, square}
use Rattle.construction.proofs.Rows.{pairs_length, row_length, rows_sum}
use Rattle.construction.proofs.Each.{Each, each_append, each_in_turn, each_rows, in_turn_length, in_turn_draws, solves_in_turn}
use Rattle.construction.proofs.Lawful.{Lawful}
use Rattle.construction.proofs.Costs.{pairs_span, rows_span, pairs_draw, rows_draw}

-- a running sum ends in the sum, modulo 2
adding_adds :
    (o : ℕ → Origin) (m last next c : ℕ) (zs : List ℕ) (r v : ℕ → ℕ) → next ≡ suc last
    → Solves next c (map driver_of (adding o m last next zs)) r v
    → v (last + length zs) % 2 ≡ (v last + sum_of v zs) % 2
unfolding adding Solves sum_of
adding_adds o m last next c [] r v e s =
    ap (λ (y : ℕ). y % 2) (ap v {x = last + 0} {y = last} (omega arith) ∙ omega arith)
adding_adds o m last next c (z ∷ zs) r v e s =
    let at : v (last + suc (length zs)) ≡ v (next + length zs) =
    ap v {x = last + suc (length zs)} {y = next + length zs} (omega arith) in
    omega (arith, s.0, adding_adds o (suc m) next (suc next) (c + 0) zs r v refl s.1)

-- what row i adds, where the AND's first wire is w
abbrev pub row_terms : Gadget → ℕ → ℕ → ℕ → List ℕ
row_terms G n w = row n (pair_wire w G.low) (pair_wire w G.high)

-- one of the five wires of a pair, from wire w on
abbrev pub five_wire : Gadget → (Part → Origin) → List ℕ → List ℕ → ℕ → Pair → Five → Wire
five_wire G part a b w p f =
    let i = p.lower in
    let j = p.upper in
    wire (G.gates w (share a i) (share b j) (share a j) (share b i) f) (part (pair f i j))

-- what holds of each of the five wires
pub each_five :
    (P : ℕ → Wire → Type 0) (w : ℕ) (x : Five → Wire) → ((f : Five) → P (w + index_of f) (x f)) → Each P w (map x all_five)
unfolding Each
each_five P w x h = (
  subst (λ (y : ℕ). P y (x first)) (omega arith) (h first),
  (
    subst (λ (y : ℕ). P y (x second)) (omega arith) (h second),
    (
      subst (λ (y : ℕ). P y (x third)) (omega arith) (h third),
      (
        subst (λ (y : ℕ). P y (x fourth)) (omega arith) (h fourth),
        (subst (λ (y : ℕ). P y (x fifth)) (omega arith) (h fifth), tt),
      ),
    ),
  ),
)

-- share i of the result is the last wire of row i
pub and_share_at : (n w i : ℕ) → i < n → share (and_shares n w) i ≡ w + 5 * tri n + n * i + (n - 1)
and_share_at n w i h =
    up_at n 0 (λ i. w + 5 * tri n + n * i + (n - 1)) i 0 h
    ∙ ap (λ (i : ℕ). w + 5 * tri n + n * i + (n - 1)) {x = 0 + i} {y = i} (omega arith)

-- what holds of the wires of each pair and of each row holds of the AND's
pub each_and :
    (G : Gadget) (n : ℕ) (part : Part → Origin) (w : ℕ) (a b : List ℕ) (P : ℕ → Wire → Type 0)
    → ((q : ℕ) → q < tri n → Each P (w + 5 * q) (pair_wires G part a b (w + 5 * q) (get_or (pairs n) q (pair_of 0 0))))
    → ((i : ℕ) → i < n
    → Each P (w + 5 * tri n + n * i) (row_wires part a b (row_terms G n w) (w + 5 * tri n + n * i) i))
    → Each P w (and_wires G n part w a b)
unfolding and_wires
each_and G n part w a b P pair-holds row-holds =
    let ps = in_turn 5 w (pairs n) (pair_wires G part a b) in
    let rs = in_turn n (w + 5 * tri n) (up_from n 0 (λ i. i)) (row_wires part a b (row_terms G n w)) in
    let long : w + 5 * tri n ≡ w + length ps =
    omega (arith, in_turn_length 5 w (pairs n) (pair_wires G part a b) (pairs_span G n part a b), pairs_length n 0) in
    each_append P w ps rs
    (each_in_turn P 5 w (pairs n) (pair_wires G part a b) (pair_of 0 0) (pairs_span G n part a b)
    (λ q h. pair-holds q (omega (arith, pairs_length n 0))))
    (subst (λ (y : ℕ). Each P y rs) long (each_rows P n n (w + 5 * tri n) _ (rows_span G n part a b _ _) row-holds))

module _
    {G : Gadget} (L : Lawful G) (n : ℕ) (part : Part → Origin) (w c : ℕ) (a b : List ℕ) (r v : ℕ → ℕ)
    (s : Solves w c (map driver_of (and_wires G n part w a b)) r v)
  where
    and_halves :
        Solves w c (map driver_of (in_turn 5 w (pairs n) (pair_wires G part a b))) r v
        × Solves (w + 5 * tri n) (c + tri n)
        (map driver_of (in_turn n (w + 5 * tri n) (up_from n 0 (λ i. i)) (row_wires part a b (row_terms G n w)))) r v
    unfolding and_wires
    and_halves =
        let ps = in_turn 5 w (pairs n) (pair_wires G part a b) in
        let rs = in_turn n (w + 5 * tri n) (up_from n 0 (λ i. i)) (row_wires part a b (row_terms G n w)) in
        let t = solves_append w c (map driver_of ps) (map driver_of rs) r v (rw map-append at s) in
        let span = in_turn_length 5 w (pairs n) (pair_wires G part a b) (pairs_span G n part a b) in
        let draw = in_turn_draws 5 1 w (pairs n) (pair_wires G part a b) (pairs_draw G n part a b L) in
        let long : w + length (map driver_of ps) ≡ w + 5 * tri n =
        omega (arith, length-map ps driver_of, pairs_length n 0) in
        let bits : c + randoms (map driver_of ps) ≡ c + tri n = omega (arith, pairs_length n 0) in
        (t.0, subst₂ (λ (x y : ℕ). Solves x y (map driver_of rs) r v) long bits t.1)

    -- the equations of pair q
    pub and_pair :
        (q : ℕ) → q < tri n
        → (let p = get_or (pairs n) q (pair_of 0 0) in
        Solves (w + 5 * q) (c + q)
        (map (G.gates (w + 5 * q) (share a p.lower) (share b p.upper) (share a p.upper) (share b p.lower))
        all_five)
        r v)
    and_pair q h =
        let t = solves_in_turn 5 1 w c (pairs n) (pair_wires G part a b) (pair_of 0 0) r v
        (pairs_span G n part a b)
        (pairs_draw G n part a b L)
        and_halves.0
        q
        (omega (arith, pairs_length n 0)) in
        let e : c + 1 * q ≡ c + q = omega arith in
        rw e at t

    -- and of row i
    pub and_row :
        (i : ℕ) → i < n
        → Solves (w + 5 * tri n + n * i) (c + tri n)
        (map driver_of (row_wires part a b (row_terms G n w) (w + 5 * tri n + n * i) i)) r v
    and_row i h =
        let zs = row_terms G n w in
        let t = solves_in_turn n 0 (w + 5 * tri n) (c + tri n) (up_from n 0 (λ i. i)) (row_wires part a b zs) 0 r v
        (rows_span G n part a b (pair_wire w G.low) (pair_wire w G.high))
        (rows_draw G n part a b zs)
        and_halves.1
        i
        (omega (arith, up_length {A = ℕ} n 0 (λ i. i))) in
        let at : get_or (up_from n 0 (λ i. i)) i 0 ≡ i = up_at n 0 (λ i. i) i 0 h ∙ omega arith in
        let e : c + tri n + 0 * i ≡ c + tri n = omega arith in
        rw (e, at) at t

    -- the last wire of row i is its own product and what it adds
    row_adds :
        (i : ℕ) → i < n
        → v (w + 5 * tri n + n * i + (n - 1)) % 2 ≡ (v (share a i) * v (share b i) + sum_of v (row_terms G n w i)) % 2
    unfolding Solves
    row_adds i h =
        let at = w + 5 * tri n + n * i in
        let zs = row_terms G n w i in
        let t = and_row i h in
        let long : length zs ≡ n - 1 = omega (arith, row_length n (pair_wire w G.low) (pair_wire w G.high) i h) in
        let ends = adding_adds (λ m. part (sum i m)) 1 at (suc at) (c + tri n + 0) zs r v refl t.1 in
        rw long at ends ∙ ap (λ (y : ℕ). (y + sum_of v zs) % 2) t.0

    -- the shares of the result add up to the product
    pub and_adds :
        ((p : ℕ) → v p ≤ 1)
        → sum_of v (and_shares n w) % 2
        ≡ (sum_of (λ s. v (share a s)) (up_from n 0 (λ s. s)) * sum_of (λ s. v (share b s)) (up_from n 0 (λ s. s))) % 2
    and_adds bits =
        let ids = up_from n 0 (λ s. s) in
        let own : ℕ → ℕ = λ i. v (share a i) * v (share b i) in
        let added : ℕ → ℕ = λ i. sum_of v (row_terms G n w i) in
        let two : ℕ → ℕ = λ q. v (pair_wire w G.low q) + v (pair_wire w G.high q) in
        let both : Pair → ℕ =
        λ p. v (share a p.lower) * v (share b p.upper) + v (share a p.upper) * v (share b p.lower) in
        let cross : ℕ → ℕ = λ q. both (get_or (pairs n) q (pair_of 0 0)) in
        let last : ℕ → ℕ = λ i. w + 5 * tri n + n * i + (n - 1) in
        let ends : sum_of v (up_from n 0 last) ≡ sum_of (λ i. v (last i)) ids = up_ids v n 0 last in
        let rows : sum_of (λ i. v (last i)) ids % 2 ≡ sum_of (λ i. own i + added i) ids % 2 =
        sum_parity _ _ ids (up_all _ n 0 (λ i. i) (λ i _ h. row_adds i (omega arith))) in
        let apart : sum_of (λ i. own i + added i) ids ≡ sum_of own ids + sum_of added ids = sum_add own added ids in
        let once : sum_of added ids ≡ sum_of two (up_from (tri n) 0 (λ q. q)) =
        rows_sum n v (pair_wire w G.low) (pair_wire w G.high) in
        let pairwise : sum_of two (up_from (tri n) 0 (λ q. q)) % 2 ≡ sum_of cross (up_from (tri n) 0 (λ q. q)) % 2 =
        sum_parity _ _ (up_from (tri n) 0 (λ q. q))
        (up_all _ (tri n) 0 (λ q. q)
        (λ q _ h. L.adds (w + 5 * q) (c + q) _ _ _ _ r v bits (and_pair q (omega arith)))) in
        let listed : sum_of both (pairs n) ≡ sum_of cross (up_from (tri n) 0 (λ q. q)) =
        rw pairs_length at (sum_by_index both (pair_of 0 0) (pairs n)) in
        let product = square n 0 (λ s. v (share a s)) (λ s. v (share b s)) in
        omega arith

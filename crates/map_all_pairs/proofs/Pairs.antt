-- Pairs in both runs: what is left of a list of pairs after some of them, for any lawful gadget. What they flip is read off wires
-- that come before all pairs.
-- Assumes nothing.
use mathlib.Core.Path.{◌≡◌, refl, sym, ap, ◌∙◌, subst, subst₂}
use mathlib.Core.List.{List, [], ◌∷◌, ◌++◌, map, map-append}
use Prim.Native.Nat.{ℕ, suc, ◌+◌, ◌-◌, ◌*◌, ◌≤◌, ◌<◌}
use native.Mathlib.Omega.{arith}
use lib.ListN.{length, get_or, length-append, length-map}
use Rattle.tables.specs.Tables.{Gate, total}
use Rattle.tables.specs.Runs.{drawn, randoms}
use Rattle.tables.specs.Inside.{ran_on}
use Rattle.tables.proofs.Lists.{All}
use Rattle.tables.proofs.Run.{total_append}
use Rattle.tables.proofs.Ran.{ran_keep}
use Rattle.construction.specs.Shares.{up_from, in_turn, Pair, pair_of, pairs_from, tri}
use Rattle.construction.specs.Gadgets.{all_five, differs, Gadget}
use Rattle.construction.specs.Wires.{share}
use Rattle.construction.proofs.Sum.{up_all}
use Rattle.construction.proofs.Each.{in_turn_append, in_turn_length}
use Rattle.construction.proofs.Costs.{all_of}
use Rattle.construction.proofs.Lawful.{Lawful}
use Rattle.secrecy.specs.Maps.{flipped}
use Rattle.secrecy.specs.Both.{wires_flip, BothFlip, BothReady, bits_for}
use Rattle.secrecy.proofs.Flips.{pairs_flips_same}
use Rattle.secrecy.proofs.FlipsAt.{flipped_long}
use Rattle.secrecy.proofs.Both.{BothLeft, left_end, FlipsLeft, flips_more, flips_start, tape_after, one_after, other_after}
use Rattle.layout.specs.Layout.{pair_gates}
use Rattle.map_all_pairs.specs.Pairing.{share_pairs}

-- the pairs ps are left; the runs began with the values v and u on the wires before w₀, where the shares a and b stand
pub record PairsLeft (G : Gadget) (k w₀ : ℕ) (a b : List ℕ) (v u : ℕ → ℕ) (ps : List Pair) (ts : List ℕ) (at w : ℕ)
    (M A B m x y : List ℕ) : Type 0 where
  pub left : FlipsLeft (in_turn 5 w ps (pair_gates G a b)) (map (wires_flip G k a b v u) ps) ts at w M A B m x y
  pub one : (p : ℕ) → p < w₀ → get_or x p 0 ≡ v p
  pub other : (p : ℕ) → p < w₀ → get_or y p 0 ≡ u p
  pub low : w₀ ≤ w

pub pairs_long : (G : Gadget) (a b : List ℕ) (w : ℕ) (ps : List Pair) → length (in_turn 5 w ps (pair_gates G a b)) ≡ 5 * length ps
pairs_long G a b w ps = in_turn_length 5 w ps (pair_gates G a b) (all_of _ (λ p w. refl) ps)

pub pairs_draw :
    {G : Gadget} → Lawful G → (a b : List ℕ) (w : ℕ) (ps : List Pair) → randoms (in_turn 5 w ps (pair_gates G a b)) ≡ length ps
unfolding in_turn total
pairs_draw L a b w [] = refl
pairs_draw {G} L a b w (p ∷ ps) =
    let one : randoms (pair_gates G a b w p) ≡ 1 =
    L.one_random w (share a p.lower) (share b p.upper) (share a p.upper) (share b p.lower) in
    total_append drawn (pair_gates G a b w p) (in_turn 5 (w + 5) ps (pair_gates G a b))
    ∙ omega (arith, pairs_draw L a b (w + 5) ps)

-- the values on the wires before w₀ stay
kept :
    (gs : List Gate) (rs : List ℕ) (w₀ w : ℕ) (v : ℕ → ℕ) (x : List ℕ) {x' : List ℕ} → w₀ ≤ w → w + length gs ≤ length x
    → x' ≡ ran_on gs rs w x → ((p : ℕ) → p < w₀ → get_or x p 0 ≡ v p) → (p : ℕ) → p < w₀ → get_or x' p 0 ≡ v p
kept gs rs w₀ w v x low fits e same p h =
    ap (λ (l : List ℕ). get_or l p 0) e ∙ ran_keep gs rs w x fits p (omega arith) ∙ same p h

pairs_start :
    (G : Gadget) (k w : ℕ) (a b : List ℕ) (ps : List Pair) {ts : List ℕ} {at : ℕ} {m x y : List ℕ}
    → BothReady w (5 * length ps) at (length ps) ts m x y
    → let gs = in_turn 5 w ps (pair_gates G a b) in
    let fs = map (wires_flip G k a b (λ p. get_or x p 0) (λ p. get_or y p 0)) ps in
    PairsLeft G k w a b (λ p. get_or x p 0) (λ p. get_or y p 0) ps ts at w
    (tape_after fs ts at m)
    (one_after gs fs ts at w x)
    (other_after gs fs ts at w y)
    m x y
pairs_start G k w a b ps {ts} {at} {m} {x} {y} R =
    let fs = map (wires_flip G k a b (λ p. get_or x p 0) (λ p. get_or y p 0)) ps in
    record {
      left =
          flips_start
          (subst₂ (λ (c d : ℕ). BothReady w c at d ts m x y)
          (sym (pairs_long G a b w ps))
          (sym (length-map ps (wires_flip G k a b (λ p. get_or x p 0) (λ p. get_or y p 0))))
          R);
      one = λ p h. refl;
      other = λ p h. refl;
      low = omega arith;
    }

module _ {G : Gadget} {k w₀ : ℕ} {a b : List ℕ} {v u : ℕ → ℕ} {all : List Pair} {ts : List ℕ} {at w : ℕ}
    {M A B m x y : List ℕ}
    (P : PairsLeft G k w₀ a b v u all ts at w M A B m x y) where
  -- what the pairs that are left need
  pairs_ready : BothReady w (5 * length all) at (length all) ts m x y
  pairs_ready =
      let fs = map (wires_flip G k a b v u) all in
      subst₂ (λ (c d : ℕ). BothReady w c at d ts m x y)
      (pairs_long G a b w all)
      (flipped_long fs at ts P.left.fits ∙ length-map all (wires_flip G k a b v u))
      P.left.left.ready

  pairs_more :
      Lawful G → (n : ℕ) (ps qs : List Pair) {at' w' : ℕ} {m' x' y' : List ℕ} → all ≡ ps ++ qs
      → All (λ p. (p.lower < p.upper) × (p.upper < n)) ps
      → ((i : ℕ) → i < n → share a i < w₀)
      → ((i : ℕ) → i < n → share b i < w₀)
      → BothFlip (in_turn 5 w ps (pair_gates G a b)) (map (wires_flip G k a b (λ p. get_or x p 0) (λ p. get_or y p 0)) ps) ts at w
      m m' x x' y y'
      → at' ≡ at + length ps → w' ≡ w + 5 * length ps → PairsLeft G k w₀ a b v u qs ts at' w' M A B m' x' y'
  pairs_more L n ps qs {at'} {w'} {m'} {x'} {y'} cut inside sa sb ran next-at next-w =
      let F = pair_gates G a b in
      let gs = in_turn 5 w ps F in
      let fs = map (wires_flip G k a b v u) ps in
      let same : map (wires_flip G k a b (λ p. get_or x p 0) (λ p. get_or y p 0)) ps ≡ fs =
      pairs_flips_same G n k _ _ _ _ _ _ _ _ ps inside
      (λ i h. P.one _ (sa i h))
      (λ i h. P.one _ (sb i h))
      (λ i h. P.other _ (sa i h))
      (λ i h. P.other _ (sb i h)) in
      let here : BothFlip gs fs ts at w m m' x x' y y' = subst (λ (l : List ℕ). BothFlip gs l ts at w m m' x x' y y') same ran in
      let gates : in_turn 5 w all F ≡ gs ++ in_turn 5 (w + 5 * length ps) qs F =
      ap (λ (l : List Pair). in_turn 5 w l F) cut ∙ in_turn_append 5 w ps qs F in
      let flips : map (wires_flip G k a b v u) all ≡ fs ++ map (wires_flip G k a b v u) qs =
      ap (map (wires_flip G k a b v u)) cut ∙ map-append (wires_flip G k a b v u) ps qs in
      let exact : length fs ≡ length ps = length-map ps (wires_flip G k a b v u) in
      let long = pairs_long G a b w ps in
      let left = flips_more gs (in_turn 5 (w + 5 * length ps) qs F) fs (map (wires_flip G k a b v u) qs) P.left gates flips
      (exact ∙ sym (pairs_draw L a b w ps)) here in
      let fits = pairs_ready in
      let room : length all ≡ length ps + length qs = ap length cut ∙ length-append ps qs in
      record {
        left = rw (next-at, next-w) (rw (long, exact) at left);
        one = kept gs _ w₀ w v x P.low (omega (arith, fits.one.room)) here.one P.one;
        other = kept gs _ w₀ w u y P.low (omega (arith, fits.other.room)) here.other P.other;
        low = omega (arith, P.low);
      }

module _ {G : Gadget} {k w₀ : ℕ} {a b : List ℕ} {v u : ℕ → ℕ} {all : List Pair} {ts : List ℕ} {at w : ℕ} {M A B m x y : List ℕ}
    (P : PairsLeft G k w₀ a b v u all ts at w M A B m x y) where
  pairs_end : all ≡ [] → (m ≡ M) × (x ≡ A) × (y ≡ B)
  unfolding in_turn flipped
  pairs_end none =
      left_end
      (subst
      (λ (l : List Pair). BothLeft (in_turn 5 w l (pair_gates G a b)) (bits_for (map (wires_flip G k a b v u) l) at ts)
      (flipped (bits_for (map (wires_flip G k a b v u) l) at ts) (map (wires_flip G k a b v u) l)) ts at w M A B m x y)
      none
      P.left.left)

-- of the pairs ps, which began from wire w₀ and from place at₀ of the tape, the pairs qs are left
pub record PairsGoing (G : Gadget) (k : ℕ) (a b : List ℕ) (ps : List Pair) (ts : List ℕ) (at₀ w₀ : ℕ) (m₀ x₀ y₀ : List ℕ)
    (qs : List Pair) (at w : ℕ) (m x y : List ℕ) : Type 0 where
  pub start : BothReady w₀ (5 * length ps) at₀ (length ps) ts m₀ x₀ y₀
  pub left :
      let gs = in_turn 5 w₀ ps (pair_gates G a b) in
      let fs = map (wires_flip G k a b (λ p. get_or x₀ p 0) (λ p. get_or y₀ p 0)) ps in
      PairsLeft G k w₀ a b (λ p. get_or x₀ p 0) (λ p. get_or y₀ p 0) qs ts at w
      (tape_after fs ts at₀ m₀)
      (one_after gs fs ts at₀ w₀ x₀)
      (other_after gs fs ts at₀ w₀ y₀)
      m x y

pub going_start :
    (G : Gadget) (k : ℕ) (a b : List ℕ) (ps : List Pair) {ts : List ℕ} {at w : ℕ} {m x y : List ℕ}
    → BothReady w (5 * length ps) at (length ps) ts m x y → PairsGoing G k a b ps ts at w m x y ps at w m x y
going_start G k a b ps {w = w} R = record { start = R; left = pairs_start G k w a b ps R }

module _ {G : Gadget} {k : ℕ} {a b : List ℕ} {ps : List Pair} {ts : List ℕ} {at₀ w₀ : ℕ} {m₀ x₀ y₀ : List ℕ} {qs : List Pair} {at w : ℕ}
    {m x y : List ℕ}
    (P : PairsGoing G k a b ps ts at₀ w₀ m₀ x₀ y₀ qs at w m x y) where
  pub going_ready : BothReady w (5 * length qs) at (length qs) ts m x y
  going_ready = pairs_ready P.left

  pub going_more :
      Lawful G → (n : ℕ) (now later : List Pair) {at' w' : ℕ} {m' x' y' : List ℕ} → qs ≡ now ++ later
      → All (λ p. (p.lower < p.upper) × (p.upper < n)) now → ((i : ℕ) → i < n → share a i < w₀)
      → ((i : ℕ) → i < n → share b i < w₀)
      → BothFlip (in_turn 5 w now (pair_gates G a b)) (map (wires_flip G k a b (λ p. get_or x p 0) (λ p. get_or y p 0)) now) ts at w
      m m' x x' y y'
      → at' ≡ at + length now → w' ≡ w + 5 * length now → PairsGoing G k a b ps ts at₀ w₀ m₀ x₀ y₀ later at' w' m' x' y'
  going_more L n now later cut inside sa sb ran next-at next-w =
      record { start = P.start; left = pairs_more P.left L n now later cut inside sa sb ran next-at next-w }

  pub going_end :
      qs ≡ []
      → BothFlip (in_turn 5 w₀ ps (pair_gates G a b)) (map (wires_flip G k a b (λ p. get_or x₀ p 0) (λ p. get_or y₀ p 0)) ps) ts at₀ w₀
      m₀ m x₀ x y₀ y
  going_end none = let e = pairs_end P.left none in record { mapped = e.0; one = e.1; other = e.2 }

-- the pairs of share i: one, and those after it
pub share_next :
    (i m c : ℕ) → c < m
    → up_from (m - c) (suc i + c) (λ j. pair_of i j)
    ≡ (pair_of i (i + 1 + c) ∷ []) ++ up_from (m - (c + 1)) (suc i + (c + 1)) (λ j. pair_of i j)
unfolding up_from
share_next i m c h =
    let count : m - c ≡ suc (m - (c + 1)) = omega arith in
    let here : suc i + c ≡ i + 1 + c = omega arith in
    let next : suc (suc i + c) ≡ suc i + (c + 1) = omega arith in
    rw (count, next, here) refl

pub share_none : (i m c : ℕ) → m ≤ c → up_from (m - c) (suc i + c) (λ j. pair_of i j) ≡ []
unfolding up_from
share_none i m c h = let none : m - c ≡ 0 = omega arith in rw none refl

-- all pairs from share i on: those of share i, and those after them
pub pairs_next :
    (n i : ℕ) → i < n → pairs_from (n - i) i ≡ share_pairs n i ++ pairs_from (n - (i + 1)) (i + 1)
unfolding pairs_from
pairs_next n i h =
    let count : n - i ≡ suc (n - suc i) = omega arith in
    let next : i + 1 ≡ suc i = omega arith in
    rw (next, count) refl

pub pairs_none : (n i : ℕ) → n ≤ i → pairs_from (n - i) i ≡ []
unfolding pairs_from
pairs_none n i h = let none : n - i ≡ 0 = omega arith in rw none refl

pub share_inside : (n i : ℕ) → All (λ p. (p.lower < p.upper) × (p.upper < n)) (share_pairs n i)
share_inside n i = up_all _ (n - suc i) (suc i) (λ j. pair_of i j) (λ j h k. (h, omega arith))

-- a pair that has run on, by the wires of its shares
pub one_pair :
    (G : Gadget) (k i j w : ℕ) (a b ts : List ℕ) (at : ℕ) {ai bj aj bi p q : ℕ} {m m' x x' y y' : List ℕ}
    → ai ≡ share a i → bj ≡ share b j → aj ≡ share a j → bi ≡ share b i → p ≡ suc i → q ≡ suc j
    → let v : ℕ → ℕ = λ p. get_or x p 0 in
    let u : ℕ → ℕ = λ p. get_or y p 0 in
    BothFlip (map (G.gates w ai bj aj bi) all_five)
    (G.flip k p q (differs (v ai) (v bj) (u ai) (u bj)) (differs (v aj) (v bi) (u aj) (u bi)) ∷ []) ts at w
    m m' x x' y y'
    → BothFlip (in_turn 5 w (pair_of i j ∷ []) (pair_gates G a b)) (map (wires_flip G k a b v u) (pair_of i j ∷ [])) ts at w
    m m' x x' y y'
unfolding in_turn
one_pair G k i j w a b ts at {ai} {bj} {aj} {bi} {p} {q} {m} {m'} {x} {x'} {y} {y'} e₁ e₂ e₃ e₄ ep eq ran =
    let v : ℕ → ℕ = λ p. get_or x p 0 in
    let u : ℕ → ℕ = λ p. get_or y p 0 in
    let gates : map (G.gates w ai bj aj bi) all_five ≡ pair_gates G a b w (pair_of i j) = rw (e₁, e₂, e₃, e₄) refl in
    let flip : G.flip k p q (differs (v ai) (v bj) (u ai) (u bj)) (differs (v aj) (v bi) (u aj) (u bi))
    ≡ wires_flip G k a b v u (pair_of i j) =
    rw (ep, eq, e₁, e₂, e₃, e₄) refl in
    subst₂ (λ (gs : List Gate) (f : ℕ). BothFlip gs (f ∷ []) ts at w m m' x x' y y') gates flip ran

pub pair_inside : (n i j : ℕ) → i < j → j < n → All (λ p. (p.lower < p.upper) × (p.upper < n)) (pair_of i j ∷ [])
unfolding All
pair_inside n i j h k = ((h, k), tt)

-- how many pairs share i has with later ones, and how many are left after them
pub pairs_count : (n i : ℕ) → i < n → tri (n - i) ≡ n - suc i + tri (n - (i + 1))
unfolding tri
pairs_count n i h =
    let count : n - i ≡ suc (n - suc i) = omega arith in
    let next : n - (i + 1) ≡ n - suc i = omega arith in
    rw (count, next) refl

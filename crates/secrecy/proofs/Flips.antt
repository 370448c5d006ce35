-- The map built gate by gate satisfies document 01's law read off the two complete runs, and nothing else does: what a
-- gate flips depends on earlier wires alone, and those keep their values to the end of the run.
-- Assumes nothing.
use mathlib.Core.Path.{◌≡◌, refl, sym, ap, ap₂, ◌∙◌, subst}
use mathlib.Core.List.{List, [], ◌∷◌, ◌++◌, map, map-append}
use Prim.Native.Nat.{ℕ, zero, suc, ◌+◌, ◌-◌, ◌≤◌, ◌<◌}
use native.Mathlib.Omega.{arith}
use lib.ListN.{length, get_or, take, drop, length-append, length-map, length-drop, take-append-drop}
use lib.Seq.{length-take-le, take_at, drop_at}
use Rattle.tables.specs.Tables.{Kind, NOT, XOR, AND, RANDOM, CONSTANT, OR, UNKNOWN, Gate, operands_of, total}
use Rattle.tables.specs.Runs.{run_from, randoms}
use Rattle.tables.proofs.Lists.{All, all_map}
use Rattle.tables.proofs.Accept.{PlainGate, PlainGates}
use Rattle.tables.proofs.Run.{OfLeft, OfRight, run_length, run_keep, run_append, run_prefix}
use Rattle.construction.specs.Shares.{Pair, pairs, tri}
use Rattle.construction.specs.Gadgets.{differs, Gadget}
use Rattle.construction.specs.Wires.{driver_of, share, first_on, new_wires, new_shares, cost, masked}
use Rattle.construction.specs.Counts.{draws}
use Rattle.construction.proofs.Rows.{pairs_length, pairs_in}
use Rattle.construction.proofs.Lawful.{Lawful}
use Rattle.construction.proofs.Costs.{new_length, new_draws, all_of}
use Rattle.construction.proofs.Placed.{drop_share, Placed, share_below, placed_at, placed_step}
use Rattle.secrecy.specs.Maps.{flipped, pair_flip, and_flips, values_of, first_not, gate_flips, map_gates}
use Rattle.secrecy.specs.Laws.{gates_flips}
use Rattle.secrecy.proofs.Inputs.{flipped_length, flipped_append, flipped_nil, zero_append}

and_flips_length :
    (G : Gadget) (n k : ℕ) (a b a' b' : ℕ → ℕ) → length (and_flips G n k a b a' b') ≡ tri n
and_flips_length G n k a b a' b' = length-map (pairs n) (pair_flip G k a b a' b') ∙ pairs_length n 0

pub gate_flips_length :
    (G : Gadget) (kd : Kind) (n k : ℕ) (a b : List ℕ) (v u : ℕ → ℕ) → length (gate_flips G kd n k a b v u) ≡ draws kd n
gate_flips_length G NOT n k a b v u = refl
gate_flips_length G XOR n k a b v u = refl
gate_flips_length G AND n k a b v u = and_flips_length G n _ _ _ _ _
gate_flips_length G RANDOM n k a b v u = refl
gate_flips_length G CONSTANT n k a b v u = refl
gate_flips_length G OR n k a b v u = and_flips_length G n _ _ _ _ _
gate_flips_length G (UNKNOWN c) n k a b v u = refl

pub gates_flips_length :
    (G : Gadget) (n k w : ℕ) (S : List (List ℕ)) (gs : List Gate) (v u : ℕ → ℕ)
    → length (gates_flips G n k w S gs v u) ≡ total (λ kd. draws kd n) gs
unfolding gates_flips total
gates_flips_length G n k w S [] v u = refl
gates_flips_length G n k w S (x ∷ xs) v u =
    length-append (gate_flips G x.kind n k (get_or S x.left []) (get_or S x.right []) v u) _
    ∙ ap₂ (λ (p q : ℕ). p + q) (gate_flips_length G x.kind n k _ _ v u) (gates_flips_length G n k (w + cost x.kind n) _ xs v u)

map_same : {A : Type 0} (f g : A → ℕ) (xs : List A) → All (λ x. f x ≡ g x) xs → map f xs ≡ map g xs
unfolding All
map_same f g [] a = refl
map_same f g (x ∷ xs) a = ap₂ (λ (y : ℕ) (ys : List ℕ). y ∷ ys) a.0 (map_same f g xs a.1)

-- two runs agree on the wires before w, or two lists of values on the first w
abbrev pub SameBelow : ℕ → (ℕ → ℕ) → (ℕ → ℕ) → Type 0
SameBelow w v v' = (q : ℕ) → q < w → v q ≡ v' q

differs_same :
    {x y x' y' z t z' t' : ℕ} → x ≡ z → y ≡ t → x' ≡ z' → y' ≡ t' → differs x y x' y' ≡ differs z t z' t'
differs_same p q p' q' = rw (p, q, p', q')

-- what pairs flip depends on the values of the shares alone
pub pairs_flips_same :
    (G : Gadget) (n k : ℕ) (a b a' b' c d c' d' : ℕ → ℕ) (ps : List Pair)
    → All (λ p. (p.lower < p.upper) × (p.upper < n)) ps → SameBelow n a c → SameBelow n b d → SameBelow n a' c'
    → SameBelow n b' d' → map (pair_flip G k a b a' b') ps ≡ map (pair_flip G k c d c' d') ps
pairs_flips_same G n k a b a' b' c d c' d' ps inside ea eb ea' eb' =
    map_same (pair_flip G k a b a' b') (pair_flip G k c d c' d') ps
    (all_map _ _
    (λ p h.
    let i = p.lower in
    let j = p.upper in
    let hi : i < n = omega arith in
    let hj : j < n = h.1 in
    ap₂ (G.flip k (suc i) (suc j))
    (differs_same (ea i hi) (eb j hj) (ea' i hi) (eb' j hj))
    (differs_same (ea j hj) (eb i hi) (ea' j hj) (eb' i hi)))
    ps
    inside)

pub first_not_same : {n : ℕ} {a c : ℕ → ℕ} → SameBelow n a c → SameBelow n (first_not a) (first_not c)
first_not_same e zero h = ap (λ (y : ℕ). 1 - y) (e 0 h)
first_not_same e (suc s) h = e (suc s) h

first_not_values :
    (a : List ℕ) (w : ℕ) (v : ℕ → ℕ) → v w ≡ 1 - v (share a 0) → (s : ℕ)
    → first_not (values_of v a) s ≡ values_of v (first_on w a) s
first_not_values a w v e zero = sym e
first_not_values a w v e (suc s) = ap v (sym (drop_share a s))

-- an OR flips what an AND flips whose operands' first shares are on the OR's first two wires, where these have their values
pub first_not_flips :
    (G : Gadget) (n k w : ℕ) (a b : List ℕ) (v u : ℕ → ℕ) → v w ≡ 1 - v (share a 0) → v (suc w) ≡ 1 - v (share b 0)
    → u w ≡ 1 - u (share a 0) → u (suc w) ≡ 1 - u (share b 0)
    → gate_flips G OR n k a b v u ≡ gate_flips G AND n k (first_on w a) (first_on (suc w) b) v u
first_not_flips G n k w a b v u va vb ua ub =
    pairs_flips_same G n k _ _ _ _ _ _ _ _ (pairs n) (pairs_in n)
    (λ s _. first_not_values a w v va s)
    (λ s _. first_not_values b (suc w) v vb s)
    (λ s _. first_not_values a w u ua s)
    (λ s _. first_not_values b (suc w) u ub s)

-- the shares of a plain wire, in runs that agree on the wires before w
read_same :
    (n w l : ℕ) (S : List (List ℕ)) (v v' : ℕ → ℕ) → Placed n w S → l < length S → SameBelow w v v'
    → SameBelow n (values_of v (get_or S l [])) (values_of v' (get_or S l []))
read_same n w l S v v' P h e i hi = e _ (share_below n w (get_or S l []) (placed_at n w S l P h) i hi)

-- what a gate flips depends on the wires of its operands' shares alone
pub gate_flips_local :
    (G : Gadget) (kd : Kind) (n k w l r : ℕ) (S : List (List ℕ)) (v u v' u' : ℕ → ℕ) → PlainGate (length S) kd l r
    → Placed n w S → SameBelow w v v' → SameBelow w u u'
    → gate_flips G kd n k (get_or S l []) (get_or S r []) v u ≡ gate_flips G kd n k (get_or S l []) (get_or S r []) v' u'
gate_flips_local G NOT n k w l r S v u v' u' g P ev eu = refl
gate_flips_local G XOR n k w l r S v u v' u' g P ev eu = refl
gate_flips_local G AND n k w l r S v u v' u' g P ev eu =
    pairs_flips_same G n k _ _ _ _ _ _ _ _ (pairs n) (pairs_in n)
    (read_same n w l S v v' P g.0 ev)
    (read_same n w r S v v' P g.1 ev)
    (read_same n w l S u u' P g.0 eu)
    (read_same n w r S u u' P g.1 eu)
gate_flips_local G RANDOM n k w l r S v u v' u' g P ev eu = refl
gate_flips_local G CONSTANT n k w l r S v u v' u' g P ev eu = refl
gate_flips_local G OR n k w l r S v u v' u' g P ev eu =
    pairs_flips_same G n k _ _ _ _ _ _ _ _ (pairs n) (pairs_in n)
    (first_not_same (read_same n w l S v v' P g.0 ev))
    (first_not_same (read_same n w r S v v' P g.1 ev))
    (first_not_same (read_same n w l S u u' P g.0 eu))
    (first_not_same (read_same n w r S u u' P g.1 eu))
gate_flips_local G (UNKNOWN c) n k w l r S v u v' u' g P ev eu = refl

-- an operand's shares matter only where it is read
pub gate_flips_read :
    (G : Gadget) (kd : Kind) (n k : ℕ) (a a' b b' : List ℕ) (v u : ℕ → ℕ) → OfLeft (operands_of kd) (a ≡ a')
    → OfRight (operands_of kd) (b ≡ b') → gate_flips G kd n k a b v u ≡ gate_flips G kd n k a' b' v u
gate_flips_read G NOT n k a a' b b' v u e f = refl
gate_flips_read G XOR n k a a' b b' v u e f = refl
gate_flips_read G AND n k a a' b b' v u e f = ap₂ (λ (x y : List ℕ). gate_flips G AND n k x y v u) e f
gate_flips_read G RANDOM n k a a' b b' v u e f = refl
gate_flips_read G CONSTANT n k a a' b b' v u e f = refl
gate_flips_read G OR n k a a' b b' v u e f = ap₂ (λ (x y : List ℕ). gate_flips G OR n k x y v u) e f
gate_flips_read G (UNKNOWN c) n k a a' b b' v u e f = refl

differs_sym : (x y x' y' : ℕ) → differs x y x' y' ≡ differs x' y' x y
differs_sym x y x' y' = omega arith

and_flips_sym :
    (G : Gadget) (n k : ℕ) (a b a' b' : ℕ → ℕ) → and_flips G n k a b a' b' ≡ and_flips G n k a' b' a b
and_flips_sym G n k a b a' b' =
    map_same (pair_flip G k a b a' b') (pair_flip G k a' b' a b) (pairs n)
    (all_of _
    (λ p.
    ap₂ (G.flip k (suc p.lower) (suc p.upper))
    (differs_sym (a p.lower) (b p.upper) (a' p.lower) (b' p.upper))
    (differs_sym (a p.upper) (b p.lower) (a' p.upper) (b' p.lower)))
    (pairs n))

-- swapping the runs changes nothing
gate_flips_sym :
    (G : Gadget) (kd : Kind) (n k : ℕ) (a b : List ℕ) (v u : ℕ → ℕ)
    → gate_flips G kd n k a b v u ≡ gate_flips G kd n k a b u v
gate_flips_sym G NOT n k a b v u = refl
gate_flips_sym G XOR n k a b v u = refl
gate_flips_sym G AND n k a b v u = and_flips_sym G n k _ _ _ _
gate_flips_sym G RANDOM n k a b v u = refl
gate_flips_sym G CONSTANT n k a b v u = refl
gate_flips_sym G OR n k a b v u = and_flips_sym G n k _ _ _ _
gate_flips_sym G (UNKNOWN c) n k a b v u = refl

pub gates_flips_sym :
    (G : Gadget) (n k w : ℕ) (S : List (List ℕ)) (gs : List Gate) (v u : ℕ → ℕ)
    → gates_flips G n k w S gs v u ≡ gates_flips G n k w S gs u v
unfolding gates_flips
gates_flips_sym G n k w S [] v u = refl
gates_flips_sym G n k w S (x ∷ xs) v u =
    ap₂ (λ (p q : List ℕ). p ++ q) (gate_flips_sym G x.kind n k _ _ v u) (gates_flips_sym G n k (w + cost x.kind n) _ xs v u)

map_none : {A : Type 0} (f : A → ℕ) (xs : List A) → ((x : A) → f x ≡ 0) → (i : ℕ) → get_or (map f xs) i 0 ≡ 0
map_none f [] h i = refl
map_none f (x ∷ xs) h zero = h x
map_none f (x ∷ xs) h (suc i) = map_none f xs h i

differs_none : (x y : ℕ) → differs x y x y ≡ 0
differs_none x y = omega arith

and_flips_none :
    (G : Gadget) → ((k i j : ℕ) → G.flip k i j 0 0 ≡ 0) → (n k : ℕ) (a b : ℕ → ℕ) (i : ℕ)
    → get_or (and_flips G n k a b a b) i 0 ≡ 0
and_flips_none G none n k a b i =
    map_none (pair_flip G k a b a b) (pairs n)
    (λ p.
    ap₂ (G.flip k (suc p.lower) (suc p.upper))
    (differs_none (a p.lower) (b p.upper))
    (differs_none (a p.upper) (b p.lower))
    ∙ none k (suc p.lower) (suc p.upper))
    i

-- one run against itself flips nothing
gate_flips_none :
    (G : Gadget) → ((k i j : ℕ) → G.flip k i j 0 0 ≡ 0) → (kd : Kind) (n k : ℕ) (a b : List ℕ) (v : ℕ → ℕ) (i : ℕ)
    → get_or (gate_flips G kd n k a b v v) i 0 ≡ 0
gate_flips_none G none NOT n k a b v i = refl
gate_flips_none G none XOR n k a b v i = refl
gate_flips_none G none AND n k a b v i = and_flips_none G none n k _ _ i
gate_flips_none G none RANDOM n k a b v i = refl
gate_flips_none G none CONSTANT n k a b v i = refl
gate_flips_none G none OR n k a b v i = and_flips_none G none n k _ _ i
gate_flips_none G none (UNKNOWN c) n k a b v i = refl

pub gates_flips_none :
    (G : Gadget) → ((k i j : ℕ) → G.flip k i j 0 0 ≡ 0) → (n k w : ℕ) (S : List (List ℕ)) (gs : List Gate) (v : ℕ → ℕ)
    (i : ℕ) → get_or (gates_flips G n k w S gs v v) i 0 ≡ 0
unfolding gates_flips
gates_flips_none G none n k w S [] v i = refl
gates_flips_none G none n k w S (x ∷ xs) v i =
    zero_append (gate_flips G x.kind n k (get_or S x.left []) (get_or S x.right []) v v) _
    (gate_flips_none G none x.kind n k _ _ v)
    (gates_flips_none G none n k (w + cost x.kind n) _ xs v)
    i

-- flips in two parts, of which the first has d bits
pub flipped_split :
    (d : ℕ) (rs fs hs : List ℕ) → length fs ≡ d → d ≤ length rs
    → flipped rs (fs ++ hs) ≡ flipped (take d rs) fs ++ flipped (drop d rs) hs
flipped_split d rs fs hs e h =
    ap (λ (ts : List ℕ). flipped ts (fs ++ hs)) (sym (take-append-drop d rs))
    ∙ flipped_append (take d rs) (drop d rs) fs hs (length-take-le d rs h ∙ sym e)

-- M is rs with flips that depend on M itself, and no other list is
pub record Fixed (rs : List ℕ) (flips : List ℕ → List ℕ) (M : List ℕ) : Type 0 where
  pub holds : M ≡ flipped rs (flips M)
  pub only : (ss : List ℕ) → ss ≡ flipped rs (flips ss) → ss ≡ M

-- that, where the first d bits are flipped whatever follows them
pub fixed_step :
    (d : ℕ) (rs front next : List ℕ) (flips : List ℕ → List ℕ) (later : List ℕ → List ℕ → List ℕ) → d ≤ length rs
    → length front ≡ d
    → ((ps qs : List ℕ) → length ps ≡ d → flipped rs (flips (ps ++ qs)) ≡ front ++ flipped (drop d rs) (later ps qs))
    → Fixed (drop d rs) (later front) next → Fixed rs flips (front ++ next)
fixed_step d rs front next flips later enough long law F =
    record {
      holds = ap (λ (M : List ℕ). front ++ M) F.holds ∙ sym (law front next long);
      only = λ ss e.
          let ps = take d ss in
          let qs = drop d ss in
          let whole : ps ++ qs ≡ ss = take-append-drop d ss in
          let long_s : length ss ≡ length rs = ap length e ∙ flipped_length rs _ in
          let rest = flipped (drop d rs) (later ps qs) in
          let both : ss ≡ front ++ rest =
          e
          ∙ ap (λ (M : List ℕ). flipped rs (flips M)) (sym whole)
          ∙ law ps qs (length-take-le d ss (omega arith)) in
          let first : ps ≡ front = ap (take d) both ∙ take_at front rest d long in
          let second : qs ≡ rest = ap (drop d) both ∙ drop_at front rest d long in
          sym whole
          ∙ ap₂ (λ (p q : List ℕ). p ++ q) first
          (F.only qs (second ∙ ap (λ (M : List ℕ). flipped (drop d rs) (later M qs)) first));
    }

-- the gates' flips, read off the complete runs from vs on the random bits rs and from us on the random bits ss
abbrev pub runs_flips :
    Gadget → ℕ → ℕ → ℕ → ℕ → List (List ℕ) → List Gate → List ℕ → List ℕ → List ℕ → List ℕ → List ℕ
runs_flips G n k g w S gs rs ss vs us =
    let hs = map driver_of (masked G n g w S gs) in
    gates_flips G n k w S gs (λ p. get_or (run_from hs rs vs) p 0) (λ p. get_or (run_from hs ss us) p 0)

-- one gate x, and the gates xs that follow it
module _ {G : Gadget} (L : Lawful G) (n k g w : ℕ) (S : List (List ℕ)) (x : Gate) (xs : List Gate) where
  abbrev left_shares : List ℕ
  left_shares = get_or S x.left []

  abbrev right_shares : List ℕ
  right_shares = get_or S x.right []

  abbrev next_shares : List (List ℕ)
  next_shares = S ++ (new_shares x.kind n w left_shares ∷ [])

  abbrev next_wire : ℕ
  next_wire = w + cost x.kind n

  abbrev bits_taken : ℕ
  bits_taken = draws x.kind n

  -- the masked gates of x, and those of xs
  abbrev these : List Gate
  these = map driver_of (new_wires G x.kind x.left n g w left_shares right_shares)

  abbrev others : List Gate
  others = map driver_of (masked G n (suc g) next_wire next_shares xs)

  -- what x flips, after the runs so far
  abbrev flips_at : List ℕ → List ℕ → List ℕ
  flips_at vs us = gate_flips G x.kind n k left_shares right_shares (λ p. get_or vs p 0) (λ p. get_or us p 0)

  -- the random bits of x in the second run
  abbrev front : List ℕ → List ℕ → List ℕ → List ℕ
  front rs vs us = flipped (take bits_taken rs) (flips_at vs us)

  -- those of xs
  abbrev next : List ℕ → List ℕ → List ℕ → List ℕ
  next rs vs us =
      map_gates G n k (suc g) next_wire next_shares xs
      (drop bits_taken rs)
      (run_from these rs vs)
      (run_from these (front rs vs us) us)

  -- what xs flip, where the second run has the random bits ps for x and qs for xs
  abbrev next_flips : List ℕ → List ℕ → List ℕ → List ℕ → List ℕ → List ℕ
  next_flips rs vs us ps qs =
      runs_flips G n k (suc g) next_wire next_shares xs (drop bits_taken rs) qs (run_from these rs vs) (run_from these ps us)

  these_draw : randoms these ≡ bits_taken
  these_draw = new_draws L x.kind x.left n g w left_shares right_shares

  next_length : (rs vs : List ℕ) → length vs ≡ w → length (run_from these rs vs) ≡ next_wire
  next_length rs vs e =
      omega (
        arith,
        run_length these rs vs,
        length-map (new_wires G x.kind x.left n g w left_shares right_shares) driver_of,
        new_length G x.kind x.left n g w left_shares right_shares,
      )

  -- the complete run is that of the gates that follow, after that of x
  run_split :
      (rs vs : List ℕ)
      → run_from (map driver_of (masked G n g w S (x ∷ xs))) rs vs
      ≡ run_from others (drop bits_taken rs) (run_from these rs vs)
  unfolding masked
  run_split rs vs = rw map-append (run_append these others rs vs ∙ rw these_draw)

  pub map_step :
      (rs vs us : List ℕ) → map_gates G n k g w S (x ∷ xs) rs vs us ≡ front rs vs us ++ next rs vs us
  unfolding map_gates
  map_step rs vs us =
      rw (gate_flips_length G x.kind n k left_shares right_shares (λ p. get_or vs p 0) (λ p. get_or us p 0))

  module _ (P : PlainGate (length S) x.kind x.left x.right) (placed : Placed n w S) (rs vs us : List ℕ)
      (long-v : length vs ≡ w) (long-u : length us ≡ w) where
    -- the flips of x are the same after the complete runs, whatever their later random bits
    flips_step :
        (ps qs : List ℕ) → length ps ≡ bits_taken
        → runs_flips G n k g w S (x ∷ xs) rs (ps ++ qs) vs us ≡ flips_at vs us ++ next_flips rs vs us ps qs
    unfolding gates_flips
    flips_step ps qs e =
        let all = map driver_of (masked G n g w S (x ∷ xs)) in
        let second : run_from all (ps ++ qs) us ≡ run_from others qs (run_from these ps us) =
        run_split (ps ++ qs) us
        ∙ ap₂ (run_from others) (drop_at ps qs bits_taken e) (run_prefix these ps qs us (e ∙ sym these_draw)) in
        ap₂ (λ (f h : List ℕ). f ++ h)
        (gate_flips_local G x.kind n k w x.left x.right S _ _ (λ p. get_or vs p 0) (λ p. get_or us p 0) P placed
        (λ p h. run_keep all rs vs p (omega arith))
        (λ p h. run_keep all (ps ++ qs) us p (omega arith)))
        (ap₂ (λ (A B : List ℕ). gates_flips G n k next_wire next_shares xs (λ p. get_or A p 0) (λ p. get_or B p 0))
        (run_split rs vs)
        second)

    module _ (enough : bits_taken ≤ length rs) where
      law_step :
          (ps qs : List ℕ) → length ps ≡ bits_taken
          → flipped rs (runs_flips G n k g w S (x ∷ xs) rs (ps ++ qs) vs us)
          ≡ front rs vs us ++ flipped (drop bits_taken rs) (next_flips rs vs us ps qs)
      law_step ps qs e =
          ap (flipped rs) (flips_step ps qs e)
          ∙ flipped_split bits_taken rs (flips_at vs us) _
          (gate_flips_length G x.kind n k left_shares right_shares _ _)
          enough

      front_length : length (front rs vs us) ≡ bits_taken
      front_length = flipped_length (take bits_taken rs) (flips_at vs us) ∙ length-take-le bits_taken rs enough

      -- the law from x on follows from that of the next gate on
      map_fixed :
          Fixed (drop bits_taken rs) (next_flips rs vs us (front rs vs us)) (next rs vs us)
          → Fixed rs (λ ss. runs_flips G n k g w S (x ∷ xs) rs ss vs us) (map_gates G n k g w S (x ∷ xs) rs vs us)
      map_fixed F =
          subst (Fixed rs (λ ss. runs_flips G n k g w S (x ∷ xs) rs ss vs us)) (sym (map_step rs vs us))
          (fixed_step bits_taken rs (front rs vs us) (next rs vs us) _ (next_flips rs vs us) enough front_length law_step F)

-- the random bits of the gates that follow x
rest_long :
    (n : ℕ) (x : Gate) (xs : List Gate) (rs : List ℕ) → length rs ≡ total (λ kd. draws kd n) (x ∷ xs)
    → (draws x.kind n ≤ length rs) × (length (drop (draws x.kind n) rs) ≡ total (λ kd. draws kd n) xs)
unfolding total
rest_long n x xs rs e = (omega arith, omega (arith, length-drop (draws x.kind n) rs))

pub next_plain :
    (n w : ℕ) (S : List (List ℕ)) (x : Gate) (xs : List Gate) → PlainGates (suc (length S)) xs
    → PlainGates (length (S ++ (new_shares x.kind n w (get_or S x.left []) ∷ []))) xs
next_plain n w S x xs P =
    let one : suc (length S) ≡ length (S ++ (new_shares x.kind n w (get_or S x.left []) ∷ [])) =
    sym (length-append S (new_shares x.kind n w (get_or S x.left []) ∷ []) ∙ omega arith) in
    subst (λ (z : ℕ). PlainGates z xs) one P

map_nil :
    (G : Gadget) (n k g w : ℕ) (S : List (List ℕ)) (rs vs us : List ℕ) → map_gates G n k g w S [] rs vs us ≡ rs
unfolding map_gates
map_nil G n k g w S rs vs us = refl

flips_nil :
    (G : Gadget) (n k w : ℕ) (S : List (List ℕ)) (rs : List ℕ) (v u : ℕ → ℕ)
    → flipped rs (gates_flips G n k w S [] v u) ≡ rs
unfolding gates_flips
flips_nil G n k w S rs v u = flipped_nil rs

-- the second run's random bits are the first's with the flips that the complete runs give, and no others are
pub map_gates_fixed :
    {G : Gadget} (L : Lawful G) (n k g w : ℕ) (S : List (List ℕ)) (gs : List Gate) (rs vs us : List ℕ) → 1 ≤ n
    → PlainGates (length S) gs → Placed n w S → length vs ≡ w → length us ≡ w → length rs ≡ total (λ kd. draws kd n) gs
    → Fixed rs (λ ss. runs_flips G n k g w S gs rs ss vs us) (map_gates G n k g w S gs rs vs us)
unfolding PlainGates
map_gates_fixed {G} L n k g w S [] rs vs us h P placed ev eu long =
    let none = map_nil G n k g w S rs vs us in
    record {
      holds = none ∙ sym (flips_nil G n k w S rs _ _);
      only = λ ss e. e ∙ flips_nil G n k w S rs _ _ ∙ sym none;
    }
map_gates_fixed {G} L n k g w S (x ∷ xs) rs vs us h P placed ev eu long =
    let rest = rest_long n x xs rs long in
    map_fixed L n k g w S x xs P.0 placed rs vs us ev eu rest.0
    (map_gates_fixed L n k (suc g) _ _ xs _ _ _ h
    (next_plain n w S x xs P.1)
    (placed_step x.kind n w x.left x.right S h P.0 placed)
    (next_length L n k g w S x xs rs vs ev)
    (next_length L n k g w S x xs _ us eu)
    rest.1)

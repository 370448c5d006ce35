-- Where the code keeps shares: a gate's new places list its new shares, and writing one wire's numbers adds one list.
-- Assumes nothing.
use mathlib.Core.Path.{◌≡◌, refl, sym, ap, ap₂, ◌∙◌}
use mathlib.Core.Bool.{Bool, true, false, cond}
use mathlib.Core.List.{List, [], ◌∷◌, ◌++◌}
use Prim.Native.Nat.{ℕ, zero, suc, ◌+◌, ◌-◌, ◌*◌, ◌≤◌, ◌<◌}
use native.Mathlib.Nat.{add-zero}
use native.Mathlib.Omega.{arith}
use lib.Dec.{eqb}
use lib.ListN.{length, get_or, take, drop, length-set, length-append, take-append-drop, get_or-append}
use lib.Seq.{get_or-set_same, get_or-set_other, length-take-le, take-suc, take-length, get_or-append_seam}
use borrow.Author.Tests.{eqb-true, eqb-false}
use denote.Enum.Bare.{sameb}
use Rattle.tables.specs.declared.Kind as DKind
use Rattle.tables.specs.declared.Kind.TheVariants as Named
use Rattle.tables.specs.contracts.Kind.{the_type}
use Rattle.tables.specs.Kinds.{kind_is}
use Rattle.tables.specs.Tables.{Kind, is_random, Gate, no_gate, Table, wires, gate_of, total}
use Rattle.tables.proofs.Run.{total_append}
use Rattle.layout.specs.declared.Places as DPlaces
use Rattle.share_places.specs.declared.KeptPlaces as DKeptPlaces
use Rattle.construction.specs.Shares.{up_from, tri}
use Rattle.construction.specs.Wires.{and_cost, and_shares, cost, new_shares, input_shares, shares_after}
use Rattle.layout.specs.Layout.{share_wires}
use Rattle.share_places.specs.Located.{kept, places_at, Small, Room, Put, Holds, Noted, shares_to, all_shares, Located, gate_wire}
use Rattle.construction.proofs.Sum.{up_length, up_plus, up_shift, up_cong}
use Rattle.construction.proofs.Placed.{shares_after_length}

abbrev no_places : DKeptPlaces.KeptPlaces
no_places = record { head = 0; base = 0; step = 0 }

abbrev pub with_places : ℕ → ℕ → ℕ → DPlaces.Places
with_places h b t = record { head = h; base = b; step = t }

shares_suc : (m : ℕ) (a : DPlaces.Places) → share_wires (suc m) a ≡ a.head ∷ up_from m 0 (λ s. a.base + s * a.step)
shares_suc m a =
    ap {A = ℕ} {B = List ℕ} (λ c. a.head ∷ up_from c 0 (λ s. a.base + s * a.step)) {x = suc m - 1} {y = m} (omega arith)

pub shares_length : (n : ℕ) (a : DPlaces.Places) → 1 ≤ n → length (share_wires n a) ≡ n
shares_length n a h = omega (arith, up_length (n - 1) 0 (λ s. a.base + s * a.step))

-- neighbouring wires
pub shares_run : (n w : ℕ) → 1 ≤ n → share_wires n (with_places w (w + 1) 1) ≡ up_from n w (λ s. s)
unfolding up_from
shares_run zero w h = absurd (omega arith)
shares_run (suc m) w h =
    let moved : up_from m (suc w) (λ s. s) ≡ up_from m 0 (λ s. suc w + s) = rw add-zero at (up_plus m (suc w) 0 (λ s. s)) in
    let same : up_from m 0 (λ s. w + 1 + s * 1) ≡ up_from m 0 (λ s. suc w + s) =
    up_cong m 0 (λ s. w + 1 + s * 1) (λ s. suc w + s) (λ i _ _. omega arith) in
    shares_suc m (with_places w (w + 1) 1) ∙ ap {A = List ℕ} {B = List ℕ} (λ y. w ∷ y) (same ∙ sym moved)

-- the last wires of n rows of n wires
shares_rows :
    (n v e : ℕ) → 1 ≤ n → e ≡ v + (n - 1) → share_wires n (with_places e (e + n) n) ≡ up_from n 0 (λ i. v + n * i + (n - 1))
unfolding up_from
shares_rows zero v e h k = absurd (omega arith)
shares_rows (suc m) v e h k =
    let n = suc m in
    let first : e ≡ v + n * 0 + (n - 1) = omega arith in
    let same : up_from m 0 (λ s. e + n + s * n) ≡ up_from m 0 (λ i. v + n * suc i + (n - 1)) =
    up_cong m 0 _ _ (λ i _ _. omega arith) in
    shares_suc m (with_places e (e + n) n)
    ∙ ap₂ {A = ℕ} {B = List ℕ} {C = List ℕ} (λ x y. x ∷ y) first (same ∙ sym (up_shift m 0 _))

square_more : (n : ℕ) → n + n ≤ n * n + 1
square_more zero = omega arith
square_more (suc m) = omega (arith, square_more m)

-- an AND's shares
pub and_places_are :
    {first : ℕ} (n w : ℕ) → 1 ≤ n → first ≡ w + 5 * tri n + (n - 1) → share_wires n (with_places first (first + n) n) ≡ and_shares n w
and_places_are {first} n w some e = shares_rows n (w + 5 * tri n) first some e

pub and_places_small :
    {first : ℕ} (n w : ℕ) → first ≡ w + 5 * tri n + (n - 1) → w + and_cost n ≤ 65535 → Small (with_places first (first + n) n)
and_places_small n w e fits =
    record { head = omega (arith, square_more n); base = omega (arith, square_more n); step = omega (arith, square_more n) }

-- the places of a NOT, an XOR or an AND as the code chooses them, where an AND's would be at d
pub few_places_are :
    {xor not and : Bool} {head base step base' step' : ℕ} (k : DKind.Kind) (n w : ℕ) (a d : DPlaces.Places)
    → is_random (kind_is k) ≡ false → (k ≡ Named.Constant → ⊥) → (k ≡ Named.Or → ⊥) → 1 ≤ n → n ≤ 31 → w + cost (kind_is k) n ≤ 65535
    → Small a → share_wires n d ≡ and_shares n w → (w + and_cost n ≤ 65535 → Small d)
    → xor ≡ sameb the_type k Named.Xor → not ≡ sameb the_type k Named.Not → and ≡ sameb the_type k Named.And
    → head ≡ cond and d.head w → base' ≡ cond xor (w + 1) d.base → base ≡ cond not a.base base' → step' ≡ cond xor 1 d.step
    → step ≡ cond not a.step step'
    → (share_wires n (with_places head base step) ≡ new_shares (kind_is k) n w (share_wires n a)) × Small (with_places head base step)
few_places_are Named.Not n w a d r c o some few fits small are low x i p h b' b t' t =
    rw (h, b, t, b', t', p, x, i) (refl, record { head = omega arith; base = small.base; step = small.step })
few_places_are Named.Xor n w a d r c o some few fits small are low x i p h b' b t' t =
    rw (h, b, t, b', t', p, x, i) (shares_run n w some, record { head = omega arith; base = omega arith; step = omega arith })
few_places_are Named.And n w a d r c o some few fits small are low x i p h b' b t' t =
    rw (h, b, t, b', t', p, x, i) (are, low fits)
few_places_are Named.Random n w a d r c o some few fits small are low x i p h b' b t' t =
    let z : ◌≡◌ {A = ℕ} 0 1 = cc in absurd (omega arith)
few_places_are Named.Constant n w a d r c o some few fits small are low x i p h b' b t' t = absurd (c refl)
few_places_are Named.Or n w a d r c o some few fits small are low x i p h b' b t' t = absurd (o refl)

-- the places of one wire written: there, and everywhere else
module _ {p : ℕ} {a : DPlaces.Places} {L L' : List DKeptPlaces.KeptPlaces} (W : Put p a L L') where
  put_same : Room (p + 1) L → places_at L' p ≡ a
  put_same r = rw (W.written, get_or-set_same L p (kept a) no_places (omega arith)) refl

  put_other : (q : ℕ) → (q ≡ p → ⊥) → places_at L' q ≡ places_at L q
  put_other q e = rw (W.written, get_or-set_other L p q (kept a) no_places e) refl

pub noted_start : {n : ℕ} {S : List (List ℕ)} {L : List DKeptPlaces.KeptPlaces} → Holds n S L → Noted n S L L
noted_start h = record { holds = h; past = λ q _. refl; room = refl }

-- one plain wire more
pub noted_next :
    {n p : ℕ} {S : List (List ℕ)} {a : DPlaces.Places} {L₀ L L' : List DKeptPlaces.KeptPlaces} → Noted n S L₀ L
    → p ≡ length S → Room (p + 1) L → Put p a L L' → Noted n (S ++ (share_wires n a ∷ [])) L₀ L'
noted_next {n} {p} {S} {a} {L₀} {L} {L'} N e r W =
    record {
      holds = λ q h. here q (omega (arith, long)) (eqb q p) refl;
      past = λ q h. put_other W q (λ z. omega (arith, long)) ∙ N.past q (omega (arith, long));
      room = rw (W.written, length-set L p (kept a)) N.room;
    }
  where
    long : length (S ++ (share_wires n a ∷ [])) ≡ suc (length S)
    long = length-append S (share_wires n a ∷ []) ∙ omega arith

    here :
        (q : ℕ) → q ≤ length S → (t : Bool) → eqb q p ≡ t
        → share_wires n (places_at L' q) ≡ get_or (S ++ (share_wires n a ∷ [])) q []
    here q h true t =
        let at : share_wires n (places_at L' q) ≡ share_wires n a =
        rw (eqb-true q p t) (ap {A = DPlaces.Places} {B = List ℕ} (share_wires n) (put_same W r)) in
        let last : get_or (S ++ (share_wires n a ∷ [])) q [] ≡ share_wires n a =
        rw (eqb-true q p t, e) (get_or-append_seam S (share_wires n a) [] []) in
        at ∙ sym last
    here q h false t =
        ap {A = DPlaces.Places} {B = List ℕ} (share_wires n) (put_other W q (eqb-false q p t))
        ∙ N.holds q (omega (arith, eqb-false q p t))
        ∙ sym (get_or-append S (share_wires n a ∷ []) [] q (omega (arith, eqb-false q p t)))

-- the shares so far, gate by gate
after_append :
    (n w : ℕ) (S : List (List ℕ)) (gs hs : List Gate)
    → shares_after n w S (gs ++ hs) ≡ shares_after n (w + total (λ k. cost k n) gs) (shares_after n w S gs) hs
unfolding shares_after total
after_append n w S [] hs = ap {A = ℕ} {B = List (List ℕ)} (λ v. shares_after n v S hs) {x = w} {y = w + 0} (omega arith)
after_append n w S (g ∷ gs) hs =
    let S' = S ++ (new_shares g.kind n w (get_or S g.left []) ∷ []) in
    let w' = w + cost g.kind n in
    after_append n w' S' gs hs
    ∙ ap {A = ℕ} {B = List (List ℕ)} (λ v. shares_after n v (shares_after n w' S' gs) hs)
    {x = w' + total (λ k. cost k n) gs}
    {y = w + (cost g.kind n + total (λ k. cost k n) gs)}
    (omega arith)

after_keeps :
    (n w : ℕ) (S : List (List ℕ)) (gs : List Gate) (q : ℕ) → q < length S → get_or (shares_after n w S gs) q [] ≡ get_or S q []
unfolding shares_after
after_keeps n w S [] q h = refl
after_keeps n w S (g ∷ gs) q h =
    let x = new_shares g.kind n w (get_or S g.left []) in
    after_keeps n (w + cost g.kind n) (S ++ (x ∷ [])) gs q (omega (arith, length-append S (x ∷ [])))
    ∙ get_or-append S (x ∷ []) [] q h

module _ (n : ℕ) (t : Table) where
  pub all_shares_length : length (all_shares n t) ≡ wires t
  all_shares_length =
      shares_after_length n (n * t.inputs) (input_shares n t.inputs) t.gates
      ∙ omega (arith, up_length t.inputs 0 (λ i. up_from n (n * i) (λ w. w)))

  pub shares_to_all : (g : ℕ) → g ≡ length t.gates → shares_to n t g ≡ all_shares n t
  shares_to_all g e =
      ap {A = List Gate} {B = List (List ℕ)} (shares_after n (n * t.inputs) (input_shares n t.inputs))
      (rw e (take-length t.gates))

  module _ (g : ℕ) where
    pub shares_to_length : g ≤ length t.gates → length (shares_to n t g) ≡ t.inputs + g
    shares_to_length h =
        shares_after_length n (n * t.inputs) (input_shares n t.inputs) (take g t.gates)
        ∙ omega (arith, up_length t.inputs 0 (λ i. up_from n (n * i) (λ w. w)), length-take-le g t.gates h)

    -- they are those of the whole
    shares_to_at :
        g ≤ length t.gates → (q : ℕ) → q < t.inputs + g → get_or (all_shares n t) q [] ≡ get_or (shares_to n t g) q []
    shares_to_at h q k =
        let whole =
        ap {A = List Gate} {B = List (List ℕ)} (shares_after n (n * t.inputs) (input_shares n t.inputs))
        (sym (take-append-drop g t.gates))
        ∙ after_append n (n * t.inputs) (input_shares n t.inputs) (take g t.gates) (drop g t.gates) in
        ap {A = List (List ℕ)} {B = List ℕ} (λ S. get_or S q []) whole
        ∙ after_keeps n (gate_wire n t g) (shares_to n t g) (drop g t.gates) q (omega (arith, shares_to_length h))

    -- the wires before plain gate g and those from it on
    pub gate_wire_left :
        gate_wire n t g + total (λ k. cost k n) (drop g t.gates) ≡ n * t.inputs + total (λ k. cost k n) t.gates
    gate_wire_left =
        let c : Kind → ℕ = λ k. cost k n in
        let whole : total c (take g t.gates ++ drop g t.gates) ≡ total c t.gates =
        ap {A = List Gate} {B = ℕ} (total c) (take-append-drop g t.gates) in
        omega (arith, total_append c (take g t.gates) (drop g t.gates))

    -- gate g adds its wires, and one plain wire's shares
    module _ (h : g < length t.gates) where
      pub gate_wire_next : gate_wire n t (suc g) ≡ gate_wire n t g + cost (gate_of t g).kind n
      unfolding total
      gate_wire_next =
          let c : Kind → ℕ = λ k. cost k n in
          let one : total c (take (suc g) t.gates) ≡ total c (take g t.gates ++ (gate_of t g ∷ [])) =
          ap {A = List Gate} {B = ℕ} (total c) (take-suc t.gates g no_gate h) in
          omega (arith, total_append c (take g t.gates) (gate_of t g ∷ []))

      pub shares_to_next :
          shares_to n t (suc g)
          ≡ shares_to n t g
          ++ (new_shares (gate_of t g).kind n (gate_wire n t g) (get_or (shares_to n t g) (gate_of t g).left []) ∷ [])
      unfolding shares_after
      shares_to_next =
          ap {A = List Gate} {B = List (List ℕ)} (shares_after n (n * t.inputs) (input_shares n t.inputs))
          (take-suc t.gates g no_gate h)
          ∙ after_append n (n * t.inputs) (input_shares n t.inputs) (take g t.gates) (gate_of t g ∷ [])

-- the array holds the shares so far
module _ {t : Table} {n : ℕ} {places : List DKeptPlaces.KeptPlaces} (L : Located t n places) where
  pub located_at :
      (g q : ℕ) → g ≤ length t.gates → q < t.inputs + g → get_or (shares_to n t g) q [] ≡ share_wires n (places_at places q)
  located_at g q h k = sym (L.holds q (omega (arith, all_shares_length n t)) ∙ shares_to_at n t g h q k)

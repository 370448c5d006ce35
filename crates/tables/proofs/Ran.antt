-- A run that goes on in a buffer: more gates add their values after those so far. Whatever the values so far are, gates that
-- run on one after the other run on as one list.
-- Assumes nothing.
use mathlib.Core.Path.{◌≡◌, refl, sym, ap, ◌∙◌}
use mathlib.Core.List.{List, [], ◌∷◌, ◌++◌}
use Prim.Native.Nat.{ℕ, suc, ◌+◌, ◌≤◌, ◌<◌}
use native.Mathlib.Omega.{arith}
use lib.ListN.{length, get_or, take, drop, set, length-append, take-append-drop, get_or-append}
use lib.Seq.{length-take-le, get_or-take, take_at, drop_at, append_snoc, set_split}
use Rattle.tables.specs.Tables.{Kind, Gate, gate, total}
use Rattle.tables.specs.Runs.{driven, drawn, run_from, randoms}
use Rattle.tables.specs.Says.{over}
use Rattle.tables.specs.Inside.{Bits, ran_on, RunsTo}
use Rattle.tables.proofs.Put.{over_length, over_over}
use Rattle.tables.proofs.Run.{Reads, driven_local, run_length, run_keep, run_append, run_bits, run_prefix, total_append}

-- one gate sets one value
pub ran_one :
    (k : Kind) (l r : ℕ) (rs : List ℕ) (w : ℕ) (b : List ℕ) → w < length b → Reads w k l r
    → ran_on (gate k l r ∷ []) rs w b ≡ set b w (driven k l r (λ p. get_or b p 0) (get_or rs 0 0))
unfolding ran_on run_from
ran_one k l r rs w b h reads =
    let x = driven k l r (λ p. get_or (take w b) p 0) (get_or rs 0 0) in
    let y = driven k l r (λ p. get_or b p 0) (get_or rs 0 0) in
    let long : length (take w b ++ (x ∷ [])) ≡ suc w =
    length-append (take w b) (x ∷ []) ∙ omega (arith, length-take-le w b (omega arith)) in
    let same : x ≡ y = driven_local k l r w (get_or rs 0 0) _ _ reads (λ p q. get_or-take w b p 0 q) in
    rw long (append_snoc (take w b) x (drop (suc w) b) ∙ sym (set_split b w x h) ∙ ap (set b w) same)

pub ran_is : (gs : List Gate) (rs : List ℕ) (w : ℕ) (b : List ℕ) → ran_on gs rs w b ≡ over (run_from gs rs (take w b)) b
unfolding ran_on
ran_is gs rs w b = refl

pub ran_nil : (rs : List ℕ) (w : ℕ) (b : List ℕ) → w ≤ length b → ran_on [] rs w b ≡ b
unfolding ran_on run_from
ran_nil rs w b h = rw (length-take-le w b h) (take-append-drop w b)

module _ (gs : List Gate) (rs : List ℕ) (w : ℕ) (b : List ℕ) (fits : w + length gs ≤ length b) where
  ran_values : length (run_from gs rs (take w b)) ≡ w + length gs
  ran_values = omega (arith, run_length gs rs (take w b), length-take-le w b (omega arith))

  pub ran_length : length (ran_on gs rs w b) ≡ length b
  unfolding ran_on
  ran_length = over_length (run_from gs rs (take w b)) b (omega (arith, ran_values))

  -- the values so far are then those of the run
  pub ran_taken : {v : ℕ} → v ≡ w + length gs → take v (ran_on gs rs w b) ≡ run_from gs rs (take w b)
  unfolding ran_on
  ran_taken {v} e = take_at (run_from gs rs (take w b)) _ v (omega (arith, ran_values))

  pub ran_keep : (p : ℕ) → p < w → get_or (ran_on gs rs w b) p 0 ≡ get_or b p 0
  unfolding ran_on
  ran_keep p h =
      get_or-append (run_from gs rs (take w b)) _ 0 p (omega (arith, ran_values))
      ∙ run_keep gs rs (take w b) p (omega (arith, length-take-le w b (omega arith)))
      ∙ get_or-take w b p 0 h

  pub ran_bits : {v : ℕ} → v ≡ w + length gs → Bits rs → Bits (take w b) → Bits (take v (ran_on gs rs w b))
  ran_bits e hr hb = rw (ran_taken e) (run_bits gs rs (take w b) hr hb)

  -- gates that run on after others, each with its own random bits
  pub ran_append :
      (hs : List Gate) (rs' : List ℕ) → length rs ≡ randoms gs
      → ran_on (gs ++ hs) (rs ++ rs') w b ≡ ran_on hs rs' (w + length gs) (ran_on gs rs w b)
  ran_append hs rs' exact =
      let Y = run_from gs rs (take w b) in
      let X = run_from hs rs' Y in
      let both : run_from (gs ++ hs) (rs ++ rs') (take w b) ≡ X =
      run_append gs hs (rs ++ rs') (take w b)
      ∙ rw (drop_at rs rs' (randoms gs) exact, run_prefix gs rs rs' (take w b) exact) in
      ran_is (gs ++ hs) (rs ++ rs') w b
      ∙ rw both
      (sym
      (ran_is hs rs' (w + length gs) (ran_on gs rs w b)
      ∙ rw (ran_taken refl, ran_is gs rs w b) (over_over Y X b (omega (arith, run_length hs rs' Y)))))

pub runs_less : {w c : ℕ} {b : List ℕ} (d : ℕ) → RunsTo w c b → d ≤ c → RunsTo w d b
runs_less d R h = record { room = omega (arith, R.room); bits = R.bits }

-- a value so far is a bit
pub runs_bit : {w c : ℕ} {b : List ℕ} → RunsTo w c b → (p : ℕ) → p < w → get_or b p 0 ≤ 1
runs_bit {w} {c} {b} R p h = omega (arith, R.bits p, get_or-take w b p 0 h)

-- a run under way: from w values on the gates gs have run on, v values stand in the buffer, and there is room for c more
pub record Ran (gs : List Gate) (rs : List ℕ) (w : ℕ) (b₀ : List ℕ) (v c : ℕ) (b : List ℕ) : Type 0 where
  pub is : b ≡ ran_on gs rs w b₀
  pub next : v ≡ w + length gs
  pub exact : length rs ≡ randoms gs
  pub long : length b ≡ length b₀
  pub ready : RunsTo v c b

pub ran_start : {w c : ℕ} {b : List ℕ} → RunsTo w c b → Ran [] [] w b w c b
unfolding total
ran_start {w} {c} {b} R =
    record {
      is = sym (ran_nil [] w b (omega (arith, R.room)));
      next = omega arith;
      exact = refl;
      long = refl;
      ready = R;
    }

-- a piece more
pub ran_more :
    {gs : List Gate} {rs : List ℕ} {w : ℕ} {b₀ : List ℕ} {v c : ℕ} {b : List ℕ} → Ran gs rs w b₀ v c b
    → (hs : List Gate) (rs' : List ℕ) {v' : ℕ} (d : ℕ) {b' : List ℕ} → length rs' ≡ randoms hs → Bits rs'
    → b' ≡ ran_on hs rs' v b → v' ≡ v + length hs → length hs + d ≤ c
    → Ran (gs ++ hs) (rs ++ rs') w b₀ v' d b'
ran_more {gs} {rs} {w} {b₀} {v} {c} {b} R hs rs' {v'} d {b'} exact bits ran next room =
    let fits : v + length hs ≤ length b = omega (arith, R.ready.room) in
    let before : w + length gs ≤ length b₀ = omega (arith, R.next, R.long) in
    let long : length b' ≡ length b = ap length ran ∙ ran_length hs rs' v b fits in
    record {
      is = ran ∙ rw (R.is, R.next) (sym (ran_append gs rs w b₀ before hs rs' R.exact));
      next = omega (arith, R.next, length-append gs hs);
      exact = length-append rs rs' ∙ omega (arith, R.exact, total_append drawn gs hs);
      long = long ∙ R.long;
      ready = record {
        room = omega (arith, R.ready.room);
        bits = rw ran (ran_bits hs rs' v b fits next bits R.ready.bits);
      };
    }

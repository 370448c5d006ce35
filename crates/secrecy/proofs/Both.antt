-- Both runs going on together: gates that run on one after the other, and what is left of them, from any values so far.
-- Assumes nothing.
use mathlib.Core.Path.{◌≡◌, refl, sym, ap, ap₂, ◌∙◌, subst, subst₂}
use mathlib.Core.List.{List, [], ◌∷◌, ◌++◌}
use Prim.Native.Nat.{ℕ, ◌+◌, ◌≤◌, ◌<◌}
use native.Mathlib.Omega.{arith}
use lib.ListN.{length, get_or, take, set, length-append}
use lib.Seq.{drop-cons}
use Rattle.tables.specs.Tables.{Gate}
use Rattle.tables.specs.Runs.{xor, randoms}
use Rattle.tables.specs.Inside.{Bits, ran_on, RunsTo}
use Rattle.tables.proofs.Ran.{runs_less, ran_nil, ran_length, ran_bits, ran_append}
use Rattle.secrecy.specs.Maps.{flipped}
use Rattle.secrecy.specs.Both.{BothRan, BothFlip, BothReady, bits_for, flips_at}
use Rattle.secrecy.proofs.Inputs.{flipped_length, flipped_append, flipped_bits}
use Rattle.secrecy.proofs.FlipsAt.{bits_for_long, bits_for_append, bits_for_bits, flipped_long}
use Rattle.secrecy.proofs.FlipsAt.{flips_at_length, flips_at_nil, flips_at_append, flips_at_one}

-- the gates gs are left to run on: then the buffers are M, A and B
pub record BothLeft (gs : List Gate) (rs ss ts : List ℕ) (at w : ℕ) (M A B m a b : List ℕ) : Type 0 where
  pub both : BothRan gs rs ss at w m M a A b B
  pub ready : BothReady w (length gs) at (length ss) ts m a b
  pub alike : length rs ≡ length ss

pub left_start :
    {gs : List Gate} {rs ss ts : List ℕ} {at w : ℕ} {m a b : List ℕ} → BothReady w (length gs) at (length ss) ts m a b
    → length rs ≡ length ss
    → BothLeft gs rs ss ts at w (flips_at at (flipped rs ss) m) (ran_on gs rs w a) (ran_on gs ss w b) m a b
left_start R e = record { both = record { mapped = refl; one = refl; other = refl }; ready = R; alike = e }

-- one run after a piece
pub run_after :
    (gs : List Gate) (rs : List ℕ) (w c : ℕ) {b b' : List ℕ} → b' ≡ ran_on gs rs w b → Bits rs → RunsTo w (length gs + c) b
    → RunsTo (w + length gs) c b'
run_after gs rs w c {b} e bits R =
    let fits : w + length gs ≤ length b = omega (arith, R.room) in
    rw e
    (record {
      room = omega (arith, R.room, ran_length gs rs w b fits);
      bits = ran_bits gs rs w b fits refl bits R.bits;
    })

module _ (gs hs : List Gate) (rs rs' ss ss' : List ℕ) {ts : List ℕ} {at w : ℕ} {M A B m a b m' a' b' : List ℕ}
    (L : BothLeft (gs ++ hs) (rs ++ rs') (ss ++ ss') ts at w M A B m a b)
    (exact : length rs ≡ randoms gs)
    (exact' : length ss ≡ randoms gs)
    (bits : Bits rs)
    (bits' : Bits ss)
    (ran : BothRan gs rs ss at w m m' a a' b b') where
  more_gates : length (gs ++ hs) ≡ length gs + length hs
  more_gates = length-append gs hs

  more_bits : length (ss ++ ss') ≡ length ss + length ss'
  more_bits = length-append ss ss'

  -- the two runs' bits differ in as many places
  differ_long : length (flipped rs ss) ≡ length ss
  differ_long = flipped_length rs ss ∙ exact ∙ sym exact'

  differ_more : flipped (rs ++ rs') (ss ++ ss') ≡ flipped rs ss ++ flipped rs' ss'
  differ_more = flipped_append rs rs' ss ss' (exact ∙ sym exact')

  differ_fits : at + length (flipped rs ss) ≤ length m
  differ_fits = omega (arith, L.ready.room, more_bits, differ_long)

  -- one of the runs
  run_left :
      (us us' : List ℕ) {v v' all : List ℕ} → length us ≡ randoms gs → RunsTo w (length (gs ++ hs)) v → v' ≡ ran_on gs us w v
      → all ≡ ran_on (gs ++ hs) (us ++ us') w v → all ≡ ran_on hs us' (w + length gs) v'
  run_left us us' {v} e R here whole =
      whole ∙ ran_append gs us w v (omega (arith, R.room, more_gates)) hs us' e ∙ rw here

  -- what is left after a piece
  pub left_more : BothLeft hs rs' ss' ts (at + length ss) (w + length gs) M A B m' a' b'
  left_more =
      let R = L.ready in
      let room : length m' ≡ length m = ap length ran.mapped ∙ flips_at_length at (flipped rs ss) m differ_fits in
      record {
        both = record {
          mapped =
              L.both.mapped
              ∙ ap (λ (fs : List ℕ). flips_at at fs m) differ_more
              ∙ sym (flips_at_append at (flipped rs ss) (flipped rs' ss') m differ_fits)
              ∙ ap₂ (λ (n : ℕ) (l : List ℕ). flips_at (at + n) (flipped rs' ss') l) differ_long (sym ran.mapped);
          one = run_left rs rs' exact R.one ran.one L.both.one;
          other = run_left ss ss' exact' R.other ran.other L.both.other;
        };
        ready = record {
          one = run_after gs rs w (length hs) ran.one bits (subst (λ (c : ℕ). RunsTo w c a) more_gates R.one);
          other = run_after gs ss w (length hs) ran.other bits' (subst (λ (c : ℕ). RunsTo w c b) more_gates R.other);
          tape = omega (arith, R.tape, more_bits);
          room = omega (arith, R.room, more_bits);
          few = omega (arith, R.few, more_bits);
          bits = R.bits;
        };
        alike = omega (arith, L.alike, length-append rs rs', more_bits, exact, exact');
      }

pub both_less :
    {w c at d : ℕ} {ts m a b : List ℕ} (c' d' : ℕ) → BothReady w c at d ts m a b → c' ≤ c → d' ≤ d → BothReady w c' at d' ts m a b
both_less c' d' R h k =
    record {
      one = runs_less c' R.one h;
      other = runs_less c' R.other h;
      tape = omega (arith, R.tape);
      room = omega (arith, R.room);
      few = omega (arith, R.few);
      bits = R.bits;
    }

-- nothing is left
pub left_end :
    {ts : List ℕ} {at w : ℕ} {M A B m a b : List ℕ} → BothLeft [] [] [] ts at w M A B m a b
    → (m ≡ M) × (a ≡ A) × (b ≡ B)
unfolding flipped
left_end {ts} {at} {w} {M} {A} {B} {m} {a} {b} L = (
  sym (L.both.mapped ∙ flips_at_nil at m),
  sym (L.both.one ∙ ran_nil [] w a (omega (arith, L.ready.one.room))),
  sym (L.both.other ∙ ran_nil [] w b (omega (arith, L.ready.other.room))),
)

-- the buffers keep their lengths
pub left_long :
    {gs : List Gate} {rs ss ts : List ℕ} {at w : ℕ} {M A B m a b : List ℕ} → BothLeft gs rs ss ts at w M A B m a b
    → (length m ≡ length M) × (length a ≡ length A) × (length b ≡ length B)
left_long {gs} {rs} {ss} {ts} {at} {w} {M} {A} {B} {m} {a} {b} L = (
  sym
      (ap length L.both.mapped
      ∙ flips_at_length at (flipped rs ss) m (omega (arith, L.ready.room, L.alike, flipped_length rs ss))),
  sym (ap length L.both.one ∙ ran_length gs rs w a L.ready.one.room),
  sym (ap length L.both.other ∙ ran_length gs ss w b L.ready.other.room),
)

-- gates are left whose random bits have the flips fs in the second run
pub record FlipsLeft (gs : List Gate) (fs ts : List ℕ) (at w : ℕ) (M A B m a b : List ℕ) : Type 0 where
  pub left : BothLeft gs (bits_for fs at ts) (flipped (bits_for fs at ts) fs) ts at w M A B m a b
  pub fits : at + length fs ≤ length ts

-- flips of a piece, and of those after it
module _ (gs hs : List Gate) (fs es : List ℕ) {all : List Gate} {every ts : List ℕ} {at w : ℕ} {M A B m a b m' a' b' : List ℕ}
    (L : FlipsLeft all every ts at w M A B m a b)
    (gates : all ≡ gs ++ hs)
    (flips : every ≡ fs ++ es)
    (exact : length fs ≡ randoms gs)
    (ran : BothFlip gs fs ts at w m m' a a' b b') where
  flips_fit : at + length fs + length es ≤ length ts
  flips_fit = omega (arith, L.fits, ap length flips, length-append fs es)

  -- what is left after the piece
  pub flips_more : FlipsLeft hs es ts (at + length fs) (w + length gs) M A B m' a' b'
  flips_more =
      let rs = bits_for fs at ts in
      let rs' = bits_for es (at + length fs) ts in
      let long : length rs ≡ length fs = bits_for_long fs at ts (omega (arith, flips_fit)) in
      let long' : length (flipped rs fs) ≡ length fs = flipped_length rs fs ∙ long in
      let cut : bits_for every at ts ≡ rs ++ rs' =
      ap (λ (y : List ℕ). bits_for y at ts) flips ∙ bits_for_append fs es at ts in
      let cut' : flipped (bits_for every at ts) every ≡ flipped rs fs ++ flipped rs' es =
      ap₂ flipped cut flips ∙ flipped_append rs rs' fs es long in
      let bits = bits_for_bits fs at ts L.left.ready.bits in
      let whole : BothLeft (gs ++ hs) (rs ++ rs') (flipped rs fs ++ flipped rs' es) ts at w M A B m a b =
      rw (gates, cut', cut) at L.left in
      let left = left_more gs hs rs rs' (flipped rs fs) (flipped rs' es) whole (long ∙ exact) (long' ∙ exact) bits
      (flipped_bits rs fs bits) ran in
      record {
        left = subst (λ (p : ℕ). BothLeft hs rs' (flipped rs' es) ts p (w + length gs) M A B m' a' b')
            {x = at + length (flipped rs fs)}
            {y = at + length fs}
            (omega arith)
            left;
        fits = flips_fit;
      }

-- the buffers once the gates have run on
abbrev pub tape_after : List ℕ → List ℕ → ℕ → List ℕ → List ℕ
tape_after fs ts at m = flips_at at (flipped (bits_for fs at ts) (flipped (bits_for fs at ts) fs)) m

abbrev pub one_after : List Gate → List ℕ → List ℕ → ℕ → ℕ → List ℕ → List ℕ
one_after gs fs ts at w a = ran_on gs (bits_for fs at ts) w a

abbrev pub other_after : List Gate → List ℕ → List ℕ → ℕ → ℕ → List ℕ → List ℕ
other_after gs fs ts at w b = ran_on gs (flipped (bits_for fs at ts) fs) w b

pub flips_start :
    {gs : List Gate} {fs ts : List ℕ} {at w : ℕ} {m a b : List ℕ} → BothReady w (length gs) at (length fs) ts m a b
    → FlipsLeft gs fs ts at w (tape_after fs ts at m) (one_after gs fs ts at w a) (other_after gs fs ts at w b) m a b
flips_start {gs} {fs} {ts} {at} {w} {m} {a} {b} R =
    record {
      left =
          left_start
          (subst (λ (d : ℕ). BothReady w (length gs) at d ts m a b) (sym (flipped_long fs at ts R.tape)) R)
          (sym (flipped_length (bits_for fs at ts) fs));
      fits = R.tape;
    }

-- a piece, and a piece after it
module _ (gs hs : List Gate) (fs es : List ℕ) {ts : List ℕ} {at w : ℕ} {m m₁ a a₁ b b₁ : List ℕ}
    (R : BothReady w (length gs + length hs) at (length fs + length es) ts m a b)
    (exact : length fs ≡ randoms gs)
    (first : BothFlip gs fs ts at w m m₁ a a₁ b b₁) where
  pub flips_after :
      FlipsLeft hs es ts (at + length fs) (w + length gs)
      (tape_after (fs ++ es) ts at m)
      (one_after (gs ++ hs) (fs ++ es) ts at w a)
      (other_after (gs ++ hs) (fs ++ es) ts at w b)
      m₁ a₁ b₁
  flips_after =
      let all = subst₂ (λ (c d : ℕ). BothReady w c at d ts m a b) (sym (length-append gs hs)) (sym (length-append fs es)) R in
      flips_more gs hs fs es (flips_start all) refl refl exact first

  pub flips_append :
      {m₂ a₂ b₂ : List ℕ} → BothFlip hs es ts (at + length fs) (w + length gs) m₁ m₂ a₁ a₂ b₁ b₂
      → BothFlip (gs ++ hs) (fs ++ es) ts at w m m₂ a a₂ b b₂
  flips_append second =
      let left = flips_after.left.both in
      record {
        mapped = second.mapped ∙ sym left.mapped;
        one = second.one ∙ sym left.one;
        other = second.other ∙ sym left.other;
      }

-- gates that draw one bit, which is flipped by f
pub both_one :
    (gs : List Gate) (f x y at w : ℕ) (ts m : List ℕ) {r : ℕ} {m' a a' b b' : List ℕ} → at < length ts → at < length m
    → (x ≡ get_or ts at 0) × (x ≤ 1) → (r ≡ f) × (r ≤ 1) × (m' ≡ set m at (xor (get_or m at 0) r)) → y ≡ xor x r
    → a' ≡ ran_on gs (x ∷ []) w a → b' ≡ ran_on gs (y ∷ []) w b
    → BothFlip gs (f ∷ []) ts at w m m' a a' b b'
unfolding flipped
both_one gs f x y at w ts m {r} h k first flip second one other =
    let here : bits_for (f ∷ []) at ts ≡ x ∷ [] =
    ap (take 1) (drop-cons ts at 0 h) ∙ ap (λ (v : ℕ). v ∷ []) (sym first.0) in
    let there : flipped (bits_for (f ∷ []) at ts) (f ∷ []) ≡ y ∷ [] =
    ap (λ (l : List ℕ). flipped l (f ∷ [])) here ∙ ap (λ (v : ℕ). v ∷ []) (sym (second ∙ ap (xor x) flip.0)) in
    let differ : xor x y ≡ r = omega (arith, second, first.1, flip.1) in
    rw (there, here)
    (record {
      mapped = flip.2 ∙ flips_at_one at r m k ∙ ap (λ (v : ℕ). flips_at at (v ∷ []) m) (sym differ);
      one = one;
      other = other;
    })

-- gates that draw none
pub both_none :
    (gs : List Gate) (at w : ℕ) (ts m : List ℕ) {a a' b b' : List ℕ} → a' ≡ ran_on gs [] w a → b' ≡ ran_on gs [] w b
    → BothFlip gs [] ts at w m m a a' b b'
unfolding flipped
both_none gs at w ts m one other = record { mapped = sym (flips_at_nil at m); one = one; other = other }

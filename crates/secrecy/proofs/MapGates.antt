-- The gates of the map in both runs, one after the other: what is left after a gate is what was left before it. The law is
-- `map_gates`' own step, from any values so far and for any lawful gadget.
-- Assumes nothing.
use mathlib.Core.Path.{◌≡◌, refl, sym, ap, ◌∙◌, subst, subst₂}
use mathlib.Core.List.{List, [], ◌∷◌, ◌++◌, map, map-append}
use Prim.Native.Nat.{ℕ, suc, ◌+◌, ◌≤◌}
use native.Mathlib.Omega.{arith}
use lib.ListN.{length, get_or, take, drop, length-append, length-drop, length-map}
use lib.Seq.{length-take-le, take-add, drop-drop, get_or-take, take_at, drop_at}
use Rattle.tables.specs.Tables.{Gate, total}
use Rattle.tables.specs.Runs.{run_from, randoms}
use Rattle.tables.specs.Inside.{Bits, ran_on, RunsTo}
use Rattle.tables.proofs.Lists.{bits_take, bits_drop}
use Rattle.tables.proofs.Run.{run_prefix}
use Rattle.tables.proofs.Ran.{ran_taken}
use Rattle.tables.proofs.Accept.{PlainGates}
use Rattle.construction.specs.Gadgets.{Gadget}
use Rattle.construction.specs.Wires.{driver_of, new_wires, new_shares, cost, masked}
use Rattle.construction.specs.Counts.{draws}
use Rattle.construction.proofs.Lawful.{Lawful}
use Rattle.construction.proofs.Costs.{new_length, new_draws, masked_length}
use Rattle.construction.proofs.Placed.{Placed, placed_step}
use Rattle.secrecy.specs.Maps.{flipped, gate_flips, map_gates}
use Rattle.secrecy.specs.Both.{BothRan, BothFlip, BothReady, flips_at}
use Rattle.secrecy.proofs.Inputs.{flipped_length, flipped_bits}
use Rattle.secrecy.proofs.Flips.{gate_flips_length, gate_flips_local, map_step, map_gates_fixed, next_plain}
use Rattle.secrecy.proofs.Both.{BothLeft, left_start, left_more, left_end, both_less}

-- the random bits of the gates xs, from a place of a tape on
abbrev bits_from : ℕ → List Gate → ℕ → List ℕ → List ℕ
bits_from n xs at ts = take (total (λ kd. draws kd n) xs) (drop at ts)

-- the map's gates xs are left: from gate g and wire w on, where S lists the shares so far
pub record GatesLeft (G : Gadget) (n k g w : ℕ) (S : List (List ℕ)) (xs : List Gate) (ts : List ℕ) (at : ℕ) (M A B m a b : List ℕ)
    : Type 0 where
  pub left :
      BothLeft
      (map driver_of (masked G n g w S xs))
      (take (total (λ kd. draws kd n) xs) (drop at ts))
      (map_gates G n k g w S xs (take (total (λ kd. draws kd n) xs) (drop at ts)) (take w a) (take w b))
      ts at w M A B m a b
  pub exact :
      length (map_gates G n k g w S xs (take (total (λ kd. draws kd n) xs) (drop at ts)) (take w a) (take w b))
      ≡ total (λ kd. draws kd n) xs
  pub fits : at + total (λ kd. draws kd n) xs ≤ length ts
  pub some : 1 ≤ n
  pub plain : PlainGates (length S) xs
  pub placed : Placed n w S

-- one gate x: what is left after it is what was left before it
module _ {G : Gadget} (L : Lawful G) {n k g w : ℕ} {S : List (List ℕ)} {x : Gate} {xs : List Gate} {ts : List ℕ} {at : ℕ}
    {M A B m a b : List ℕ}
    (P : GatesLeft G n k g w S (x ∷ xs) ts at M A B m a b) where
  abbrev l : List ℕ
  l = get_or S x.left []

  abbrev r : List ℕ
  r = get_or S x.right []

  abbrev d : ℕ
  d = draws x.kind n

  abbrev these : List Gate
  these = map driver_of (new_wires G x.kind x.left n g w l r)

  abbrev others : List Gate
  others = map driver_of (masked G n (suc g) (w + cost x.kind n) (S ++ (new_shares x.kind n w l ∷ [])) xs)

  abbrev flips : List ℕ
  flips = gate_flips G x.kind n k l r (λ p. get_or a p 0) (λ p. get_or b p 0)

  abbrev first : List ℕ
  first = take d (drop at ts)

  abbrev rest : List ℕ
  rest = bits_from n xs (at + d) ts

  flips_long : length flips ≡ d
  flips_long = gate_flips_length G x.kind n k l r (λ p. get_or a p 0) (λ p. get_or b p 0)

  these_long : length these ≡ cost x.kind n
  these_long = length-map (new_wires G x.kind x.left n g w l r) driver_of ∙ new_length G x.kind x.left n g w l r

  these_draw : randoms these ≡ d
  these_draw = new_draws L x.kind x.left n g w l r

  rest_count : total (λ kd. draws kd n) (x ∷ xs) ≡ d + total (λ kd. draws kd n) xs
  unfolding total
  rest_count = refl

  fits_next : at + d + total (λ kd. draws kd n) xs ≤ length ts
  unfolding total
  fits_next = omega (arith, P.fits)

  bits_cut : bits_from n (x ∷ xs) at ts ≡ first ++ rest
  unfolding total
  bits_cut = take-add d (total (λ kd. draws kd n) xs) (drop at ts) ∙ rw drop-drop

  gates_cut : map driver_of (masked G n g w S (x ∷ xs)) ≡ these ++ others
  unfolding masked
  gates_cut = rw map-append

  first_long : length first ≡ d
  first_long = length-take-le d (drop at ts) (omega (arith, fits_next, length-drop at ts))

  -- the gate has room
  pub gates_ready : BothReady w (cost x.kind n) at d ts m a b
  unfolding total
  gates_ready =
      both_less (cost x.kind n) d P.left.ready
      (omega (arith, ap length gates_cut, length-append these others, these_long))
      (omega (arith, P.exact))

  -- the flips are read off the values so far
  flips_same : gate_flips G x.kind n k l r (λ p. get_or (take w a) p 0) (λ p. get_or (take w b) p 0) ≡ flips
  unfolding PlainGates
  flips_same =
      gate_flips_local G x.kind n k w x.left x.right S _ _ _ _ P.plain.0 P.placed
      (λ p h. get_or-take w a p 0 h)
      (λ p h. get_or-take w b p 0 h)

  module _ {m' a' b' : List ℕ} (ran : BothFlip these flips ts at w m m' a a' b b') where
    ran_first : BothRan these first (flipped first flips) at w m m' a a' b b'
    ran_first =
        subst (λ (c : ℕ). BothRan these (take c (drop at ts)) (flipped (take c (drop at ts)) flips) at w m m' a a' b b')
        flips_long
        ran

    -- the values so far are those of both runs
    taken : (us : List ℕ) {v v' : List ℕ} → RunsTo w (length (map driver_of (masked G n g w S (x ∷ xs)))) v → v' ≡ ran_on these us w v
        → run_from these us (take w v) ≡ take (w + cost x.kind n) v'
    taken us {v} R e =
        let room : w + length these ≤ length v = omega (arith, R.room, ap length gates_cut, length-append these others) in
        sym (rw e (ran_taken these us w v room {v = w + cost x.kind n} (omega (arith, these_long))))

    second_cut :
        map_gates G n k g w S (x ∷ xs) (bits_from n (x ∷ xs) at ts) (take w a) (take w b)
        ≡ flipped first flips
        ++ map_gates G n k (suc g) (w + cost x.kind n) (S ++ (new_shares x.kind n w l ∷ [])) xs rest
        (take (w + cost x.kind n) a')
        (take (w + cost x.kind n) b')
    second_cut =
        map_step L n k g w S x xs (bits_from n (x ∷ xs) at ts) (take w a) (take w b)
        ∙ rw (
          bits_cut,
          take_at first rest d first_long,
          drop_at first rest d first_long,
          flips_same,
          run_prefix these first rest (take w a) (first_long ∙ sym these_draw),
          taken first P.left.ready.one ran_first.one,
          taken (flipped first flips) P.left.ready.other ran_first.other,
        )

    pub gates_more :
        GatesLeft G n k (suc g) (w + cost x.kind n) (S ++ (new_shares x.kind n w l ∷ [])) xs ts (at + d) M A B m' a' b'
    unfolding PlainGates
    gates_more =
        let second : length (flipped first flips) ≡ d = flipped_length first flips ∙ first_long in
        let bits : Bits first = bits_take d (drop at ts) (bits_drop at ts P.left.ready.bits) in
        let ss = map_gates G n k (suc g) (w + cost x.kind n) (S ++ (new_shares x.kind n w l ∷ [])) xs rest
        (take (w + cost x.kind n) a')
        (take (w + cost x.kind n) b') in
        let whole : BothLeft (these ++ others) (first ++ rest) (flipped first flips ++ ss) ts at w M A B m a b =
        rw (gates_cut, second_cut, bits_cut) at P.left in
        let left = left_more these others first rest (flipped first flips) ss whole (first_long ∙ sym these_draw)
        (second ∙ sym these_draw) bits (flipped_bits first flips bits) ran_first in
        record {
          left = rw (second, these_long) at left;
          exact = omega (arith, ap length second_cut, length-append (flipped first flips) ss, P.exact, rest_count);
          fits = fits_next;
          some = P.some;
          plain = next_plain n w S x xs P.plain.1;
          placed = placed_step x.kind n w x.left x.right S P.some P.plain.0 P.placed;
        }

module _ {G : Gadget} (L : Lawful G) (n k g w : ℕ) (S : List (List ℕ)) (xs : List Gate) {ts : List ℕ} {at : ℕ} {m a b : List ℕ}
    (R : BothReady w (total (λ kd. cost kd n) xs) at (total (λ kd. draws kd n) xs) ts m a b)
    (some : 1 ≤ n)
    (plain : PlainGates (length S) xs)
    (placed : Placed n w S) where
  abbrev all : List Gate
  all = map driver_of (masked G n g w S xs)

  abbrev firsts : List ℕ
  firsts = bits_from n xs at ts

  abbrev seconds : List ℕ
  seconds = map_gates G n k g w S xs firsts (take w a) (take w b)

  all_long : length all ≡ total (λ kd. cost kd n) xs
  all_long = length-map (masked G n g w S xs) driver_of ∙ masked_length G n g w S xs

  firsts_long : length firsts ≡ total (λ kd. draws kd n) xs
  firsts_long = length-take-le (total (λ kd. draws kd n) xs) (drop at ts) (omega (arith, R.tape, length-drop at ts))

  seconds_long : length seconds ≡ total (λ kd. draws kd n) xs
  seconds_long =
      let fixed = map_gates_fixed L n k g w S xs firsts (take w a) (take w b) some plain placed
      (length-take-le w a (omega (arith, R.one.room)))
      (length-take-le w b (omega (arith, R.other.room)))
      firsts_long in
      ap length fixed.holds ∙ flipped_length firsts _ ∙ firsts_long

  pub gates_start :
      GatesLeft G n k g w S xs ts at (flips_at at (flipped firsts seconds) m) (ran_on all firsts w a) (ran_on all seconds w b) m a b
  gates_start =
      record {
        left =
            left_start
            (subst₂ (λ (c d : ℕ). BothReady w c at d ts m a b) (sym all_long) (sym seconds_long) R)
            (firsts_long ∙ sym seconds_long);
        exact = seconds_long;
        fits = R.tape;
        some = some;
        plain = plain;
        placed = placed;
      }

pub gates_end :
    {G : Gadget} {n k g w : ℕ} {S : List (List ℕ)} {ts : List ℕ} {at : ℕ} {M A B m a b : List ℕ}
    → GatesLeft G n k g w S [] ts at M A B m a b → (m ≡ M) × (a ≡ A) × (b ≡ B)
unfolding masked map_gates total
gates_end P = left_end P.left

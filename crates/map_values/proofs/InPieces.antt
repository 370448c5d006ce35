-- Gates that run on in pieces of one size, as the loops run them; no piece draws a random bit.
-- Assumes nothing.
use mathlib.Core.Path.{◌≡◌, refl, sym, ap, ◌∙◌, subst}
use mathlib.Core.Bool.{Bool, true, false, cond}
use mathlib.Core.List.{List, [], ◌∷◌, ◌++◌}
use Prim.Native.Nat.{ℕ, suc, ◌+◌, ◌-◌, ◌*◌, ◌%◌, ◌≤◌, ◌<◌}
use native.Mathlib.Nat.{mul-le-mul_left}
use native.Mathlib.Numerals.{add-one}
use native.Mathlib.Omega.{arith}
use lib.Dec.{eqb}
use lib.ListN.{length, set}
use Rattle.tables.specs.Tables.{XOR, CONSTANT, Gate, gate, total}
use Rattle.tables.specs.Runs.{randoms}
use Rattle.tables.specs.Inside.{ran_on, RunsTo}
use Rattle.tables.proofs.Lists.{bits_nil}
use Rattle.tables.proofs.Ran.{Ran, ran_one, ran_start, ran_more, runs_less}
use Rattle.layout.specs.Layout.{pieces_from, constant_gates}
use Rattle.layout.proofs.Bytes.{pieces_snoc}

-- of m pieces c have run on, and the next one begins at wire v
pub record InPieces (size w m : ℕ) (f : ℕ → List Gate) (b₀ : List ℕ) (v c : ℕ) (b : List ℕ) : Type 0 where
  pub ran : Ran (pieces_from c 0 f) [] w b₀ v (size * m - size * c) b
  pub place : v ≡ w + size * c
  pub within : c ≤ m

pub pieces_start :
    (size w m : ℕ) (f : ℕ → List Gate) (b : List ℕ) {v : ℕ} → v ≡ w → RunsTo w (size * m) b → InPieces size w m f b v 0 b
unfolding pieces_from
pieces_start size w m f b {v} e R =
    rw e
    (record {
      ran = ran_start (runs_less (size * m - size * 0) R (omega arith));
      place = omega arith;
      within = omega arith;
    })

module _ {size w m : ℕ} {f : ℕ → List Gate} {b₀ : List ℕ} {v c : ℕ} {b : List ℕ} (P : InPieces size w m f b₀ v c b) where
  -- the next piece has room
  pub pieces_room : c < m → RunsTo v size b
  pieces_room h = runs_less size P.ran.ready (omega (arith, mul-le-mul_left size h))

  pub pieces_turn :
      {v' : ℕ} {gs : List Gate} (b' : List ℕ) → c < m → length (f c) ≡ size → randoms (f c) ≡ 0 → gs ≡ f c
      → b' ≡ ran_on gs [] v b → v' ≡ v + size → InPieces size w m f b₀ v' (c + 1) b'
  pieces_turn {v'} b' h long none piece ran₀ next =
      let ran : b' ≡ ran_on (f c) [] v b = ran₀ ∙ ap (λ (gs : List Gate). ran_on gs [] v b) piece in
      let more = ran_more P.ran (f c) [] {v' = v'} (size * m - size * suc c) (sym none) bits_nil ran (omega arith)
      (omega (arith, mul-le-mul_left size h)) in
      let gates : pieces_from c 0 f ++ f c ≡ pieces_from (suc c) 0 f =
      sym (pieces_snoc c 0 f ∙ ap (λ (i : ℕ). pieces_from c 0 f ++ f i) {x = 0 + c} {y = c} (omega arith)) in
      rw add-one
      (record {
        ran = subst (λ (gs : List Gate). Ran gs [] w b₀ v' (size * m - size * suc c) b') gates more;
        place = omega (arith, P.place);
        within = h;
      })

  pub pieces_end : m ≤ c → b ≡ ran_on (pieces_from m 0 f) [] w b₀
  pieces_end h =
      let all : c ≡ m = omega (arith, P.within) in
      P.ran.is ∙ ap (λ (d : ℕ). ran_on (pieces_from d 0 f) [] w b₀) all

-- an XOR draws nothing
pub xor_none : (l r : ℕ) → randoms (gate XOR l r ∷ []) ≡ 0
unfolding total
xor_none l r = refl

-- a share of a constant: it draws nothing, and its value is a bit
pub constant_none : (l s : ℕ) → randoms (constant_gates l s) ≡ 0
unfolding total
constant_none l s = refl

pub constant_ran :
    (l s w : ℕ) (b : List ℕ) {bit : ℕ} → l ≤ 1 → w < length b → bit ≡ cond (eqb s 0) l 0
    → set b w bit ≡ ran_on (constant_gates l s) [] w b
constant_ran l s w b {bit} h k e =
    let value = cond (eqb s 0) l 0 in
    let small : value ≤ 1 = at_most (eqb s 0) in
    let same : bit ≡ value % 2 = omega (arith, e, small) in
    ap (set b w) same ∙ sym (ran_one CONSTANT value 0 [] w b k small)
  where
    at_most : (t : Bool) → cond t l 0 ≤ 1
    at_most true = h
    at_most false = omega arith

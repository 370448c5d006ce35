-- `map_values::run_nots` meets its contract: one NOT after the other.
-- Assumes nothing.
use mathlib.Core.Path.{◌≡◌, refl}
use mathlib.Core.List.{List, [], ◌∷◌}
use Prim.Native.Nat.{ℕ, ◌+◌}
use native.Mathlib.Omega.{arith}
use Rattle.tables.specs.Tables.{NOT, gate, total}
use Rattle.tables.specs.Inside.{ran_on, RunsTo}
use Rattle.tables.proofs.Lists.{bits_nil}
use Rattle.tables.proofs.Ran.{Ran, ran_start, ran_more}
use Rattle.map_values.proofs.run_nots.Goals as goal

first :
    {w l : ℕ} {b b₁ : List ℕ} → RunsTo w 2 b → b₁ ≡ ran_on (gate NOT l 0 ∷ []) [] w b → Ran (gate NOT l 0 ∷ []) [] w b (w + 1) 1 b₁
unfolding total
first {l = l} R e = ran_more (ran_start R) (gate NOT l 0 ∷ []) [] 1 refl bits_nil e (omega arith) (omega arith)

pub run_not-requires-2 : goal.run_not-requires-2
run_not-requires-2 c = ((first c.requires.0 c.run_not.ensures).ready, omega (arith, c.requires.2))

pub returns : goal.returns
unfolding total
returns c =
    (ran_more (first c.requires.0 c.run_not.ensures) (gate NOT c.args.right 0 ∷ []) [] {v' = c.args.w + 2} 0 refl bits_nil
    c.run_not-2.ensures
    (omega arith)
    (omega arith)
    ).is

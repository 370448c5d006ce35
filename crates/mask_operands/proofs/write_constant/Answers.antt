-- `mask_operands::write_constant` meets its contract.
-- Assumes nothing.
use mathlib.Core.Path.{◌≡◌, refl, ap}
use mathlib.Core.Bool.{cond}
use mathlib.Core.List.{List, ◌++◌}
use Prim.Native.Nat.{ℕ}
use native.Mathlib.Omega.{arith}
use lib.Dec.{eqb}
use Rattle.std.proofs.lemmas.Bool.Decides.{nat_tests}
use Rattle.tables.specs.Tables.{two, pair_bytes}
use Rattle.layout.proofs.Bytes.{pairs_pieces, put_pieces_start, put_pieces_turn, put_pieces_end}
use Rattle.mask_operands.proofs.write_constant.Goals as goal
use Rattle.mask_operands.proofs.write_constant.Goals.{then-s-eq0, else-s-eq0}

pub loop-s-init : goal.loop-s-init
unfolding pair_bytes
loop-s-init c = put_pieces_start 4 c.args.at _ _ _ _ (λ _ _. refl) (omega arith) c.requires.0

pub loop-s-preserved : goal.loop-s-preserved
unfolding pair_bytes
loop-s-preserved c =
    let left : c.if-s-eq0.left ≡ cond (eqb c.loop-s.s 0) c.args.value 0 =
    elim c.if-s-eq0.branch [ then-s-eq0 w ↦ grind (arith, nat_tests) | else-s-eq0 w ↦ grind (arith, nat_tests) ] in
    let piece = ap {A = ℕ} {B = List ℕ} (λ y. two y ++ two 0) left in
    put_pieces_turn c.loop-s.invariant _ _ (omega arith) refl piece c.put_gate.ensures (omega arith)

pub returns : goal.returns
returns c = rw pairs_pieces (put_pieces_end c.loop-s.invariant (omega arith))

-- `map_values::run_xors` meets its contract.
-- Assumes nothing.
use mathlib.Core.Path.{refl, ap₂}
use mathlib.Core.List.{List, [], ◌∷◌}
use Prim.Native.Nat.{ℕ}
use native.Mathlib.Omega.{arith}
use Rattle.tables.specs.Tables.{XOR, Gate, gate}
use Rattle.tables.proofs.Ran.{runs_less}
use Rattle.map_values.proofs.InPieces.{pieces_start, pieces_room, pieces_turn, xor_none}
use Rattle.map_values.proofs.Before.{left_low, right_low, left_before, right_before}
use Rattle.map_values.proofs.run_xors.Goals as goal

pub loop-s-init : goal.loop-s-init
loop-s-init c = pieces_start 1 c.args.w c.args.n _ _ (omega arith) (runs_less _ c.requires.1 (omega arith))

pub share_wire-left-requires : goal.share_wire-left-requires
share_wire-left-requires c = left_low c.requires.0 c.loop-s-test.true

pub share_wire-right-requires : goal.share_wire-right-requires
share_wire-right-requires c = right_low c.requires.0 c.loop-s-test.true

pub run_xor-requires : goal.run_xor-requires
run_xor-requires c =
    let before = c.requires.0 in
    let h = c.loop-s-test.true in
    let left = left_before before h (c.share_wire-left.ensures.1 c.args.n h) in
    let right = right_before before h (c.share_wire-right.ensures.1 c.args.n h) in
    (pieces_room c.loop-s.invariant h, omega (arith, left), omega (arith, right))

pub loop-s-preserved : goal.loop-s-preserved
loop-s-preserved c =
    let h = c.loop-s-test.true in
    let left = c.share_wire-left.ensures.1 c.args.n h in
    let right = c.share_wire-right.ensures.1 c.args.n h in
    let piece = ap₂ {A = ℕ} {B = ℕ} {C = List Gate} (λ l r. gate XOR l r ∷ []) left right in
    pieces_turn c.loop-s.invariant _ h refl (xor_none _ _) piece c.run_xor.ensures (omega arith)

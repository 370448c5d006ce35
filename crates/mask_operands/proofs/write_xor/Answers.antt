-- `mask_operands::write_xor` meets its contract.
-- Assumes nothing.
use mathlib.Core.Path.{refl, ap₂}
use mathlib.Core.List.{◌++◌}
use Prim.Native.Nat.{ℕ}
use native.Mathlib.Omega.{arith}
use Rattle.tables.specs.Tables.{two, pair_bytes}
use Rattle.layout.proofs.Bytes.{pairs_pieces, put_pieces_start, put_pieces_turn, put_pieces_end}
use Rattle.mask_operands.proofs.write_xor.Goals as goal

pub loop-s-init : goal.loop-s-init
unfolding pair_bytes
loop-s-init c =
    put_pieces_start 4 c.args.at _ _ _ _ (λ _ _. refl) (omega arith) c.requires

pub loop-s-preserved : goal.loop-s-preserved
unfolding pair_bytes
loop-s-preserved c =
    let piece = ap₂ (λ (x y : ℕ). two x ++ two y) c.wires-left.ensures.left.0 c.wires-left.ensures.right.0 in
    put_pieces_turn c.loop-s.invariant _ _ (omega arith) refl piece c.put_gate.ensures (omega arith)

pub returns : goal.returns
returns c = rw pairs_pieces (put_pieces_end c.loop-s.invariant (omega arith))

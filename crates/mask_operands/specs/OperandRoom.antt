-- For contracts inside the library only: no promise of a call cites this. What writing the operands of a plain gate's new wires
-- takes.
-- Assumes nothing.
use Rattle.std.specs.Prelude.{List, ℕ, ◌+◌, ◌*◌, ◌≤◌, ◌<◌, length}
use Rattle.tables.specs.declared.Kind as DKind
use Rattle.tables.specs.Kinds.{kind_is}
use Rattle.construction.specs.Wires.{cost}
use Rattle.layout.specs.declared.Operands as DOperands
use Rattle.layout.specs.Layout.{ReadsShares}

-- what writing the operands of a plain gate's new wires takes: wires, or a value, that a field can hold, and room for them
pub record OperandRoom (kind : DKind.Kind) (value n w : ℕ) (o : DOperands.Operands) (at : ℕ) (ops : List ℕ) : Type 0 where
  pub small : value < 65536
  pub some : 1 ≤ n
  pub shares : ReadsShares n o
  pub wires : w + cost (kind_is kind) n ≤ 65536
  pub room : at + 4 * cost (kind_is kind) n ≤ length ops

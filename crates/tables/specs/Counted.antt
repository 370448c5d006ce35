-- How many gates there are of each kind (Card 3). No promise of a call cites this; the law of the forecast does.
-- Assumes nothing.
use Rattle.std.specs.Prelude.{cond, List, ℕ, eqb}
use Rattle.tables.specs.declared.Counts as DCounts
use Rattle.tables.specs.Tables.{Kind, NOT, XOR, AND, RANDOM, CONSTANT, OR, UNKNOWN, Gate, total}

-- 1 for the kind with byte b, 0 to 5, and 0 for every other: its total counts the gates of a kind
abbrev pub of_kind : ℕ → Kind → ℕ
of_kind b NOT = cond (eqb b 0) 1 0
of_kind b XOR = cond (eqb b 1) 1 0
of_kind b AND = cond (eqb b 2) 1 0
of_kind b RANDOM = cond (eqb b 3) 1 0
of_kind b CONSTANT = cond (eqb b 4) 1 0
of_kind b OR = cond (eqb b 5) 1 0
of_kind b (UNKNOWN k) = 0

-- "the number of gates of each kind"
abbrev pub counts_of : List Gate → DCounts.Counts
counts_of gs = record {
  nots = total (of_kind 0) gs;
  xors = total (of_kind 1) gs;
  ands = total (of_kind 2) gs;
  randoms = total (of_kind 3) gs;
  constants = total (of_kind 4) gs;
  ors = total (of_kind 5) gs;
}

-- `share_places::plain_gate` meets its contract: a plain table's gates are sound, and none is random.
-- Assumes nothing.
use mathlib.Core.Path.{◌∙◌}
use Rattle.share_places.proofs.Turns.{plan_sized, known_below, turn_known, turn_plain}
use Rattle.share_places.proofs.plain_gate.Goals as goal

pub invariant_of-gates : goal.invariant_of-gates
invariant_of-gates c = record { all = (plan_sized c.args.planned.now.ready).gates }

pub known_kind-requires : goal.known_kind-requires
known_kind-requires c = known_below _ (rw c.at-x.ensures.kind (turn_known c.args.planned.now.ready c.requires))

pub returns : goal.returns
returns c =
    let is = c.at-x.ensures in
    record {
      kind = c.known_kind.ensures ∙ is.kind;
      plain = turn_plain c.args.planned.now.ready c.requires;
      left = is.left;
      right = is.right;
      left_small = is.left_small;
      right_small = is.right_small;
    }

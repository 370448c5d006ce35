-- `bits::first_bad` meets its contract: what `position` finds is the first byte above 1.
-- Assumes nothing.
use Rattle.std.proofs.Common.{◌<◌, ◌≤◌, rules, tests}
use Rattle.std.proofs.lemmas.Iterator.{IsFirst-from_position, YieldsList-from_slice}
use Rattle.bits.proofs.Scan.{first_found}
use Rattle.bits.proofs.first_bad.Goals as goal

pub returns : goal.returns
returns c =
    let bs = c.args.bits.now in
    first_found bs c.position.result
    (IsFirst-from_position _ _ _ (λ b. 1 < b) (λ b. b ≤ 1) c.position.ensures.ran (YieldsList-from_slice bs cc)
    (λ x q k. search (rules, tests))
    (λ x q k. search (rules, tests)))

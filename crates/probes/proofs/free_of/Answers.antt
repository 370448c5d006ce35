-- `probes::free_of` meets its contract: what `position` finds among the flags of 1 to n is the first number that is not seen.
-- Assumes nothing.
use Rattle.std.proofs.Common.{◌≡◌, ◌+◌, ◌-◌, true, false, rules, tests}
use Rattle.std.proofs.lemmas.Iterator.{IsFirst-from_position, YieldsList-from_slice}
use native.Mathlib.Omega.{arith}
use Rattle.probes.proofs.Seeing.{free_found}
use Rattle.probes.proofs.free_of.Goals as goal

pub returns : goal.returns
returns c cs S =
    let width : c.args.n + 1 - 1 ≡ c.args.n = omega arith in
    free_found cs c.args.seen.now S c.args.n c.requires _ width c.position.result
    (IsFirst-from_position _ _ _ (λ b. b ≡ false) (λ b. b ≡ true) c.position.ensures.ran (YieldsList-from_slice _ cc)
    (λ x q k. search (rules, tests))
    (λ x q k. search (rules, tests)))
    (grind arith)

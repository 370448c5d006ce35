-- `ands::upper_flipped` meets its contract: where the fifth wire adds both products, the lower share alone decides.
-- Assumes nothing.
use mathlib.Core.Path.{sym, ap}
use Rattle.std.proofs.Common.{Some}
use Rattle.ands.proofs.Forms.{flip_none, upper_none, upper_free}
use Rattle.ands.proofs.upper_flipped.Goals as goal

pub returns-then-form-eq0 : goal.returns-then-form-eq0
returns-then-form-eq0 c =
    let F = c.pair_form-form.ensures in
    let s = c.args in (
      sym (upper_free s.and F s.k c.if-form-eq0.true),
      λ i j p q hq n m. flip_none F s.k i j p q hq n (λ b e. m (ap Some (sym e))),
    )

pub returns : goal.returns
returns c =
    let F = c.pair_form-form.ensures in
    let s = c.args in (
      sym (upper_none s.and F s.k c.if-form-eq0.false),
      λ i j p q hq n m. flip_none F s.k i j p q hq n (λ b e. c.if-form-eq0.false b),
    )

-- The loop's invariant in `map_rows::run_high_sums`: in each run j sums have run on, and `Upright`.
-- Assumes nothing.
use Prim.Native.Nat.{◌+◌, ◌*◌}
use Rattle.construction.specs.Shares.{pair_at}
use Rattle.layout.proofs.Pieces.{Upright}
use Rattle.map_rows.proofs.InSums.{InSums}
use Rattle.map_rows.proofs.run_high_sums.Given as goal

abbrev pub invariant-loop-j : goal.invariant-loop-j
invariant-loop-j l =
    InSums l.last l.i (λ d. l.w + 5 * pair_at l.n d l.i + l.form.high) l.initial.one l.x l.j l.one
    × InSums l.last l.i (λ d. l.w + 5 * pair_at l.n d l.i + l.form.high) l.initial.other l.y l.j l.other
    × Upright l.n l.w l.i l.j l.z

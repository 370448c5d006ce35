-- `map_rows::run_row` meets its contract: in each run the own product, the first sums, the last sums.
-- Assumes nothing.
use native.Mathlib.Omega.{arith}
use Rattle.tables.proofs.Ran.{runs_less}
use Rattle.construction.specs.Gadgets.{gadget_of}
use Rattle.layout.specs.Layout.{share_wires}
use Rattle.layout.proofs.Pieces.{low_within}
use Rattle.map_values.proofs.Before.{left_low, right_low, left_before, right_before}
use Rattle.map_rows.proofs.Rows.{high_ready, low_ready, row_ran}
use Rattle.map_rows.proofs.run_row.Goals as goal

pub share_wire-ai-requires : goal.share_wire-ai-requires
share_wire-ai-requires c = left_low c.requires.2 c.requires.3

pub share_wire-bi-requires : goal.share_wire-bi-requires
share_wire-bi-requires c = right_low c.requires.2 c.requires.3

pub run_and-requires : goal.run_and-requires
run_and-requires c =
    let n = c.args.n in
    let h = c.requires.3 in
    let left = left_before c.requires.2 h (c.share_wire-ai.ensures.1 n h) in
    let right = right_before c.requires.2 h (c.share_wire-bi.ensures.1 n h) in
    (runs_less 1 c.requires.0 (omega arith), omega (arith, left, c.requires.4), omega (arith, right, c.requires.4))

pub run_and-requires-2 : goal.run_and-requires-2
run_and-requires-2 c =
    let n = c.args.n in
    let h = c.requires.3 in
    let left = left_before c.requires.2 h (c.share_wire-ai.ensures.1 n h) in
    let right = right_before c.requires.2 h (c.share_wire-bi.ensures.1 n h) in
    (runs_less 1 c.requires.1 (omega arith), omega (arith, left, right, c.requires.4), omega (arith, left, right, c.requires.4))

pub run_high_sums-z-requires : goal.run_high_sums-z-requires
run_high_sums-z-requires c =
    let G = gadget_of c.args.and in (
      high_ready G c.args.w _ _ c.requires.0 c.requires.3 c.run_and.ensures,
      high_ready G c.args.w _ _ c.requires.1 c.requires.3 c.run_and-2.ensures,
      c.requires.3,
      c.requires.2.few,
      c.requires.4,
      omega (arith, c.requires.5),
    )

pub run_low_sums-requires : goal.run_low_sums-requires
run_low_sums-requires c =
    let ran = c.run_high_sums-z.ensures in
    let h = c.requires.3 in
    let G = gadget_of c.args.and in (
      low_ready G c.args.w _ _ c.requires.0 h c.run_and.ensures ran.1,
      low_ready G c.args.w _ _ c.requires.1 h c.run_and-2.ensures ran.2,
      λ m k.
          omega (
            arith,
            low_within G c.args.n c.args.w c.args.i _ m (ran.0 (omega (arith, k, h))) (omega (arith, k, h)),
            c.requires.4,
          ),
    )

pub returns : goal.returns
returns c =
    let n = c.args.n in
    let h = c.requires.3 in
    let G = gadget_of c.args.and in
    let A = share_wires n c.args.operands.left in
    let B = share_wires n c.args.operands.right in
    let left = c.share_wire-ai.ensures.1 n h in
    let right = c.share_wire-bi.ensures.1 n h in
    let ran = c.run_high_sums-z.ensures in
    let sums = c.run_low_sums.ensures in (
      row_ran G c.args.w _ _ c.requires.0 h c.run_and.ensures ran.1 A B left right ran.0 sums.0,
      row_ran G c.args.w _ _ c.requires.1 h c.run_and-2.ensures ran.2 A B left right ran.0 sums.1,
    )

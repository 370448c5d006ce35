-- `mask_kinds::write_rows_kinds` meets its contract.
-- Assumes nothing.
use mathlib.Core.Path.{refl, subst}
use Prim.Native.Nat.{ℕ, suc, ◌+◌, ◌*◌, ◌≤◌}
use native.Mathlib.Nat.{mul-le-mul_left}
use native.Mathlib.Omega.{arith}
use lib.ListN.{length}
use Rattle.mask_kinds.specs.Kinds.{row_kinds, XorsFrom}
use Rattle.layout.proofs.Bytes.{put_pieces_start, put_pieces_turn, put_pieces_end}
use Rattle.mask_kinds.proofs.GateKinds.{row_kinds_long, row_head, xors_after}
use Rattle.mask_kinds.proofs.write_rows_kinds.Goals as goal

pub loop-i-init : goal.loop-i-init
loop-i-init c = (
  put_pieces_start c.args.n c.args.at _ _ _ _ (λ i h. row_kinds_long c.args.n (omega (arith, h))) (omega arith) c.requires.0,
  subst (λ (x : ℕ). XorsFrom x c.args.kinds.now) {x = c.args.at} {y = c.args.at + c.args.n * 0} (omega arith) c.requires.1,
)

pub loop-i-preserved : goal.loop-i-preserved
loop-i-preserved c =
    let n = c.args.n in
    let b = c.loop-i.kinds in
    let inv = c.loop-i.invariant in
    let rows : n * suc c.loop-i.i ≤ n * n = mul-le-mul_left n c.loop-i-test.true in
    let within : c.args.at + n * c.loop-i.i + n ≤ length b = omega (arith, inv.0.long, c.requires.0) in
    let some = row_kinds_long n (omega arith) in
    let put = row_head _ n b (omega arith) inv.1 within in (
      put_pieces_turn inv.0 _ _ c.loop-i-test.true some refl put (omega arith),
      xors_after _ (row_kinds n) b inv.1 (omega (arith, within, some)) put (omega (arith, some)),
    )

pub returns : goal.returns
returns c = put_pieces_end c.loop-i.invariant.0 (omega arith)

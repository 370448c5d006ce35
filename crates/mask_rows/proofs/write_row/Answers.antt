-- `mask_rows::write_row` meets its contract: the own product, the first sums, the last sums.
-- Assumes nothing.
use mathlib.Core.Path.{◌≡◌, refl}
use mathlib.Core.List.{◌++◌}
use Prim.Native.Nat.{◌+◌, ◌-◌, ◌*◌}
use native.Mathlib.Omega.{arith}
use lib.ListN.{length}
use Rattle.tables.specs.Tables.{two, pair_bytes}
use Rattle.tables.proofs.Format.{pairs_long}
use Rattle.tables.proofs.Put.{put_then}
use Rattle.construction.specs.Gadgets.{Gadget, gadget_of}
use Rattle.layout.specs.Layout.{high_gates, low_gates}
use Rattle.layout.proofs.Bytes.{pairs_append}
use Rattle.layout.proofs.Pieces.{low_within, low_same, high_long}
use Rattle.mask_rows.proofs.write_row.Goals as goal

pub write_low_sums-requires : goal.write_low_sums-requires
write_low_sums-requires c =
    let z = c.write_high_sums-z.result in
    let low = c.write_high_sums-z.ensures.0 in (
      omega arith,
      λ m h. omega (
        arith,
        low_within (gadget_of c.args.and) c.args.reads.shares c.args.w
            c.args.i z m (low (omega arith)) (omega arith),
        c.requires.2,
      ),
      omega arith,
    )

pub returns : goal.returns
unfolding pair_bytes
returns c =
    let G : Gadget = gadget_of c.args.and in
    let n = c.args.reads.shares in
    let i = c.args.i in
    let v = c.args.v in
    let at = c.args.at in
    let b = c.args.ops.now in
    let z = c.write_high_sums-z.result in
    let product = two c.wires-ai.result.0 ++ two c.wires-ai.result.1 in
    let firsts = high_gates G n c.args.w v i in
    let lasts = low_gates G z (v + i) (n - 1 - i) in
    let long : length (pair_bytes firsts) ≡ 4 * i = omega (arith, pairs_long firsts, high_long G n c.args.w v i) in
    let to2 = put_then at product (pair_bytes firsts) b (omega (arith, c.requires.3)) c.put_gate.ensures refl
    c.write_high_sums-z.ensures.1 in
    let to3 = put_then at (product ++ pair_bytes firsts) (pair_bytes lasts) b (omega (arith, c.requires.3)) to2 (omega arith)
    c.write_low_sums.ensures in
    rw (
      low_same G n c.args.w i z (v + i) (n - 1 - i) (omega arith) c.write_high_sums-z.ensures.0,
      pairs_append firsts lasts,
      ← c.wires-ai.ensures.left.0,
      ← c.wires-ai.ensures.right.0,
    )
    to3

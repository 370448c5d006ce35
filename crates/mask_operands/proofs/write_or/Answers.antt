-- `mask_operands::write_or` meets its contract: two NOTs, the AND, a NOT.
-- Assumes nothing.
use Prim.Native.Nat.{◌+◌, ◌<◌}
use native.Mathlib.Omega.{arith}
use Rattle.construction.specs.Gadgets.{gadget_of}
use Rattle.layout.specs.Layout.{share_wires}
use Rattle.layout.proofs.ShareWires.{first_each}
use Rattle.mask_operands.proofs.OrBytes.{or_bytes}
use Rattle.mask_operands.proofs.write_or.Goals as goal

pub invariant_of-inverted : goal.invariant_of-inverted
invariant_of-inverted c =
    let n = c.args.reads.shares in
    let low = c.args.reads.low in
    let wires : c.args.w + 2 < 65536 = omega (arith, c.requires.1) in
    record {
      low = record {
        few = low.few;
        left = first_each (λ x. x < 65536) n _ _ _ (c.first_on.ensures n) (omega arith) low.left;
        right = first_each (λ x. x < 65536) n _ _ _ (c.first_on-2.ensures n) (omega arith) low.right;
      };
    }

pub returns : goal.returns
returns c =
    let n = c.args.reads.shares in
    let A = share_wires n c.args.reads.operands.left in
    let B = share_wires n c.args.reads.operands.right in
    or_bytes (gadget_of c.args.and) n c.args.w c.args.at A B c.args.ops.now
    {u = c.args.w + 1}
    c.requires.0
    c.requires.2
    c.put_gate.ensures
    c.put_gate-2.ensures
    (omega arith)
    (omega arith)
    (c.first_on.ensures n)
    (c.first_on-2.ensures n)
    c.write_and.ensures
    (omega (arith, c.and_cost.ensures))
    c.and_first-last.ensures.0
    c.put_gate-3.ensures

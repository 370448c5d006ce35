-- `mask_pairs::write_pairs` meets its contract.
-- Assumes nothing.
use mathlib.Core.Path.{refl, ap}
use mathlib.Core.List.{List}
use Prim.Native.Nat.{ℕ, ◌+◌, ◌*◌}
use native.Mathlib.Numerals.{add-one}
use native.Mathlib.Omega.{arith}
use Rattle.tables.specs.Tables.{Gate, pair_bytes}
use Rattle.construction.specs.Gadgets.{gadget_of}
use Rattle.layout.proofs.Bytes.{pairs_pieces, put_pieces_start, put_pieces_turn, put_pieces_end}
use Rattle.layout.proofs.Pieces.{pairs_in_turn}
use Rattle.mask_pairs.proofs.PairNumbers.{pair_piece, pair_first}
use Rattle.mask_pairs.proofs.write_pairs.Goals as goal

pub loop-c-init : goal.loop-c-init
unfolding pair_bytes
loop-c-init c = (put_pieces_start 20 c.args.at _ _ _ _ (λ _ _. refl) (omega arith) c.requires.1, pair_first c.args.reads.shares)

pub loop-c-preserved : goal.loop-c-preserved
unfolding pair_bytes
loop-c-preserved c =
    let here = c.loop-c.invariant.1 (omega arith) in
    let piece = pair_piece (gadget_of c.args.and) (c.args.w + 5 * c.loop-c.c) _ _ here c.pair.ensures.1 in (
      put_pieces_turn c.loop-c.invariant.0 _ _ (omega arith) refl (ap {A = List Gate} {B = List ℕ} pair_bytes piece)
          c.write_pair.ensures (omega arith),
      rw add-one (c.next_pair-p.ensures c.loop-c.c here),
    )

pub returns : goal.returns
returns c =
    let count = c.pair_count-m.ensures in
    (omega (arith, count), rw (pairs_in_turn, pairs_pieces) (put_pieces_end c.loop-c.invariant.0 (omega arith)))

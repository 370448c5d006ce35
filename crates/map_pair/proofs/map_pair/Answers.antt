-- `map_pair::map_pair` meets its contract: the bit of the second run, then both runs.
-- Assumes nothing.
use native.Mathlib.Omega.{arith}
use Rattle.tables.proofs.Run.{bit_xor_lem}
use Rattle.secrecy.proofs.Both.{both_one}
use Rattle.map_pair.proofs.Five.{pair_bits}
use Rattle.map_pair.proofs.map_pair.Goals as goal

pub flip_pair-flip-requires : goal.flip_pair-flip-requires
flip_pair-flip-requires c =
    let R = c.requires.0 in
    (pair_bits R.one c.requires.1, pair_bits R.other c.requires.1, omega (arith, R.room))

pub returns : goal.returns
returns c =
    let R = c.requires.0 in
    let bit = c.tape_bit-bit.ensures in
    let flip = c.flip_pair-flip.ensures in
    both_one _ _ _ _ c.args.at c.args.w _ _ (omega (arith, R.tape)) (omega (arith, R.room)) bit flip (bit_xor_lem _ _ bit.1 flip.1)
    c.run_pair.ensures
    c.run_pair-2.ensures

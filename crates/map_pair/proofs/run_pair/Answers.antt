-- `map_pair::run_pair` meets its contract: five gates, one after the other, by the form of the AND's pairs.
-- Assumes nothing.
use Rattle.map_pair.proofs.Five.{ready_2, ready_3, ready_4, ready_5, five_ran}
use Rattle.map_pair.proofs.run_pair.Goals as goal

pub run_and-requires : goal.run_and-requires
run_and-requires c = let p = c.requires in ready_2 c.pair_form-form.ensures p.0 p.1 p.2 c.run_random.ensures

pub run_xor-requires : goal.run_xor-requires
run_xor-requires c = let p = c.requires in ready_3 c.pair_form-form.ensures p.0 p.1 p.2 c.run_random.ensures c.run_and.ensures

pub run_and-requires-2 : goal.run_and-requires-2
run_and-requires-2 c =
    let p = c.requires in ready_4 c.pair_form-form.ensures p.0 p.1 p.2 c.run_random.ensures c.run_and.ensures c.run_xor.ensures

pub run_fifth-requires : goal.run_fifth-requires
run_fifth-requires c =
    let p = c.requires in
    ready_5 c.pair_form-form.ensures p.0 p.1 p.2 c.run_random.ensures c.run_and.ensures c.run_xor.ensures c.run_and-2.ensures

pub returns : goal.returns
returns c =
    let p = c.requires in
    (five_ran c.pair_form-form.ensures p.0 p.1 p.2 c.run_random.ensures c.run_and.ensures c.run_xor.ensures c.run_and-2.ensures
    c.run_fifth.ensures
    ).is

-- `map_gates::map_product` meets its contract: an OR's first NOTs, the AND, an OR's last NOT.
-- Assumes nothing.
use Rattle.construction.proofs.Lawful.{lawful}
use Rattle.map_gates.proofs.Or.{begun_of, product_and_ready, product_last_ready, product_ran}
use Rattle.map_gates.proofs.map_product.Goals as goal

pub map_and-requires : goal.map_and-requires
map_and-requires c =
    let s = c.args in
    let begun = begun_of s.or s.n s.w s.operands.left s.operands.right c.first_on.result c.first_on-2.result c.either-v.ensures
    c.either.ensures c.either-2.ensures c.first_on.ensures c.first_on-2.ensures c.run_first_nots.ensures in
    product_and_ready s.or c.requires begun

-- there is room for the last NOT, whichever share is free
pub run_last_not-requires : goal.run_last_not-requires
run_last_not-requires c =
    let s = c.args in
    let begun = begun_of s.or s.n s.w s.operands.left s.operands.right c.first_on.result c.first_on-2.result c.either-v.ensures
    c.either.ensures c.either-2.ensures c.first_on.ensures c.first_on-2.ensures c.run_first_nots.ensures in
    product_last_ready (lawful s.and) s.or _ c.requires begun c.map_and.ensures

pub returns : goal.returns
returns c =
    let s = c.args in
    let begun = begun_of s.or s.n s.w s.operands.left s.operands.right c.first_on.result c.first_on-2.result c.either-v.ensures
    c.either.ensures c.either-2.ensures c.first_on.ensures c.first_on-2.ensures c.run_first_nots.ensures in
    product_ran (lawful s.and) s.or s.k c.requires begun c.map_and.ensures c.run_last_not.ensures.0 c.run_last_not.ensures.1

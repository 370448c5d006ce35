-- `share_places::locate` meets its contract: the inputs, then the gates.
-- Assumes nothing.
use Prim.Native.Nat.{◌*◌}
use native.Mathlib.Omega.{arith}
use Rattle.tables.specs.Tables.{table_of}
use Rattle.construction.specs.Shares.{up_from}
use Rattle.construction.proofs.Sum.{up_length}
use Rattle.share_places.proofs.Located.{all_shares_length}
use Rattle.share_places.proofs.Turns.{plan_sized}
use Rattle.share_places.proofs.Placing.{noted_both}
use Rattle.share_places.proofs.locate.Goals as goal

pub place_inputs-requires : goal.place_inputs-requires
place_inputs-requires c =
    let z = plan_sized c.args.planned.now.ready in
    (omega (arith, z.some), z.inputs, omega (arith, c.requires))

pub returns : goal.returns
returns c =
    let p = c.args.planned.now.plan in
    let R = c.args.planned.now.ready in
    noted_both c.place_inputs.ensures c.place_gates.ensures
    (omega (
      arith,
      up_length p.inputs 0 (λ i. up_from p.shares (p.shares * i) (λ w. w)),
      all_shares_length p.shares (table_of c.args.planned.now.table.now),
      R.inputs,
    ))

-- `map_runs::map_with` meets its contract: shares are noted, both runs begun, then the gates follow.
-- Assumes nothing.
use native.Mathlib.Omega.{arith}
use Rattle.share_places.proofs.Placing.{plan_located}
use Rattle.map_runs.proofs.Working.{split_fits, begin_ready, gates_ready, work_done}
use Rattle.map_runs.proofs.map_with.Goals as goal

pub overflow_mul-split : goal.overflow_mul-split
overflow_mul-split c =
    let planned = c.args.planned.now in
    omega (arith, planned.ready.shares, planned.fits.shares)

pub overflow_mul-split-2 : goal.overflow_mul-split-2
overflow_mul-split-2 c =
    let planned = c.args.planned.now in
    omega (arith, split_fits c.args.and planned.ready c.requires.0, planned.fits.tape, planned.fits.wires)

pub begin_runs-requires : goal.begin_runs-requires
begin_runs-requires c = begin_ready c.args.and c.args.planned.now.ready c.requires.0

pub map_gates-requires : goal.map_gates-requires
map_gates-requires c =
    let R = c.args.planned.now.ready in
    (plan_located R c.requires.1 c.locate.ensures, gates_ready c.args.and R c.requires.0 c.begin_runs.ensures)

pub returns : goal.returns
returns c =
    work_done c.args.and c.args.planned.now.ready c.requires.0 c.begin_runs.ensures _ c.map_gates.ensures
    c.args.given.now.bytes
    (λ i. grind arith)
    (λ i. omega (arith, c.type_inv.mapped i))

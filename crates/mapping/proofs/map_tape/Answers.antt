-- `mapping::map_tape` meets its contract: the refusal, or the free share, the mapped tape and both runs.
-- Assumes nothing.
use mathlib.Core.Path.{refl}
use Rattle.mapping.proofs.Mapping.{probes_ready, work_ready}
use Rattle.mapping.proofs.map_tape.Goals as goal

pub free_share-k-requires : goal.free_share-k-requires
free_share-k-requires c =
    let planned = c.in_ok-planned.planned in
    let says = c.in_ok-planned.ensures c.args.and in
    probes_ready c.args.and _ _ _ _ _ _ _ _ _ planned.ready says.1.0 says.1.1 says.0

pub map_work-requires : goal.map_work-requires
map_work-requires c =
    let planned = c.in_ok-planned.planned in
    let says = c.in_ok-planned.ensures c.args.and in
    work_ready c.args.and _ _ _ _ _ _ _ _ _ planned.ready says.1.0 says.1.1 says.0 c.free_share-k.ensures refl refl refl

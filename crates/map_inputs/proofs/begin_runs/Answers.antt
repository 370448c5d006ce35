-- `map_inputs::begin_runs` meets its contract: the second encoding is the first with shares flipped.
-- Assumes nothing.
use mathlib.Core.Path.{refl, sym}
use native.Mathlib.Numerals.{add-one}
use native.Mathlib.Omega.{arith}
use lib.Seq.{length-take-le}
use Rattle.map_inputs.proofs.Beginning.{inputs_ready, shares_fit, shares_ready, begun_says}
use Rattle.map_inputs.proofs.begin_runs.Goals as goal

pub put_bytes-requires : goal.put_bytes-requires
put_bytes-requires c = omega (arith, c.requires.room)

pub flip_inputs-requires : goal.flip_inputs-requires
flip_inputs-requires c = (c.requires.order, inputs_ready c.requires c.put_bytes.ensures)

pub slice_bounds-put_bytes-end : goal.slice_bounds-put_bytes-end
slice_bounds-put_bytes-end c = (shares_fit c.requires c.encode_all.ensures (add-one _) refl).0

pub slice_bounds-put_bytes-end-2 : goal.slice_bounds-put_bytes-end-2
slice_bounds-put_bytes-end-2 c = sym (length-take-le _ _ (shares_fit c.requires c.encode_all.ensures (add-one _) refl).0)

pub put_bytes-requires-2 : goal.put_bytes-requires-2
put_bytes-requires-2 c = omega (arith, (shares_fit c.requires c.encode_all.ensures (add-one _) refl).1)

pub flip_shares-requires : goal.flip_shares-requires
flip_shares-requires c = shares_ready c.requires c.encode_all.ensures (add-one _) refl c.put_bytes-2.ensures

pub returns : goal.returns
returns c =
    begun_says c.requires c.encode_all.ensures (add-one _) refl c.put_bytes-2.ensures c.put_bytes.ensures c.flip_inputs.ensures
    c.flip_shares.ensures

-- `running::Supplied::fault` meets its contract: there are few bytes of random bits.
-- Assumes nothing.
use native.Mathlib.Omega.{arith}
use Rattle.running.proofs.RunFault.{few_randoms}
use Rattle.running.proofs.Supplied.fault.Goals as goal

pub spare_fault-requires : goal.spare_fault-requires
spare_fault-requires c =
    let few = few_randoms _ c.requires c.count_three-draws.ensures in grind arith

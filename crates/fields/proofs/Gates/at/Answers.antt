-- `fields::Gates::at` meets its contract: the fields stand where the format has them.
-- Assumes nothing.
use Rattle.fields.proofs.Fields.{gate_read}
use Rattle.fields.proofs.Gates.at.Goals as goal

pub returns : goal.returns
returns c =
    gate_read c.args.self.now.all c.requires c.field.ensures c.field-2.ensures

-- `fields::Outputs::at` meets its contract: the outputs stand after the gates.
-- Assumes nothing.
use mathlib.Core.Path.{sym, ◌∙◌}
use Rattle.fields.proofs.Fields.{output_is}
use Rattle.fields.proofs.Outputs.at.Goals as goal

pub returns : goal.returns
returns c =
    let H = c.args.self.now.all in
    (c.field.ensures.0 ∙ sym (output_is _ _ _ _ H.gates H.outputs c.requires), c.field.ensures.1)

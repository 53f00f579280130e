use Rattle.sml_types.proofs.Entries.{type-read}
use Rattle.sml_sigs.proofs.layers.InsideScope.type_str.Goals as goal

pub returns : goal.returns
returns c = type-read c.args.self.now.env.now c.args.name.now c.get.result c.get.ensures.value

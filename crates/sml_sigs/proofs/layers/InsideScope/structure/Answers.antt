use Rattle.sml_types.proofs.Entries.{structure-read}
use Rattle.sml_sigs.proofs.layers.InsideScope.structure.Goals as goal

pub returns : goal.returns
returns c = structure-read c.args.self.now.env.now c.args.name.now c.get.result c.get.ensures.value

use Rattle.sml_types.proofs.Entries.{looked}
use Rattle.sml_types.proofs.datatypes.InnerScope.right_side.Goals as goal

pub returns : goal.returns
returns g c = looked (λ r. r) c.args.self.now.sides.now.entries c.args.name.now c.get.result c.get.ensures.value

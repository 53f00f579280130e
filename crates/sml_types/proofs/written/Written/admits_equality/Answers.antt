use Rattle.sml_type_maps.specs.Functions.{by_attributes}
use Rattle.sml_type_maps.proofs.FunctionViews.{admits-known}
use Rattle.sml_types.specs.Meant.{meant}
use Rattle.sml_types.proofs.Admitting.{ok-same}
use Rattle.sml_types.proofs.written.Written.admits_equality.Goals as goal

pub returns-clause-known : goal.returns-clause-known
returns-clause-known c = λ h. ok-same c.admits.result _ _ (admits-known (by_attributes c.args.attributes.now) (meant c.args.self.now) h) c.admits.ensures

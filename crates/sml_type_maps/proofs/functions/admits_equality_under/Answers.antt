use Rattle.std.proofs.Common.{◌∙◌}
use Rattle.sml_objects.specs.Views.{type_of}
use Rattle.sml_type_maps.specs.Functions.{by_attributes}
use Rattle.sml_type_maps.proofs.FunctionViews.{admits-known}
use Rattle.sml_type_maps.proofs.functions.admits_equality_under.Goals as goal

pub returns-clause-known : goal.returns-clause-known
returns-clause-known c = λ h. c.admits.ensures ∙ admits-known (by_attributes c.args.attributes.now) (type_of c.args.ty.now) h

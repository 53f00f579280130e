use Rattle.std.proofs.Common.{ap, ◌∙◌, true}
use Rattle.sml_objects.specs.Views.{type_of}
use Rattle.sml_type_maps.specs.Functions.{admits_where}
use Rattle.sml_type_maps.proofs.FunctionViews.{admits-known}
use Rattle.sml_type_maps.proofs.functions.admits_equality.Goals as goal

pub returns-clause-known : goal.returns-clause-known
returns-clause-known c = λ h.
    c.admits.ensures ∙ ap (λ t. admits_where (λ _. true) (type_of t)) c.deref.ensures ∙ admits-known (λ _. true) (type_of c.args.function.now.body.value) h

use Rattle.std.proofs.Common.{ap, ◌∙◌}
use Rattle.std.specs.Option.{option_map}
use Rattle.sml_tree.specs.TypeViews.{ty_of}
use Rattle.sml_tree.specs.Withtype.{replaced}
use Rattle.sml_core_rules.specs.Datatypes as read
use Rattle.sml_types.specs.Datatypes.{meant_argument}
use Rattle.sml_types.specs.Meant.{meant}
use Rattle.sml_types.proofs.ArgumentBinds.{argument-accepted, argument-refused}
use Rattle.sml_types.proofs.Readings.{one-meant, through}
use Rattle.sml_types.proofs.datatypes.written_argument.Goals as goal

pub returns-in_err-written_type-in-Some-clause-answer : goal.returns-in_err-written_type-in-Some-clause-answer
returns-in_err-written_type-in-Some-clause-answer g c = λ C bs vs tells sides says spelt.
    through one-meant meant_argument c.from_residual.result c.in_err-written_type-in-Some.field-0.0 _ _ c.from_residual.ensures.1
    (c.in_err-written_type-in-Some.ensures.answer C bs vs tells sides says spelt)
    (λ f r. ap (λ o. read.read_argument C vs (option_map (replaced bs) (option_map ty_of o))) c.in-Some.is ∙ argument-refused C vs (replaced bs (ty_of c.in-Some.ty)) f r)

pub returns-in_ok-written_type-in-Some-clause-answer : goal.returns-in_ok-written_type-in-Some-clause-answer
returns-in_ok-written_type-in-Some-clause-answer g c = λ C bs vs tells sides says spelt.
    ap (λ o. read.read_argument C vs (option_map (replaced bs) (option_map ty_of o))) c.in-Some.is
    ∙ argument-accepted C vs (replaced bs (ty_of c.in-Some.ty)) (meant c.in_ok-written_type-in-Some.field-0.value)
    (c.in_ok-written_type-in-Some.ensures.answer C bs vs tells sides says spelt)

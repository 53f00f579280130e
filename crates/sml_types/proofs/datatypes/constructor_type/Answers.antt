use Rattle.std.proofs.Common.{ap, sym, ◌∙◌}
use Rattle.std.proofs.lemmas.Result.{IfOk-weaker}
use Rattle.sml_core_rules.specs.Datatypes as read
use Rattle.sml_objects.specs.Objects.{arrow_of}
use Rattle.sml_objects.specs.Views.{type_of}
use Rattle.sml_types.specs.Losses.{losing, losing_argument}
use Rattle.sml_types.proofs.Losing.{mapped-renames}
use Rattle.sml_types.proofs.datatypes.constructor_type.Goals as goal

pub returns-in_ok-clone-in-Some : goal.returns-in_ok-clone-in-Some
returns-in_ok-clone-in-Some c =
    let r = c.args.by.now.run in
    let lost = c.args.by.now.lost.now in
    let whole = type_of c.args.whole.now.value in
    IfOk-weaker c.arrow.result _ _ (λ t h.
    h
    ∙ (λ i. arrow_of ((c.in_ok-argument-in-Some.ensures ∙ mapped-renames (losing r lost) (type_of c.in-Some.argument.value)) i) (type_of (c.in_ok-clone-in-Some.ensures.cases i)))
    ∙ ap (λ o. read.constructor_type whole (losing_argument r lost o)) (sym c.in-Some.is)) c.arrow.ensures

use Rattle.std.proofs.Common.{◌≡◌, ap, subst, sym, ◌∙◌}
use Rattle.sml_objects.specs.Objects.{free}
use Rattle.sml_objects.specs.Types.{argument, replace_type}
use Rattle.sml_rules.specs.Answers.{accepted}
use Rattle.sml_types.specs.Meant.{all_meant, meant}
use Rattle.sml_types.specs.Sides.{IsMeaning, answer_map}
use Rattle.sml_types.proofs.Meanings.{meant-side}
use Rattle.sml_types.proofs.sides.RightSide.with.Goals as goal

pub returns-in_ok-shared-in-Ok : goal.returns-in_ok-shared-in-Ok
returns-in_ok-shared-in-Ok c = λ a h.
    let is : a ≡ accepted (meant c.in-Ok.side.value) = subst (λ m. IsMeaning m a) c.in-Ok.is h in
    ap (answer_map (replace_type (argument (all_meant c.args.arguments.items)) free)) is
    ∙ ap accepted (sym (ap meant c.in_ok-shared-in-Ok.ensures ∙ meant-side c.in_ok-clone-in-Ok.field-0 c.args.arguments
    ∙ ap (λ w. replace_type (argument (all_meant c.args.arguments.items)) free (meant w)) c.in_ok-clone-in-Ok.ensures.cases))

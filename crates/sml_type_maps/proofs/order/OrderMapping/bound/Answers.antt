use Rattle.std.proofs.Common.{◌≡◌, ap, ◌∙◌}
use Rattle.std.specs.Option.{option_map}
use Rattle.sml_objects.specs.Objects as O
use Rattle.sml_objects.specs.Fates.{type_or}
use Rattle.sml_objects.specs.Views.{type_of}
use Rattle.sml_objects.proofs.TypeViews.{type_of-bound}
use Rattle.sml_type_maps.proofs.order.OrderMapping.bound.Goals as goal

pub returns-in_ok-new-in-Ok : goal.returns-in_ok-new-in-Ok
returns-in_ok-new-in-Ok c =
    ap type_of c.in_ok-new-in-Ok.ensures.ok ∙ type_of-bound c.in-Ok.place ∙ ap O.bound c.in-Ok.ensures.1
    ∙ ap (λ o. type_or (O.bound c.args.variable) (option_map (λ i. O.bound i) o)) c.in-Some.ensures.index

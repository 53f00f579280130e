use Rattle.std.proofs.Common.{◌∙◌}
use Rattle.sml_objects.specs.Types.{variables_after}
use Rattle.sml_objects.specs.Views.{type_of}
use Rattle.sml_objects.proofs.schemes.close.Goals as goal

pub closed-requires : goal.closed-requires
closed-requires c =
    c.in_ok-collect_variables.ensures ∙ (λ i. variables_after (c.new-places.ensures.empty i) (type_of (c.deref.ensures i)))

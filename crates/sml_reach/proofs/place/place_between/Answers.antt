use Rattle.std.proofs.Common.{[], refl, ap, ◌∙◌}
use Rattle.sml_reach.specs.Places.{place_after}
use Rattle.sml_reach.proofs.place.place_between.Goals as goal

pub returns : goal.returns
returns c = c.after_all.ensures [] refl ∙ ap place_after c.text.ensures

use Rattle.std.proofs.Common.{false, ap, sym, ◌∙◌}
use Rattle.std.specs.Option.{option_map}
use Rattle.sml_tree.specs.TypeViews.{names_of}
use Rattle.sml_objects.specs.Objects as O
use Rattle.sml_types.specs.Variables.{at_place}
use Rattle.sml_types.proofs.Listing.{listed-at}
use Rattle.sml_types.proofs.variables.Listed.free.Goals as goal

pub returns : goal.returns
returns c = λ x. listed-at O.free x 0 (names_of c.args.names.now) ∙ ap (option_map (at_place false)) (sym (c.in_ok-places.ensures x))

use Rattle.std.proofs.Common.{map, ap, sym, ◌∙◌}
use Rattle.std.proofs.lemmas.List.{take-map}
use Rattle.sml_reach.specs.Fits.{fitted_of}
use Rattle.sml_reach.specs.Reach.{up_to}
use Rattle.sml_reach.proofs.reach.up_to.Goals as goal

pub returns-in-Some : goal.returns-in-Some
returns-in-Some c =
    ap (map fitted_of) c.truncate.ensures.items ∙ sym (take-map fitted_of _ _) ∙ ap (λ most. up_to most (map fitted_of c.args.declarations.items)) (sym c.in-Some.is)

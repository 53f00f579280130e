use Rattle.std.proofs.Common.{sym, subst, refl}
use Rattle.std.specs.Option.{option_map}
use Rattle.sml_tree.specs.Views.{long_of}
use Rattle.sml_objects.specs.Views.{scheme_of}
use Rattle.sml_rules.specs.Lookups.{entry}
use Rattle.sml_rules.specs.Answers.{need, accepted, give}
use Rattle.sml_piece.proofs.lookups.found.Goals as goal

pub returns-in-Some : goal.returns-in-Some
unfolding give
returns-in-Some c =
    subst (λ o. need c.args.code c.args.long.now.place (long_of c.args.long.now) (entry (option_map (λ s. scheme_of s.now.value) o)) (accepted (scheme_of c.in-Some.scheme.now.value)))
    (sym c.in-Some.is) refl

use Rattle.std.proofs.Common.{◌≡◌, ap, ◌∙◌}
use Rattle.std.specs.Option.{option_map}
use Rattle.sml_objects.specs.Views.{name_of, scheme_of}
use Rattle.sml_type_maps.specs.Mapped.{by_function}
use Rattle.sml_type_maps.proofs.Listed.{looked-up}
use Rattle.sml_type_maps.proofs.realisation.RealisationMapping.name.Goals as goal

pub returns-in-Some : goal.returns-in-Some
returns-in-Some c = λ ts.
    ap (λ o. by_function o (name_of c.args.name) ts) (ap (option_map (λ s. scheme_of s.value)) c.in-Some.ensures.value ∙ looked-up (λ s. scheme_of s.value) c.args.self.now.functions.entries c.args.name)

pub returns-in-None : goal.returns-in-None
returns-in-None c = λ ts.
    ap (λ o. by_function o (name_of c.args.name) ts) (ap (option_map (λ s. scheme_of s.value)) c.in-None.ensures.value ∙ looked-up (λ s. scheme_of s.value) c.args.self.now.functions.entries c.args.name)

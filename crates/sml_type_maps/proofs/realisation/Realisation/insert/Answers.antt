use Rattle.std.proofs.Common.{◌≡◌, ap, ◌∙◌}
use Rattle.sml_objects.specs.Views.{scheme_of}
use Rattle.sml_type_maps.specs.Mapped.{functions_of}
use Rattle.sml_type_maps.proofs.Listed.{listed-put}
use Rattle.sml_type_maps.proofs.realisation.Realisation.insert.Goals as goal

pub returns : goal.returns
returns c = λ n.
    ap (λ es. functions_of es n) c.in_ok-insert.ensures.entries ∙ listed-put (λ s. scheme_of s.value) c.args.self.now.functions.entries c.args.name c.args.function n

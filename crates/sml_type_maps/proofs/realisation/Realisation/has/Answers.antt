use Rattle.std.proofs.Common.{◌≡◌, ap, sym, ◌∙◌}
use Rattle.std.specs.Map.{lookup}
use Rattle.std.specs.Option.{is_some}
use Rattle.sml_objects.specs.Views.{scheme_of}
use Rattle.sml_objects.proofs.NameTests.{eq}
use Rattle.sml_type_maps.proofs.Listed.{looked-up, seen-some}
use Rattle.sml_type_maps.proofs.realisation.Realisation.has.Goals as goal

pub returns : goal.returns
returns c =
    let es = c.args.self.now.functions.entries in
    c.contains_key.ensures ∙ sym (seen-some (λ s. scheme_of s.value) (lookup (eq c.args.name) es)) ∙ ap is_some (looked-up (λ s. scheme_of s.value) es c.args.name)

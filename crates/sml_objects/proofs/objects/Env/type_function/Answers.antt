use Rattle.std.proofs.Common.{ap, sym, ◌∙◌}
use Rattle.std.specs.Option.{option_map}
use Rattle.sml_tree.specs.Views.{ident_of}
use Rattle.sml_objects.specs.Objects.{types}
use Rattle.sml_objects.specs.Maps.{lookup}
use Rattle.sml_objects.specs.Views.{scheme_of}
use Rattle.sml_objects.specs.declared.objects.Env.TheViews.{out-Env}
use Rattle.sml_objects.proofs.EnvViews.{env_of-out, map-copied, lookup-entries}
use Rattle.sml_objects.proofs.objects.Env.type_function.Goals as goal

pub returns : goal.returns
returns c =
    map-copied (λ s. scheme_of s.value) c.get.result
    ∙ ap (option_map (λ s. scheme_of s.value)) c.get.ensures.value
    ∙ lookup-entries (λ s. scheme_of s.value) (out-Env c.args.self.now).types.entries c.args.name.now
    ∙ ap (λ e. lookup (ident_of c.args.name.now) (types e)) (sym (env_of-out c.args.self.now))

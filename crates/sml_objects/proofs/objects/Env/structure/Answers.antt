use Rattle.std.proofs.Common.{ap, sym, ◌∙◌}
use Rattle.std.specs.Option.{option_map}
use Rattle.sml_tree.specs.Views.{ident_of}
use Rattle.sml_objects.specs.Objects.{structures, find_structure}
use Rattle.sml_objects.specs.Views.{env_of, entries_of}
use Rattle.sml_objects.specs.declared.objects.Env.TheViews.{out-Env}
use Rattle.sml_objects.proofs.EnvViews.{env_of-out, map-copied, lookup-entries, find-entries}
use Rattle.sml_objects.proofs.objects.Env.structure.Goals as goal

pub returns : goal.returns
returns c =
    map-copied (λ s. env_of s.value) c.get.result
    ∙ ap (option_map (λ s. env_of s.value)) c.get.ensures.value
    ∙ lookup-entries (λ s. env_of s.value) (out-Env c.args.self.now).structures.entries c.args.name.now
    ∙ sym (find-entries (entries_of (λ s. env_of s.value) (out-Env c.args.self.now).structures.entries) (ident_of c.args.name.now))
    ∙ ap (λ e. find_structure (ident_of c.args.name.now) (structures e)) (sym (env_of-out c.args.self.now))

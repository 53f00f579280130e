use Rattle.std.proofs.Common.{ap, sym, ◌∙◌}
use Rattle.sml_tree.specs.Views.{ident_of}
use Rattle.sml_objects.specs.Objects as O
use Rattle.sml_objects.specs.Puts as puts
use Rattle.sml_objects.specs.Views.{env_of, scheme_of, entries_of, structures_of, schemes_of}
use Rattle.sml_objects.specs.declared.objects.Env.{Env}
use Rattle.sml_objects.specs.declared.objects.Env.TheOpen.{Env-F}
use Rattle.sml_objects.specs.declared.objects.Env.TheViews.{out-Env}
use Rattle.sml_objects.proofs.EnvViews.{env_of-out, env_of-roll, entries-put}
use Rattle.sml_objects.proofs.objects.Env.with_value.Goals as goal

pub returns-clause-ok : goal.returns-clause-ok
returns-clause-ok c =
    let old : Env-F Env = out-Env c.args.self.now in
    let new : Env-F Env = record { structures = old.structures; types = old.types; values = c.insert.new.self } in
    env_of-roll new
    ∙ ap (λ m. O.env (structures_of (entries_of (λ s. env_of s.value) old.structures.entries)) (schemes_of old.types.entries) m)
    (ap schemes_of c.in_ok-insert.ensures.entries ∙ entries-put (λ s. scheme_of s.value) old.values.entries c.args.name c.args.scheme)
    ∙ ap (puts.with_value (ident_of c.args.name) (scheme_of c.args.scheme.value)) (sym (env_of-out c.args.self.now))

use Rattle.std.proofs.Common.{ap, sym, ◌∙◌}
use Rattle.sml_tree.specs.Views.{ident_of}
use Rattle.sml_objects.specs.Objects as O
use Rattle.sml_objects.specs.Puts as puts
use Rattle.sml_objects.specs.Views.{env_of, scheme_of, entries_of, structures_of, schemes_of}
use Rattle.sml_objects.specs.declared.objects.Env.{Env}
use Rattle.sml_objects.specs.declared.objects.Env.TheOpen.{Env-F}
use Rattle.sml_objects.specs.declared.objects.Env.TheViews.{out-Env}
use Rattle.sml_objects.proofs.EnvViews.{env_of-out, env_of-roll, entries-put}
use Rattle.sml_objects.proofs.objects.Env.with_type.Goals as goal

pub returns-clause-ok : goal.returns-clause-ok
returns-clause-ok c =
    let old : Env-F Env = out-Env c.args.self.now in
    let new : Env-F Env = record { structures = old.structures; types = c.insert.new.self; values = old.values } in
    env_of-roll new
    ∙ ap (λ m. O.env (structures_of (entries_of (λ s. env_of s.value) old.structures.entries)) m (schemes_of old.values.entries))
    (ap schemes_of c.in_ok-insert.ensures.entries ∙ entries-put (λ s. scheme_of s.value) old.types.entries c.args.name c.args.function)
    ∙ ap (puts.with_type (ident_of c.args.name) (scheme_of c.args.function.value)) (sym (env_of-out c.args.self.now))

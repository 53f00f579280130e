use Rattle.std.proofs.Common.{ap, sym, ◌∙◌}
use Rattle.sml_tree.specs.Views.{ident_of}
use Rattle.sml_objects.specs.Objects as O
use Rattle.sml_objects.specs.Puts as puts
use Rattle.sml_objects.specs.Views.{env_of, entries_of, structures_of, schemes_of}
use Rattle.sml_objects.specs.declared.objects.Env.{Env}
use Rattle.sml_objects.specs.declared.objects.Env.TheOpen.{Env-F}
use Rattle.sml_objects.specs.declared.objects.Env.TheViews.{out-Env}
use Rattle.sml_objects.proofs.EnvViews.{env_of-out, env_of-roll, entries-put, structures-put}
use Rattle.sml_objects.proofs.objects.Env.with_structure.Goals as goal

pub returns-clause-ok : goal.returns-clause-ok
returns-clause-ok c =
    let old : Env-F Env = out-Env c.args.self.now in
    let new : Env-F Env = record { structures = c.insert.new.self; types = old.types; values = old.values } in
    env_of-roll new
    ∙ ap (λ m. O.env m (schemes_of old.types.entries) (schemes_of old.values.entries))
    (ap (λ es. structures_of (entries_of (λ s. env_of s.value) es)) c.in_ok-insert.ensures.entries
    ∙ ap structures_of (entries-put (λ s. env_of s.value) old.structures.entries c.args.name c.args.structure)
    ∙ structures-put (entries_of (λ s. env_of s.value) old.structures.entries) (ident_of c.args.name) (env_of c.args.structure.value))
    ∙ ap (puts.with_structure (ident_of c.args.name) (env_of c.args.structure.value)) (sym (env_of-out c.args.self.now))

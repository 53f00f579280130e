use Rattle.std.proofs.Common.{ap, sym, ◌∙◌}
use Rattle.sml_objects.specs.Objects.{extend_env}
use Rattle.sml_objects.specs.Maps.{join}
use Rattle.sml_objects.specs.Views.{entries_of}
use Rattle.sml_objects.specs.declared.objects.Env.{Env}
use Rattle.sml_objects.specs.declared.objects.Env.TheOpen.{Env-F}
use Rattle.sml_objects.specs.declared.objects.Env.TheViews.{out-Env}
use Rattle.sml_objects.proofs.EnvViews.{env_of-out}
use Rattle.sml_objects.proofs.Joins.{copied, env_of-joined}
use Rattle.sml_objects.proofs.objects.Basis.extend.Goals as goal

pub returns-clause-env : goal.returns-clause-env
returns-clause-env c =
    let first : Env-F Env = out-Env c.args.self.now.env in
    let second : Env-F Env = out-Env c.args.other.now.env in
    env_of-joined first second (record { structures = c.share_entries.new.map; types = c.share_entries-2.new.map; values = c.share_entries-3.new.map })
    (c.in_ok-share_entries.ensures
    ∙ ap (λ m. join m (entries_of (λ s. s.value) second.structures.entries)) (copied first.structures.entries c.in_ok-structures.structures.entries c.in_ok-structures.ensures.cases))
    (c.in_ok-share_entries-2.ensures
    ∙ ap (λ m. join m (entries_of (λ s. s.value) second.types.entries)) (copied first.types.entries c.in_ok-types.types.entries c.in_ok-types.ensures.cases))
    (c.in_ok-share_entries-3.ensures
    ∙ ap (λ m. join m (entries_of (λ s. s.value) second.values.entries)) (copied first.values.entries c.in_ok-values.values.entries c.in_ok-values.ensures.cases))
    ∙ (λ i. extend_env (sym (env_of-out c.args.self.now.env) i) (sym (env_of-out c.args.other.now.env) i))

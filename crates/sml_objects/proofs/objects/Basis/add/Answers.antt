use Rattle.std.proofs.Common.{sym, ◌∙◌}
use Rattle.sml_objects.specs.Objects.{extend_env}
use Rattle.sml_objects.specs.declared.objects.Env.TheViews.{out-Env, out-roll-Env}
use Rattle.sml_objects.proofs.EnvViews.{env_of-out}
use Rattle.sml_objects.proofs.Joins.{env_of-joined}
use Rattle.sml_objects.proofs.objects.Basis.add.Goals as goal

pub returns-clause-env : goal.returns-clause-env
returns-clause-env c =
    simp out-roll-Env (env_of-joined (out-Env c.args.self.now.env) (out-Env c.args.other.env)
    (record { structures = c.move_entries.new.map; types = c.move_entries-2.new.map; values = c.move_entries-3.new.map })
    c.in_ok-move_entries.ensures
    (simp out-roll-Env at c.in_ok-move_entries-2.ensures)
    (simp out-roll-Env at c.in_ok-move_entries-3.ensures)
    ∙ (λ i. extend_env (sym (env_of-out c.args.self.now.env) i) (sym (env_of-out c.args.other.env) i)))

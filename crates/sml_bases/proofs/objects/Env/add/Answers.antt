use Rattle.std.proofs.Common.{sym, ◌∙◌}
use Rattle.sml_core_rules.specs.Objects.{extend}
use Rattle.sml_bases.specs.declared.objects.Env.{Env}
use Rattle.sml_bases.specs.declared.objects.Env.TheOpen.{Env-F}
use Rattle.sml_bases.specs.declared.objects.Env.TheViews.{out-Env}
use Rattle.sml_bases.proofs.EnvViews.{env_of-out, env_of-joined}
use Rattle.sml_bases.proofs.objects.Env.add.Goals as goal

pub returns : goal.returns
returns c =
    let first : Env-F Env = out-Env c.args.self.now in
    let second : Env-F Env = out-Env c.args.other.now in
    env_of-joined first second (record { structures = c.put_shared.new.map; types = c.put_types.new.map; values = c.put_values.new.map; summary = first.summary })
    c.in_ok-put_shared.ensures c.in_ok-put_types.ensures c.in_ok-put_values.ensures
    ∙ (λ i. extend (sym (env_of-out c.args.self.now) i) (sym (env_of-out c.args.other.now) i))

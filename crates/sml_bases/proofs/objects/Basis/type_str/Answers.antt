use Rattle.std.proofs.Common.{ap, sym, ◌∙◌}
use Rattle.std.specs.Option.{option_map}
use Rattle.sml_tree.specs.Views.{ident_of}
use Rattle.sml_objects.proofs.EnvViews.{map-copied, lookup-entries}
use Rattle.sml_bases.specs.declared.objects.Env.TheViews.{out-Env}
use Rattle.sml_bases.specs.Layers.{bound_env}
use Rattle.sml_objects.specs.Maps.{lookup}
use Rattle.sml_core_rules.specs.Objects.{types}
use Rattle.sml_bases.specs.Views.{ty_str_of}
use Rattle.sml_bases.proofs.EnvViews.{env_of-out}
use Rattle.sml_bases.specs.CodeStored.{stored_at}
use Rattle.sml_bases.specs.Layers.{bases_of}
use Rattle.sml_bases.specs.declared.objects.Basis.{Basis}
use Rattle.sml_bases.specs.declared.objects.Basis.TheViews.{out-Basis}
use Rattle.sml_bases.proofs.Nearest.{first-seen}
use Rattle.sml_bases.proofs.objects.Basis.type_str.Goals as goal

pub returns : goal.returns
returns c =
    let x = ident_of c.args.name.now in
    map-copied ty_str_of c.find.result
    ∙ ap (option_map ty_str_of) c.find.ensures
    ∙ first-seen (stored_at (λ (u : Basis). (out-Env (out-Basis u).env).types.entries) x) (λ E. lookup x (types E)) ty_str_of bound_env (bases_of c.args.self.now)
    (λ u. lookup-entries ty_str_of (out-Env (out-Basis u).env).types.entries c.args.name.now ∙ ap (λ E. lookup x (types E)) (sym (env_of-out (out-Basis u).env)))

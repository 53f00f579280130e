use Rattle.std.proofs.Common.{ap, sym, ◌∙◌}
use Rattle.std.specs.Option.{option_map}
use Rattle.sml_tree.specs.Views.{ident_of}
use Rattle.sml_objects.proofs.EnvViews.{map-copied, lookup-entries}
use Rattle.sml_bases.specs.declared.objects.Env.TheViews.{out-Env}
use Rattle.sml_bases.specs.Layers.{bound_env}
use Rattle.sml_objects.specs.Views.{entries_of}
use Rattle.sml_core_rules.specs.Objects.{find_structure, structures}
use Rattle.sml_bases.specs.Views.{env_of}
use Rattle.sml_bases.proofs.EnvViews.{env_of-out, find-entries}
use Rattle.sml_bases.specs.CodeStored.{stored_at}
use Rattle.sml_bases.specs.Layers.{bases_of}
use Rattle.sml_bases.specs.declared.objects.Basis.{Basis}
use Rattle.sml_bases.specs.declared.objects.Basis.TheViews.{out-Basis}
use Rattle.sml_bases.proofs.Nearest.{first-seen}
use Rattle.sml_bases.proofs.objects.Basis.structure.Goals as goal

pub returns : goal.returns
returns c =
    let x = ident_of c.args.name.now in
    map-copied (λ s. env_of s.value) c.find.result
    ∙ ap (option_map (λ s. env_of s.value)) c.find.ensures
    ∙ first-seen (stored_at (λ (u : Basis). (out-Env (out-Basis u).env).structures.entries) x) (λ E. find_structure x (structures E)) (λ s. env_of s.value) bound_env (bases_of c.args.self.now)
    (λ u. lookup-entries (λ s. env_of s.value) (out-Env (out-Basis u).env).structures.entries c.args.name.now ∙ sym (find-entries (entries_of (λ s. env_of s.value) (out-Env (out-Basis u).env).structures.entries) x) ∙ ap (λ E. find_structure x (structures E)) (sym (env_of-out (out-Basis u).env)))

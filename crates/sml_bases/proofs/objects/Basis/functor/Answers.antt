use Rattle.std.proofs.Common.{ap, ◌∙◌}
use Rattle.std.specs.Option.{option_map}
use Rattle.sml_tree.specs.Views.{ident_of}
use Rattle.sml_objects.proofs.EnvViews.{map-copied, lookup-entries}
use Rattle.sml_objects.specs.Maps.{lookup}
use Rattle.sml_bases.specs.Layers.{bound_functors}
use Rattle.sml_bases.specs.Views.{fun_sig_of}
use Rattle.sml_bases.specs.CodeStored.{stored_at}
use Rattle.sml_bases.specs.Layers.{bases_of}
use Rattle.sml_bases.specs.declared.objects.Basis.{Basis}
use Rattle.sml_bases.specs.declared.objects.Basis.TheViews.{out-Basis}
use Rattle.sml_bases.proofs.Nearest.{first-seen}
use Rattle.sml_bases.proofs.objects.Basis.functor.Goals as goal

pub returns : goal.returns
returns c =
    let x = ident_of c.args.name.now in
    map-copied (λ s. fun_sig_of s.value) c.find.result
    ∙ ap (option_map (λ s. fun_sig_of s.value)) c.find.ensures
    ∙ first-seen (stored_at (λ (u : Basis). (out-Basis u).functors.entries) x) (lookup x) (λ s. fun_sig_of s.value) bound_functors (bases_of c.args.self.now)
    (λ u. lookup-entries (λ s. fun_sig_of s.value) (out-Basis u).functors.entries c.args.name.now)

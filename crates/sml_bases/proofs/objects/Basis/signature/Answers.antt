use Rattle.std.proofs.Common.{ap, ◌∙◌}
use Rattle.std.specs.Option.{option_map}
use Rattle.sml_tree.specs.Views.{ident_of}
use Rattle.sml_objects.proofs.EnvViews.{map-copied, lookup-entries}
use Rattle.sml_objects.specs.Maps.{lookup}
use Rattle.sml_bases.specs.Layers.{bound_signatures}
use Rattle.sml_bases.specs.Views.{sig_of}
use Rattle.sml_bases.specs.CodeStored.{stored_at}
use Rattle.sml_bases.specs.Layers.{bases_of}
use Rattle.sml_bases.specs.declared.objects.Basis.{Basis}
use Rattle.sml_bases.specs.declared.objects.Basis.TheViews.{out-Basis}
use Rattle.sml_bases.proofs.Nearest.{first-seen}
use Rattle.sml_bases.proofs.objects.Basis.signature.Goals as goal

pub returns : goal.returns
returns c =
    let x = ident_of c.args.name.now in
    map-copied (λ s. sig_of s.value) c.find.result
    ∙ ap (option_map (λ s. sig_of s.value)) c.find.ensures
    ∙ first-seen (stored_at (λ (u : Basis). (out-Basis u).signatures.entries) x) (lookup x) (λ s. sig_of s.value) bound_signatures (bases_of c.args.self.now)
    (λ u. lookup-entries (λ s. sig_of s.value) (out-Basis u).signatures.entries c.args.name.now)

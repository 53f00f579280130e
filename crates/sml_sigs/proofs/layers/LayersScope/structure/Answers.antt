use Rattle.std.proofs.Common.{◌≡◌, None, Some, refl, subst}
use Rattle.std.specs.Option.{option_map}
use Rattle.sml_tree.specs.Views.{ident_of}
use Rattle.sml_bases.specs.Views.{env_of}
use Rattle.sml_types.specs.Answered.{there_or}
use Rattle.sml_scopes.specs.CodeScopes.{structure_in}
use Rattle.sml_sigs.proofs.Drafts.{structure-of-drafts}
use Rattle.sml_sigs.proofs.layers.LayersScope.structure.Goals as goal

pub returns-in-Some : goal.returns-in-Some
returns-in-Some c =
    subst (λ l. there_or l (λ p. p ≡ structure_in c.args.self.now.outer.now (ident_of c.args.name.now)) (Some (env_of c.in-Some.found.now.value)))
    (structure-of-drafts c.args.self.now.inner.now c.args.name.now (Some c.in-Some.found) c.in-Some.ensures) refl

pub returns-in-None : goal.returns-in-None
returns-in-None c =
    subst (λ l. there_or l (λ p. p ≡ structure_in c.args.self.now.outer.now (ident_of c.args.name.now)) (option_map (λ s. env_of s.now.value) c.structure.result))
    (structure-of-drafts c.args.self.now.inner.now c.args.name.now None c.in-None.ensures) c.structure.ensures

use Rattle.std.proofs.Common.{◌≡◌, None, Some, refl, subst}
use Rattle.std.specs.Option.{option_map}
use Rattle.sml_tree.specs.Views.{ident_of}
use Rattle.sml_bases.specs.Views.{ty_str_of}
use Rattle.sml_types.specs.Answered.{there_or}
use Rattle.sml_scopes.specs.CodeScopes.{type_in}
use Rattle.sml_sigs.proofs.Drafts.{type-of-drafts}
use Rattle.sml_sigs.proofs.layers.LayersScope.type_str.Goals as goal

pub returns-in-Some : goal.returns-in-Some
returns-in-Some c =
    subst (λ l. there_or l (λ p. p ≡ type_in c.args.self.now.outer.now (ident_of c.args.name.now)) (Some (ty_str_of c.in-Some.found.now)))
    (type-of-drafts c.args.self.now.inner.now c.args.name.now (Some c.in-Some.found) c.in-Some.ensures) refl

pub returns-in-None : goal.returns-in-None
returns-in-None c =
    subst (λ l. there_or l (λ p. p ≡ type_in c.args.self.now.outer.now (ident_of c.args.name.now)) (option_map (λ t. ty_str_of t.now) c.type_str.result))
    (type-of-drafts c.args.self.now.inner.now c.args.name.now None c.in-None.ensures) c.type_str.ensures

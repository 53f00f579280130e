use Rattle.std.proofs.Common.{None, Some, refl, subst}
use Rattle.std.specs.Option.{option_map}
use Rattle.sml_tree.specs.Views.{ident_of}
use Rattle.sml_bases.specs.Views.{ty_str_of}
use Rattle.sml_types.specs.Answered.{there_or}
use Rattle.sml_types.proofs.Entries.{looked}
use Rattle.sml_types.proofs.datatypes.InnerScope.type_str.Goals as goal

pub returns-in-Some : goal.returns-in-Some
returns-in-Some g c =
    subst (λ l. there_or l (g.S.Scope.says_type c.args.self.now.outer.now (ident_of c.args.name.now)) (Some (ty_str_of c.in-Some.found.now)))
    (looked ty_str_of c.args.self.now.types.now.entries c.args.name.now (Some c.in-Some.found) c.in-Some.ensures.value) refl

pub returns-in-None : goal.returns-in-None
returns-in-None g c =
    subst (λ l. there_or l (g.S.Scope.says_type c.args.self.now.outer.now (ident_of c.args.name.now)) (option_map (λ t. ty_str_of t.now) c.type_str.result))
    (looked ty_str_of c.args.self.now.types.now.entries c.args.name.now None c.in-None.ensures.value) c.type_str.ensures

-- Declarations that are alike but for what stands behind seals.
use Rattle.std.specs.Prelude.{◌≡◌, ◌⊎◌, List, [], ◌∷◌}
use Rattle.sml_lex.specs.declared.fault.Place.{Place}
use Rattle.sml_tree.specs.Trees.{Id}
use Rattle.sml_tree.specs.Expressions.{open_dec}
use Rattle.sml_tree.specs.Signatures.{SigExp}
use Rattle.sml_tree.specs.Structures.{StrExp, StrBinds, FunBind, TopDec, ascribed, str_let, str_bind, no_str_bind, and_str_bind, top_str, core_dec, structure_dec, functor_dec, no_str_dec, and_str_dec}
use Rattle.sml_tree.specs.declared.structures.Ascription.TheVariants.{Opaque}
use Rattle.sml_places.specs.Places.{place_sig, place_str}

-- places don't count
abbrev pub AreSameSignatures : SigExp Place → SigExp Place → Type 0
AreSameSignatures s r = place_sig {Q = Unit {0}} (λ p. tt) s ≡ place_sig (λ p. tt) r

abbrev pub AreSameStructures : StrExp Place → StrExp Place → Type 0
AreSameStructures e g = place_str {Q = Unit {0}} (λ p. tt) e ≡ place_str (λ p. tt) g

-- `e :> s` and `g :> r`, where s and r are the same
pub record AreSealedAlike (e g : StrExp Place) : Type 0 where
  pub first_place : Place
  pub second_place : Place
  pub first_body : StrExp Place
  pub second_body : StrExp Place
  pub first_signature : SigExp Place
  pub second_signature : SigExp Place
  pub first : e ≡ ascribed first_place first_body Opaque first_signature
  pub second : g ≡ ascribed second_place second_body Opaque second_signature
  pub signatures : AreSameSignatures first_signature second_signature

abbrev pub AreBodiesAlike : StrExp Place → StrExp Place → Type 0
AreBodiesAlike e g = AreSameStructures e g ⊎ AreSealedAlike e g

-- structures joined by `and`, of the same identifiers
abbrev pub AreBindingsAlike : StrBinds Place → StrBinds Place → Type 0
AreBindingsAlike no_str_bind no_str_bind = Unit {0}
AreBindingsAlike (and_str_bind (str_bind x e) bs) (and_str_bind (str_bind y g) cs) = (x.id ≡ y.id) × AreBodiesAlike e g × AreBindingsAlike bs cs
AreBindingsAlike bs cs = ⊥

-- `let open x in e end`, as which the body of a functor is written whose argument is given by specifications
pub record Opens (x : Id) (e body : StrExp Place) : Type 0 where
  pub place : Place
  pub open_place : Place
  pub name_place : Place
  pub is : e ≡ str_let place (and_str_dec (core_dec (open_dec open_place (record { place = name_place; id = record { path = []; last = x } } ∷ []))) no_str_dec) body

-- both open the argument around bodies that are alike
pub record AreOpenedAlike (x : Id) (e g : StrExp Place) : Type 0 where
  pub first_body : StrExp Place
  pub second_body : StrExp Place
  pub first : Opens x e first_body
  pub second : Opens x g second_body
  pub alike : AreSealedAlike first_body second_body

abbrev pub AreFunctorsAlike : List (FunBind Place) → List (FunBind Place) → Type 0
AreFunctorsAlike [] [] = Unit {0}
AreFunctorsAlike [] (c ∷ cs) = ⊥
AreFunctorsAlike (b ∷ bs) [] = ⊥
AreFunctorsAlike (b ∷ bs) (c ∷ cs) =
    ((b.name.id ≡ c.name.id) × (b.argument.id ≡ c.argument.id) × AreSameSignatures b.signature c.signature
    × (AreBodiesAlike b.body c.body ⊎ AreOpenedAlike b.argument.id b.body c.body)) × AreFunctorsAlike bs cs

-- the declarations bind structures, or functors, that are alike
abbrev pub AreGroupsAlike : TopDec Place → TopDec Place → Type 0
AreGroupsAlike (top_str (structure_dec p bs)) (top_str (structure_dec q cs)) = AreBindingsAlike bs cs
AreGroupsAlike (functor_dec p bs) (functor_dec q cs) = AreFunctorsAlike bs cs
AreGroupsAlike d e = ⊥

-- The same declarations in the same number, places included, but for groups that are alike.
abbrev pub AreDeclarationsAlike : List (TopDec Place) → List (TopDec Place) → Type 0
AreDeclarationsAlike [] [] = Unit {0}
AreDeclarationsAlike [] (e ∷ es) = ⊥
AreDeclarationsAlike (d ∷ ds) [] = ⊥
AreDeclarationsAlike (d ∷ ds) (e ∷ es) = ((d ≡ e) ⊎ AreGroupsAlike d e) × AreDeclarationsAlike ds es

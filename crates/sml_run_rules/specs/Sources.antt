-- What the files of a project's units spell.
use Rattle.std.specs.Prelude.{◌≡◌, ℕ, suc, List, [], ◌∷◌, map, Option}
use Rattle.sml_lex.specs.declared.fault.Place.{Place}
use Rattle.sml_lex.specs.declared.token.Token.{Token}
use Rattle.sml_lex.specs.declared.token.End.{End}
use Rattle.sml_lex.specs.Faults.{Fault, first_place}
use Rattle.sml_lex.specs.Pieces.{Spells}
use Rattle.sml_tree.specs.Trees.{Dec}
use Rattle.sml_tree.specs.Structures.{TopDec}
use Rattle.sml_parse.specs.Trees.{AreTrees}
use Rattle.sml_projects.specs.Orders.{UnitText}
use Rattle.sml_module_rules.specs.Projects as M

-- The bytes of a unit spell tokens, and these whole declarations and perhaps a last fault.
pub record Spell (bytes : List ℕ) (declarations : List (TopDec Place)) (last : Option (Fault Place)) : Type 0 where
  pub tokens : List Token
  pub end : End
  pub tokens_spelt : Spells bytes tokens end
  pub of_piece : List (Dec Place)
  pub trees : AreTrees bytes tokens end declarations of_piece last

-- A unit: its name, its number among the units listed, from 1, the places of its needs in the order of checking, its declarations, and
-- perhaps a last fault.
pub record Source : Type 0 where
  pub name : List ℕ
  pub number : ℕ
  pub needs : List ℕ
  pub declarations : List (TopDec Place)
  pub last : Option (Fault Place)

pub record IsSourceOf (u : UnitText) (s : Source) : Type 0 where
  pub name_is : s.name ≡ u.name
  pub number_is : s.number ≡ suc u.place
  pub needs_are : s.needs ≡ u.needs
  pub spelt : Spell u.text s.declarations s.last

abbrev pub AreSourcesOf : List UnitText → List Source → Type 0
AreSourcesOf [] [] = Unit {0}
AreSourcesOf [] (s ∷ ss) = ⊥
AreSourcesOf (u ∷ us) [] = ⊥
AreSourcesOf (u ∷ us) (s ∷ ss) = IsSourceOf u s × AreSourcesOf us ss

-- each declaration stands at the place from which its places count
abbrev pub unit_of : Source → M.UnitText Place
unit_of s = record { number = s.number; declarations = map (λ d. (first_place, d)) s.declarations; needs = s.needs }

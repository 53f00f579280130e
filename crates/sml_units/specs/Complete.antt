-- What holds of the replies to units, whatever these declare, and whether they are answered anew or kept.
use Rattle.std.specs.Prelude.{◌≡◌, ℕ, ◌+◌, List, [], ◌∷◌, length, map, take, Option}
use Rattle.std.specs.Option.{option_to_list}
use Rattle.std.specs.String.{string_bytes}
use Rattle.sml_lex.specs.declared.fault.Place.{Place}
use Rattle.sml_lex.specs.Faults.{Fault}
use Rattle.sml_tree.specs.Trees.{Dec}
use Rattle.sml_reply.specs.declared.reply.Reply.{Reply}
use Rattle.sml_projects.specs.Orders.{UnitText}
use Rattle.sml_units.specs.declared.project.Checked.{Checked}
use Rattle.sml_units.specs.declared.project.Source.{Source}
use Rattle.sml_units.specs.declared.project.UnitReplies.{UnitReplies}
use Rattle.sml_units.specs.Checked.{AreNumbered, AreSpelt, EndWith}

-- one to each of so many declarations, numbered in order from 1, and after them one to the last fault
pub record AreTo (n : ℕ) (last : Option (Fault Place)) (rs : List Reply) : Type 0 where
  pub number : length rs ≡ n + length (option_to_list last)
  pub numbered : AreNumbered 1 rs
  pub ended : EndWith n last rs

-- to the declarations and the last fault that these bytes spell
pub record AreComplete (bytes : List ℕ) (rs : List Reply) : Type 0 where
  pub declarations : List (Dec Place)
  pub last : Option (Fault Place)
  pub spelt : AreSpelt bytes declarations last
  pub replies : AreTo (length spelt.tops) last rs

-- of a unit, by its name
abbrev pub IsComplete : UnitText → UnitReplies → Type 0
IsComplete u r = (string_bytes r.name ≡ u.name) × AreComplete u.text r.replies.items

-- of each unit
abbrev pub AreAllComplete : List UnitText → List UnitReplies → Type 0
AreAllComplete [] [] = Unit {0}
AreAllComplete [] (r ∷ rs) = ⊥
AreAllComplete (u ∷ us) [] = ⊥
AreAllComplete (u ∷ us) (r ∷ rs) = IsComplete u r × AreAllComplete us rs

abbrev pub texts_of : List Source → List (List ℕ)
texts_of ss = map (λ s. s.text.items) ss

-- What was made of a project with these units: their texts, and replies to those that are done.
pub record IsMadeOf (us : List UnitText) (c : Checked) : Type 0 where
  pub texts : texts_of c.sources.items ≡ map (λ u. u.text) us
  pub replies : AreAllComplete (take (length c.kept.items) us) c.replies.units.items

-- How many declarations the bytes of units spell.
use Rattle.std.specs.Prelude.{◌≡◌, ℕ, List, [], ◌∷◌, length, sum_by, Option}
use Rattle.sml_lex.specs.declared.fault.Place.{Place}
use Rattle.sml_lex.specs.Faults.{Fault}
use Rattle.sml_tree.specs.Trees.{Dec}
use Rattle.sml_bases.specs.Entries.{capped}
use Rattle.sml_projects.specs.Orders.{UnitText}
use Rattle.sml_units.specs.Checked.{AreSpelt}

-- so many whole declarations
pub record IsNumberOf (bytes : List ℕ) (n : ℕ) : Type 0 where
  pub declarations : List (Dec Place)
  pub last : Option (Fault Place)
  pub spelt : AreSpelt bytes declarations last
  pub number : n ≡ length spelt.tops

-- a number for each unit
abbrev pub AreNumbersOf : List UnitText → List ℕ → Type 0
AreNumbersOf [] [] = Unit {0}
AreNumbersOf [] (n ∷ ns) = ⊥
AreNumbersOf (u ∷ us) [] = ⊥
AreNumbersOf (u ∷ us) (n ∷ ns) = IsNumberOf u.text n × AreNumbersOf us ns

-- the count of the declarations of all units
pub record IsCountOf (us : List UnitText) (count : ℕ) : Type 0 where
  pub numbers : List ℕ
  pub are : AreNumbersOf us numbers
  pub total : count ≡ capped (sum_by (λ n. n) numbers)

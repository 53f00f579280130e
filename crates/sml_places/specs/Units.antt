-- Units that are alike but for what stands behind seals, and what they may be answered.
use Rattle.std.specs.Prelude.{◌≡◌, ◌⊎◌, ◌<◌, List, [], ◌∷◌, is_some}
use Rattle.std.specs.List.{AllByRecursion}
use Rattle.sml_lex.specs.declared.fault.Place.{Place}
use Rattle.sml_tree.specs.Structures.{TopDec}
use Rattle.sml_objects.specs.Alike.{Renaming}
use Rattle.sml_objects.specs.Initial.{Name, naming}
use Rattle.sml_rules.specs.Answers.{Answer}
use Rattle.sml_module_rules.specs.Programs.{acceptance}
use Rattle.sml_module_rules.specs.Projects.{UnitText}
use Rattle.sml_module_rules.specs.Runs.{AreAnswers}
use Rattle.sml_module_rules.specs.Statements.{rename_added, rename_shown}
use Rattle.sml_module_rules.specs.Structures.{Added}
use Rattle.sml_places.specs.Likeness.{AreGroupsAlike}

-- a declaration with its place
abbrev pub Placed : Type 0
Placed = Place × TopDec Place

-- the same, places included, or groups that are alike
abbrev pub IsAlike : Placed → Placed → Type 0
IsAlike d e = (d ≡ e) ⊎ AreGroupsAlike d.1 e.1

abbrev pub AreAlike : List Placed → List Placed → Type 0
AreAlike [] [] = Unit {0}
AreAlike [] (e ∷ es) = ⊥
AreAlike (d ∷ ds) [] = ⊥
AreAlike (d ∷ ds) (e ∷ es) = IsAlike d e × AreAlike ds es

-- the same numbers and needs, and declarations that are alike
abbrev pub AreUnitsAlike : List (UnitText Place) → List (UnitText Place) → Type 0
AreUnitsAlike [] [] = Unit {0}
AreUnitsAlike [] (w ∷ ws) = ⊥
AreUnitsAlike (u ∷ us) [] = ⊥
AreUnitsAlike (u ∷ us) (w ∷ ws) = ((u.number ≡ w.number) × (u.needs ≡ w.needs) × AreAlike u.declarations w.declarations) × AreUnitsAlike us ws

-- what a declaration may be answered, over the names of a run
abbrev pub Given : Type 0
Given = Answer Place (Added Place Name)

-- each declaration that differs is accepted in both or refused in both

abbrev pub AllAgree : List Placed → List Placed → List Given → List Given → Type 0
AllAgree (d ∷ ds) (e ∷ es) (o ∷ os) (q ∷ qs) = (¬ (d ≡ e) → is_some (acceptance o) ≡ is_some (acceptance q)) × AllAgree ds es os qs
AllAgree ds es os qs = Unit {0}

abbrev pub UnitsAgree : List (UnitText Place) → List (UnitText Place) → List (List Given) → List (List Given) → Type 0
UnitsAgree (u ∷ us) (w ∷ ws) (os ∷ oss) (qs ∷ qss) = AllAgree u.declarations w.declarations os qs × UnitsAgree us ws oss qss
UnitsAgree us ws oss qss = Unit {0}

-- Each answer to the second of two is the answer to the first, renamed. Where they differ, it is so but for what is to be judged, and
-- both may be refused instead.
module _ (f : Name → Name) where
  abbrev pub IsRenamed : Placed → Placed → Given → Given → Type 0
  IsRenamed d e o q = (d ≡ e → q ≡ rename_added f o) × (acceptance q ≡ rename_shown f (acceptance o))

  abbrev pub AreRenamed : List Placed → List Placed → List Given → List Given → Type 0
  AreRenamed [] [] [] [] = Unit {0}
  AreRenamed (d ∷ ds) (e ∷ es) (o ∷ os) (q ∷ qs) = IsRenamed d e o q × AreRenamed ds es os qs
  AreRenamed ds es os qs = ⊥

  abbrev pub UnitsAreRenamed : List (UnitText Place) → List (UnitText Place) → List (List Given) → List (List Given) → Type 0
  UnitsAreRenamed [] [] [] [] = Unit {0}
  UnitsAreRenamed (u ∷ us) (w ∷ ws) (os ∷ oss) (qs ∷ qss) = AreRenamed u.declarations w.declarations os qs × UnitsAreRenamed us ws oss qss
  UnitsAreRenamed us ws oss qss = ⊥

-- What stands behind `:>` can't be seen, and places don't count there. Of units that are alike, where each declaration that differs is
-- accepted in both or refused in both, all answers are the same but for the names that the units made, and but for the faults of the
-- declarations that differ and what is to be judged in them.
abbrev pub RunsOfAlikeUnitsHide : Type 0
RunsOfAlikeUnitsHide =
    (us ws : List (UnitText Place)) → AllByRecursion (λ u. 0 < u.number) us → AreUnitsAlike us ws → (oss qss : List (List Given)) → AreAnswers us oss → AreAnswers ws qss
    → UnitsAgree us ws oss qss → (f : Renaming naming) × UnitsAreRenamed f.to us ws oss qss

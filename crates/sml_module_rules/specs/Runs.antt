-- What the units of a project may be answered: over the initial basis, with the names of a run.
use Rattle.std.specs.Prelude.{◌≡◌, ◌<◌, List, [], map, is_some}
use Rattle.std.specs.List.{AllByRecursion}
use Rattle.sml_lex.specs.declared.fault.Place.{Place}
use Rattle.sml_objects.specs.Alike.{Renaming}
use Rattle.sml_objects.specs.Initial.{Name, naming}
use Rattle.sml_rules.specs.Answers.{Answer}
use Rattle.sml_core_rules.specs.Initial.{initial_names, initial_basis}
use Rattle.sml_core_rules.specs.Scopes.{run_scope}
use Rattle.sml_module_rules.specs.Projects.{UnitText, UnitPair, Exports, AreRuns, first_unit, second_unit, units_shown}
use Rattle.sml_module_rules.specs.Statements.{rename_shown}
use Rattle.sml_module_rules.specs.Structures.{Added}

-- before the first unit: the initial names are the only ones that were used
abbrev pub at_first : Exports Name
at_first = record { names = initial_names; units = [] }

-- Unit by unit, over the initial basis with the exports of its needs, each answer is one of the readings of its declaration, whose
-- new names the unit makes and were used nowhere before; an accepted one extends the basis, and a refused one leaves it.
abbrev pub AreAnswers : List (UnitText Place) → List (List (Answer Place (Added Place Name))) → Type 0
AreAnswers us oss = AreRuns (run_scope 1) initial_basis at_first us oss

-- What stands behind `:>` can't be seen. Of two projects whose units are alike but for what stands behind `:>`, where each such
-- declaration is accepted in both or refused in both, all answers are the same but for the names that the units made, and but for the
-- faults of these declarations.
abbrev pub RunsHide : Type 0
RunsHide =
    (us : List (UnitPair Place)) → AllByRecursion (λ u. 0 < u.number) us → (oss qss : List (List (Answer Place (Added Place Name))))
    → AreAnswers (map first_unit us) oss → AreAnswers (map second_unit us) qss → map (map is_some) (units_shown us oss) ≡ map (map is_some) (units_shown us qss)
    → (f : Renaming naming) × (units_shown us qss ≡ map (map (rename_shown f.to)) (units_shown us oss))

-- What is claimed of all readings of top-level declarations.
use Rattle.std.specs.Prelude.{◌≡◌, ℕ, List, [], map, Option, Some, None, is_some}
use Rattle.std.specs.List.{AllByRecursion}
use Rattle.sml_lex.specs.declared.fault.Place.{Place}
use Rattle.sml_tree.specs.Structures.{TopDec}
use Rattle.sml_objects.specs.Alike.{Renaming}
use Rattle.sml_objects.specs.Appearance.{Stands}
use Rattle.sml_objects.specs.Names.{Naming, Initial}
use Rattle.sml_layers.specs.declared.variable.Variable.{Variable}
use Rattle.sml_rules.specs.Answers.{Answer, refused, accepted}
use Rattle.sml_core_rules.specs.Objects.{Basis, rename_basis, names_basis}
use Rattle.sml_core_rules.specs.States.{Scope}
use Rattle.sml_module_rules.specs.Structures.{Added, IsTopReading}
use Rattle.sml_module_rules.specs.Projects.{UnitPair, first_unit, second_unit, AreRuns, units_shown}
use Rattle.sml_module_rules.specs.Programs.{AreReadings, Pair, first, second, all_shown}

abbrev pub rename_added : {P A B : Type 0} → (A → B) → Answer P (Added P A) → Answer P (Added P B)
rename_added f (refused x) = refused x
rename_added f (accepted A) = accepted (record { basis = rename_basis f A.basis; judged = A.judged })

-- Any two answers to a declaration in a basis are the same but for the names that were made: a renaming that leaves the names of
-- the basis, the initial ones among them, takes one answer to the other. The names of explicit variables are made by no unit.
abbrev pub TopReadingsAgree : {N : Type 0} → Scope N → Type 0
TopReadingsAgree {N} scope =
    ((x : Variable) → ¬ ((scope.names.attributes (scope.variable x)).maker ≡ scope.unit))
    → (B : Basis N) → ((n : N) → Stands n (names_basis B) → Stands n B.names) → ((k : Initial) → Stands (scope.names.initial k) B.names)
    → (p : Place) (d : TopDec Place) (o q : Answer Place (Added Place N)) → IsTopReading scope p B d o → IsTopReading scope p B d q
    → (f : Renaming scope.names) × ((n : N) → Stands n B.names → f.to n ≡ n) × (q ≡ rename_added f.to o)

-- A reading of a declaration is one of it with the names replaced: the basis and the answer. The names that stand for explicit
-- variables are replaced too.
abbrev pub TopReadingsMove : {N : Type 0} → Naming N → Type 0
TopReadingsMove {N} names =
    (f : Renaming names) (unit : ℕ) (var : Variable → N) (p : Place) (B : Basis N) (d : TopDec Place) (o : Answer Place (Added Place N))
    → IsTopReading (record { names = names; unit = unit; variable = var }) p B d o
    → IsTopReading (record { names = names; unit = unit; variable = λ x. f.to (var x) }) p (rename_basis f.to B) d (rename_added f.to o)

abbrev pub rename_shown : {P A B : Type 0} → (A → B) → Option (Answer P (Added P A)) → Option (Answer P (Added P B))
rename_shown f None = None
rename_shown f (Some o) = Some (rename_added f o)

-- What stands behind `:>` can't be seen. Of two programs that are alike but for what stands behind `:>`, where each such
-- declaration is accepted in both or refused in both, all answers are the same but for the names that were made, and but for the
-- faults of these declarations. So any two answers to one program are the same but for the names.
abbrev pub SealsHide : {N : Type 0} → Scope N → Type 0
SealsHide {N} scope =
    ((x : Variable) → ¬ ((scope.names.attributes (scope.variable x)).maker ≡ scope.unit))
    → (B : Basis N) → ((n : N) → Stands n (names_basis B) → Stands n B.names) → ((k : Initial) → Stands (scope.names.initial k) B.names)
    → (ds : List (Pair Place)) (os qs : List (Answer Place (Added Place N))) → AreReadings scope B (map first ds) os → AreReadings scope B (map second ds) qs
    → map is_some (all_shown ds os) ≡ map is_some (all_shown ds qs)
    → (f : Renaming scope.names) × ((n : N) → Stands n B.names → f.to n ≡ n) × (all_shown ds qs ≡ map (rename_shown f.to) (all_shown ds os))

-- The same of projects: of two projects whose units are alike but for what stands behind `:>`, where each such declaration is
-- accepted in both or refused in both, all answers to all units are the same but for the names that were made, and but for the
-- faults of these declarations. None of the units makes a name of an explicit variable.
abbrev pub ProjectsHide : {N : Type 0} → Scope N → Type 0
ProjectsHide {N} scope =
    (us : List (UnitPair Place)) → AllByRecursion (λ u. (x : Variable) → ¬ ((scope.names.attributes (scope.variable x)).maker ≡ u.number)) us
    → (B : Basis N) → ((n : N) → Stands n (names_basis B) → Stands n B.names) → ((k : Initial) → Stands (scope.names.initial k) B.names)
    → (oss qss : List (List (Answer Place (Added Place N))))
    → AreRuns scope B (record { names = B.names; units = [] }) (map first_unit us) oss → AreRuns scope B (record { names = B.names; units = [] }) (map second_unit us) qss
    → map (map is_some) (units_shown us oss) ≡ map (map is_some) (units_shown us qss)
    → (f : Renaming scope.names) × ((n : N) → Stands n B.names → f.to n ≡ n) × (units_shown us qss ≡ map (map (rename_shown f.to)) (units_shown us oss))

-- What is required of a structure, line by line.
use Rattle.std.specs.Prelude.{◌≡◌, false, List, length, ◌++◌, Some, Result, Ok, Err}
use Rattle.std.specs.List.{AllByRecursion}
use Rattle.sml_lex.specs.declared.fault.Place.{Place}
use Rattle.sml_objects.specs.Initial.{Name}
use Rattle.sml_objects.specs.Maps.{Map}
use Rattle.sml_rules.specs.Answers.{Answer, refused}
use Rattle.sml_core_rules.specs.Objects.{Env, Structures, TyStr, Value, maps, no_structure, and_structure}
use Rattle.sml_core_rules.specs.Scripts.{IsAnswer}
use Rattle.sml_core_rules.specs.States.{Scope, State}
use Rattle.sml_core_rules.specs.Values.{has_unknown}
use Rattle.sml_graph.specs.Interned.{IsBodyOver}
use Rattle.sml_module_rules.specs.Lines.{Line}
use Rattle.sml_module_rules.specs.Matching.{require_lines}
use Rattle.sml_match.specs.declared.mismatch.Mismatch.{Mismatch}
use Rattle.sml_match.specs.declared.mismatch.Mismatch.TheVariants.{Memory, Fault}

-- No type of these values has a variable but its own.
abbrev pub AreClosedValues : Map (Value Name) → Type 0
AreClosedValues vs = AllByRecursion (λ e. IsBodyOver (length e.1.scheme.variables) 0 e.1.scheme.body) vs

-- No unknown stands in their types.
abbrev pub AreKnownValues : Map (Value Name) → Type 0
AreKnownValues vs = AllByRecursion (λ e. has_unknown e.1.scheme.body ≡ false) vs

-- the same at every path
unfoldable mutual
  pub HasClosedValues : Env Name → Type 0
  HasClosedValues (maps ss ts vs) = HaveClosedValues ss × AreClosedValues vs

  pub HaveClosedValues : Structures (TyStr Name) (Value Name) → Type 0
  HaveClosedValues no_structure = Unit {0}
  HaveClosedValues (and_structure s E ss) = HasClosedValues E × HaveClosedValues ss

unfoldable mutual
  pub HasKnownValues : Env Name → Type 0
  HasKnownValues (maps ss ts vs) = HaveKnownValues ss × AreKnownValues vs

  pub HaveKnownValues : Structures (TyStr Name) (Value Name) → Type 0
  HaveKnownValues no_structure = Unit {0}
  HaveKnownValues (and_structure s E ss) = HasKnownValues E × HaveKnownValues ss

module _ (scope : Scope Name) (s : State Place Name) (p : Place) (E : Env Name) where
  -- what may be answered to these lines
  abbrev pub answers : List (Line (TyStr Name) (Value Name)) → Answer Place (Unit {0} × State Place Name) → Type 0
  answers ls o = IsAnswer scope (require_lines scope p E ls) s o

  -- The structure has what these lines ask, whatever lines are after them, or it hasn't.
  abbrev pub HasRequired : {U : Type 0} → List (Line (TyStr Name) (Value Name)) → Result U Mismatch → Type 0
  HasRequired ls (Ok u) = (rest : List (Line (TyStr Name) (Value Name))) (o : Answer Place (Unit {0} × State Place Name)) → answers rest o → answers (ls ++ rest) o
  HasRequired ls (Err Memory) = Unit {0}
  HasRequired ls (Err (Fault c text)) = (rest : List (Line (TyStr Name) (Value Name))) → answers (ls ++ rest) (refused (record { code = c; place = p; detail = Some text.items }))

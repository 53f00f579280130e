-- What calls declare: in each state that a context is that of, an environment that the script of the declaration may be given there, by which
-- the scopes of the context are extended.
use Rattle.std.specs.Prelude.{◌≡◌, List, map, Result, Ok, Err}
use Rattle.sml_lex.specs.Faults.{fault_of}
use Rattle.sml_lex.specs.declared.fault.Place.{Place}
use Rattle.sml_tree.specs.Expressions.{TypBind}
use Rattle.sml_objects.specs.Initial.{Name}
use Rattle.sml_objects.specs.Maps.{Map}
use Rattle.sml_objects.specs.Objects.{MlType}
use Rattle.sml_rules.specs.Answers.{accepted, refused}
use Rattle.sml_core_rules.specs.Objects.{Env}
use Rattle.sml_core_rules.specs.Scopes.{run_scope}
use Rattle.sml_core_rules.specs.Scripts.{Script, IsAnswer}
use Rattle.sml_core_rules.specs.States.{State, Window}
use Rattle.sml_core_rules.specs.Expressions.{read_types}
use Rattle.sml_scopes.specs.Means.{MeansAt}
use Rattle.sml_scopes.specs.declared.scopes.Mark.{Mark}
use Rattle.sml_types.specs.Bindings.{AreApart, AreSpelt}
use Rattle.sml_types.specs.declared.fault.CoreFault.{CoreFault}
use Rattle.sml_types.specs.declared.fault.CoreFault.TheVariants.{Memory, Fault}
use Rattle.sml_core.specs.Answered.{IsAt, IsLater, unit_of}
use Rattle.sml_core.specs.Bound.{Extends}
use Rattle.sml_core.specs.Seen.{AreScoped, Sees}
use Rattle.sml_core.specs.declared.context.Context.{Context}

-- After the script's answer with an environment the context is that of a later state, of the same unit. Its scopes mean what they meant, extended
-- by the environment; around each mark, and of explicit variables, all is as it was.
pub record IsDeclared (around : Window Place Name) (old : Context) (k : Script Place Name (Env Name)) (s : State Place Name) (new : Context) (E : Env Name) (t : State Place Name) : Type 0 where
  pub answer : IsAnswer (run_scope (unit_of old)) k s (accepted (E, t))
  pub at : IsAt around new t
  pub unit : unit_of new ≡ unit_of old
  pub later : IsLater s t
  pub bound : Extends old.scopes E new.scopes
  pub marks : (C : Env Name) (m : Mark) → MeansAt old.scopes m C → MeansAt new.scopes m C
  pub scoped : (vs : Map (MlType Name)) → AreScoped old.explicit vs → AreScoped new.explicit vs

-- the declaration of a script that knows an environment and types of explicit variables, which the context sees
abbrev pub Declares : Context → (Env Name → Map (MlType Name) → Script Place Name (Env Name)) → Context → Result (Unit {0}) CoreFault → Type 0
Declares old k new (Ok x) =
    (C : Env Name) (vs : Map (MlType Name)) (around : Window Place Name) (s : State Place Name) → IsAt around old s → Sees C vs old s
    → (E : Env Name) × (t : State Place Name) × IsDeclared around old (k C vs) s new E t
Declares old k new (Err Memory) = Unit {0}
Declares old k new (Err (Fault f)) =
    (C : Env Name) (vs : Map (MlType Name)) (around : Window Place Name) (s : State Place Name) → IsAt around old s → Sees C vs old s
    → IsAnswer (run_scope (unit_of old)) (k C vs) s (refused (fault_of f))

-- A call declares types, if no binding lists the variable that no source spells and none binds an identifier twice.
unfoldable pub DeclaresTypes : Context → Place → List (TypBind Place) → Context → Result (Unit {0}) CoreFault → Type 0
DeclaresTypes old p bs new result = AreSpelt bs → AreApart (map (λ b. b.name.id) bs) → Declares old (λ C vs. read_types (run_scope (unit_of old)) p C bs) new result

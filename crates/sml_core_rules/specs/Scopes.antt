-- What a scope of a run is: the names of a run, one of its units, and names for explicit type variables.
use Rattle.std.specs.Prelude.{◌≡◌, ℕ, ◌<◌, []}
use Rattle.sml_objects.specs.Initial.{Name, naming}
use Rattle.sml_objects.specs.Names.{Initial}
use Rattle.sml_layers.specs.Explicit.{variable_name}
use Rattle.sml_layers.specs.declared.variable.Variable.{Variable}
use Rattle.sml_core_rules.specs.States.{Scope}

-- Each explicit variable has a name of its own, without parameters, that admits equality where the variable does. No unit made it,
-- and it is none of the initial names, which no unit made either.
pub record IsScope {N : Type 0} (scope : Scope N) : Type 0 where
  pub counted : 0 < scope.unit
  pub apart : (x y : Variable) → scope.variable x ≡ scope.variable y → x ≡ y
  pub carries : (x : Variable) → scope.names.attributes (scope.variable x) ≡ record { maker = 0; arity = 0; equality = x.equality; constructors = [] }
  pub is_new : (x : Variable) (k : Initial) → ¬ (scope.names.initial k ≡ scope.variable x)
  pub initial : (k : Initial) → (scope.names.attributes (scope.names.initial k)).maker ≡ 0

-- that of the unit with this number, counted from 1
abbrev pub run_scope : ℕ → Scope Name
run_scope unit = record { names = naming; unit = unit; variable = variable_name }

-- it is one
abbrev pub RunsHaveScopes : Type 0
RunsHaveScopes = (unit : ℕ) → 0 < unit → IsScope (run_scope unit)

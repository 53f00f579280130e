-- Environments that a context may see.
use Rattle.std.specs.Prelude.{ℕ, List}
use Rattle.sml_objects.specs.Initial.{Name, naming}
use Rattle.sml_core_rules.specs.Initial.{initial_env, initial_names}
use Rattle.sml_core_rules.specs.Objects.{Env}
use Rattle.sml_core_laws.specs.Made.{IsEnvIn, Takes}
use Rattle.sml_core.specs.Seen.{AreFunctionsIn, AreValuesIn}

-- What stands in an environment speaks of what was made, wherever it is found.
abbrev pub CanBeSeen : ℕ → List Name → Env Name → Type 0
CanBeSeen made names C = AreValuesIn made names C × AreFunctionsIn made names C

abbrev pub EnvironmentsCanBeSeen : Type 0
EnvironmentsCanBeSeen = (made : ℕ) (names : List Name) (C : Env Name) → IsEnvIn (Takes naming) made names C → CanBeSeen made names C

abbrev pub TheInitialOneCanBeSeen : Type 0
TheInitialOneCanBeSeen = CanBeSeen 0 initial_names initial_env

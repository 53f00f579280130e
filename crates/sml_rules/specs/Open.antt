-- Environments in which no variable of a type is out of its place: the body of a type function without parameters has no
-- bound variable.
use Rattle.std.specs.Prelude.{◌≡◌, List, [], ◌∷◌}
use Rattle.sml_objects.specs.Maps.{Map}
use Rattle.sml_objects.specs.Objects.{Scheme, Env, Structures, env, no_structure, and_structure}
use Rattle.sml_rules.specs.Rules.{IsOpen}

unfoldable pub OpenFunctions : {N : Type 0} → Map (Scheme N) → Type 0
OpenFunctions [] = Unit {0}
OpenFunctions (x ∷ xs) = (x.1.variables ≡ [] → IsOpen x.1.body) × OpenFunctions xs

unfoldable mutual
  pub OpenEnv : {N : Type 0} → Env N → Type 0
  OpenEnv (env ss ts vs) = OpenStructures ss × OpenFunctions ts

  pub OpenStructures : {N : Type 0} → Structures N → Type 0
  OpenStructures no_structure = Unit {0}
  OpenStructures (and_structure s E ss) = OpenEnv E × OpenStructures ss

-- Specified are type functions without parameters, and values without bound variables.
unfoldable pub PlainFunctions : {N : Type 0} → Map (Scheme N) → Type 0
PlainFunctions [] = Unit {0}
PlainFunctions (x ∷ xs) = (x.1.variables ≡ []) × PlainFunctions xs

unfoldable pub PlainValues : {N : Type 0} → Map (Scheme N) → Type 0
PlainValues [] = Unit {0}
PlainValues (x ∷ xs) = IsOpen x.1.body × PlainValues xs

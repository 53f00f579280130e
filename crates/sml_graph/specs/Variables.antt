-- Explicit type variables, which stand for themselves alone. In the types that unknowns may have, a variable stands as a
-- name that no unit made.
use Rattle.std.specs.Prelude.{◌≡◌, ℕ, Bool, true, false, not, ◌&&◌, cond, nat_eq, Option, Some, None}
use Rattle.sml_objects.specs.Initial.{Name, initial, made}
use Rattle.sml_objects.specs.Names.{int}
use Rattle.sml_objects.specs.Objects.{MlType, Head, name, named}
use Rattle.sml_layers.specs.declared.class.Names.{Names}
use Rattle.sml_layers.specs.declared.variable.Variable.{Variable}
use Rattle.sml_graph.specs.declared.variables.Variables.{Variables}
use Rattle.sml_graph.specs.declared.variables.Variables.TheVariants.{Any, One, Several}

abbrev pub variable_type : Variable → MlType Name
variable_type x = named (made 0 x.number 0 x.equality)

abbrev pub is_same : Variable → Variable → Bool
is_same x y = nat_eq x.number y.number && cond x.equality y.equality (not y.equality)

-- what both ask
abbrev pub both_variables : Variables → Variables → Variables
both_variables Any b = b
both_variables (One x) Any = One x
both_variables (One x) (One y) = cond (is_same x y) (One x) Several
both_variables (One x) Several = Several
both_variables Several b = Several

abbrev pub MeetsVariables : Variables → MlType Name → Type 0
MeetsVariables Any t = Unit {0}
MeetsVariables (One x) t = t ≡ variable_type x
MeetsVariables Several t = ⊥

abbrev pub FitsVariables : Variables → Head Name → ℕ → Type 0
FitsVariables Any h n = Unit {0}
FitsVariables (One x) h n = (h ≡ name (made 0 x.number 0 x.equality)) × (n ≡ 0)
FitsVariables Several h n = ⊥

-- some type is so, where equality may be asked of it, and one of some names
abbrev pub IsPossible : Variables → Bool → Option Names → Type 0
IsPossible Any e c = Unit {0}
IsPossible (One x) e (Some c) = ⊥
IsPossible (One x) true None = x.equality ≡ true
IsPossible (One x) false None = Unit {0}
IsPossible Several e c = ⊥

-- a type that is so
abbrev pub stand_in : Variables → MlType Name
stand_in Any = named (initial int)
stand_in (One x) = variable_type x
stand_in Several = named (initial int)

abbrev pub variables_height : Variables → ℕ
variables_height Any = 2
variables_height (One x) = 1
variables_height Several = 0

-- What calls read of the bindings of value declarations before `rec`.
use Rattle.std.specs.Prelude.{◌≡◌, ◌-◌, Bool, false, List, [], ◌∷◌, ◌++◌, length, replicate, Result}
use Rattle.sml_lex.specs.declared.fault.Fault.{Fault as CodeFault}
use Rattle.sml_lex.specs.declared.fault.Place.{Place}
use Rattle.sml_tree.specs.Expressions.{ValBind, ValBinds, bind, no_bind, and_bind}
use Rattle.sml_objects.specs.Initial.{Name}
use Rattle.sml_objects.specs.Maps.{Map}
use Rattle.sml_objects.specs.Objects.{MlType}
use Rattle.sml_core_rules.specs.Objects.{Env}
use Rattle.sml_core_rules.specs.Scopes.{run_scope}
use Rattle.sml_core_rules.specs.Scripts.{Script, give, ◌>>=◌}
use Rattle.sml_core_rules.specs.States.{Scope, State, Window, of_val}
use Rattle.sml_core_rules.specs.Closing.{is_expansive}
use Rattle.sml_core_rules.specs.Patterns.{Bindings, pattern_place}
use Rattle.sml_core_rules.specs.Expressions.{Bound, judge_patterns, read_binds}
use Rattle.sml_core_rules.specs.Values.{require_equal}
use Rattle.sml_types.specs.declared.fault.CoreFault.{CoreFault}
use Rattle.sml_warnings.specs.Lost.{IsLost, StandsIn}
use Rattle.sml_asks.specs.Solvers.{IsTypeIn}
use Rattle.sml_core.specs.Answered.{AnswersAs, IsAt, IsPlain, unit_of}
use Rattle.sml_core.specs.Seen.{Sees}
use Rattle.sml_core.specs.Patterns.{AreBoundIn, bindings_of}
use Rattle.sml_core.specs.declared.context.Context.{Context}
use Rattle.sml_core.specs.declared.values.Declaration.{Declaration}

-- these flags, and this one for each variable that has none
abbrev pub with_flag : Bool → Bindings Name → List Bool → List Bool
with_flag x bs xs = xs ++ replicate (length bs - length xs) x

-- no identifier in the pattern of a binding has a path that leads nowhere
abbrev pub NoneIsLostIn : Env Name → ValBind Place → Type 0
NoneIsLostIn C (bind q e) = (g : CodeFault) → StandsIn (IsLost C g) q → ⊥

-- what a binding asks of the types of its pattern and of its right side
abbrev pub join_bind : Scope Name → Env Name → ValBind Place → MlType Name → MlType Name → Script Place Name (Unit {0})
join_bind scope C (bind q e) t a = do
  u ← require_equal (pattern_place q) t a
  j ← judge_patterns scope (of_val (pattern_place q)) C ((pattern_place q, q) ∷ [])
  give tt

-- whether the right side of a binding is expansive
abbrev pub expands : Env Name → ValBind Place → Bool
expands C (bind q e) = is_expansive C e

-- A call asks that, of types which speak of what was made, and flags the variables that had no flag.
unfoldable pub JoinsBind : Context → Declaration → ValBind Place → MlType Name → MlType Name → Context → Declaration → Result (Unit {0}) CoreFault → Type 0
JoinsBind old d b t a new after result =
    (C : Env Name) (vs : Map (MlType Name)) (around : Window Place Name) (s : State Place Name) → IsAt around old s → Sees C vs old s → IsTypeIn s.made s.names t
    → IsTypeIn s.made s.names a → NoneIsLostIn C b
    → AnswersAs (λ u. u) (λ u t. after.expansive.items ≡ with_flag (expands C b) (bindings_of d.variables) d.expansive.items) around old (join_bind (run_scope (unit_of old)) C b t a) s new result

-- variables with their flags, paired from the front
abbrev pub bounds_with : Bindings Name → List Bool → List (Bound Name)
bounds_with [] xs = []
bounds_with (b ∷ bs) [] = []
bounds_with (b ∷ bs) (x ∷ xs) = record { id = b.0; type = b.1; expansive = x } ∷ bounds_with bs xs

-- the variables of a declaration
abbrev pub bounds_of : Declaration → List (Bound Name)
bounds_of d = bounds_with (bindings_of d.variables) d.expansive.items

-- as many flags as variables
abbrev pub IsFlagged : Declaration → Type 0
IsFlagged d = length d.expansive.items ≡ length (bindings_of d.variables)

-- the right sides are plain
abbrev pub ArePlainBinds : ValBinds Place → Type 0
ArePlainBinds no_bind = Unit {0}
ArePlainBinds (and_bind (bind q e) bs) = IsPlain e × ArePlainBinds bs

-- the variables with their types, and with their types and flags
abbrev pub bound_of : Declaration → Bindings Name × List (Bound Name)
bound_of d = (bindings_of d.variables, bounds_of d)

-- A call reads bindings before `rec`, after those whose variables the declaration has.
unfoldable pub ReadsBinds : Context → Declaration → ValBinds Place → Context → Declaration → Result (Unit {0}) CoreFault → Type 0
ReadsBinds old d bs new after result =
    ArePlainBinds bs → d.variables.is_recursive ≡ false → IsFlagged d → (C : Env Name) (vs : Map (MlType Name)) (around : Window Place Name) (s : State Place Name) → IsAt around old s
    → Sees C vs old s → AreBoundIn s (bindings_of d.variables)
    → AnswersAs (λ u. bound_of after) (λ r t. AreBoundIn t r.0 × IsFlagged after) around old (read_binds (run_scope (unit_of old)) C vs (bindings_of d.variables) (bounds_of d) bs) s new result

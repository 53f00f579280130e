-- What a context sees: an environment, whose objects speak of what was made, and the types of explicit type variables.
use Rattle.std.specs.Prelude.{◌≡◌, ◌<◌, ℕ, List, length, Some, None}
use Rattle.std.specs.Option.{option_map}
use Rattle.sml_lex.specs.declared.fault.Place.{Place}
use Rattle.sml_tree.specs.Trees.{Id, LongId}
use Rattle.sml_tree.specs.Withtype.{unlisted}
use Rattle.sml_objects.specs.Appearance.{Stands}
use Rattle.sml_objects.specs.Initial.{Name}
use Rattle.sml_objects.specs.Maps.{Map, lookup}
use Rattle.sml_objects.specs.Objects.{MlType, free}
use Rattle.sml_rules.specs.Lookups.{found}
use Rattle.sml_layers.specs.Demands.{Mentions}
use Rattle.sml_graph.specs.Interned.{IsBodyOver}
use Rattle.sml_core_rules.specs.Lookups.{type_at, value_at}
use Rattle.sml_core_rules.specs.Objects.{Env, Value, TyStr, Status, variable, constructor, exception, overloaded}
use Rattle.sml_core_rules.specs.States.{State}
use Rattle.sml_types.specs.Variables.{place_in}
use Rattle.sml_scopes.specs.Means.{Means}
use Rattle.sml_asks.specs.Solvers.{IsTypeIn}
use Rattle.sml_core.specs.declared.context.Context.{Context}
use Rattle.sml_core.specs.declared.explicit.Explicit.{Explicit}

-- what is known of overloaded identifiers
abbrev pub WhereOverloaded : Status → Type 0 → Type 0
WhereOverloaded variable A = Unit {0}
WhereOverloaded (constructor i n) A = Unit {0}
WhereOverloaded exception A = Unit {0}
WhereOverloaded (overloaded c) A = A

-- The scheme of a value speaks of what was made, and of its own variables. An overloaded identifier has one.
pub record IsValueIn (made : ℕ) (names : List Name) (v : Value Name) : Type 0 where
  pub unknowns : IsBodyOver (length v.scheme.variables) made v.scheme.body
  pub mentions : Mentions (λ n. Stands n names) v.scheme.body
  pub status : WhereOverloaded v.status (0 < length v.scheme.variables)

-- All values of an environment do, at every path.
unfoldable pub AreValuesIn : ℕ → List Name → Env Name → Type 0
AreValuesIn made names C = (x : LongId) (v : Value Name) → value_at C x ≡ found v → IsValueIn made names v

-- A type function speaks of what was made, and of its own parameters.
pub record IsFunctionIn (made : ℕ) (names : List Name) (t : TyStr Name) : Type 0 where
  pub unknowns : IsBodyOver (length t.function.variables) made t.function.body
  pub mentions : Mentions (λ n. Stands n names) t.function.body

-- All type functions of an environment do, at every path.
unfoldable pub AreFunctionsIn : ℕ → List Name → Env Name → Type 0
AreFunctionsIn made names C = (c : LongId) (t : TyStr Name) → type_at C c ≡ found t → IsFunctionIn made names t

-- the types of the explicit type variables in scope: the unknown that is kept for each, and none for any other identifier
abbrev pub AreScoped : Explicit → Map (MlType Name) → Type 0
AreScoped e vs = (x : Id) → lookup x vs ≡ option_map free (place_in e.unknowns.entries x)

-- A context sees this environment, which speaks of what was made in this state, and so do these types of explicit type variables.
pub record Sees (C : Env Name) (vs : Map (MlType Name)) (c : Context) (s : State Place Name) : Type 0 where
  pub means : Means c.scopes C
  pub values : AreValuesIn s.made s.names C
  pub functions : AreFunctionsIn s.made s.names C
  pub scoped : AreScoped c.explicit vs
  pub variables : (x : Id) (t : MlType Name) → lookup x vs ≡ Some t → IsTypeIn s.made s.names t
  pub spelled : lookup unlisted vs ≡ None

-- A solver that was asked just what a state of a script says: of the same unknowns the same demands, with a bound as a number
-- there and as a list of names here.
use Rattle.std.specs.Prelude.{◌≡◌, ◌↔◌, ◌<◌, ◌≤◌, ℕ, false, List, [], ◌∷◌}
use Rattle.std.specs.List.{AllByRecursion}
use Rattle.sml_objects.specs.Appearance.{Stands}
use Rattle.sml_objects.specs.Initial.{Name, initial}
use Rattle.sml_objects.specs.Names.{Initial}
use Rattle.sml_objects.specs.Objects.{MlType}
use Rattle.sml_layers.specs.declared.layer.Layer.TheVariants.{Rigidity}
use Rattle.sml_layers.specs.declared.variable.Variable.{Variable}
use Rattle.sml_layers.specs.Demands.{Ask, within, equality, of_class, variable, Demand, equal, has_fields, asks, CanBeMet, Mentions}
use Rattle.sml_layers.specs.Explicit.{variable_name}
use Rattle.sml_graph.specs.Asked as R
use Rattle.sml_graph.specs.Asked.{Asked, count}
use Rattle.sml_graph.specs.Bounds.{IsNameWithin}
use Rattle.sml_graph.specs.Interned.{IsOver}
use Rattle.sml_graph.specs.Said.{demand_of, Says}
use Rattle.sml_core_rules.specs.Scopes.{run_scope}
use Rattle.sml_core_rules.specs.States.{State, words}

-- The names made so far: the initial ones are among them, those of the unit have numbers below the next one, and none stands for
-- an explicit variable.
pub record AreNames (unit next : ℕ) (names : List Name) : Type 0 where
  pub initials : (k : Initial) → Stands (initial k) names
  pub within : (n : Name) → Stands n names → IsNameWithin unit next n
  pub apart : (x : Variable) → Stands (variable_name x) names → ⊥

-- A bound as a number, none above the next name's, and as a list: that of the names made so far which it allows.
pub record IsBound (unit next : ℕ) (names : List Name) (most : ℕ) (list : List Name) : Type 0 where
  pub past : most ≤ next
  pub lists : (n : Name) → Stands n list ↔ (Stands n names × IsNameWithin unit most n)

-- the second asks the same, with a bound of its own
abbrev pub IsReboundAsk : {B C : Type 0} → (B → C → Type 0) → Ask B → Ask C → Type 0
IsReboundAsk {B} {C} R (within k b) a = (c : C) × R b c × (a ≡ within k c)
IsReboundAsk R equality a = a ≡ equality
IsReboundAsk R (of_class c) a = a ≡ of_class c
IsReboundAsk R (variable x) a = a ≡ variable x

abbrev pub IsRebound : {N B C : Type 0} → (B → C → Type 0) → Demand N B → Demand N C → Type 0
IsRebound R (equal t u) d = d ≡ equal t u
IsRebound R (has_fields t fs) d = d ≡ has_fields t fs
IsRebound {N} {B} {C} R (asks a t) d = (b : Ask C) × IsReboundAsk R a b × (d ≡ asks b t)

-- the type speaks of unknowns and of names that were made
abbrev pub IsTypeIn : ℕ → List Name → MlType Name → Type 0
IsTypeIn made names t = IsOver made t × Mentions (λ n. Stands n names) t

abbrev pub IsDemandIn : {B : Type 0} → ℕ → List Name → Demand Name B → Type 0
IsDemandIn made names (equal t u) = IsTypeIn made names t × IsTypeIn made names u
IsDemandIn made names (has_fields t fs) = IsTypeIn made names t × AllByRecursion (λ f. IsTypeIn made names f.1) fs
IsDemandIn made names (asks a t) = IsTypeIn made names t

-- The demand of a solver is this one of a state with these names, and speaks of what was made.
pub record IsDemand (unit next made : ℕ) (names : List Name) (d : R.Demand) (e : Demand Name (List Name)) : Type 0 where
  pub known : IsDemandIn made names (demand_of d)
  pub same : IsRebound (IsBound unit next names) (demand_of d) e

abbrev pub AreDemands : (unit next made : ℕ) → List Name → List R.Demand → List (Demand Name (List Name)) → Type 0
AreDemands unit next made names [] [] = Unit {0}
AreDemands unit next made names (d ∷ ds) (e ∷ es) = IsDemand unit next made names d e × AreDemands unit next made names ds es
AreDemands unit next made names [] (e ∷ es) = ⊥
AreDemands unit next made names (d ∷ ds) [] = ⊥

-- The solver of a unit, whose next name has this number, was asked this: of so many unknowns, with these names, these demands.
pub record WasAsked (unit next : ℕ) (solver : Asked) (made : ℕ) (names : List Name) (es : List (Demand Name (List Name))) : Type 0 where
  pub counted : 0 < unit
  pub maker : solver.unit ≡ unit
  pub spent : solver.spent ≡ false
  pub unknowns : count solver ≡ made
  pub known : AreNames unit next names
  pub demands : List R.Demand
  pub says : Says solver demands
  pub same : AreDemands unit next made names demands es
  pub met : CanBeMet (words (run_scope unit)) Rigidity es

abbrev pub SolverIs : {P : Type 0} → ℕ → ℕ → Asked → State P Name → Type 0
SolverIs unit next solver s = WasAsked unit next solver s.made s.names s.demands

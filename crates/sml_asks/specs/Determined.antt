-- What calls of a solver say of a type that is to be the same in every case, in each state that is the solver's.
use Rattle.std.specs.Prelude.{◌≡◌, ◌+◌, ◌^◌, ◌<◌, ◌≤◌, ℕ, List, []}
use Rattle.sml_lex.specs.declared.fault.Place.{Place}
use Rattle.sml_objects.specs.Appearance.{Stands}
use Rattle.sml_objects.specs.Initial.{Name}
use Rattle.sml_objects.specs.Objects.{MlType, free}
use Rattle.sml_objects.specs.Sizes.{type_size}
use Rattle.sml_objects.specs.Types.{variables_after}
use Rattle.sml_objects.specs.Views.{type_of}
use Rattle.sml_layers.specs.Demands.{Ask, within, equality, of_class, variable, asks}
use Rattle.sml_graph.specs.Asked.{Asked}
use Rattle.sml_graph.specs.Interned.{IsOver}
use Rattle.sml_core_rules.specs.Scopes.{run_scope}
use Rattle.sml_core_rules.specs.Solutions.{IsAlways, IsFree, IsLeft, StandsFor}
use Rattle.sml_core_rules.specs.States.{State}
use Rattle.sml_asks.specs.Solvers.{SolverIs}
use Rattle.sml_asks.specs.declared.outcomes.Outcome.{Outcome}
use Rattle.sml_asks.specs.declared.outcomes.Outcome.TheVariants.{Same, Large, Several}

-- what is asked tells which names a type may be
abbrev pub TellsNames : {B : Type 0} → Ask B → Type 0
TellsNames (within k b) = ⊥
TellsNames equality = ⊥
TellsNames (of_class c) = Unit {0}
TellsNames (variable x) = Unit {0}

-- No unknown is a flexible row, and none that is left in what the type stands for is of a class, or an explicit variable. (So it is
-- where each declaration has settled its overloaded identifiers, bound its variables and required its labels.)
pub record LeavesNone (unit : ℕ) (s : State Place Name) (t : MlType Name) : Type 0 where
  pub rows : (v : ℕ) → IsLeft (run_scope unit) s v → IsFree (run_scope unit) s v
  pub names : (r : MlType Name) → StandsFor (run_scope unit) s t r → (v : ℕ) → Stands v (variables_after [] r)
      → (a : Ask (List Name)) (u : MlType Name) → Stands (asks a u) s.demands → TellsNames a → ¬ (StandsFor (run_scope unit) s u (free v))

-- The type is this one under every assignment that meets the demands, or such types are all larger than the limit, or there is none.
abbrev pub IsOutcome : ℕ → State Place Name → MlType Name → ℕ → Outcome → Type 0
IsOutcome unit s t limit (Same u) = IsAlways (run_scope unit) s t (type_of u.value) × (type_size (type_of u.value) ≤ limit)
IsOutcome unit s t limit Large = (u : MlType Name) → IsAlways (run_scope unit) s t u → limit < type_size u
IsOutcome unit s t limit Several = LeavesNone unit s t → (u : MlType Name) → ¬ (IsAlways (run_scope unit) s t u)

-- A call asks whether a type is the same in every case.
unfoldable pub AsksOutcome : Asked → MlType Name → ℕ → Outcome → Asked → Type 0
AsksOutcome old t limit found new =
    (unit next : ℕ) (s : State Place Name) → SolverIs unit next old s → IsOver s.made t → limit + 1 < 2 ^ 32 → IsOutcome unit s t limit found × SolverIs unit next new s

-- a type without variables, or one with some
abbrev pub IsSameOrSeveral : MlType Name → Outcome → Type 0
IsSameOrSeveral t (Same u) = (type_of u.value ≡ t) × IsOver 0 t
IsSameOrSeveral t Large = ⊥
IsSameOrSeveral t Several = ¬ (IsOver 0 t)

-- What calls of a solver say of the end of a value declaration, in each state that is the solver's.
use Rattle.std.specs.Prelude.{◌≡◌, ◌↔◌, ◌⊎◌, ◌+◌, ◌^◌, ◌<◌, ◌≤◌, ℕ, Bool, true, false, Option, Some, None, Result, Ok, Err, List, [], ◌∷◌, length, map}
use Rattle.std.specs.List.{AllByRecursion}
use Rattle.sml_lex.specs.declared.fault.Place.{Place}
use Rattle.sml_objects.specs.Appearance.{Stands}
use Rattle.sml_objects.specs.Initial.{Name}
use Rattle.sml_objects.specs.Objects.{MlType, Scheme, free, types_of}
use Rattle.sml_objects.specs.Sizes.{type_size}
use Rattle.sml_objects.specs.Types.{assign, variables_after_all}
use Rattle.sml_layers.specs.declared.layer.Bound.{Bound}
use Rattle.sml_layers.specs.declared.layer.Layer.{Layer}
use Rattle.sml_layers.specs.declared.layer.Layer.TheVariants.{Finiteness, Rigidity}
use Rattle.sml_layers.specs.declared.variable.Variable.{Variable}
use Rattle.sml_layers.specs.Demands.{Demand, asks, within, equality, variable, CanBeMet, IsFirstUnmet, Mentions}
use Rattle.sml_layers.specs.Worlds.{Assignment, finite}
use Rattle.sml_graph.specs.declared.demand.Refusal.{Refusal}
use Rattle.sml_graph.specs.declared.demand.Refusal.TheVariants as R
use Rattle.sml_graph.specs.Asked.{Asked}
use Rattle.sml_graph.specs.Interned.{IsOver, IsBodyOver}
use Rattle.sml_schemes.specs.Fixed.{IsMarked}
use Rattle.sml_rules.specs.Answers.{accepted}
use Rattle.sml_core_rules.specs.Expressions.{settle}
use Rattle.sml_core_rules.specs.Scopes.{run_scope}
use Rattle.sml_core_rules.specs.Scripts.{IsAnswer}
use Rattle.sml_core_rules.specs.Solutions.{HasOneSetOfLabels, IsFixed, IsFlexible, IsFree, IsLeft, IsScheme, Meets, StandsFor}
use Rattle.sml_core_rules.specs.States.{State, words}
use Rattle.sml_asks.specs.Solvers.{SolverIs, IsTypeIn}

-- What was answered to a test, which this refusal answers where it fails. Nothing is known after want of memory.
abbrev pub AnswersTest : ℕ → ℕ → State Place Name → Type 0 → Refusal → Asked → Result (Unit {0}) Refusal → Type 0
AnswersTest unit next s holds failed new (Ok x) = holds × SolverIs unit next new s
AnswersTest unit next s holds failed new (Err r) = (r ≡ R.Memory) ⊎ ((r ≡ failed) × ¬ holds)

-- A call tests whether a type, which speaks of what was made, is a row with one set of labels.
unfoldable pub AsksLabels : Asked → MlType Name → Asked → Result (Unit {0}) Refusal → Type 0
AsksLabels old t new result =
    (unit next : ℕ) (s : State Place Name) → SolverIs unit next old s → IsTypeIn s.made s.names t
    → AnswersTest unit next s (HasOneSetOfLabels (run_scope unit) s Rigidity t) R.Labels new result

-- A call tests whether none of some unknowns, which by the equations may be any type, is fixed by the first ones and others.
unfoldable pub AsksGeneral : Asked → List ℕ → ℕ → List ℕ → Asked → Result (Unit {0}) Refusal → Type 0
AsksGeneral old vs first others new result =
    (unit next : ℕ) (s : State Place Name) → SolverIs unit next old s → first ≤ s.made → AllByRecursion (λ w. w < s.made) others
    → AllByRecursion (λ v. v < s.made) vs → AllByRecursion (IsFree (run_scope unit) s) vs
    → AnswersTest unit next s (AllByRecursion (λ v. ¬ (IsFixed (run_scope unit) s first (map free others) v)) vs) (R.Unmet Rigidity) new result

-- A call settles some unknowns.
unfoldable pub AsksSettled : Asked → List ℕ → Asked → Type 0
AsksSettled old vs new =
    (unit next : ℕ) (s : State Place Name) → SolverIs unit next old s → AllByRecursion (λ v. v < s.made) vs
    → (ds : List (Demand Name (List Name))) × SolverIs unit next new (record s { demands = ds })
    × ((p : Place) → IsAnswer (run_scope unit) (settle (run_scope unit) p vs) s (accepted (tt, record s { demands = ds })))

-- Flags of unknowns: those with one are fixed by the first ones and others, and of those that by the equations may be any type, or
-- are flexible rows, no others are.
pub record AreFlags (unit : ℕ) (s : State Place Name) (first : ℕ) (others : List ℕ) (flags : List Bool) : Type 0 where
  pub len : length flags ≡ s.made
  pub fixes : (v : ℕ) → v < s.made → IsMarked flags v → IsFixed (run_scope unit) s first (map free others) v
  pub all : (v : ℕ) → v < s.made → IsFree (run_scope unit) s v ⊎ IsFlexible (run_scope unit) s v → IsFixed (run_scope unit) s first (map free others) v
      → IsMarked flags v

unfoldable pub AsksFixed : Asked → ℕ → List ℕ → List Bool → Asked → Type 0
AsksFixed old first others flags new =
    (unit next : ℕ) (s : State Place Name) → SolverIs unit next old s → first ≤ s.made → AllByRecursion (λ w. w < s.made) others
    → AreFlags unit s first others flags × SolverIs unit next new s

-- The type that a type stands for, or none: then it is larger than the limit.
abbrev pub IsReadingUpTo : ℕ → State Place Name → MlType Name → ℕ → Option (MlType Name) → Type 0
IsReadingUpTo unit s t limit (Some r) = StandsFor (run_scope unit) s t r × (type_size r ≤ limit)
IsReadingUpTo unit s t limit None = (r : MlType Name) → StandsFor (run_scope unit) s t r → limit < type_size r

-- A call seeks the type that a type stands for.
unfoldable pub AsksReading : Asked → MlType Name → ℕ → Option (MlType Name) → Asked → Type 0
AsksReading old t limit found new =
    (unit next : ℕ) (s : State Place Name) → SolverIs unit next old s → IsOver s.made t → limit + 1 < 2 ^ 32
    → IsReadingUpTo unit s t limit found × SolverIs unit next new s

-- The unknowns with a flag, of those that are left, are those which the first ones fix. Flags don't matter where nothing is bound.
abbrev pub AreContext : ℕ → State Place Name → ℕ → Bool → List Bool → Type 0
AreContext unit s first expansive flags =
    expansive ≡ false → (v : ℕ) → IsLeft (run_scope unit) s v → IsMarked flags v ↔ IsFixed (run_scope unit) s first [] v

-- A scheme that was found, or none: then all types that this one stands for are larger than the limit, and so are all schemes, and all
-- that it may be by the equations.
abbrev pub IsSchemeUpTo : ℕ → State Place Name → ℕ → Bool → MlType Name → ℕ → Option (Scheme Name) → Type 0
IsSchemeUpTo unit s first expansive t limit (Some σ) =
    IsScheme (run_scope unit) s first expansive t σ × (type_size σ.body ≤ limit) × IsBodyOver (length σ.variables) s.made σ.body
IsSchemeUpTo unit s first expansive t limit None =
    ((σ : Scheme Name) → IsScheme (run_scope unit) s first expansive t σ → limit < type_size σ.body)
    × ((r : MlType Name) → StandsFor (run_scope unit) s t r → limit < type_size r)
    × ((σ : Assignment Name finite) → Meets (run_scope unit) s Finiteness σ → limit < type_size (assign σ t))

-- A call seeks the scheme of a type, at the end of a declaration that begins after the first unknowns.
unfoldable pub AsksScheme : Asked → MlType Name → List Bool → Bool → ℕ → Option (Scheme Name) → Asked → Type 0
AsksScheme old t flags expansive limit found new =
    (unit next first : ℕ) (s : State Place Name) → SolverIs unit next old s → IsOver s.made t → AreContext unit s first expansive flags → limit + 1 < 2 ^ 32
    → IsSchemeUpTo unit s first expansive t limit found × SolverIs unit next new s

-- laws of closing

-- The unknown that stands for an explicit variable may be any type, by the equations.
abbrev pub VariablesAreFree : Type 0
VariablesAreFree =
    (unit next : ℕ) (solver : Asked) (s : State Place Name) (x : Variable) (v : ℕ) → SolverIs unit next solver s → Stands (asks (variable x) (free v)) s.demands
    → IsFree (run_scope unit) s v

-- No layer refuses that a new unknown stands for an explicit variable, nor that it admits equality where the variable does.
abbrev pub VariablesAreMet : Type 0
VariablesAreMet =
    (unit next : ℕ) (solver : Asked) (s : State Place Name) (x : Variable) → SolverIs unit next solver s → (l : Layer)
    → (IsFirstUnmet (words (run_scope unit)) l (asks (variable x) (free s.made) ∷ s.demands) → ⊥)
    × (x.equality ≡ true → IsFirstUnmet (words (run_scope unit)) l (asks equality (free s.made) ∷ asks (variable x) (free s.made) ∷ s.demands) → ⊥)

-- All demands can be met together with one that a type mentions only names made so far, where it speaks of what was made: so no layer
-- refuses that.
abbrev pub NamesSoFarAreAllowed : Type 0
NamesSoFarAreAllowed =
    (unit next : ℕ) (solver : Asked) (s : State Place Name) (b : Bound) (t : MlType Name) → SolverIs unit next solver s → IsTypeIn s.made s.names t
    → CanBeMet (words (run_scope unit)) Rigidity (asks (within b s.names) t ∷ s.demands)
    × ((l : Layer) → ¬ (IsFirstUnmet (words (run_scope unit)) l (asks (within b s.names) t ∷ s.demands)))

-- Flags of what the first unknowns fix are those that closing needs.
abbrev pub FlagsAreContexts : Type 0
FlagsAreContexts =
    (unit : ℕ) (s : State Place Name) (first : ℕ) (expansive : Bool) (flags : List Bool) → AreFlags unit s first [] flags → AreContext unit s first expansive flags

-- A type has the schemes of the type that it stands for.
abbrev pub ReadingsHaveSchemes : Type 0
ReadingsHaveSchemes =
    (unit : ℕ) (s : State Place Name) (first : ℕ) (expansive : Bool) (t r : MlType Name) (σ : Scheme Name) → StandsFor (run_scope unit) s t r
    → IsScheme (run_scope unit) s first expansive r σ ↔ IsScheme (run_scope unit) s first expansive t σ

-- Types fix what their variables fix.
abbrev pub TypesFixAsVariables : Type 0
TypesFixAsVariables =
    (unit : ℕ) (s : State Place Name) (n : ℕ) (ts : List (MlType Name)) (v : ℕ)
    → IsFixed (run_scope unit) s n ts v ↔ IsFixed (run_scope unit) s n (map free (variables_after_all [] (types_of ts))) v

-- What a type stands for speaks of what was made, where the type does.
abbrev pub ReadingsAreTypes : Type 0
ReadingsAreTypes =
    (unit next : ℕ) (solver : Asked) (s : State Place Name) (t r : MlType Name) → SolverIs unit next solver s → IsTypeIn s.made s.names t
    → StandsFor (run_scope unit) s t r → IsTypeIn s.made s.names r

-- So does its scheme.
abbrev pub SchemesMentionNames : Type 0
SchemesMentionNames =
    (unit next : ℕ) (solver : Asked) (s : State Place Name) (first : ℕ) (expansive : Bool) (t : MlType Name) (σ : Scheme Name) → SolverIs unit next solver s
    → IsTypeIn s.made s.names t → IsScheme (run_scope unit) s first expansive t σ → Mentions (λ n. Stands n s.names) σ.body

-- What calls of a solver say of scripts: one call is one step of a script, in each state that is the solver's.
use Rattle.std.specs.Prelude.{◌≡◌, ◌+◌, ◌<◌, ◌≤◌, ℕ, suc, Bool, false, Result, Ok, Err, List, [], ◌∷◌, ◌++◌, length}
use Rattle.std.specs.List.{AllByRecursion}
use Rattle.sml_lex.specs.Faults.{Fault}
use Rattle.sml_lex.specs.declared.fault.Place.{Place}
use Rattle.sml_objects.specs.Initial.{Name, initial_basis, made}
use Rattle.sml_objects.specs.Names.{Attributes}
use Rattle.sml_objects.specs.Objects.{MlType, Scheme}
use Rattle.sml_objects.specs.Types.{instance_from}
use Rattle.sml_layers.specs.declared.layer.Layer.{Layer}
use Rattle.sml_layers.specs.Demands.{Demand, IsFirstUnmet}
use Rattle.sml_layers.specs.Layers.{code_of}
use Rattle.sml_graph.specs.declared.demand.Refusal.{Refusal}
use Rattle.sml_graph.specs.declared.demand.Refusal.TheVariants as R
use Rattle.sml_graph.specs.Asked as A
use Rattle.sml_graph.specs.Asked.{Asked, count, IsMet, PermitsSame}
use Rattle.sml_graph.specs.Interned.{IsBodyOver}
use Rattle.sml_rules.specs.Answers.{refused, accepted, fault}
use Rattle.sml_core_rules.specs.Scopes.{run_scope}
use Rattle.sml_core_rules.specs.Scripts.{IsAnswer, give, require, requires_or}
use Rattle.sml_core_rules.specs.States.{AreMade, State, words, with_demand, with_made, with_unknowns}
use Rattle.sml_asks.specs.Solvers.{AreNames, IsBound, SolverIs, IsDemand}

-- What was answered to a demand that was asked in a state. Nothing is known after want of memory.
abbrev pub Answers : ℕ → ℕ → State Place Name → Demand Name (List Name) → Asked → Result (Unit {0}) Refusal → Type 0
Answers unit next s e new (Ok x) = SolverIs unit next new (with_demand e s)
Answers unit next s e new (Err (R.Unmet l)) = IsFirstUnmet (words (run_scope unit)) l (e ∷ s.demands)
Answers unit next s e new (Err R.Labels) = ⊥
Answers unit next s e new (Err R.Memory) = Unit {0}
Answers unit next s e new (Err R.Spent) = ⊥

-- A call asks for a demand, which speaks of what was made.
unfoldable pub Asks : Asked → A.Demand → Asked → Result (Unit {0}) Refusal → Type 0
Asks old d new result =
    (unit next : ℕ) (s : State Place Name) (e : Demand Name (List Name)) → SolverIs unit next old s → IsDemand unit next s.made s.names d e
    → Answers unit next s e new result

-- A call makes so many unknowns, of which the first has this number.
unfoldable pub Makes : Asked → ℕ → ℕ → Asked → Type 0
Makes old first n new =
    (unit next : ℕ) (s : State Place Name) → SolverIs unit next old s → (first ≡ s.made) × SolverIs unit next new (with_unknowns n s)

-- A call makes this instance of a scheme whose body speaks of unknowns that were made.
unfoldable pub Instantiates : Asked → Scheme Name → MlType Name → Asked → Type 0
Instantiates old σ t new =
    (unit next : ℕ) (s : State Place Name) → SolverIs unit next old s → IsBodyOver (length σ.variables) s.made σ.body
    → (t ≡ instance_from s.made σ.body) × SolverIs unit next new (with_unknowns (length σ.variables) s)

-- laws of steps

-- What was answered to a demand is what its script may be answered, with the code of the layer or with a fault of its own.
pub record AnswersAreOfScripts : Type 0 where
  pub ok : (unit next : ℕ) (s : State Place Name) (e : Demand Name (List Name)) (p : Place) (new : Asked)
      → Answers unit next s e new (Ok tt) → IsAnswer (run_scope unit) (require e p) s (accepted (tt, with_demand e s))
  pub unmet : (unit next : ℕ) (s : State Place Name) (e : Demand Name (List Name)) (p : Place) (new : Asked) (l : Layer)
      → Answers unit next s e new (Err (R.Unmet l)) → IsAnswer (run_scope unit) (require e p) s (refused (fault (code_of l) p))
  pub or_ok : (unit next : ℕ) (s : State Place Name) (e : Demand Name (List Name)) (f : Fault Place) (new : Asked)
      → Answers unit next s e new (Ok tt) → IsAnswer (run_scope unit) (requires_or e f (give (tt {0}))) s (accepted (tt, with_demand e s))
  pub or_unmet : (unit next : ℕ) (s : State Place Name) (e : Demand Name (List Name)) (f : Fault Place) (new : Asked) (l : Layer)
      → Answers unit next s e new (Err (R.Unmet l)) → IsAnswer (run_scope unit) (requires_or e f (give (tt {0}))) s (refused f)

-- New unknowns of which nothing is asked are a step.
abbrev pub UnknownsAreSteps : Type 0
UnknownsAreSteps =
    (old new : Asked) (n : ℕ) → count new ≡ count old + n → PermitsSame old new → new.unit ≡ old.unit → new.spent ≡ false
    → Makes old (count old) n new

-- the name is the unit's, with a number from the first on and below the last
pub record IsNew (unit first last : ℕ) (n : Name) : Type 0 where
  pub number : ℕ
  pub arity : ℕ
  pub equality : Bool
  pub is : n ≡ made unit number arity equality
  pub from : first ≤ number
  pub below : number < last

-- names of the unit with these attributes, numbered from here on
abbrev pub numbered : ℕ → ℕ → List Attributes → List Name
numbered unit next [] = []
numbered unit next (w ∷ ws) = made unit next w.arity w.equality ∷ numbered unit (suc next) ws

-- They are new. No name of the program has constructors of its own.
abbrev pub NamesAreMade : Type 0
NamesAreMade =
    (unit next : ℕ) (names : List Name) (ws : List Attributes) → 0 < unit → AreNames unit next names → AllByRecursion (λ w. w.constructors ≡ []) ws
    → AreMade (run_scope unit) names ws (numbered unit next ws) × AllByRecursion (IsNew unit next (next + length ws)) (numbered unit next ws)

-- New names are a step, of which the solver sees nothing. What was a bound is still one.
abbrev pub NamesAreSteps : Type 0
NamesAreSteps =
    (unit next last : ℕ) (solver : Asked) (s : State Place Name) (ns : List Name) → SolverIs unit next solver s → next ≤ last
    → AllByRecursion (IsNew unit next last) ns
    → SolverIs unit last solver (with_made ns s) × ((most : ℕ) (list : List Name) → IsBound unit next s.names most list → IsBound unit last (ns ++ s.names) most list)

-- The names made so far are a bound.
abbrev pub NamesAreBounds : Type 0
NamesAreBounds = (unit next : ℕ) (names : List Name) → AreNames unit next names → IsBound unit next names next names

-- A run begins with the initial names.
abbrev pub RunsBegin : Type 0
RunsBegin = (unit : ℕ) → 0 < unit → AreNames unit 0 initial_basis.names

-- A new solver is that of a state where nothing was made but names, and nothing asked.
abbrev pub SolversStartAnew : Type 0
SolversStartAnew =
    (unit next : ℕ) (solver : Asked) (s : State Place Name) → 0 < unit → solver.unit ≡ unit → solver.spent ≡ false → count solver ≡ 0 → IsMet solver
    → AreNames unit next s.names → s.made ≡ 0 → s.demands ≡ [] → SolverIs unit next solver s

-- Scripts: what a phrase asks, in text order, up to the object that it is given or to a fault. What a script may be answered
-- is said once, of all scripts. What has been asked is a list of demands, and a demand that can't be met together with those
-- before it is refused with the code of the first layer that can't.
use Rattle.std.specs.Prelude.{◌≡◌, ◌⊎◌, ℕ, Bool, List, [], ◌∷◌, ◌++◌}
use Rattle.std.specs.List.{AllByRecursion}
use Rattle.sml_lex.specs.declared.fault.Code.{Code}
use Rattle.sml_lex.specs.Faults.{Fault}
use Rattle.sml_tree.specs.Trees.{LongId}
use Rattle.sml_tree.specs.Expressions.{DatBind}
use Rattle.sml_objects.specs.Names.{Attributes}
use Rattle.sml_objects.specs.Objects.{MlType, Scheme, free}
use Rattle.sml_layers.specs.declared.layer.Layer.{Layer}
use Rattle.sml_layers.specs.declared.layer.Layer.TheVariants.{Rigidity}
use Rattle.sml_layers.specs.Demands.{Demand, CanBeMet, IsFirstUnmet}
use Rattle.sml_layers.specs.Layers.{code_of}
use Rattle.sml_rules.specs.Answers.{Answer, refused, accepted, fault}
use Rattle.sml_rules.specs.Lookups.{Found}
use Rattle.sml_core_rules.specs.Answers as A
use Rattle.sml_core_rules.specs.Objects.{Env, names_env}
use Rattle.sml_core_rules.specs.States.{Scope, State, words, AreMade, Window, Judged, with_unknowns, with_made, with_demand, with_window, with_judged, opened, afresh}
use Rattle.sml_core_rules.specs.Solutions.{IsScheme, IsAlways}
use Rattle.sml_core_rules.specs.Datatypes.{Arguments, AreNew, AdmitAsManyAsCan, with_names, arguments_of}

-- It ends with an object or with a fault. Before that it tests a condition, or goes on by one; makes unknowns, and is told the
-- number of the first; adds a demand, which has its place, or one with a fault of its own; sees the state; sets the window; says
-- that an unknown may stand in what is bound; says what is to be judged; starts anew, unless an unknown may stand in what was bound;
-- closes a type, at the end of a declaration that begins after so many unknowns; takes the type that a type is in every case, or a
-- fault; and makes names, of which this is seen beside their maker, or the names of datatypes in a context.
pub data Script (P N X : Type 0) : Type 1 where
  give : X → Script P N X
  refuse : Fault P → Script P N X
  tests : Type 0 → Fault P → Script P N X → Script P N X
  either : Type 0 → Script P N X → Script P N X → Script P N X
  makes_unknowns : ℕ → (ℕ → Script P N X) → Script P N X
  requires : Demand N (List N) → P → Script P N X → Script P N X
  sees : (State P N → Script P N X) → Script P N X
  sets_window : Window P N → Script P N X → Script P N X
  stays_open : Script P N X → Script P N X
  judges : Judged P → Script P N X → Script P N X
  starts_anew : Script P N X → Script P N X
  requires_or : Demand N (List N) → Fault P → Script P N X → Script P N X
  closes : ℕ → Bool → MlType N → (Scheme N → Script P N X) → Script P N X
  determines : MlType N → Fault P → (MlType N → Script P N X) → Script P N X
  makes_names : List Attributes → (List N → Script P N X) → Script P N X
  makes_datatypes : Env N → List (DatBind P) → (List N → List (Arguments N) → Script P N X) → Script P N X

module _ {P N : Type 0} where
  -- one after the other
  unfoldable pub ◌>>=◌ : {X Y : Type 0} → Script P N X → (X → Script P N Y) → Script P N Y
  ◌>>=◌ (give x) next = next x
  ◌>>=◌ (refuse f) next = refuse f
  ◌>>=◌ (tests C f k) next = tests C f (k >>= next)
  ◌>>=◌ (either C k j) next = either C (k >>= next) (j >>= next)
  ◌>>=◌ (makes_unknowns n k) next = makes_unknowns n (λ v. k v >>= next)
  ◌>>=◌ (requires d p k) next = requires d p (k >>= next)
  ◌>>=◌ (sees k) next = sees (λ s. k s >>= next)
  ◌>>=◌ (sets_window w k) next = sets_window w (k >>= next)
  ◌>>=◌ (stays_open k) next = stays_open (k >>= next)
  ◌>>=◌ (judges j k) next = judges j (k >>= next)
  ◌>>=◌ (starts_anew k) next = starts_anew (k >>= next)
  ◌>>=◌ (requires_or d f k) next = requires_or d f (k >>= next)
  ◌>>=◌ (closes n x t k) next = closes n x t (λ σ. k σ >>= next)
  ◌>>=◌ (determines t f k) next = determines t f (λ u. k u >>= next)
  ◌>>=◌ (makes_names ws k) next = makes_names ws (λ ns. k ns >>= next)
  ◌>>=◌ (makes_datatypes C ds k) next = makes_datatypes C ds (λ ns gs. k ns gs >>= next)

  infixr 20 ◌>>=◌
  abbrev pub look : {X : Type 0} → Answer P X → Script P N X
  look (refused f) = refuse f
  look (accepted x) = give x

  -- what a long identifier finds, or the fault
  abbrev pub need : {X : Type 0} → Code → P → LongId → Found X → Script P N X
  need c p x r = look (A.need c p x r)

  abbrev pub test : Type 0 → Fault P → Script P N (Unit {0})
  test C f = tests C f (give tt)

  abbrev pub where_so : Type 0 → Script P N (Unit {0}) → Script P N (Unit {0})
  where_so C k = either C k (give tt)

  abbrev pub new_unknown : Script P N (MlType N)
  new_unknown = makes_unknowns 1 (λ v. give (free v))

  -- so many new unknowns, and the number of the first
  abbrev pub new_unknowns : ℕ → Script P N ℕ
  new_unknowns n = makes_unknowns n (λ v. give v)

  abbrev pub require : Demand N (List N) → P → Script P N (Unit {0})
  require d p = requires d p (give tt)

  abbrev pub so_far : Script P N (State P N)
  so_far = sees (λ s. give s)

  abbrev pub set_window : Window P N → Script P N (Unit {0})
  set_window w = sets_window w (give tt)

  abbrev pub stay_open : Script P N (Unit {0})
  stay_open = stays_open (give tt)

  abbrev pub judge : Judged P → Script P N (Unit {0})
  judge j = judges j (give tt)

  abbrev pub start_anew : Script P N (Unit {0})
  start_anew = starts_anew (give tt)

  -- a flexible row is among those of the declaration
  abbrev pub new_row : P → MlType N → Script P N (Unit {0})
  new_row p t = sees (λ s. set_window (record s.window { rows = s.window.rows ++ (p, t) ∷ [] }))

  -- an unknown is among those of overloaded identifiers
  abbrev pub new_overloaded : ℕ → Script P N (Unit {0})
  new_overloaded v = sees (λ s. set_window (record s.window { overloaded = s.window.overloaded ++ v ∷ [] }))

  abbrev pub close : ℕ → Bool → MlType N → Script P N (Scheme N)
  close n x t = closes n x t (λ σ. give σ)

  abbrev pub determine : MlType N → Fault P → Script P N (MlType N)
  determine t f = determines t f (λ u. give u)

  abbrev pub new_names : List Attributes → Script P N (List N)
  new_names ws = makes_names ws (λ ns. give ns)

  -- the object or the fault, without the state
  abbrev pub result : {X : Type 0} → Answer P (X × State P N) → Answer P X
  result (refused f) = refused f
  result (accepted r) = accepted r.0

  -- What a script may be answered in a state.
  module _ (scope : Scope N) where
    unfoldable pub IsAnswer : {X : Type 0} → Script P N X → State P N → Answer P (X × State P N) → Type 0
    IsAnswer (give x) s o = o ≡ accepted (x, s)
    IsAnswer (refuse f) s o = o ≡ refused f
    IsAnswer (tests C f k) s o = (C × IsAnswer k s o) ⊎ (¬ C × (o ≡ refused f))
    IsAnswer (either C k j) s o = (C × IsAnswer k s o) ⊎ (¬ C × IsAnswer j s o)
    IsAnswer (makes_unknowns n k) s o = IsAnswer (k s.made) (with_unknowns n s) o
    IsAnswer (requires d p k) s o =
        (CanBeMet (words scope) Rigidity (d ∷ s.demands) × IsAnswer k (with_demand d s) o)
        ⊎ ((l : Layer) × IsFirstUnmet (words scope) l (d ∷ s.demands) × (o ≡ refused (fault (code_of l) p)))
    IsAnswer (sees k) s o = IsAnswer (k s) s o
    IsAnswer (sets_window w k) s o = IsAnswer k (with_window w s) o
    IsAnswer (stays_open k) s o = IsAnswer k (opened s) o
    IsAnswer (judges j k) s o = IsAnswer k (with_judged j s) o
    IsAnswer (starts_anew k) s o = IsAnswer k (afresh s) o
    IsAnswer (requires_or d f k) s o =
        (CanBeMet (words scope) Rigidity (d ∷ s.demands) × IsAnswer k (with_demand d s) o) ⊎ (¬ (CanBeMet (words scope) Rigidity (d ∷ s.demands)) × (o ≡ refused f))
    IsAnswer (closes n x t k) s o = (σ : Scheme N) × IsScheme scope s n x t σ × IsAnswer (k σ) s o
    IsAnswer (determines t f k) s o =
        ((u : MlType N) × IsAlways scope s t u × IsAnswer (k u) s o) ⊎ (((u : MlType N) → ¬ (IsAlways scope s t u)) × (o ≡ refused f))
    IsAnswer (makes_names ws k) s o = (ns : List N) × AreMade scope s.names ws ns × IsAnswer (k ns) (with_made ns s) o
    IsAnswer (makes_datatypes C ds k) s o =
        (ns : List N) × AreNew scope.names (names_env C ++ s.names) ds ns × AllByRecursion (λ n. (scope.names.attributes n).maker ≡ scope.unit) ns
        × (((f : Fault P) × (arguments_of C ds ns ≡ refused f) × (o ≡ refused f))
        ⊎ ((gs : List (Arguments N)) × (arguments_of C ds ns ≡ accepted gs) × AdmitAsManyAsCan scope.names (with_names ns gs)
        × IsAnswer (k ns gs) (with_made ns s) o))

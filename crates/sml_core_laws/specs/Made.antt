-- That readings of the core keep to what was made. Unknowns are numbered as they are made, and names are new: so a type or a scheme with
-- an unknown that was not made would share it with what makes it later, and a name that no binding made could be made again. Where all
-- that a declaration is read with speaks of what was made, so does all that it gives and asks.
use Rattle.std.specs.Prelude.{◌≡◌, ◌≤◌, ◌<◌, ◌^◌, ℕ, false, List, length}
use Rattle.std.specs.List.{AllByRecursion}
use Rattle.sml_lex.specs.declared.fault.Place.{Place}
use Rattle.sml_tree.specs.Expressions.{Dec}
use Rattle.sml_objects.specs.Appearance.{Stands}
use Rattle.sml_objects.specs.Initial.{Name, naming}
use Rattle.sml_objects.specs.Labels.{AreRising}
use Rattle.sml_objects.specs.Maps.{Map}
use Rattle.sml_objects.specs.Names.{Naming, Initial}
use Rattle.sml_objects.specs.Objects.{MlType, MlTypes, Head, Scheme, bound, free, app, arrow, row, name, no_type, and_type}
use Rattle.sml_objects.specs.Sizes.{type_size}
use Rattle.sml_layers.specs.declared.layer.Layer.TheVariants.{Rigidity}
use Rattle.sml_layers.specs.Demands.{Demand, equal, has_fields, asks, HeadMentions, CanBeMet}
use Rattle.sml_rules.specs.Answers.{accepted}
use Rattle.sml_core_rules.specs.Contexts.{IsType}
use Rattle.sml_core_rules.specs.Expressions.{IsReading, at_first}
use Rattle.sml_core_rules.specs.Initial.{initial_names, initial_env}
use Rattle.sml_core_rules.specs.Objects.{Env, Structures, Status, Value, TyStr, variable, constructor, exception, overloaded, maps, no_structure, and_structure}
use Rattle.sml_core_rules.specs.Scopes.{run_scope}
use Rattle.sml_core_rules.specs.States.{Scope, State, Window, words}
use Rattle.sml_core_rules.specs.Types.{count_types}

-- The bound variables of a type, its unknowns and its heads, each with the number of its parts, are such.
module _ {N : Type 0} (B V : ℕ → Type 0) (H : Head N → ℕ → Type 0) where
  unfoldable mutual
    pub Speaks : MlType N → Type 0
    Speaks (bound k) = B k
    Speaks (free v) = V v
    Speaks (app h ts) = H h (count_types ts) × AllSpeak ts

    pub AllSpeak : MlTypes N → Type 0
    AllSpeak no_type = Unit {0}
    AllSpeak (and_type t ts) = Speaks t × AllSpeak ts

-- an overloaded identifier has a variable, whose class is asked for
abbrev pub HasVariable : {N : Type 0} → Status → Scheme N → Type 0
HasVariable variable σ = Unit {0}
HasVariable (constructor k n) σ = Unit {0}
HasVariable exception σ = Unit {0}
HasVariable (overloaded c) σ = 0 < length σ.variables

-- Of heads with so many parts more may be asked than that their names were made.
module _ {N : Type 0} (S : Head N → ℕ → Type 0) (names : List N) where
  abbrev pub IsHeadIn : Head N → ℕ → Type 0
  IsHeadIn h k = HeadMentions (λ n. Stands n names) h × S h k

  -- Type functions and the schemes of constructors speak of no unknown.
  abbrev pub IsClosedIn : Scheme N → Type 0
  IsClosedIn σ = Speaks (λ k. k < length σ.variables) (λ v. ⊥) IsHeadIn σ.body

  abbrev pub IsTyStrIn : TyStr N → Type 0
  IsTyStrIn t = IsClosedIn t.function × AllByRecursion (λ c. IsClosedIn c.1) t.constructors

-- What speaks of the first unknowns, so many as were made, and of these names.
module _ {N : Type 0} (S : Head N → ℕ → Type 0) (made : ℕ) (names : List N) where
  -- a type, without bound variables
  abbrev pub IsTypeIn : MlType N → Type 0
  IsTypeIn t = Speaks (λ k. ⊥) (λ v. v < made) (IsHeadIn S names) t

  abbrev pub IsSchemeIn : Scheme N → Type 0
  IsSchemeIn σ = Speaks (λ k. k < length σ.variables) (λ v. v < made) (IsHeadIn S names) σ.body

  abbrev pub IsValueIn : Value N → Type 0
  IsValueIn v = IsSchemeIn v.scheme × HasVariable v.status v.scheme

  -- an environment, at every depth
  unfoldable mutual
    pub IsEnvIn : Env N → Type 0
    IsEnvIn (maps ss ts vs) = AreStructuresIn ss × AllByRecursion (λ t. IsTyStrIn S names t.1) ts × AllByRecursion (λ v. IsValueIn v.1) vs

    pub AreStructuresIn : Structures (TyStr N) (Value N) → Type 0
    AreStructuresIn no_structure = Unit {0}
    AreStructuresIn (and_structure s E ss) = IsEnvIn E × AreStructuresIn ss

  -- types after identifiers: those of explicit variables, of fields or of what patterns bind
  abbrev pub AreTypesIn : Map (MlType N) → Type 0
  AreTypesIn ts = AllByRecursion (λ t. IsTypeIn t.1) ts

  abbrev pub IsDemandIn : Demand N (List N) → Type 0
  IsDemandIn (equal t u) = IsTypeIn t × IsTypeIn u
  IsDemandIn (has_fields t fs) = IsTypeIn t × AreTypesIn fs
  IsDemandIn (asks a t) = IsTypeIn t

  abbrev pub IsWindowIn : {P : Type 0} → Window P N → Type 0
  IsWindowIn w = AllByRecursion (λ r. IsTypeIn r.1) w.rows × AllByRecursion (λ v. v < made) w.overloaded

module _ {P N : Type 0} where
  -- A state speaks of what it has made, the initial names are among them, and its demands can be met.
  pub record IsWellMade (S : Head N → ℕ → Type 0) (scope : Scope N) (s : State P N) : Type 0 where
    pub initials : (k : Initial) → Stands (scope.names.initial k) s.names
    pub demands : AllByRecursion (IsDemandIn S s.made s.names) s.demands
    pub window : IsWindowIn S s.made s.names s.window
    pub met : CanBeMet (words scope) Rigidity s.demands

  -- All that was made in the first state was in the second, which is open where that was.
  pub record IsGrown (s t : State P N) : Type 0 where
    pub made : s.made ≤ t.made
    pub names : (n : N) → Stands n s.names → Stands n t.names
    pub stays_open : t.is_open ≡ false → s.is_open ≡ false

  -- A declaration that is read with C and vs in the state s gives E, and leaves the state t: E speaks of what was made. Where t isn't open,
  -- no unknown stands in E, if none did in C and vs.
  pub record IsGiven (S : Head N → ℕ → Type 0) (C : Env N) (vs : Map (MlType N)) (s : State P N) (E : Env N) (t : State P N) : Type 0 where
    pub inside : IsEnvIn S t.made t.names E
    pub closed : t.is_open ≡ false → IsEnvIn S 0 s.names C → AreTypesIn S 0 s.names vs → IsEnvIn S 0 t.names E

-- A declaration keeps to what was made, whatever it is read with.
abbrev pub ReadingsKeep : (Head Name → ℕ → Type 0) → Scope Name → Type 0
ReadingsKeep S scope =
    (C : Env Name) (vs : Map (MlType Name)) (d : Dec Place) (s t : State Place Name) (E : Env Name)
    → IsWellMade S scope s → IsEnvIn S s.made s.names C → AreTypesIn S s.made s.names vs → IsReading scope C vs d s (accepted (E, t))
    → IsWellMade S scope t × IsGrown s t × IsGiven S C vs s E t

-- Nothing more is asked of heads.
abbrev pub ReadingsSpeakOfWhatWasMade : Type 0
ReadingsSpeakOfWhatWasMade = (scope : Scope Name) → ReadingsKeep (λ h k. Unit {0}) scope

-- Heads have the parts that they take: two of an arrow, as many of a name as its arity is, and one for each label of a row, whose labels
-- rise. Numbers rise as labels up to 2^64; so nothing is said of the order in a row that has as many fields.
abbrev pub Takes : {N : Type 0} → Naming N → Head N → ℕ → Type 0
Takes names arrow k = k ≡ 2
Takes names (row ls) k = (k ≡ length ls) × (k < 2 ^ 64 → AreRising ls)
Takes names (name n) k = k ≡ (names.attributes n).arity

-- What is read with such types gives and asks such types, over the names of a run.
abbrev pub ReadingsGiveTypes : Type 0
ReadingsGiveTypes = (unit : ℕ) → ReadingsKeep (Takes naming) (run_scope unit)

-- They are types as the rules have them, where they have fewer than 2^64 nodes.
abbrev pub TypesOfHeadsAreTypes : Type 0
TypesOfHeadsAreTypes = (made : ℕ) (names : List Name) (t : MlType Name) → type_size t < 2 ^ 64 → IsTypeIn (Takes naming) made names t → IsType naming t

-- A run begins so: the initial environment speaks of the initial names and of no unknown, and the state before the first declaration
-- is well made.
abbrev pub BeginningsAreWellMade : Type 0
BeginningsAreWellMade =
    IsEnvIn (Takes naming) 0 initial_names initial_env × ((unit : ℕ) → IsWellMade {P = Place} (Takes naming) (run_scope unit) (at_first initial_names))

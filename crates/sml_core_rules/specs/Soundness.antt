-- That what is read of a declaration is what the rules derive of it. This is a statement for later: no function promises it yet.
use Rattle.std.specs.Prelude.{◌<◌, ℕ, Bool, List, [], ◌∷◌, map, length}
use Rattle.sml_lex.specs.declared.fault.Place.{Place}
use Rattle.sml_tree.specs.Expressions.{Dec}
use Rattle.sml_objects.specs.Appearance.{Stands}
use Rattle.sml_objects.specs.Initial.{Name, naming}
use Rattle.sml_objects.specs.Names.{Naming, Initial}
use Rattle.sml_objects.specs.Objects.{MlType, MlTypes, Scheme, bound, free, app, no_type, and_type}
use Rattle.sml_layers.specs.declared.layer.Layer.TheVariants.{Rigidity}
use Rattle.sml_layers.specs.declared.variable.Variable.{Variable}
use Rattle.sml_layers.specs.Demands.{Words, Mentions, AllHold}
use Rattle.sml_layers.specs.Explicit.{variable_name}
use Rattle.sml_layers.specs.Worlds.{Assignment, finite}
use Rattle.sml_rules.specs.Answers.{accepted}
use Rattle.sml_core_rules.specs.Objects.{Basis, Env, TyStr, names_env, names_in as fold_env}
use Rattle.sml_core_rules.specs.Scopes.{run_scope}
use Rattle.sml_core_rules.specs.States.{State}
use Rattle.sml_core_rules.specs.Types.{count_types}
use Rattle.sml_core_rules.specs.Expressions.{IsReading, at_first}
use Rattle.sml_core_rules.specs.Contexts.{Takes, IsType, context_of}
use Rattle.sml_core_rules.specs.Assigned.{assign_env}
use Rattle.sml_core_rules.specs.Rules.{Declares}

module _ {N : Type 0} (names : Naming N) where
  -- the body of a scheme or of a type function that has k variables: no other variable stands in it
  unfoldable mutual
    pub IsBody : ℕ → MlType N → Type 0
    IsBody k (bound j) = j < k
    IsBody k (free v) = ⊥
    IsBody k (app h ts) = Takes names h (count_types ts) × AreBodies k ts

    pub AreBodies : ℕ → MlTypes N → Type 0
    AreBodies k no_type = Unit {0}
    AreBodies k (and_type t ts) = IsBody k t × AreBodies k ts

abbrev pub str_schemes : {N : Type 0} → TyStr N → List (Scheme N)
str_schemes t = t.function ∷ map (λ c. c.1) t.constructors

-- the schemes and the type functions in an environment
abbrev pub schemes_of : {N : Type 0} → Env N → List (Scheme N)
schemes_of E = fold_env str_schemes (λ v. v.scheme ∷ []) E

-- A basis in which no type variable is free. Its names are those of its environment and the initial ones, and perhaps others, but
-- none of an explicit variable.
pub record IsWellFormed (B : Basis Name) : Type 0 where
  pub bodies : (θ : Scheme Name) → Stands θ (schemes_of B.body) → IsBody naming (length θ.variables) θ.body
  pub names : (n : Name) → Stands n (names_env B.body) → Stands n B.names
  pub initials : (k : Initial) → Stands (naming.initial k) B.names
  pub others : (x : Variable) → ¬ (Stands (variable_name x) B.names)

-- Type variables stand for explicit variables, and these type variables admit equality. A bound allows the names of a list.
abbrev pub words_of : (Variable → ℕ) → (ℕ → Bool) → Words Name (List Name)
words_of var equality = record { names = naming; variable = λ x. free (var x); equality = equality; Allows = λ T n. Stands n T }

-- What is read of a declaration in a basis the rules derive of it, under an assignment that meets its demands in all layers.
-- This is said of some assignment: one in which the unknowns that no scheme binds are types over the names of the basis. Others
-- meet the demands too that give them the datatype of a `let`, which the rules don't allow.
abbrev pub ReadingsAreSound : Type 0
ReadingsAreSound =
    (u : ℕ) → 0 < u → (B : Basis Name) → IsWellFormed B → (d : Dec Place) (E : Env Name) (s : State Place Name)
    → IsReading (run_scope u) B.body [] d (at_first B.names) (accepted (E, s))
    → (σ : Assignment Name finite) × (var : Variable → ℕ) × (equality : ℕ → Bool) × ((v : ℕ) → IsType naming (σ v) × Mentions (λ n. Stands n s.names) (σ v))
    × AllHold (words_of var equality) finite Rigidity σ s.demands × Declares naming equality (context_of B) d (assign_env σ E)

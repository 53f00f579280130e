-- Well-formed objects (the Definition, sections 4.2 to 4.4, 5.1 and 5.3), over the names of a set and the free variables of none: what
-- is read, matched and exported is of this kind.
use Rattle.std.specs.Prelude.{◌≡◌, ◌⊎◌, ℕ, ◌<◌, false, List, [], ◌∷◌, ◌++◌, length, map, Some}
use Rattle.std.specs.List.{range_with_len}
use Rattle.std.specs.List.Sorted.{IsStrictlySortedBy}
use Rattle.sml_tree.specs.Trees.{Id}
use Rattle.sml_objects.specs.Appearance.{Stands}
use Rattle.sml_objects.specs.Maps.{Map, order_of}
use Rattle.sml_objects.specs.Names.{Naming}
use Rattle.sml_objects.specs.Objects.{MlType, Scheme, Outside, free, app, name, arrow_of, types_of}
use Rattle.sml_objects.specs.Types.{instance_from, variables_after}
use Rattle.sml_layers.specs.Demands.{Mentions}
use Rattle.sml_core_rules.specs.Contexts.{IsType}
use Rattle.sml_core_rules.specs.Datatypes.{IsSmall}
use Rattle.sml_core_rules.specs.Objects.{Value, TyStr, Sig, FunSig, Basis, Maps, Structures, Status, variable, constructor, exception, overloaded, maps, no_structure, and_structure, names_basis}
use Rattle.sml_module_rules.specs.Lines.{Line, a_structure, a_type, a_value, lines}
use Rattle.sml_core_rules.specs.Functions.{name_of}

-- the identifiers rise, so each stands once
abbrev pub IsMap : {X : Type 0} → Map X → Type 0
IsMap m = IsStrictlySortedBy order_of (map (λ e. e.0) m)

abbrev pub HoldsOfAll : {X : Type 0} → (X → Type 0) → Map X → Type 0
HoldsOfAll C [] = Unit {0}
HoldsOfAll C (e ∷ es) = C e.1 × HoldsOfAll C es

abbrev pub structure_names : {T V : Type 0} → Structures T V → List Id
structure_names no_structure = []
structure_names (and_structure s E ss) = s ∷ structure_names ss

-- There is a type whose function is this name, applied to its parameters in order.
abbrev pub StandsAtPath : {N : Type 0} → List (Line (TyStr N) (Value N)) → N → Type 0
StandsAtPath [] n = ⊥
StandsAtPath ((x, a_structure) ∷ ls) n = StandsAtPath ls n
StandsAtPath ((x, a_value v) ∷ ls) n = StandsAtPath ls n
StandsAtPath ((x, a_type t) ∷ ls) n = (name_of t.function ≡ Some n) ⊎ StandsAtPath ls n

abbrev pub AllStandAtPaths : {N : Type 0} → List (Line (TyStr N) (Value N)) → List N → Type 0
AllStandAtPaths ls [] = Unit {0}
AllStandAtPaths ls (n ∷ ns) = StandsAtPath ls n × AllStandAtPaths ls ns

-- each name stands once
abbrev pub AreDistinct : {N : Type 0} → List N → Type 0
AreDistinct [] = Unit {0}
AreDistinct (n ∷ ns) = Outside n ns × AreDistinct ns

module _ {N : Type 0} (names : Naming N) where
  -- Over these names: rows have labels in order, arrows two parts and names as many as their arity. It has no bound variable.
  abbrev pub IsTypeOver : List N → MlType N → Type 0
  IsTypeOver T t = IsType names t × Mentions (λ n. Stands n T) t

  -- A scheme is closed: it mentions its own variables and no other, which are numbered by first appearance.
  pub record IsSchemeOver (T : List N) (σ : Scheme N) : Type 0 where
    pub closed : variables_after [] σ.body ≡ []
    pub numbered : variables_after [] (instance_from 0 σ.body) ≡ range_with_len 0 (length σ.variables)
    pub is_type : IsTypeOver T (instance_from 0 σ.body)
    pub is_small : IsSmall σ

  -- A type function mentions its own parameters and no other variable; some may not appear.
  pub record IsFunctionOver (T : List N) (θ : Scheme N) : Type 0 where
    pub closed : variables_after [] θ.body ≡ []
    pub own : (k : ℕ) → Stands k (variables_after [] (instance_from 0 θ.body)) → Stands k (range_with_len 0 (length θ.variables))
    pub is_type : IsTypeOver T (instance_from 0 θ.body)
    pub is_small : IsSmall θ

  -- the type of a constructor, with other variables: the name, applied to variables that are apart, perhaps after an argument
  abbrev pub Gives : N → Scheme N → Type 0
  Gives n σ =
      (vs : List ℕ) × AreDistinct vs × (length vs ≡ (names.attributes n).arity)
      × ((instance_from 0 σ.body ≡ app (name n) (types_of (map free vs)))
      ⊎ ((u : MlType N) × (instance_from 0 σ.body ≡ arrow_of u (app (name n) (types_of (map free vs))))))

  -- Where a type structure has constructors, its function is a name, which is what they give.
  pub record IsTypeStructureOver (T : List N) (t : TyStr N) : Type 0 where
    pub function : IsFunctionOver T t.function
    pub is_map : IsMap t.constructors
    pub schemes : HoldsOfAll (IsSchemeOver T) t.constructors
    pub datatype : (t.constructors ≡ []) ⊎ ((n : N) × (name_of t.function ≡ Some n) × HoldsOfAll (Gives n) t.constructors)

  -- a constructor is one of so many, and an overloaded identifier has one variable
  abbrev pub AgreesWith : Status → Scheme N → Type 0
  AgreesWith variable σ = Unit {0}
  AgreesWith (constructor k n) σ = k < n
  AgreesWith exception σ = σ.variables ≡ []
  AgreesWith (overloaded c) σ = σ.variables ≡ false ∷ []

  pub record IsValueOver (T : List N) (v : Value N) : Type 0 where
    pub scheme : IsSchemeOver T v.scheme
    pub status : AgreesWith v.status v.scheme

  unfoldable mutual
    pub IsEnvOver : List N → Maps (TyStr N) (Value N) → Type 0
    IsEnvOver T (maps ss ts vs) =
        IsStrictlySortedBy order_of (structure_names ss) × AreEnvsOver T ss × IsMap ts × HoldsOfAll (IsTypeStructureOver T) ts × IsMap vs
        × HoldsOfAll (IsValueOver T) vs

    pub AreEnvsOver : List N → Structures (TyStr N) (Value N) → Type 0
    AreEnvsOver T no_structure = Unit {0}
    AreEnvsOver T (and_structure s E ss) = IsEnvOver T E × AreEnvsOver T ss

  -- A signature binds names of its environment, each once, and each stands there at some path.
  pub record IsSigOver (T : List N) (S : Sig N) : Type 0 where
    pub distinct : AreDistinct S.names
    pub stand : AllStandAtPaths (lines [] S.body) S.names
    pub body : IsEnvOver (S.names ++ T) S.body

  -- the result of a functor may mention the names of its argument; what it binds is new at each application
  pub record IsFunSigOver (T : List N) (F : FunSig N) : Type 0 where
    pub argument : IsSigOver T F.argument
    pub distinct : AreDistinct (F.result.names ++ F.argument.names)
    pub result : IsEnvOver (F.result.names ++ (F.argument.names ++ T)) F.result.body

  -- All names of a basis are listed, those that are bound in it too.
  pub record IsBasis (B : Basis N) : Type 0 where
    pub body : IsEnvOver B.names B.body
    pub signature_map : IsMap B.signatures
    pub signatures : HoldsOfAll (IsSigOver B.names) B.signatures
    pub functor_map : IsMap B.functors
    pub functors : HoldsOfAll (IsFunSigOver B.names) B.functors
    pub listed : (n : N) → Stands n (names_basis B) → Stands n B.names

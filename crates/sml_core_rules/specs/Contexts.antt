-- Contexts, and types that may be guessed in them (the Definition, sections 4.2 to 4.8).
use Rattle.std.specs.Prelude.{◌≡◌, ◌⊎◌, ℕ, suc, Bool, true, false, List, [], ◌∷◌, ◌++◌, map, length}
use Rattle.sml_tree.specs.Trees.{Id}
use Rattle.sml_objects.specs.Appearance.{Stands}
use Rattle.sml_objects.specs.Equality.{is_ref, admits_by, has_equality}
use Rattle.sml_objects.specs.Fates.{closed}
use Rattle.sml_objects.specs.declared.fates.Fate.{Fate}
use Rattle.sml_objects.specs.declared.fates.Fate.TheVariants.{Bind, Keep}
use Rattle.sml_objects.specs.Labels.{AreRising}
use Rattle.sml_objects.specs.Maps.{Map}
use Rattle.sml_objects.specs.Names.{Naming, Initial}
use Rattle.sml_objects.specs.Objects.{MlType, MlTypes, Head, Scheme, bound, free, app, arrow, row, name, no_type, and_type, named, mono}
use Rattle.sml_objects.specs.Types.{replace_type, variables_after}
use Rattle.sml_layers.specs.Classes.{names_in, allows}
use Rattle.sml_layers.specs.Demands.{Mentions}
use Rattle.sml_core_rules.specs.Objects.{Basis, Env, Value, TyStr, Status, variable, constructor, exception, overloaded, extend, names_env, names_in as fold_env, names_map}
use Rattle.sml_core_rules.specs.Types.{count_types}

-- `(T, U, E)` (section 4.2): the type names that types may mention, the explicit type variables in scope, each with the type
-- that it is, and the environment.
pub record Context (N : Type 0) : Type 0 where
  pub names : List N
  pub explicit : Map (MlType N)
  pub env : Env N

-- the context in which the declarations of a basis are
abbrev pub context_of : {N : Type 0} → Basis N → Context N
context_of B = record { names = B.names; explicit = []; env = B.body }

-- `C + E`
abbrev pub plus : {N : Type 0} → Context N → Env N → Context N
plus C E = record C { env = extend C.env E }

-- `C ⊕ E`: types may mention the names of E too (section 4.3)
abbrev pub plus_names : {N : Type 0} → Context N → Env N → Context N
plus_names C E = record C { names = names_env E ++ C.names; env = extend C.env E }

abbrev pub with_explicit : {N : Type 0} → Id → ℕ → Context N → Context N
with_explicit x k C = record C { explicit = (x, free k) ∷ C.explicit }

-- all names in the type are of the context
abbrev pub IsWithin : {N : Type 0} → Context N → MlType N → Type 0
IsWithin C t = Mentions (λ n. Stands n C.names) t

-- The free type variables of a context (section 4.2): those of its environment and the explicit ones.

abbrev pub type_variables : {N : Type 0} → MlType N → List ℕ
type_variables t = variables_after [] t

abbrev pub str_variables : {N : Type 0} → TyStr N → List ℕ
str_variables t = type_variables t.function.body ++ names_map (λ σ. type_variables σ.body) t.constructors

abbrev pub context_variables : {N : Type 0} → Context N → List ℕ
context_variables C = fold_env str_variables (λ v. type_variables v.scheme.body) C.env ++ names_map type_variables C.explicit

module _ {N : Type 0} (names : Naming N) where
  -- A type: rows have their labels in order, arrows have two parts and names as many as their arity, and no variable is bound
  -- by a scheme.
  abbrev pub Takes : Head N → ℕ → Type 0
  Takes arrow k = k ≡ 2
  Takes (row ls) k = (k ≡ length ls) × AreRising ls
  Takes (name n) k = k ≡ (names.attributes n).arity

  unfoldable mutual
    pub IsType : MlType N → Type 0
    IsType (bound k) = ⊥
    IsType (free v) = Unit {0}
    IsType (app h ts) = Takes h (count_types ts) × AreTypes ts

    pub AreTypes : MlTypes N → Type 0
    AreTypes no_type = Unit {0}
    AreTypes (and_type t ts) = IsType t × AreTypes ts

  -- Which type variables are equality variables is given.
  module _ (equality : ℕ → Bool) where
    -- what stands for the equality variables of a scheme admits equality (section 4.4)
    abbrev pub AdmitWhereAsked : ℕ → List Bool → (ℕ → MlType N) → Type 0
    AdmitWhereAsked k [] args = Unit {0}
    AdmitWhereAsked k (e ∷ es) args =
        (e ≡ true → admits_by (is_ref names) equality (has_equality names) (args k) ≡ true) × AdmitWhereAsked (suc k) es args

    -- the variable of an overloaded identifier is one of the types of its class (appendix E)
    abbrev pub IsOfClass : Status → MlType N → Type 0
    IsOfClass variable t = Unit {0}
    IsOfClass (constructor k n) t = Unit {0}
    IsOfClass exception t = Unit {0}
    IsOfClass (overloaded c) t = (k : Initial) × (allows (names_in c) k ≡ true) × (t ≡ named (names.initial k))

    -- `σ > t` (section 4.5)
    unfoldable pub IsInstance : Value N → MlType N → Type 0
    IsInstance v t =
        (args : ℕ → MlType N) × ((k : ℕ) → IsType (args k)) × AdmitWhereAsked 0 v.scheme.variables args
        × IsOfClass v.status (args 0) × (t ≡ replace_type args free v.scheme.body)

    -- what becomes of a variable of a type that is closed: it is bound, with its attribute, unless it is free in the context
    abbrev pub IsFate : Context N → ℕ → Fate → Type 0
    IsFate C v fate = (Stands v (context_variables C) × (fate ≡ Keep)) ⊎ (¬ (Stands v (context_variables C)) × (fate ≡ Bind (equality v)))

    -- `Clos` (sections 4.7 and 4.8): an expansive right side binds no variable
    abbrev pub IsClosing : Context N → Bool → MlType N → Scheme N → Type 0
    IsClosing C true t σ = σ ≡ mono t
    IsClosing C false t σ =
        (fate : ℕ → Fate) × ((v : ℕ) → IsFate C v (fate v)) × (σ ≡ closed (map fate (type_variables t)) t)

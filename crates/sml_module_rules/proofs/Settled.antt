-- Environments without unknowns are determined as they are.
use Rattle.std.specs.Prelude.{◌≡◌, ℕ, [], ◌∷◌}
use mathlib.Core.Path.{refl}
use Rattle.sml_tree.specs.Trees.{Id}
use Rattle.sml_objects.specs.Maps.{Map, order_of}
use Rattle.sml_objects.specs.Objects.{MlType}
use Rattle.sml_rules.specs.Matching.{Realisation}
use Rattle.sml_core_rules.specs.Objects.{Env, Maps, Structures, Value, TyStr, maps, no_structure, and_structure, put_structure, extend, replace, replace_structures, replaced}
use Rattle.sml_module_rules.specs.Realising.{realise_env, realise_value, realise_ty_str}
use Rattle.sml_core_rules.specs.Assigned.{assign_value}
use Rattle.sml_module_rules.specs.Structures.{with_types}
use Rattle.sml_module_rules.proofs.Grown.{ordered}
use Rattle.sml_module_rules.proofs.Closed.{IsClosed, assign-closed, scheme-closed}

-- all values of an environment are such

unfoldable pub EachOf : {V : Type 0} → (V → Type 0) → Map V → Type 0
EachOf F [] = Unit {0}
EachOf F (e ∷ vs) = F e.1 × EachOf F vs

unfoldable mutual
  pub EachValue : {T V : Type 0} → (V → Type 0) → Maps T V → Type 0
  EachValue F (maps ss ts vs) = EachInside F ss × EachOf F vs

  pub EachInside : {T V : Type 0} → (V → Type 0) → Structures T V → Type 0
  EachInside F no_structure = Unit {0}
  EachInside F (and_structure s E ss) = EachValue F E × EachInside F ss

module _ {T U V W : Type 0} (f : T → U) (g : V → W) (F : W → Type 0) (h : (v : V) → F (g v)) where
  each-replaced : (vs : Map V) → EachOf F (replaced g vs)
  unfolding EachOf
  each-replaced [] = tt
  each-replaced (e ∷ vs) = (h e.1, each-replaced vs)

  mutual
    unfolding EachValue replace replace_structures

    values-replaced : (E : Maps T V) → EachValue F (replace f g E)
    values-replaced (maps ss ts vs) = (structures-replaced ss, each-replaced vs)

    structures-replaced : (ss : Structures T V) → EachInside F (replace_structures f g ss)
    structures-replaced no_structure = tt
    structures-replaced (and_structure s E ss) = (values-replaced E, structures-replaced ss)

module _ {T V : Type 0} (F : V → Type 0) (x : Id) (G : Maps T V) (h : EachValue F G) where
  each-put : (ss : Structures T V) → EachInside F ss → EachInside F (put_structure x G ss)
  unfolding EachInside
  each-put no_structure k = (h, tt)
  each-put (and_structure r E ss) k = ordered (EachInside F) (order_of x r) (h, k) (h, k.1) (k.0, each-put ss k.1)

  -- one structure more
  pub each-added : (E : Maps T V) → EachValue F E → EachValue F (extend E (maps (and_structure x G no_structure) [] []))
  unfolding EachValue
  each-added (maps ss ts vs) k = (each-put ss k.0, k.1)

abbrev pub HasNoUnknown : {N : Type 0} → Value N → Type 0
HasNoUnknown v = IsClosed v.scheme.body

pub realised-closed : {N : Type 0} (φ : Realisation N) (E : Env N) → EachValue HasNoUnknown (realise_env φ E)
realised-closed φ E = values-replaced (realise_ty_str φ) (realise_value φ) HasNoUnknown (λ v. scheme-closed v.scheme.variables _) E

module _ {N : Type 0} (σ : ℕ → MlType N) where
  values-settled : (vs : Map (Value N)) → EachOf HasNoUnknown vs → replaced (assign_value σ) vs ≡ vs
  unfolding EachOf
  values-settled [] c = refl
  values-settled (e ∷ vs) c = λ i. (e.0, record { scheme = record { variables = e.1.scheme.variables; body = assign-closed σ e.1.scheme.body c.0 i }; status = e.1.status }) ∷ values-settled vs c.1 i

  types-same : (ts : Map (TyStr N)) → replaced (λ t. t) ts ≡ ts
  types-same [] = refl
  types-same (e ∷ ts) = λ i. e ∷ types-same ts i

  mutual
    unfolding EachValue replace replace_structures

    -- an environment without unknowns is determined as it is
    pub env-settled : (E : Env N) → EachValue HasNoUnknown E → with_types σ E ≡ E
    env-settled (maps ss ts vs) c = λ i. maps (structures-settled ss c.0 i) (types-same ts i) (values-settled vs c.1 i)

    structures-settled : (ss : Structures (TyStr N) (Value N)) → EachInside HasNoUnknown ss → replace_structures (λ t. t) (assign_value σ) ss ≡ ss
    structures-settled no_structure c = refl
    structures-settled (and_structure x E ss) c = λ i. and_structure x (env-settled E c.0 i) (structures-settled ss c.1 i)

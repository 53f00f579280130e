-- What the demands so far leave of unknown types, and the scheme of a type at the end of a value declaration. No solution
-- is chosen: all is said of every assignment that meets the demands.
use Rattle.std.specs.Prelude.{◌≡◌, ◌≢◌, ◌↔◌, ◌⊎◌, ◌<◌, ◌≤◌, ℕ, Bool, true, false, List, [], map}
use Rattle.std.specs.List.{AllByRecursion}
use Rattle.sml_tree.specs.Trees.{Id}
use Rattle.sml_objects.specs.Equality.{admits}
use Rattle.sml_objects.specs.Fates.{close_as}
use Rattle.sml_objects.specs.Names.{Initial, int}
use Rattle.sml_objects.specs.declared.fates.Fate.{Fate}
use Rattle.sml_objects.specs.declared.fates.Fate.TheVariants.{Bind, Keep, Default}
use Rattle.sml_objects.specs.Objects.{MlType, MlTypes, Scheme, row, bound, free, app, no_type, and_type, named}
use Rattle.sml_objects.specs.Sizes.{type_size}
use Rattle.sml_objects.specs.Types.{assign, variables_after}
use Rattle.sml_layers.specs.declared.layer.Layer.{Layer}
use Rattle.sml_layers.specs.declared.layer.Layer.TheVariants.{Finiteness, Equality, Classes, Rigidity}
use Rattle.sml_layers.specs.Demands.{AllHold}
use Rattle.sml_layers.specs.Rows.{HasFields}
use Rattle.sml_layers.specs.Worlds.{Assignment, In, finite, make, typed, world}
use Rattle.sml_core_rules.specs.States.{Scope, State, words}

module _ {P N : Type 0} (scope : Scope N) (s : State P N) where
  -- the assignments that meet the demands, in the layers up to this one
  abbrev pub Meets : (l : Layer) → Assignment N (world l) → Type 0
  Meets l σ = AllHold (words scope) (world l) l σ s.demands

  -- by the equations the unknown may be this type
  unfoldable pub MayBe : ℕ → MlType N → Type 0
  MayBe v t = (σ : Assignment N finite) × Meets Finiteness σ × (σ v ≡ t)

  -- the type is a row with one set of labels
  unfoldable pub HasOneSetOfLabels : Layer → MlType N → Type 0
  HasOneSetOfLabels l t =
      (ls : List Id) × ((σ : Assignment N (world l)) → Meets l σ → (ts : List (In N (world l))) × (typed (world l) σ t ≡ make (world l) (row ls) ts))

  -- it may be any type
  abbrev pub IsFree : ℕ → Type 0
  IsFree v = (t : MlType N) → MayBe v t

  -- by the equations it is a row, which may have several sets of labels
  abbrev pub IsFlexible : ℕ → Type 0
  IsFlexible v = ((σ : Assignment N finite) → Meets Finiteness σ → HasFields N finite (σ v) []) × ¬ (HasOneSetOfLabels Finiteness (free v))

  -- it is one of these, and no unknown before it need have the same type
  abbrev pub IsLeft : ℕ → Type 0
  IsLeft v =
      (v < s.made) × (IsFree v ⊎ IsFlexible v) × ((u : ℕ) → u < v → (σ : Assignment N finite) × Meets Finiteness σ × (σ u ≢ σ v))

  -- the type has no bound variable, and speaks of unknowns that are left
  unfoldable mutual
    pub IsOfLeft : MlType N → Type 0
    IsOfLeft (bound k) = ⊥
    IsOfLeft (free v) = IsLeft v
    IsOfLeft (app h ts) = AreOfLeft ts

    pub AreOfLeft : MlTypes N → Type 0
    AreOfLeft no_type = Unit {0}
    AreOfLeft (and_type t ts) = IsOfLeft t × AreOfLeft ts

  -- the second type stands for the same as the first
  unfoldable pub StandsFor : MlType N → MlType N → Type 0
  StandsFor t r = IsOfLeft r × ((σ : Assignment N finite) → Meets Finiteness σ → assign σ r ≡ assign σ t)

  -- what it stands for isn't too large for a scheme
  abbrev pub StandsForSmall : MlType N → Type 0
  StandsForSmall t = (r : MlType N) × StandsFor t r × (type_size r ≤ 10000)

  -- Where two assignments make the first n unknowns and these types the same, they give this unknown the same type.
  unfoldable pub IsFixed : ℕ → List (MlType N) → ℕ → Type 0
  IsFixed n ts v =
      (σ τ : Assignment N finite) → Meets Finiteness σ → Meets Finiteness τ
      → ((w : ℕ) → w < n → σ w ≡ τ w) → AllByRecursion (λ t. assign σ t ≡ assign τ t) ts → σ v ≡ τ v

  -- by its class it can be no other type than int
  unfoldable pub IsInt : ℕ → Type 0
  IsInt v = (σ : Assignment N finite) → Meets Classes σ → σ v ≡ named (scope.names.initial int)

  -- by all demands it is an initial name, and more than one could it still be
  unfoldable pub IsOverloaded : ℕ → Type 0
  IsOverloaded v =
      ((σ : Assignment N finite) → Meets Rigidity σ → (k : Initial) × (σ v ≡ named (scope.names.initial k)))
      × (σ : Assignment N finite) × (τ : Assignment N finite) × Meets Rigidity σ × Meets Rigidity τ × (σ v ≢ τ v)

  -- whatever it becomes admits equality
  unfoldable pub AsksEquality : ℕ → Type 0
  AsksEquality v = (σ : Assignment N finite) → Meets Equality σ → admits scope.names (σ v) ≡ true

  -- What becomes of an unknown that is left, at the end of a declaration that begins after the first n unknowns: int, where
  -- nothing else is left; bound, with its equality attribute, where the right side isn't expansive, the context doesn't fix it
  -- and it is no flexible row; else it stays.
  abbrev pub IsFateOf : ℕ → Bool → ℕ → Fate → Type 0
  IsFateOf n x v (Bind e) = ¬ (IsInt v) × (x ≡ false) × ¬ (IsFixed n [] v) × ¬ (IsFlexible v) × ((e ≡ true) ↔ AsksEquality v)
  IsFateOf n x v Keep = ¬ (IsInt v) × ((x ≡ true) ⊎ IsFixed n [] v ⊎ IsFlexible v)
  IsFateOf n x v Default = IsInt v

  -- The scheme of a type: that of a type which stands for the same, with the fates of the unknowns in it.
  unfoldable pub IsScheme : ℕ → Bool → MlType N → Scheme N → Type 0
  IsScheme n x t σ =
      (r : MlType N) × StandsFor t r × (fate : ℕ → Fate) × AllByRecursion (λ v. IsFateOf n x v (fate v)) (variables_after [] r)
      × (σ ≡ close_as (named (scope.names.initial int)) (map fate (variables_after [] r)) r)

  -- The type is the same under every assignment that meets the demands.
  unfoldable pub IsAlways : MlType N → MlType N → Type 0
  IsAlways t u = (σ : Assignment N finite) → Meets Rigidity σ → assign σ t ≡ u

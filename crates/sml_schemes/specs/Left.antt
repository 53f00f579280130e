-- The unknowns that are left, and the type over them that a type stands for.
use Rattle.std.specs.Prelude.{◌≡◌, ◌≢◌, ◌⊎◌, ℕ, ◌<◌, ◌≤◌, List, []}
use Rattle.std.specs.List.{AllByRecursion}
use Rattle.sml_tree.specs.Trees.{Id}
use Rattle.sml_objects.specs.Initial.{Name}
use Rattle.sml_objects.specs.Objects.{MlType, MlTypes, row, bound, free, app, no_type, and_type}
use Rattle.sml_objects.specs.Types.{assign}
use Rattle.sml_layers.specs.declared.layer.Layer.{Layer}
use Rattle.sml_layers.specs.declared.layer.Layer.TheVariants.{Finiteness}
use Rattle.sml_layers.specs.Worlds.{World, finite, make, typed, world}
use Rattle.sml_graph.specs.Worlds.{In, Assignment}
use Rattle.sml_layers.specs.Rows.{fields_at}
use Rattle.sml_graph.specs.Rows.{HasFields}
use Rattle.sml_layers.specs.Layers.{index_of}
use Rattle.sml_graph.specs.Asked.{Asked, count, Permits}

-- No variable of the type is bound by a scheme, and P holds of each.
unfoldable mutual
  pub IsMadeOf : (ℕ → Type 0) → MlType Name → Type 0
  IsMadeOf P (bound k) = ⊥
  IsMadeOf P (free v) = P v
  IsMadeOf P (app h ts) = AreMadeOf P ts

  pub AreMadeOf : (ℕ → Type 0) → MlTypes Name → Type 0
  AreMadeOf P no_type = Unit {0}
  AreMadeOf P (and_type t ts) = IsMadeOf P t × AreMadeOf P ts

-- The unknown may have this type, by what was asked in the layers up to this one.
unfoldable pub MayBe : (l : Layer) → Asked → ℕ → In (world l) → Type 0
MayBe l s v t = (σ : Assignment (world l)) × Permits l s σ × (σ v ≡ t)

-- By what was asked in the layers up to this one, the type is a row with one set of labels.
unfoldable pub HasOneSetOfLabels : Layer → Asked → MlType Name → Type 0
HasOneSetOfLabels l s t = (ls : List Id) × ((σ : Assignment (world l)) → Permits l s σ → (ts : List (In (world l))) × (typed (world l) σ t ≡ make (world l) (row ls) ts))

-- by the equations the unknown may have any type
abbrev pub IsFree : Asked → ℕ → Type 0
IsFree s v = (t : MlType Name) → MayBe Finiteness s v t

-- It is a flexible row: a row by the equations, which may have several sets of labels.
pub record IsFlexible (s : Asked) (v : ℕ) : Type 0 where
  pub is_row : (σ : Assignment finite) → Permits Finiteness s σ → HasFields finite (σ v) []
  pub several : HasOneSetOfLabels Finiteness s (free v) → ⊥

abbrev pub IsUndetermined : Asked → ℕ → Type 0
IsUndetermined s v = IsFree s v ⊎ IsFlexible s v

-- The unknown is undetermined, and no unknown before it need have the same type.
pub record IsLeft (s : Asked) (v : ℕ) : Type 0 where
  pub known : v < count s
  pub undetermined : IsUndetermined s v
  pub first : (u : ℕ) → u < v → (σ : Assignment finite) × Permits Finiteness s σ × (σ u ≢ σ v)

-- The second type stands for the same as the first, and speaks of unknowns that are left.
unfoldable pub IsReading : Asked → MlType Name → MlType Name → Type 0
IsReading s t r = IsMadeOf (IsLeft s) r × ((σ : Assignment finite) → Permits Finiteness s σ → assign σ r ≡ assign σ t)

-- The fields that a flexible row has, whatever the unknowns become, it also has under these types of the unknowns that are left.
unfoldable pub KeepsFields : (w : World) → Asked → Assignment w → Type 0
KeepsFields w s ρ =
    (v : ℕ) (fs : List (Id × MlType Name)) → IsLeft s v → AllByRecursion (λ f. IsMadeOf (IsLeft s) f.1) fs
    → ((σ : Assignment finite) → Permits Finiteness s σ → HasFields finite (σ v) (fields_at (assign σ) fs)) → HasFields w (ρ v) (fields_at (typed w ρ) fs)

-- Whatever types are chosen for the unknowns that are left, each one that it may have, and rows with the fields asked for, exactly
-- one assignment gives them these.
abbrev pub HasOneForEachChoice : Layer → Asked → Type 0
HasOneForEachChoice l s =
    (ρ : Assignment (world l)) → ((v : ℕ) → IsLeft s v → MayBe l s v (ρ v)) → KeepsFields (world l) s ρ
    → (σ : Assignment (world l)) × Permits l s σ × ((v : ℕ) → IsLeft s v → σ v ≡ ρ v)
    × ((τ : Assignment (world l)) → Permits l s τ → ((v : ℕ) → IsLeft s v → τ v ≡ ρ v) → (v : ℕ) → v < count s → τ v ≡ σ v)

-- The same in each layer of finite types. By the equations alone, an unknown that is left may have any of these.
unfoldable pub IsMostGeneral : Asked → Type 0
IsMostGeneral s = (l : Layer) → index_of Finiteness ≤ index_of l → HasOneForEachChoice l s

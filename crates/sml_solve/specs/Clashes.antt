-- Demands of the first layer, closed under symmetry, transitivity and components; where they make two types equal that have
-- different heads, they clash. The labels of a row belong to its head.
use Rattle.std.specs.Prelude.{◌≡◌, ◌≢◌, ℕ, ◌<◌, ◌⊎◌, ◌↔◌, List, [], ◌∷◌, length, slice_index_or, Some}
use Rattle.std.specs.List.{AllByRecursion}
use Rattle.sml_tree.specs.Trees.{Id}
use Rattle.sml_objects.specs.Initial.{Name}
use Rattle.sml_objects.specs.Maps.{lookup}
use Rattle.sml_objects.specs.Objects.{MlType, Head, app, row, bound, types_of}
use Rattle.sml_layers.specs.declared.layer.Layer.TheVariants.{Equations}
use Rattle.sml_objects.specs.Labels.{AreRising, with_labels}
use Rattle.sml_layers.specs.Worlds.{infinite}
use Rattle.sml_graph.specs.Worlds.{Assignment}
use Rattle.sml_graph.specs.Asked.{Asked, Demand, equal, has_fields, asks, IsOf, Permits, Holds, IsFirstUnmet}

abbrev pub IsOneOf : {A : Type 0} → A → List A → Type 0
IsOneOf x [] = ⊥
IsOneOf x (y ∷ ys) = (x ≡ y) ⊎ IsOneOf x ys

-- the i-th part of a type over these
abbrev pub part_at : List (MlType Name) → ℕ → MlType Name
part_at ts i = slice_index_or ts i (bound 0)

-- The demands make the two types equal. Where two types under one head are equal, so are their parts, each in turn; a field that is
-- asked of a row is equal to the row's part with that label, and to the same field asked of an equal row.
pub data MakesEqual (ds : List Demand) : MlType Name → MlType Name → Type 0 where
  given : (t v : MlType Name) → IsOneOf (equal t v) ds → MakesEqual ds t v
  same : (t v : MlType Name) → t ≡ v → MakesEqual ds t v
  turned : (t v : MlType Name) → MakesEqual ds t v → MakesEqual ds v t
  joined : (t v w : MlType Name) → MakesEqual ds t v → MakesEqual ds v w → MakesEqual ds t w
  component : (t v : MlType Name) (h : Head Name) (ts us : List (MlType Name)) (i : ℕ)
      → i < length ts → i < length us → MakesEqual ds (app h (types_of ts)) (app h (types_of us))
      → t ≡ part_at ts i → v ≡ part_at us i → MakesEqual ds t v
  field : (t v r : MlType Name) (fs : List (Id × MlType Name)) (l : Id) (ls : List Id) (ts : List (MlType Name))
      → IsOneOf (has_fields r fs) ds → IsOneOf (l, t) fs → MakesEqual ds r (app (row ls) (types_of ts))
      → lookup l (with_labels ls ts) ≡ Some v → MakesEqual ds t v
  fields : (t v r q : MlType Name) (fs gs : List (Id × MlType Name)) (l : Id)
      → IsOneOf (has_fields r fs) ds → IsOneOf (has_fields q gs) ds → IsOneOf (l, t) fs → IsOneOf (l, v) gs
      → MakesEqual ds r q → MakesEqual ds t v

-- the head over these parts is that of a row that has these fields
pub record HasLabels (fs : List (Id × MlType Name)) (h : Head Name) (ts : List (MlType Name)) : Type 0 where
  pub labels : List Id
  pub is_row : h ≡ row labels
  pub rising : AreRising labels
  pub count : length ts ≡ length labels
  pub all : AllByRecursion (λ f. (t : MlType Name) × (lookup f.0 (with_labels labels ts) ≡ Some t)) fs

-- Two types are equal that have different heads, or different numbers of parts; or a row with some fields is equal to a type that has
-- a head, but isn't a row with these labels.
pub data Clash (ds : List Demand) : Type 0 where
  heads : (h k : Head Name) (ts us : List (MlType Name)) → MakesEqual ds (app h (types_of ts)) (app k (types_of us))
      → (h ≢ k) ⊎ (length ts ≢ length us) → Clash ds
  no_row : (r : MlType Name) (fs : List (Id × MlType Name)) (h : Head Name) (ts : List (MlType Name)) → IsOneOf (has_fields r fs) ds
      → MakesEqual ds r (app h (types_of ts)) → (HasLabels fs h ts → ⊥) → Clash ds

-- the demand speaks of the solver's unknowns
abbrev pub IsDemandOf : Asked → Demand → Type 0
IsDemandOf s (equal t v) = IsOf s t × IsOf s v
IsDemandOf s (has_fields t fs) = IsOf s t × AllByRecursion (λ f. IsOf s f.1) fs
IsDemandOf s (asks a t) = IsOf s t

-- the types meet the demands, as far as the first layer sees it
abbrev pub MeetsAll : ℕ → Assignment infinite → List Demand → Type 0
MeetsAll u σ ds = AllByRecursion (Holds Equations u σ) ds

-- What was asked says as much as these demands, as far as the first layer sees it.
pub record SaysAll (s : Asked) (ds : List Demand) : Type 0 where
  pub over : AllByRecursion (IsDemandOf s) ds
  pub same : (σ : Assignment infinite) → Permits Equations s σ ↔ MeetsAll s.unit σ ds

-- A demand is refused by the first layer exactly where it clashes with those that were asked.
abbrev pub IsUnmetWhereItClashes : Asked → Type 0
IsUnmetWhereItClashes s =
    (ds : List Demand) (d : Demand) → SaysAll s ds → IsDemandOf s d → IsFirstUnmet Equations s d ↔ Clash (d ∷ ds)

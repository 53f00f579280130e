-- Unknowns whose type others fix: those that are in the context of a declaration.
use Rattle.std.specs.Prelude.{◌≡◌, ℕ, suc, ◌+◌, ◌<◌, ◌⊎◌, map, Bool, true, false, cond, List, [], ◌∷◌, length, slice_index, slice_index_or}
use Rattle.std.specs.List.{AllByRecursion}
use Rattle.sml_objects.specs.Appearance.{Stands}
use Rattle.sml_layers.specs.declared.layer.Layer.TheVariants.{Finiteness}
use Rattle.sml_graph.specs.declared.node.Node.{Node}
use Rattle.sml_layers.specs.Worlds.{finite}
use Rattle.sml_graph.specs.Worlds.{Assignment}
use Rattle.sml_graph.specs.Graphs.{node_at, parts, Meets}
use Rattle.sml_graph.specs.Asked.{Asked, count, Permits}
use Rattle.sml_schemes.specs.Left.{IsUndetermined}

-- The types of the first n unknowns and of some others fix that of v: where two assignments give all of these the same
-- types, they give v one.
unfoldable pub IsFixed : Asked → ℕ → List ℕ → ℕ → Type 0
IsFixed s n ws v =
    (σ τ : Assignment finite) → Permits Finiteness s σ → Permits Finiteness s τ
    → ((w : ℕ) → w < n → σ w ≡ τ w) → AllByRecursion (λ w. σ w ≡ τ w) ws → σ v ≡ τ v

abbrev pub IsMarked : List Bool → ℕ → Type 0
IsMarked ms i = slice_index_or ms i false ≡ true

-- A flag for each unknown: those with one are fixed, and of those that are undetermined no others are.
pub record AreFixed (s : Asked) (n : ℕ) (ws : List ℕ) (bs : List Bool) : Type 0 where
  pub len : length bs ≡ count s
  pub fixes : (v : ℕ) → v < count s → IsMarked bs v → IsFixed s n ws v
  pub all : (v : ℕ) → v < count s → IsUndetermined s v → IsFixed s n ws v → IsMarked bs v

-- the types of these nodes fix that of another
abbrev pub IsFixedBy : List Node → List ℕ → ℕ → Type 0
IsFixedBy ns is i = (σ τ : Assignment finite) → Meets finite ns σ → Meets finite ns τ → AllByRecursion (λ k. σ k ≡ τ k) is → σ i ≡ τ i

abbrev pub IsMarkedBut : List Bool → List ℕ → ℕ → Type 0
IsMarkedBut ms is i = IsMarked ms i ⊎ Stands i is

-- The way to all nodes that some lead to: those with a mark were found, and others are left to do.
pub record IsReach (ns : List Node) (from : List ℕ) (ms : List Bool) (is : List ℕ) : Type 0 where
  pub len : length ms ≡ length ns
  pub inside : AllByRecursion (λ i. i < length ns) is
  pub begun : AllByRecursion (IsMarkedBut ms is) from
  pub closed : (i : ℕ) → IsMarked ms i → AllByRecursion (IsMarkedBut ms is) (parts (node_at ns i))
  pub fixed : (i : ℕ) → IsMarked ms i → IsFixedBy ns from i
  pub left : AllByRecursion (IsFixedBy ns from) is

-- how much is left: the nodes without a mark, with their parts
abbrev pub unmarked : List Node → List Bool → ℕ
unmarked [] ms = 0
unmarked (n ∷ ns) [] = 0
unmarked (n ∷ ns) (m ∷ ms) = cond m 0 (suc (length (parts n))) + unmarked ns ms

-- Nodes with a mark: some nodes and all that they lead to.
pub record AreMarks (ns : List Node) (from : List ℕ) (ms : List Bool) : Type 0 where
  pub begun : AllByRecursion (IsMarked ms) from
  pub closed : (i : ℕ) → IsMarked ms i → AllByRecursion (IsMarked ms) (parts (node_at ns i))
  pub fixed : (i : ℕ) → IsMarked ms i → IsFixedBy ns from i

-- the places of some unknowns
abbrev pub places_of : List ℕ → List ℕ → List ℕ
places_of us ws = map (λ w. slice_index us w) ws

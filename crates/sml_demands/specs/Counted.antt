-- How many nodes a type has at least, whatever its unknowns become.
use Rattle.std.specs.Prelude.{◌≡◌, ℕ, suc, ◌+◌, ◌≤◌, List, [], ◌∷◌}
use Rattle.sml_objects.specs.Initial.{Name}
use Rattle.sml_objects.specs.Objects.{MlType}
use Rattle.sml_objects.specs.Sizes.{type_size}
use Rattle.sml_objects.specs.Types.{assign}
use Rattle.sml_layers.specs.declared.layer.Layer.TheVariants.{Finiteness}
use Rattle.sml_graph.specs.declared.node.Node.{Node}
use Rattle.sml_layers.specs.Worlds.{finite}
use Rattle.sml_graph.specs.Worlds.{Assignment}
use Rattle.sml_graph.specs.Graphs.{node_at, parts, Meets, IsRoot}
use Rattle.sml_graph.specs.Asked.{Asked, Permits}

-- The least size of the type over the types that the unknowns may have: that of the type where each unknown that is
-- left counts as one node, with the fields that are asked for where it is a flexible row. Where it is above the limit, n is one more
-- than the limit.
pub record IsSizeUpTo (limit : ℕ) (s : Asked) (t : MlType Name) (n : ℕ) : Type 0 where
  pub most : n ≤ limit + 1
  pub least : (σ : Assignment finite) → Permits Finiteness s σ → n ≤ type_size (assign σ t)
  pub reached : n ≤ limit → (σ : Assignment finite) × Permits Finiteness s σ × (type_size (assign σ t) ≡ n)

abbrev pub sizes_at : Assignment finite → List ℕ → ℕ
sizes_at τ [] = 0
sizes_at τ (i ∷ is) = type_size (τ i) + sizes_at τ is

-- so many nodes were counted, and those of these places are left
pub record IsCounting (ns : List Node) (root n : ℕ) (is : List ℕ) : Type 0 where
  pub less : (τ : Assignment finite) → Meets finite ns τ → n + sizes_at τ is ≤ type_size (τ root)
  pub types : Assignment finite
  pub meets : Meets finite ns types
  pub small : (i : ℕ) → IsRoot ns i → type_size (types i) ≡ suc (sizes_at types (parts (node_at ns i)))
  pub exact : type_size (types root) ≡ n + sizes_at types is

pub record IsCounted (ns : List Node) (root limit n : ℕ) : Type 0 where
  pub most : n ≤ limit + 1
  pub least : (τ : Assignment finite) → Meets finite ns τ → n ≤ type_size (τ root)
  pub reached : n ≤ limit → (τ : Assignment finite) × Meets finite ns τ × (type_size (τ root) ≡ n)

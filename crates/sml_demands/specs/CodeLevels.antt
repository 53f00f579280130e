-- The oldest unknowns that lead to nodes.
use Rattle.std.specs.Prelude.{◌≡◌, ◌≢◌, ℕ, ◌+◌, ◌-◌, ◌<◌, ◌≤◌, ◌^◌, ◌⊎◌, ◌↔◌, Bool, List, [], ◌∷◌, length, take, Option, Some, None, slice_index, slice_index_or}
use Rattle.std.specs.List.{AllByRecursion}
use Rattle.sml_objects.specs.Appearance.{Stands}
use Rattle.sml_graph.specs.declared.graph.Graph.{Graph}
use Rattle.sml_graph.specs.declared.change.Change.{Change}
use Rattle.sml_graph.specs.declared.node.Node.{Node}
use Rattle.sml_layers.specs.Worlds.{finite}
use Rattle.sml_graph.specs.Worlds.{Assignment}
use Rattle.sml_graph.specs.Graphs.{node_at, parts, Meets, IsSame, IsRoot}
use Rattle.sml_graph.specs.Changes.{HasChange, BeginsWith, IsChange, IsOfAll, AreInside}
use Rattle.sml_schemes.specs.Fixed.{IsFixedBy, IsMarked}
use Rattle.sml_graph.specs.CodeWhole.{IsKept}

-- the number of an unknown, or one that is above all these
abbrev pub level_of : Option ℕ → ℕ
level_of None = 2 ^ 32
level_of (Some n) = n

abbrev pub level_at : List (Option ℕ) → ℕ → ℕ
level_at ls i = level_of (slice_index_or ls i None)

-- how far the node's level is below those of all unknowns
abbrev pub level_rank : List (Option ℕ) → ℕ → ℕ
level_rank ls i = 2 ^ 32 - 1 - level_at ls i

abbrev pub AreAtMost : List (Option ℕ) → ℕ → List ℕ → Type 0
AreAtMost ls a ks = AllByRecursion (λ k. level_at ls k ≤ a) ks

-- the level of the node has been handed on to its parts
abbrev pub IsHandedNode : List (Option ℕ) → ℕ → Node → Type 0
IsHandedNode ls i x = AreAtMost ls (level_at ls i) (parts x)

-- it has been handed on to the node's first parts, before the change
abbrev pub IsHandedTo : List (Option ℕ) → ℕ → Node → Change → Type 0
IsHandedTo ls i x c = (c.node ≡ i) × AreAtMost ls (level_at ls i) (take c.from (parts x))

-- those of all nodes have been handed on, but for changes that are left to do
abbrev pub AreHandedBut : List Node → List (Option ℕ) → List Change → Type 0
AreHandedBut ns ls cs = (i : ℕ) → IsHandedNode ls i (node_at ns i) ⊎ HasChange (IsHandedTo ls i (node_at ns i)) cs

-- the unknown with this number fixes the node, or it is no unknown's number
abbrev pub IsLevelOf : List Node → List ℕ → ℕ → ℕ → Type 0
IsLevelOf ns us n i = (n ≡ 2 ^ 32) ⊎ ((n < length us) × IsFixedBy ns (slice_index us n ∷ []) i)

-- The levels of nodes: where an unknown leads to a node, the node's level is at most its number, and is the number of one
-- that fixes the node. Some changes are left to do.
pub record AreLevels (ns : List Node) (us : List ℕ) (ls : List (Option ℕ)) (cs : List Change) : Type 0 where
  pub within : length ls ≤ length ns
  pub begun : (v : ℕ) → v < length us → level_at ls (slice_index us v) ≤ v
  pub handed : AreHandedBut ns ls cs
  pub exact : (i : ℕ) → IsLevelOf ns us (level_at ls i) i
  pub inside : AreInside (length ns) cs

-- One of the first n unknowns leads to the node, or it has a mark.
abbrev pub IsHeld : List (Option ℕ) → ℕ → List Bool → ℕ → Type 0
IsHeld ls n ms i = (level_at ls i < n) ⊎ IsMarked ms i

-- A flag for each unknown: the first n have one, and of the others those whose node is held.
pub record AreHeld (ns : List Node) (us : List ℕ) (ls : List (Option ℕ)) (n : ℕ) (ms bs : List Bool) : Type 0 where
  pub len : length bs ≡ length us
  pub first : (v : ℕ) → v < n → IsMarked bs v
  pub each : (v : ℕ) → n ≤ v → v < length us → (r : ℕ) × IsSame ns (slice_index us v) r × IsRoot ns r × (IsMarked bs v ↔ IsHeld ls n ms r)

-- what a solver keeps between two demands, with the levels
pub record IsKeptWith (u : ℕ) (g : Graph) (us : List ℕ) (ls : List (Option ℕ)) (cs : List Change) : Type 0 where
  pub kept : IsKept u g us
  pub levels : AreLevels g.nodes.items us ls cs

-- More nodes, and changes of those that were there before.
pub record Moves (ns ms : List Node) (cs : List Change) : Type 0 where
  pub len : length ns ≤ length ms
  pub outside : (i : ℕ) → i < length ns → (node_at ms i ≡ node_at ns i) ⊎ HasChange (IsChange i (node_at ns i) (node_at ms i)) cs
  pub inside : AreInside (length ms) cs
  pub narrows : (σ : Assignment finite) → Meets finite ms σ → Meets finite ns σ

-- one level more, of a node after the others
pub record BeginsLevel (ls : List (Option ℕ)) (at n : ℕ) (ms : List (Option ℕ)) : Type 0 where
  pub len : length ms ≡ at + 1
  pub here : level_at ms at ≡ n
  pub others : (i : ℕ) → i ≢ at → level_at ms i ≡ level_at ls i

-- the sum of the levels
abbrev pub levels_sum : List (Option ℕ) → ℕ
levels_sum [] = 0
levels_sum (l ∷ ls) = level_of l + levels_sum ls

-- the levels of some nodes are lowered to one; nodes whose level changed are left to do
pub record LowersLevels (ls : List (Option ℕ)) (bs : List Change) (ks : List ℕ) (a : ℕ) (ms : List (Option ℕ)) (cs : List Change) : Type 0 where
  pub len : length ms ≡ length ls
  pub reach : AreAtMost ms a ks
  pub under : (i : ℕ) → level_at ms i ≤ level_at ls i
  pub moved : (i : ℕ) → (level_at ms i ≡ level_at ls i) ⊎ ((level_at ms i ≡ a) × Stands i ks × HasChange (IsOfAll i) cs)
  pub grows : BeginsWith bs cs
  pub inside : AreInside (length ls) bs → AreInside (length ls) cs
  pub less : levels_sum ms + length cs ≤ levels_sum ls + length bs

-- the levels have been handed on: each is one of those before, of a node that fixes this one
pub record HandsLevels (ns : List Node) (ls ms : List (Option ℕ)) : Type 0 where
  pub within : length ms ≤ length ns
  pub under : (i : ℕ) → level_at ms i ≤ level_at ls i
  pub from : (i : ℕ) → (j : ℕ) × (level_at ms i ≡ level_at ls j) × IsFixedBy ns (j ∷ []) i
  pub handed : (i : ℕ) → IsHandedNode ms i (node_at ns i)

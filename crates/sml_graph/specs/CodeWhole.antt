-- What a graph of nodes keeps between two demands, and what is left of it within one.
use Rattle.std.specs.Prelude.{◌≡◌, ℕ, ◌<◌, List, length, [], ◌∷◌, None}
use Rattle.sml_graph.specs.declared.graph.Graph.{Graph}
use Rattle.sml_layers.specs.declared.layer.Layer.{Layer}
use Rattle.sml_layers.specs.declared.layer.Layer.TheVariants.{Equations, Finiteness, Newness, Locality, Equality, Classes, Rigidity}
use Rattle.sml_graph.specs.declared.limits.Limit.{Limit}
use Rattle.sml_graph.specs.declared.change.Change.{Change}
use Rattle.sml_graph.specs.declared.node.Node.{Node}
use Rattle.sml_layers.specs.Worlds.{finite}
use Rattle.sml_graph.specs.Worlds.{Assignment}
use Rattle.sml_graph.specs.Graphs.{IsSound, Meets, AreOwners}
use Rattle.sml_graph.specs.Changes.{SameOutside, AreInside}
use Rattle.sml_graph.specs.CodeRanks.{HasRank, AreFrom, AreOrdered, AreOrderedBut}
use Rattle.sml_layers.specs.Layers.{index_of}
use Rattle.sml_graph.specs.Limits.{KeepsAt, IsClosed, IsFit, IsDoneBut, SameLimits, NoneKeeps, Lowers}

-- there is room below all orders
pub record HasBottom (g : Graph) : Type 0 where
  pub from : AreFrom g.bottom g.orders.items
  pub positive : 0 < g.bottom

-- a limit and an order for each node
pub record IsFull (g : Graph) : Type 0 where
  pub limits : length g.limits ≡ length g.nodes.items
  pub orders : length g.orders.items ≡ length g.nodes.items
  pub bottom : HasBottom g

-- no node leads to itself, and the limits have been handed on and are kept
pub record IsWhole (u : ℕ) (g : Graph) : Type 0 where
  pub full : IsFull g
  pub sound : IsSound g.nodes.items
  pub rank : HasRank g.nodes.items
  pub ordered : AreOrdered g.nodes.items g.orders.items
  pub closed : IsClosed g.nodes.items g.limits
  pub fit : (l : Layer) → IsFit l u g.nodes.items g.limits

-- The same, but for what was changed.
pub record IsChanged (u : ℕ) (g : Graph) (cs : List Change) : Type 0 where
  pub full : IsFull g
  pub sound : IsSound g.nodes.items
  pub inside : AreInside (length g.nodes.items) cs
  pub before : List Node
  pub rank : HasRank before
  pub outside : SameOutside before g.nodes.items cs
  pub ordered : AreOrderedBut g.nodes.items g.orders.items cs
  pub but : IsDoneBut u g.nodes.items g.limits None cs

-- the graph has become whole, and says the same
pub record Finishes (u : ℕ) (g h : Graph) : Type 0 where
  pub whole : IsWhole u h
  pub nodes : h.nodes.items ≡ g.nodes.items
  pub limits : SameLimits u g.nodes.items g.limits h.limits

-- Some types meet the graph in the layers before this one, and none in it.
pub record FailsFirst (l : Layer) (u : ℕ) (g : Graph) : Type 0 where
  pub types : Assignment finite
  pub meets : Meets finite g.nodes.items types
  pub keeps : (k : Layer) → index_of k < index_of l → KeepsAt k u g.limits types
  pub none : NoneKeeps u g.nodes.items g.limits l

-- the first layer in which no types meet the graph
abbrev pub FailsAt : Layer → ℕ → Graph → Type 0
FailsAt Equations u g = ⊥
FailsAt Finiteness u g = HasRank g.nodes.items → ⊥
FailsAt Newness u g = FailsFirst Newness u g
FailsAt Locality u g = FailsFirst Locality u g
FailsAt Equality u g = FailsFirst Equality u g
FailsAt Classes u g = FailsFirst Classes u g
FailsAt Rigidity u g = FailsFirst Rigidity u g

-- only the limit of one node is lowered
pub record LowersLimit (g : Graph) (r : ℕ) (a : Limit) (h : Graph) (cs : List Change) : Type 0 where
  pub nodes : h.nodes.items ≡ g.nodes.items
  pub lowers : Lowers g.limits [] (r ∷ []) a h.limits cs
  pub orders : h.orders.items ≡ g.orders.items
  pub bottom : h.bottom ≡ g.bottom

-- what a solver keeps between two demands
pub record IsKept (u : ℕ) (g : Graph) (us : List ℕ) : Type 0 where
  pub whole : IsWhole u g
  pub owners : AreOwners g.nodes.items us

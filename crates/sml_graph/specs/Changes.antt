-- Changes of nodes.
use Rattle.std.specs.Prelude.{◌≡◌, ℕ, ◌+◌, ◌<◌, ◌≤◌, ◌⊎◌, List, [], ◌∷◌, ◌++◌, length, take}
use Rattle.std.specs.List.{AllByRecursion}
use Rattle.sml_graph.specs.declared.change.Change.{Change}
use Rattle.sml_graph.specs.declared.node.Node.{Node}
use Rattle.sml_graph.specs.declared.node.Node.TheVariants.{Unknown, Link, App, Open}
use Rattle.sml_graph.specs.Graphs.{node_at, parts}

-- one of the changes is so
abbrev pub HasChange : (Change → Type 0) → List Change → Type 0
HasChange P [] = ⊥
HasChange P (c ∷ cs) = P c ⊎ HasChange P cs

-- the second list is the first, and perhaps more
abbrev pub BeginsWith : {X : Type 0} → List X → List X → Type 0
BeginsWith {X} xs ys = (more : List X) × (ys ≡ xs ++ more)

abbrev pub IsOpenRow : Node → Type 0
IsOpenRow Unknown = ⊥
IsOpenRow (Link j) = ⊥
IsOpenRow (App h kids) = ⊥
IsOpenRow (Open fs) = Unit {0}

-- two nodes are one, or both are open rows
abbrev pub IsAlike : Node → Node → Type 0
IsAlike a b = (b ≡ a) ⊎ (IsOpenRow a × IsOpenRow b)

-- the first parts of a node, so many, are also those of the node that it became
abbrev pub KeepsFirst : ℕ → Node → Node → Type 0
KeepsFirst n a b = (n ≡ 0) ⊎ (IsAlike a b × (take n (parts b) ≡ take n (parts a)))

-- a node became another one, and kept the parts before the change
abbrev pub IsChange : ℕ → Node → Node → Change → Type 0
IsChange i a b c = (c.node ≡ i) × KeepsFirst c.from a b

-- all parts of the node may be new
abbrev pub IsOfAll : ℕ → Change → Type 0
IsOfAll i c = (c.node ≡ i) × (c.from ≡ 0)

-- all nodes are as they were, but for the changes
abbrev pub SameOutside : List Node → List Node → List Change → Type 0
SameOutside ns ms cs = (i : ℕ) → (node_at ms i ≡ node_at ns i) ⊎ HasChange (IsChange i (node_at ns i) (node_at ms i)) cs

abbrev pub AreInside : ℕ → List Change → Type 0
AreInside n cs = AllByRecursion (λ c. c.node < n) cs

-- the second change is one of the same node, from the same place on or an earlier one
abbrev pub IsNoLater : Change → Change → Type 0
IsNoLater c d = (d.node ≡ c.node) × (d.from ≤ c.from)

-- each change of the first list is covered by one of the second
abbrev pub AreCovered : List Change → List Change → Type 0
AreCovered bs cs = AllByRecursion (λ b. HasChange (IsNoLater b) cs) bs

-- each change is of a later node than those before it
abbrev pub NodesRise : List Change → Type 0
NodesRise [] = Unit {0}
NodesRise (c ∷ cs) = AllByRecursion (λ d. c.node < d.node) cs × NodesRise cs

-- A change is added to others: these and it are covered. Where the others' nodes rise up to its node, so do those of all.
pub record AddsChange (bs : List Change) (c : Change) (cs : List Change) : Type 0 where
  pub covers : AreCovered bs cs
  pub new : HasChange (IsNoLater c) cs
  pub inside : (n : ℕ) → AreInside n bs → c.node < n → AreInside n cs
  pub rise : NodesRise bs → AreInside (c.node + 1) bs → NodesRise cs

-- a vector and the changes in it
pub record Changes (ns : List Node) (bs : List Change) (ms : List Node) (cs : List Change) : Type 0 where
  pub others : SameOutside ns ms cs
  pub covers : AreCovered bs cs
  pub inside : AreInside (length ns) bs → AreInside (length ns) cs

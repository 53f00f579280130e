-- Whether finite types meet the nodes, and orders of nodes, which show it.
use Rattle.std.specs.Prelude.{◌≡◌, ℕ, suc, ◌+◌, ◌<◌, ◌≤◌, ◌⊎◌, List, [], ◌∷◌, length, take, drop, slice_index, slice_index_or, cond, nat_lt, ◌-◌}
use Rattle.std.specs.List.{AllByRecursion}
use Rattle.sml_objects.specs.Appearance.{Stands}
use Rattle.sml_graph.specs.declared.finite.Visit.{Visit}
use Rattle.sml_graph.specs.declared.change.Change.{Change}
use Rattle.sml_graph.specs.declared.node.Node.{Node}
use Rattle.sml_layers.specs.Worlds.{finite}
use Rattle.sml_graph.specs.Worlds.{Assignment}
use Rattle.sml_graph.specs.Graphs.{node_at, parts, Meets}
use Rattle.sml_graph.specs.Changes.{HasChange}

abbrev pub HasFinite : List Node → Type 0
HasFinite ns = (σ : Assignment finite) × Meets finite ns σ

-- each node's parts are below it
abbrev pub IsRanked : List Node → (ℕ → ℕ) → Type 0
IsRanked ns r = (i : ℕ) → AllByRecursion (λ k. r k < r i) (parts (node_at ns i))

pub record HasRank (ns : List Node) : Type 0 where
  pub rank : ℕ → ℕ
  pub ranked : IsRanked ns rank

-- stands for the order of a node that has none
abbrev pub no_order : ℕ
no_order = 0xffff_ffff_ffff_ffff

abbrev pub order_at : List ℕ → ℕ → ℕ
order_at os i = slice_index_or os i no_order

-- the number is above the orders of the node's parts
abbrev pub IsAbove : List ℕ → Node → ℕ → Type 0
IsAbove os x n = AllByRecursion (λ k. order_at os k < n) (parts x)

-- these nodes have orders, which are below the node's
abbrev pub AreBelow : List ℕ → ℕ → List ℕ → Type 0
AreBelow os i ks = AllByRecursion (λ k. (0 < order_at os k) × (order_at os k < order_at os i)) ks

-- so are the node's parts
abbrev pub IsOrdered : List Node → List ℕ → ℕ → Type 0
IsOrdered ns os i = AreBelow os i (parts (node_at ns i))

-- so are those of each node that has an order
abbrev pub AreOrdered : List Node → List ℕ → Type 0
AreOrdered ns os = (i : ℕ) → order_at os i < no_order → IsOrdered ns os i

-- the node's first parts, before the change, are below it
abbrev pub IsOrderedTo : List Node → List ℕ → ℕ → Change → Type 0
IsOrderedTo ns os i c = (c.node ≡ i) × AreBelow os i (take c.from (parts (node_at ns i)))

-- the same, but for what was changed
abbrev pub AreOrderedBut : List Node → List ℕ → List Change → Type 0
AreOrderedBut ns os cs = (i : ℕ) → order_at os i < no_order → IsOrdered ns os i ⊎ HasChange (IsOrderedTo ns os i) cs

-- the same, but for parts that are some of these
abbrev pub AreOrderedBeside : List Node → List ℕ → List ℕ → Type 0
AreOrderedBeside ns os is =
    (i : ℕ) → order_at os i < no_order → AllByRecursion (λ k. ((0 < order_at os k) × (order_at os k < order_at os i)) ⊎ Stands k is) (parts (node_at ns i))

-- those of some parts that aren't below an order are added to others
pub record FindsUnordered (os : List ℕ) (ks : List ℕ) (n : ℕ) (is js : List ℕ) : Type 0 where
  pub grows : (i : ℕ) → Stands i is → Stands i js
  pub inside : AllByRecursion (λ i. i < length os) is → AllByRecursion (λ i. i < length os) js
  pub found : AllByRecursion (λ k. (order_at os k < n) ⊎ Stands k js) ks

-- the new parts of what was changed are below their nodes, but for those that are some of these
abbrev pub IsFoundIn : List Node → List ℕ → List ℕ → Change → Type 0
IsFoundIn ns os is c = AllByRecursion (λ k. (order_at os k < order_at os c.node) ⊎ Stands k is) (drop c.from (parts (node_at ns c.node)))

-- all orders are at or above the bottom
abbrev pub AreFrom : ℕ → List ℕ → Type 0
AreFrom b os = (i : ℕ) → b ≤ order_at os i

-- the order is below the limit of a search; 0 stands for that of a node that is being visited
abbrev pub IsDone : ℕ → ℕ → Type 0
IsDone e n = (0 < n) × (n < e)

-- each part that a visit has passed is done
abbrev pub IsVisit : List Node → ℕ → List ℕ → Visit → Type 0
IsVisit ns e os v =
    (v.node < length ns) × (v.next ≤ length (parts (node_at ns v.node))) × (order_at os v.node ≡ 0)
    × ((x : ℕ) → x < v.next → IsDone e (order_at os (slice_index (parts (node_at ns v.node)) x)))

-- each visit's node is below those of the visits before it
abbrev pub IsFalling : (ℕ → ℕ) → List Visit → Type 0
IsFalling r [] = Unit {0}
IsFalling r (v ∷ vs) = AllByRecursion (λ (u : Visit). r u.node < r v.node) vs × IsFalling r vs

abbrev pub IsVisited : ℕ → List Visit → Type 0
IsVisited i [] = ⊥
IsVisited i (v ∷ vs) = (i ≡ v.node) ⊎ IsVisited i vs

-- no node is visited twice
abbrev pub IsApart : List Visit → Type 0
IsApart [] = Unit {0}
IsApart (v ∷ vs) = (IsVisited v.node vs → ⊥) × IsApart vs

-- A search that gives orders below e.
pub record IsSearch (ns : List Node) (e : ℕ) (os : List ℕ) (vs : List Visit) : Type 0 where
  pub len : length os ≡ length ns
  pub positive : 0 < e
  pub begun : (i : ℕ) → order_at os i ≡ 0 → IsVisited i vs
  pub visits : AllByRecursion (IsVisit ns e os) vs
  pub apart : IsApart vs
  pub falls : (r : ℕ → ℕ) → IsRanked ns r → IsFalling r vs

-- the node has an order from the lowest on and below the limit, which is above those of its parts
abbrev pub IsGiven : List Node → ℕ → ℕ → List ℕ → ℕ → Type 0
IsGiven ns low e os i = (low ≤ order_at os i) × (order_at os i < e) × IsOrdered ns os i

-- A search has given some nodes their orders, and changed no order below the limit.
pub record Gives (ns : List Node) (low e : ℕ) (os ps : List ℕ) : Type 0 where
  pub keeps : (i : ℕ) → IsDone e (order_at os i) → order_at ps i ≡ order_at os i
  pub given : (i : ℕ) → 0 < order_at ps i → (order_at ps i ≡ order_at os i) ⊎ IsGiven ns low e ps i

-- how much of a search is left: the nodes that are new to it, with their parts, and the rest of each visit
abbrev pub fresh_weight : ℕ → List Node → List ℕ → ℕ
fresh_weight e [] os = 0
fresh_weight e (n ∷ ns) [] = 0
fresh_weight e (n ∷ ns) (m ∷ os) = cond (nat_lt m e) 0 (length (parts n) + 2) + fresh_weight e ns os

abbrev pub visit_weight : List Node → List Visit → ℕ
visit_weight ns [] = 0
visit_weight ns (v ∷ vs) = suc (length (parts (node_at ns v.node)) - v.next) + visit_weight ns vs

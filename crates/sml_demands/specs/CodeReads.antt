-- Types that are read back from nodes.
use Rattle.std.specs.Prelude.{◌≡◌, ℕ, suc, ◌+◌, ◌<◌, ◌≤◌, List, [], ◌∷◌, length, map, take, drop, reverse}
use Rattle.std.specs.List.{sum_by, AllByRecursion}
use Rattle.std.specs.Global.{Global}
use Rattle.std.specs.declared.rc.Rc.{Rc}
use Rattle.sml_objects.specs.Initial.{Name}
use Rattle.sml_objects.specs.Objects as O
use Rattle.sml_objects.specs.Sizes.{type_size}
use Rattle.sml_objects.specs.Types.{assign}
use Rattle.sml_objects.specs.Views.{type_of}
use Rattle.sml_objects.specs.declared.objects.MlType.{MlType}
use Rattle.smallvec.specs.SmallVec.{SmallVec}
use Rattle.sml_graph.specs.declared.node.Head.{Head}
use Rattle.sml_graph.specs.declared.node.Node.{Node}
use Rattle.sml_graph.specs.declared.node.Node.TheVariants.{App}
use Rattle.sml_demands.specs.declared.reading.Task.{Task}
use Rattle.sml_demands.specs.declared.reading.Task.TheVariants.{Read, Apply}
use Rattle.sml_layers.specs.Worlds.{finite, make}
use Rattle.sml_graph.specs.Worlds.{Assignment}
use Rattle.sml_graph.specs.Graphs.{head_over, node_at, Meets, IsSame, IsCountOf, IsLoose}
use Rattle.sml_graph.specs.Interned.{through, sizes}
use Rattle.sml_schemes.specs.Left.{IsMadeOf}

-- the type of a node, over the unknowns whose places say nothing
pub record IsTypeAt (ns : List Node) (us : List ℕ) (at limit : ℕ) (t : O.MlType Name) : Type 0 where
  pub over : IsMadeOf (IsLoose ns us) t
  pub same : (τ : Assignment finite) → Meets finite ns τ → assign (through finite us τ) t ≡ τ at
  pub small : type_size t ≤ limit

-- the types on a stack, the topmost first
abbrev pub stacked : List (Rc MlType Global) → List (O.MlType Name)
stacked ts = reverse (map (λ t. type_of t.value) ts)

-- What is left to do with the types on the stack gives the type of one node. What is done next comes first.
abbrev pub Gives : Assignment finite → ℕ → List Task → List (O.MlType Name) → Type 0
Gives τ at [] ts = ts ≡ τ at ∷ []
Gives τ at (Read i ∷ ks) ts = Gives τ at ks (τ i ∷ ts)
Gives τ at (Apply h n ∷ ks) ts = (n ≤ length ts) × Gives τ at ks (make finite (head_over h n) (take n ts) ∷ drop n ts)

-- how many heads are left to apply
abbrev pub heads : List Task → ℕ
heads [] = 0
heads (Read i ∷ ks) = heads ks
heads (Apply h n ∷ ks) = suc (heads ks)

-- A size for each node: nodes of one type have one size, and that of a head is greater than those of its parts together.
pub record AreSizes (ns : List Node) (size : ℕ → ℕ) : Type 0 where
  pub same : (i j : ℕ) → IsSame ns i j → size i ≡ size j
  pub some : (i : ℕ) → 0 < size i
  pub parts : (i : ℕ) (h : Head) (kids : SmallVec ℕ) → node_at ns i ≡ App h kids → sum_by size kids.items < size i

-- the sizes of the nodes that are left to read
abbrev pub unread : (ℕ → ℕ) → List Task → ℕ
unread size [] = 0
unread size (Read i ∷ ks) = size i + unread size ks
unread size (Apply h n ∷ ks) = unread size ks

abbrev pub IsTaskIn : ℕ → Task → Type 0
IsTaskIn n (Read i) = i < n
IsTaskIn n (Apply h k) = IsCountOf h k

-- the way to the type of a node: so many nodes were read
pub record IsReadingOn (ns : List Node) (us : List ℕ) (at size : ℕ) (ks : List Task) (ts : List (O.MlType Name)) : Type 0 where
  pub gives : (τ : Assignment finite) → Meets finite ns τ → Gives τ at ks (map (assign (through finite us τ)) ts)
  pub over : AllByRecursion (IsMadeOf (IsLoose ns us)) ts
  pub inside : AllByRecursion (IsTaskIn (length ns)) ks
  pub sized : sizes ts + heads ks ≡ size
  pub less : (f : ℕ → ℕ) → AreSizes ns f → size + unread f ks ≤ f at

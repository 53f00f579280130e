-- Nodes for a type.
use Rattle.std.specs.Prelude.{◌≡◌, ℕ, zero, suc, ◌+◌, ◌<◌, ◌≤◌, ◌↔◌, ◌⊎◌, Vec, List, [], ◌∷◌, ◌++◌, length, map, slice_index, slice_index_or}
use Rattle.std.specs.List.{AllByRecursion}
use Rattle.std.specs.Global.{Box, Global}
use Rattle.std.specs.declared.rc.Rc.{Rc}
use Rattle.sml_tree.specs.Trees.{Id}
use denote.Ref.{Bor}
use Rattle.smallvec.specs.SmallVec.{SmallVec}
use Rattle.sml_objects.specs.Initial.{Name}
use Rattle.sml_objects.specs.Objects as O
use Rattle.sml_objects.specs.Objects.{types_of}
use Rattle.sml_objects.specs.Views.{type_of, entries_of}
use Rattle.sml_objects.specs.declared.objects.MlType.{MlType}
use Rattle.sml_graph.specs.declared.node.Head.{Head}
use Rattle.sml_graph.specs.declared.node.Node.{Node}
use Rattle.sml_graph.specs.declared.node.Node.TheVariants.{Link, App, Open}
use Rattle.sml_graph.specs.declared.fields.Fields.{Fields}
use Rattle.sml_layers.specs.Worlds.{World, typed}
use Rattle.sml_graph.specs.Worlds.{In, Assignment}
use Rattle.sml_layers.specs.Rows.{fields_at}
use Rattle.sml_graph.specs.Rows.{HasFields, kids_of}
use Rattle.sml_graph.specs.Graphs.{Meets, MeetsPairs, ArePairsIn, IsSound, IsSoundNode, IsCountOf, IsKnown, fields_of, node_at, head_over}
use Rattle.sml_objects.specs.Sizes.{type_size}

-- No variable of the type is bound by a scheme, and each is one of the first n unknowns.
unfoldable mutual
  pub IsOver : ℕ → O.MlType Name → Type 0
  IsOver n (O.bound k) = ⊥
  IsOver n (O.free v) = v < n
  IsOver n (O.app h ts) = AreOver n ts

  pub AreOver : ℕ → O.MlTypes Name → Type 0
  AreOver n O.no_type = Unit {0}
  AreOver n (O.and_type t ts) = IsOver n t × AreOver n ts

-- The variables of the type that a scheme binds are among b variables, and all others are among the first n unknowns.
unfoldable mutual
  pub IsBodyOver : ℕ → ℕ → O.MlType Name → Type 0
  IsBodyOver b n (O.bound k) = k < b
  IsBodyOver b n (O.free v) = v < n
  IsBodyOver b n (O.app h ts) = AreBodiesOver b n ts

  pub AreBodiesOver : ℕ → ℕ → O.MlTypes Name → Type 0
  AreBodiesOver b n O.no_type = Unit {0}
  AreBodiesOver b n (O.and_type t ts) = IsBodyOver b n t × AreBodiesOver b n ts

-- the types of the unknowns that have these nodes
abbrev pub through : (w : World) → List ℕ → Assignment w → Assignment w
through w us τ u = τ (slice_index us u)

-- ms is ns with nodes for a type more, of which r has the type
pub record Interns (ns : List Node) (us : List ℕ) (t : O.MlType Name) (ms : List Node) (r : ℕ) : Type 0 where
  pub len : length ns ≤ length ms
  pub inside : r < length ms
  pub sound : IsSound ms
  pub before : (i : ℕ) → i < length ns → node_at ms i ≡ node_at ns i
  pub filled : (i : ℕ) → length ns ≤ i → i < length ms → IsKnown (node_at ms i)
  pub back : (w : World) (τ : Assignment w) → Meets w ms τ → Meets w ns τ × (τ r ≡ typed w (through w us τ) t)
  pub forth : (w : World) (τ : Assignment w) → Meets w ns τ → (υ : Assignment w) × Meets w ms υ × ((i : ℕ) → i < length ns → υ i ≡ τ i)

-- ms is ns with nodes more for the types of some fields. fs has the labels with these nodes; where a label stands twice, its
-- nodes are a pair left to solve.
pub record InternsFields (ns : List Node) (us : List ℕ) (rs : List (Id × O.MlType Name)) (ms : List Node) (fs : List (Id × ℕ)) (ps : List (ℕ × ℕ)) : Type 0 where
  pub len : length ns ≤ length ms
  pub inside : AllByRecursion (λ k. k < length ms) (kids_of fs)
  pub pairs : ArePairsIn (length ms) ps
  pub sound : IsSound ms
  pub before : (i : ℕ) → i < length ns → node_at ms i ≡ node_at ns i
  pub filled : (i : ℕ) → length ns ≤ i → i < length ms → IsKnown (node_at ms i)
  pub back : (w : World) (τ : Assignment w) → Meets w ms τ → Meets w ns τ
  pub same : (w : World) (τ : Assignment w) (t : In w) → Meets w ms τ
      → (HasFields w t (fields_at τ fs) × MeetsPairs w ps τ) ↔ HasFields w t (fields_at (typed w (through w us τ)) rs)
  pub forth : (w : World) (τ : Assignment w) → Meets w ns τ → (υ : Assignment w) × Meets w ms υ × ((i : ℕ) → i < length ns → υ i ≡ τ i)

-- one node more, of a row with these fields
pub record IsPushed (ns : List Node) (fs : List (Id × ℕ)) (ms : List Node) : Type 0 where
  pub row : Box Fields
  pub fields : fields_of row.value ≡ fs
  pub nodes : ms ≡ ns ++ Open row ∷ []

-- the type is a row that has the fields, where these nodes have their types
abbrev pub IsRowWith : (w : World) → List ℕ → Assignment w → O.MlType Name → List (Id × O.MlType Name) → Type 0
IsRowWith w us τ t rs = HasFields w (typed w (through w us τ) t) (fields_at (typed w (through w us τ)) rs)

-- ms says what ns does, and that a type is a row that has some fields
pub record AsksRow (ns : List Node) (us : List ℕ) (t : O.MlType Name) (rs : List (Id × O.MlType Name)) (ms : List Node) : Type 0 where
  pub back : (w : World) (τ : Assignment w) → Meets w ms τ → Meets w ns τ × IsRowWith w us τ t rs
  pub forth : (w : World) (τ : Assignment w) → Meets w ns τ → IsRowWith w us τ t rs
      → (υ : Assignment w) × Meets w ms υ × ((i : ℕ) → i < length ns → υ i ≡ τ i)

-- the labels and the types of some fields
abbrev pub demanded : List (Rc (Vec ℕ Global) Global × Rc MlType Global) → List (Id × O.MlType Name)
demanded fs = entries_of (λ t. type_of t.value) fs

-- the types after these references
abbrev pub seen : List (Bor MlType) → List (O.MlType Name)
seen ts = map (λ t. type_of t.now) ts

abbrev pub sizes : List (O.MlType Name) → ℕ
sizes [] = 0
sizes (t ∷ ts) = type_size t + sizes ts

-- k, the number after it and so on: n numbers
abbrev pub numbers : ℕ → ℕ → List ℕ
numbers k zero = []
numbers k (suc n) = k ∷ numbers (suc k) n

-- a node for a type, where the nodes of its parts are to come from k on; ts has the parts after those of ss
pub record IsHeadOver (t : O.MlType Name) (k : ℕ) (n : Node) (ss ts : List (O.MlType Name)) : Type 0 where
  pub head : Head
  pub kids : SmallVec ℕ
  pub more : List (O.MlType Name)
  pub type : t ≡ O.app (head_over head (length more)) (types_of more)
  pub node : n ≡ App head kids
  pub places : kids.items ≡ numbers k (length more)
  pub count : IsCountOf head (length more)
  pub rest : ts ≡ ss ++ more

pub record IsUnknownAt (t : O.MlType Name) (us : List ℕ) (n : Node) (ss ts : List (O.MlType Name)) : Type 0 where
  pub unknown : ℕ
  pub known : unknown < length us
  pub type : t ≡ O.free unknown
  pub node : n ≡ Link (slice_index us unknown)
  pub rest : ts ≡ ss

abbrev pub Expands : O.MlType Name → List ℕ → ℕ → Node → List (O.MlType Name) → List (O.MlType Name) → Type 0
Expands t us k n ss ts = IsUnknownAt t us n ss ts ⊎ IsHeadOver t k n ss ts

-- The way to nodes for a type: ms has, after ns, nodes for the first k of the types; the rest are to come.
pub record IsInterning (ns : List Node) (us : List ℕ) (t : O.MlType Name) (ms : List Node) (ts : List (O.MlType Name)) (k : ℕ) : Type 0 where
  pub place : length ms ≡ length ns + k
  pub known : k ≤ length ts
  pub first : 0 < length ts
  pub over : AllByRecursion (IsOver (length us)) ts
  pub sound : (i : ℕ) → IsSoundNode (length ns + length ts) i (node_at ms i)
  pub before : (i : ℕ) → i < length ns → node_at ms i ≡ node_at ns i
  pub filled : (i : ℕ) → length ns ≤ i → i < length ms → IsKnown (node_at ms i)
  pub back : (w : World) (τ : Assignment w) → Meets w ms τ
      → ((j : ℕ) → k ≤ j → j < length ts → τ (length ns + j) ≡ typed w (through w us τ) (slice_index_or ts j (O.free 0)))
      → Meets w ns τ × (τ (length ns) ≡ typed w (through w us τ) t)
  pub forth : (w : World) (τ : Assignment w) → Meets w ns τ
      → (υ : Assignment w) × Meets w ms υ × ((i : ℕ) → i < length ns → υ i ≡ τ i)
      × ((j : ℕ) → j < length ts → υ (length ns + j) ≡ typed w (through w us τ) (slice_index_or ts j (O.free 0)))

-- What a vector of nodes says of the types of its nodes.
use Rattle.std.specs.Prelude.{◌≡◌, ℕ, ◌+◌, ◌<◌, ◌≤◌, ◌↔◌, ◌⊎◌, ◌^◌, List, [], ◌∷◌, ◌++◌, length, map, Some, None, slice_index, slice_index_or}
use Rattle.std.specs.List.{sum_by, AllByRecursion}
use Rattle.sml_tree.specs.Trees.{Id}
use Rattle.sml_objects.specs.Initial.{Name}
use Rattle.sml_objects.specs.Objects as O
use Rattle.sml_objects.specs.Labels.{with_labels}
use Rattle.sml_objects.specs.Maps.{lookup}
use Rattle.sml_objects.specs.Views.{name_of, label_list}
use Rattle.sml_graph.specs.declared.fields.Fields.{Fields}
use Rattle.sml_graph.specs.declared.node.Head.{Head}
use Rattle.sml_graph.specs.declared.node.Head.TheVariants.{Arrow, Row, Name as Applied}
use Rattle.sml_graph.specs.declared.node.Node.{Node}
use Rattle.sml_graph.specs.declared.node.Node.TheVariants.{Unknown, Link, App, Open}
use Rattle.sml_layers.specs.Worlds.{World, make}
use Rattle.sml_graph.specs.Worlds.{In, Assignment}
use Rattle.sml_layers.specs.Rows.{fields_at}
use Rattle.sml_graph.specs.Rows.{HasFields, IsField, field_list, kids_of}

-- the head over so many parts
abbrev pub head_over : Head → ℕ → O.Head Name
head_over Arrow n = O.arrow
head_over (Row ls) n = O.row (label_list ls.value)
head_over (Applied m) n = O.name (name_of m)

-- what stands at the place
abbrev pub node_at : List Node → ℕ → Node
node_at ns i = slice_index_or ns i Unknown

-- the labels of an open row, each with the node of its field
abbrev pub fields_of : Fields → List (Id × ℕ)
fields_of fs = field_list fs.map.entries

abbrev pub Agrees : (w : World) → Assignment w → ℕ → Node → Type 0
Agrees w σ i Unknown = Unit {0}
Agrees w σ i (Link j) = σ i ≡ σ j
Agrees w σ i (App h kids) = σ i ≡ make w (head_over h (length kids.items)) (map σ kids.items)
Agrees w σ i (Open fs) = HasFields w (σ i) (fields_at σ (fields_of fs.value))

-- types of the nodes that meet what each node says
abbrev pub Meets : (w : World) → List Node → Assignment w → Type 0
Meets w ns σ = (i : ℕ) → Agrees w σ i (node_at ns i)

-- each pair gets one type
abbrev pub MeetsPairs : (w : World) → List (ℕ × ℕ) → Assignment w → Type 0
MeetsPairs w [] σ = Unit {0}
MeetsPairs w (p ∷ ps) σ = (σ p.0 ≡ σ p.1) × MeetsPairs w ps σ

abbrev pub pairs_of : List ℕ → List ℕ → List (ℕ × ℕ)
pairs_of [] ys = []
pairs_of (x ∷ xs) [] = []
pairs_of (x ∷ xs) (y ∷ ys) = (x, y) ∷ pairs_of xs ys

-- an arrow has two parts
abbrev pub IsCountOf : Head → ℕ → Type 0
IsCountOf Arrow n = n ≡ 2
IsCountOf (Row ls) n = Unit {0}
IsCountOf (Applied m) n = Unit {0}

-- links lead down, and parts stand in the vector
abbrev pub IsSoundNode : ℕ → ℕ → Node → Type 0
IsSoundNode n i Unknown = Unit {0}
IsSoundNode n i (Link j) = j < i
IsSoundNode n i (App h kids) = AllByRecursion (λ k. k < n) kids.items × IsCountOf h (length kids.items)
IsSoundNode n i (Open fs) = AllByRecursion (λ k. k < n) (kids_of (fields_of fs.value))

abbrev pub IsSound : List Node → Type 0
IsSound ns = (i : ℕ) → IsSoundNode (length ns) i (node_at ns i)

-- the node has the type of another, or a head
abbrev pub IsKnown : Node → Type 0
IsKnown Unknown = ⊥
IsKnown (Link j) = Unit {0}
IsKnown (App h kids) = Unit {0}
IsKnown (Open fs) = ⊥

abbrev pub IsRootNode : Node → Type 0
IsRootNode Unknown = Unit {0}
IsRootNode (Link j) = ⊥
IsRootNode (App h kids) = Unit {0}
IsRootNode (Open fs) = Unit {0}

abbrev pub IsRoot : List Node → ℕ → Type 0
IsRoot ns i = IsRootNode (node_at ns i)

-- the two have one type in every assignment that meets the nodes
abbrev pub IsSame : List Node → ℕ → ℕ → Type 0
IsSame ns i j = (w : World) (σ : Assignment w) → Meets w ns σ → σ i ≡ σ j

abbrev pub IsPairIn : ℕ → ℕ × ℕ → Type 0
IsPairIn n p = (p.0 < n) × (p.1 < n)

abbrev pub ArePairsIn : ℕ → List (ℕ × ℕ) → Type 0
ArePairsIn n ps = AllByRecursion (IsPairIn n) ps

-- The places of the unknowns rise, and each place that isn't known is one of them.
pub record AreOwners (ns : List Node) (us : List ℕ) : Type 0 where
  pub inside : AllByRecursion (λ i. i < length ns) us
  pub rising : (v w : ℕ) → v < w → w < length us → slice_index us v < slice_index us w
  pub owned : (i : ℕ) → i < length ns → (IsKnown (node_at ns i) → ⊥) → (v : ℕ) × (v < length us) × (slice_index us v ≡ i)
  pub few : length us ≤ 2 ^ 32

-- the unknown's place isn't known
abbrev pub IsLoose : List Node → List ℕ → ℕ → Type 0
IsLoose ns us v = (v < length us) × (IsKnown (node_at ns (slice_index us v)) → ⊥)

-- the nodes that a node speaks of
abbrev pub parts : Node → List ℕ
parts Unknown = []
parts (Link j) = j ∷ []
parts (App h kids) = kids.items
parts (Open fs) = kids_of (fields_of fs.value)

-- the number of parts
abbrev pub size : Node → ℕ
size Unknown = 0
size (Link j) = 0
size (App h kids) = length kids.items
size (Open fs) = length (fields_of fs.value)

abbrev pub weight : List Node → ℕ
weight ns = sum_by size ns

-- nodes and pairs left to solve have the solutions of others
abbrev pub SameSolutions : List Node → List (ℕ × ℕ) → List Node → List (ℕ × ℕ) → Type 0
SameSolutions ns ps ms qs = (w : World) (σ : Assignment w) → (Meets w ns σ × MeetsPairs w ps σ) ↔ (Meets w ms σ × MeetsPairs w qs σ)

-- no assignment, of finite or infinite types, meets them
abbrev pub HasNoSolution : List Node → List (ℕ × ℕ) → Type 0
HasNoSolution ns ps = (w : World) (σ : Assignment w) → Meets w ns σ → MeetsPairs w ps σ → ⊥

-- what a step of merging keeps
pub record Merges (ns : List Node) (ps : List (ℕ × ℕ)) (high low : ℕ) (ms : List Node) (qs : List (ℕ × ℕ)) : Type 0 where
  pub len : length ms ≡ length ns
  pub sound : IsSound ms
  pub inside : ArePairsIn (length ms) qs
  pub less : weight ms + length qs ≤ weight ns + length ps
  pub same : SameSolutions ns ((high, low) ∷ ps) ms qs

-- no type is what both nodes say
abbrev pub AreApart : Node → Node → Type 0
AreApart a b = (w : World) (σ : Assignment w) (i : ℕ) → Agrees w σ i a → Agrees w σ i b → ⊥

-- One node says what two say, where each pair that is left to solve besides gets one type.
pub record Joins (a b c : Node) (ps qs : List (ℕ × ℕ)) : Type 0 where
  pub more : List (ℕ × ℕ)
  pub pairs : qs ≡ ps ++ more
  pub less : size c + length more ≤ size a + size b
  pub sound : (n i j k : ℕ) → IsSoundNode n i a → IsSoundNode n j b → IsSoundNode n k c × ArePairsIn n more
  pub same : (w : World) (σ : Assignment w) (i : ℕ) → (Agrees w σ i a × Agrees w σ i b) ↔ (Agrees w σ i c × MeetsPairs w more σ)

-- The same of fields: rows that have the fields of two lists have those of a third one, where each pair gets one type.
pub record JoinsFields (fs gs hs : List (Id × ℕ)) (ps qs : List (ℕ × ℕ)) : Type 0 where
  pub more : List (ℕ × ℕ)
  pub pairs : qs ≡ ps ++ more
  pub less : length hs + length more ≤ length fs + length gs
  pub sound : (n : ℕ) → AllByRecursion (λ k. k < n) (kids_of fs) → AllByRecursion (λ k. k < n) (kids_of gs) → AllByRecursion (λ k. k < n) (kids_of hs) × ArePairsIn n more
  pub same : (w : World) (σ : Assignment w) (t : In w)
      → (HasFields w t (fields_at σ fs) × HasFields w t (fields_at σ gs)) ↔ (HasFields w t (fields_at σ hs) × MeetsPairs w more σ)

-- rows of these labels and parts have the fields where each pair gets one type
pub record JoinsRow (fs : List (Id × ℕ)) (ls : List Id) (kids : List ℕ) (ps qs : List (ℕ × ℕ)) : Type 0 where
  pub more : List (ℕ × ℕ)
  pub pairs : qs ≡ ps ++ more
  pub less : length more ≤ length fs
  pub sound : (n : ℕ) → AllByRecursion (λ k. k < n) (kids_of fs) → AllByRecursion (λ k. k < n) kids → ArePairsIn n more
  pub same : (w : World) (σ : Assignment w) → AllByRecursion (λ f. lookup f.0 (with_labels ls (map σ kids)) ≡ Some f.1) (fields_at σ fs) ↔ MeetsPairs w more σ

-- a field's label is none of these
pub record LacksLabel (fs : List (Id × ℕ)) (ls : List Id) (kids : List ℕ) : Type 0 where
  pub label : Id
  pub kid : ℕ
  pub field : IsField label kid fs
  pub none : lookup label (with_labels ls kids) ≡ None

-- only links were led on
pub record Leads (ns ms : List Node) : Type 0 where
  pub len : length ms ≡ length ns
  pub sound : IsSound ms
  pub weight : weight ms ≡ weight ns
  pub roots : (i : ℕ) → IsRoot ns i → node_at ms i ≡ node_at ns i
  pub same : (w : World) (σ : Assignment w) → Meets w ns σ ↔ Meets w ms σ

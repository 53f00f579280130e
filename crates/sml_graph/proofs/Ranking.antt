-- Finite types for the nodes.
use Rattle.std.proofs.Common.{◌≡◌, ℕ, zero, suc, ◌+◌, ◌*◌, ◌<◌, ◌≤◌, List, [], ◌∷◌, length, map, Option, Some, Bool, sym, ◌∙◌, ap, subst, refl, arith}
use Rattle.std.proofs.Math.Nat.{mul-le-mul_left}
use Rattle.std.specs.List.{AllByRecursion}
use Rattle.sml_objects.specs.Names.{int}
use Rattle.std.specs.Global.{Box}
use Rattle.sml_tree.specs.Trees.{Id}
use Rattle.sml_objects.specs.Maps.{lookup}
use Rattle.sml_objects.specs.Initial.{Name, initial, made}
use Rattle.sml_objects.specs.Objects as O
use Rattle.sml_objects.specs.Sizes.{type_size, types_size}
use Rattle.sml_objects.specs.Objects.{types_of}
use Rattle.sml_layers.specs.declared.layer.Layer.{Layer}
use Rattle.sml_layers.specs.declared.layer.Layer.TheVariants.{Rigidity}
use Rattle.sml_graph.specs.declared.limits.Limit.{Limit}
use Rattle.sml_graph.specs.declared.node.Node.{Node}
use Rattle.sml_graph.specs.declared.node.Node.TheVariants.{Unknown, Link, App, Open}
use Rattle.sml_layers.specs.Worlds.{finite, make}
use Rattle.sml_graph.specs.Worlds.{Assignment}
use Rattle.sml_graph.specs.Graphs.{node_at, parts, head_over, fields_of, Agrees, Meets, IsSound, IsSoundNode, IsKnown}
use Rattle.sml_graph.specs.CodeRanks.{HasFinite, IsRanked, HasRank}
use Rattle.sml_graph.specs.Limits.{limit_at, MeetsAt, KeepsAt, IsUnder, IsFitNode, handed, IsClosed, IsFit}
use Rattle.sml_layers.specs.Layers.{index_of}
use Rattle.sml_layers.specs.declared.class.Names.{Names}
use Rattle.sml_graph.specs.declared.fields.Fields.{Fields}
use Rattle.sml_graph.specs.declared.variables.Variables.{Variables}
use Rattle.sml_graph.specs.declared.variables.Variables.TheVariants as V
use Rattle.sml_objects.specs.Labels.{with_labels}
use Rattle.sml_layers.specs.Rows.{fields_at}
use Rattle.sml_graph.specs.Rows.{HasFields, kids_of}
use Rattle.sml_graph.specs.Variables.{FitsVariables, IsPossible, stand_in}
use Rattle.sml_graph.proofs.Interning.{map-alike, fields-alike}
use Rattle.sml_graph.proofs.Searching.{all-parts}
use Rattle.sml_graph.proofs.Asking.{value, node-meets, int-meets, stands-meets, all-fields}
use Rattle.sml_graph.proofs.Rowing.{open_row, open-has, open-same, distinct-at}

-- a rank from types: their sizes, and the places among nodes of one type

rank-less : (a b k i n : ℕ) → a < b → k < n → n * a + k < n * b + i
rank-less a b k i n h l = let h' : suc a ≤ b = omega (arith, h) in omega (arith, mul-le-mul_left n h', l)

sizes-below : (σ : Assignment finite) (ks : List ℕ) (s : ℕ) → types_size (types_of (map σ ks)) < s → AllByRecursion (λ k. type_size (σ k) < s) ks
unfolding types_size
sizes-below σ [] s h = tt
sizes-below σ (k ∷ ks) s h = (omega (arith, h), sizes-below σ ks s (omega (arith, h)))

ranks-below : (σ : Assignment finite) (n i : ℕ) (ks : List ℕ) → AllByRecursion (λ k. k < n) ks → AllByRecursion (λ k. type_size (σ k) < type_size (σ i)) ks → AllByRecursion (λ k. n * type_size (σ k) + k < n * type_size (σ i) + i) ks
ranks-below σ n i [] a b = tt
ranks-below σ n i (k ∷ ks) a b = (rank-less (type_size (σ k)) (type_size (σ i)) k i n b.0 a.0, ranks-below σ n i ks a.1 b.1)

types-below : (ts : List (O.MlType Name)) (s : ℕ) → types_size (types_of ts) < s → AllByRecursion (λ t. type_size t < s) ts
unfolding types_size
types-below [] s h = tt
types-below (t ∷ ts) s h = (omega (arith, h), types-below ts s (omega (arith, h)))

fields-below : (σ : Assignment finite) (ls : List Id) (ts : List (O.MlType Name)) (fs : List (Id × ℕ)) (s : ℕ) → AllByRecursion (λ f. lookup f.0 (with_labels ls ts) ≡ Some f.1) (fields_at σ fs) → AllByRecursion (λ t. type_size t < s) ts → AllByRecursion (λ k. type_size (σ k) < s) (kids_of fs)
fields-below σ ls ts fs s a b = all-fields (λ t. type_size t < s) σ ls ts fs a b

rank-node : (σ : Assignment finite) (n i : ℕ) (x : Node) → IsSoundNode n i x → Agrees finite σ i x → AllByRecursion (λ k. n * type_size (σ k) + k < n * type_size (σ i) + i) (parts x)
unfolding type_size
rank-node σ n i Unknown s a = tt
rank-node σ n i (Link j) s a =
    let e : n * type_size (σ i) ≡ n * type_size (σ j) = ap (λ t. n * type_size t) a in
    (omega (arith, e, s), tt)
rank-node σ n i (App h kids) s a =
    let e : type_size (σ i) ≡ suc (types_size (types_of (map σ kids.items))) = ap type_size a in
    ranks-below σ n i kids.items s.0 (sizes-below σ kids.items (type_size (σ i)) (omega (arith, e)))
rank-node σ n i (Open fs) s a =
    let e : type_size (σ i) ≡ suc (types_size (types_of a.types)) = ap type_size a.is_row in
    ranks-below σ n i (kids_of (fields_of fs.value)) s (fields-below σ a.labels a.types (fields_of fs.value) (type_size (σ i)) a.fields (types-below a.types (type_size (σ i)) (omega (arith, e))))

pub rank_of : (ns : List Node) → IsSound ns → HasFinite ns → HasRank ns
rank_of ns s f = record {
  rank = λ i. length ns * type_size (f.0 i) + i;
  ranked = λ i. rank-node f.0 (length ns) i (node_at ns i) (s i) (f.1 i);
}

-- types from a rank: the unknowns have any types, and all others have theirs

abbrev pub types_within : List Node → Assignment finite → ℕ → Assignment finite
types_within ns ρ zero i = ρ i
types_within ns ρ (suc n) i = value (types_within ns ρ n) (ρ i) (node_at ns i)

pub value-same : (σ τ : Assignment finite) (t : O.MlType Name) (x : Node) → AllByRecursion (λ k. σ k ≡ τ k) (parts x) → value σ t x ≡ value τ t x
value-same σ τ t Unknown a = refl
value-same σ τ t (Link j) a = a.0
value-same σ τ t (Open fs) a = ap (open_row t) (fields-alike finite σ τ (fields_of fs.value) a)
value-same σ τ t (App h kids) a = ap (make finite (head_over h (length kids.items))) (map-alike finite σ τ kids.items a)

enough : (ns : List Node) (ρ : Assignment finite) (r : ℕ → ℕ) → IsRanked ns r → (n m i : ℕ) → r i < n → r i < m → types_within ns ρ n i ≡ types_within ns ρ m i
enough ns ρ r a zero m i h l = absurd (omega (arith, h))
enough ns ρ r a (suc n) zero i h l = absurd (omega (arith, l))
enough ns ρ r a (suc n) (suc m) i h l =
    value-same (types_within ns ρ n) (types_within ns ρ m) (ρ i) (node_at ns i) (all-parts (λ k. r k < r i) (λ k. types_within ns ρ n k ≡ types_within ns ρ m k) (parts (node_at ns i)) (λ k b. enough ns ρ r a n m k (omega (arith, b, h)) (omega (arith, b, l))) (a i))

abbrev pub solution : List Node → Assignment finite → (ℕ → ℕ) → Assignment finite
solution ns ρ r i = types_within ns ρ (suc (r i)) i

pub solution-value : (ns : List Node) (ρ : Assignment finite) (r : ℕ → ℕ) → IsRanked ns r → (i : ℕ) → solution ns ρ r i ≡ value (solution ns ρ r) (ρ i) (node_at ns i)
solution-value ns ρ r a i =
    value-same (types_within ns ρ (r i)) (solution ns ρ r) (ρ i) (node_at ns i) (all-parts (λ k. r k < r i) (λ k. types_within ns ρ (r i) k ≡ solution ns ρ r k) (parts (node_at ns i)) (λ k b. enough ns ρ r a (r i) (suc (r k)) k b (omega arith)) (a i))

value-agrees : (σ : Assignment finite) (i : ℕ) (t : O.MlType Name) (x : Node) → σ i ≡ value σ t x → Agrees finite σ i x
value-agrees σ i t Unknown e = tt
value-agrees σ i t (Link j) e = e
value-agrees σ i t (App h kids) e = e
value-agrees σ i t (Open fs) e =
    let gs = fields_at σ (fields_of fs.value) in
    subst (λ t. HasFields finite t gs) (sym e) (open-has t gs (distinct-at σ (fields_of fs.value) fs.value.distinct))

pub solution-meets : (ns : List Node) (ρ : Assignment finite) (r : ℕ → ℕ) → IsRanked ns r → Meets finite ns (solution ns ρ r)
solution-meets ns ρ r a i = value-agrees (solution ns ρ r) i (ρ i) (node_at ns i) (solution-value ns ρ r a i)

pub solution-unknown : (ns : List Node) (ρ : Assignment finite) (r : ℕ → ℕ) (i : ℕ) → node_at ns i ≡ Unknown → solution ns ρ r i ≡ ρ i
solution-unknown ns ρ r i e = ap (value (types_within ns ρ (r i)) (ρ i)) e

-- a choice that has the fields stays
pub solution-open : (ns : List Node) (ρ : Assignment finite) (r : ℕ → ℕ) → IsRanked ns r → (i : ℕ) (fs : Box Fields) → node_at ns i ≡ Open fs → HasFields finite (ρ i) (fields_at (solution ns ρ r) (fields_of fs.value)) → solution ns ρ r i ≡ ρ i
solution-open ns ρ r a i fs e h = solution-value ns ρ r a i ∙ (ap (value (solution ns ρ r) (ρ i)) e ∙ open-same (ρ i) (fields_at (solution ns ρ r) (fields_of fs.value)) h)

-- types that are as anything asks
abbrev pub ints : Assignment finite
ints i = O.named (initial int)

pub finite_of : (ns : List Node) → HasRank ns → HasFinite ns
finite_of ns h = (solution ns ints h.rank, solution-meets ns ints h.rank h.ranked)

-- limits that are handed on are kept where the unknowns keep them

pub all-both : (P Q : ℕ → Type 0) (ks : List ℕ) → AllByRecursion P ks → AllByRecursion Q ks → AllByRecursion (λ k. P k × Q k) ks
all-both P Q [] a b = tt
all-both P Q (k ∷ ks) a b = ((a.0, b.0), all-both P Q ks a.1 b.1)

module _ (l : Layer) (u : ℕ) (ns : List Node) (ls : List Limit) (ρ : Assignment finite) (r : ℕ → ℕ) where
  within-keeps : IsRanked ns r → IsClosed ns ls → IsFit l u ns ls → ((i : ℕ) → (IsKnown (node_at ns i) → ⊥) → MeetsAt l u (limit_at ls i) (ρ i)) → (n i : ℕ) → r i < n → MeetsAt l u (limit_at ls i) (types_within ns ρ n i)
  within-keeps a c f w zero i h = absurd (omega (arith, h))
  within-keeps a c f w (suc n) i h =
      let x = node_at ns i in
      node-meets l u (limit_at ls i) (types_within ns ρ n) (ρ i) x (f i) (all-parts (λ k. IsUnder (limit_at ls k) (handed x (limit_at ls i)) × (r k < r i)) (λ k. MeetsAt l u (handed x (limit_at ls i)) (types_within ns ρ n k)) (parts x) (λ k b. b.0 l u (types_within ns ρ n k) (within-keeps a c f w n k (let z = b.1 in omega (arith, z, h)))) (all-both (λ k. IsUnder (limit_at ls k) (handed x (limit_at ls i))) (λ k. r k < r i) (parts x) (c i) (a i))) (w i)

  pub solution-keeps : IsRanked ns r → IsClosed ns ls → IsFit l u ns ls → ((i : ℕ) → (IsKnown (node_at ns i) → ⊥) → MeetsAt l u (limit_at ls i) (ρ i)) → KeepsAt l u ls (solution ns ρ r)
  solution-keeps a c f w i = within-keeps a c f w (suc (r i)) i (omega arith)

pub ints-keep : (l : Layer) (u : ℕ) (ns : List Node) (ls : List Limit) (r : ℕ → ℕ) → index_of l < index_of Rigidity → IsRanked ns r → IsClosed ns ls → IsFit l u ns ls → KeepsAt l u ls (solution ns ints r)
ints-keep l u ns ls r h a c f = solution-keeps l u ns ls ints r a c f (λ i e. int-meets l u (limit_at ls i) h)

-- types that are as the limits ask
abbrev pub stand_ins : List Limit → Assignment finite
stand_ins ls i = stand_in (limit_at ls i).variables

-- of what isn't known, only something possible is asked

row-possible : (v : Variables) (e : Bool) (c : Option Names) → FitsVariables v (O.row []) 0 → IsPossible v e c
row-possible V.Any e c f = tt
row-possible (V.One x) e c f = absurd (let g : ◌≡◌ {A = O.Head Name} (O.row []) (O.name (made 0 x.number 0 x.equality)) = f.0 in cc)
row-possible V.Several e c f = f

pub loose-possible : (u : ℕ) (a : Limit) (x : Node) → (IsKnown x → ⊥) → IsFitNode Rigidity u a x → IsPossible a.variables a.equality a.class
loose-possible u a Unknown e f = f
loose-possible u a (Link j) e f = absurd (e tt)
loose-possible u a (App h kids) e f = absurd (e tt)
loose-possible u a (Open fs) e f = row-possible a.variables a.equality a.class f

pub stands-keep : (l : Layer) (u : ℕ) (ns : List Node) (ls : List Limit) (r : ℕ → ℕ) → (0 ≡ u → ⊥) → IsRanked ns r → IsClosed ns ls → ((k : Layer) → IsFit k u ns ls) → KeepsAt l u ls (solution ns (stand_ins ls) r)
stands-keep l u ns ls r d a c f = solution-keeps l u ns ls (stand_ins ls) r a c (f l) (λ i e. stands-meets l u (limit_at ls i) d (loose-possible u (limit_at ls i) (node_at ns i) e (f Rigidity i)))

-- Sound nodes have infinite types.
use Rattle.std.proofs.Common.{◌≡◌, ℕ, zero, suc, ◌<◌, ◌≤◌, ◌⊎◌, inl, inr, List, [], ◌∷◌, length, map, get_or, Option, Some, None, sym, ◌∙◌, ap, subst, refl, arith}
use Rattle.std.proofs.Math.Path.{fun_ext}
use Rattle.std.proofs.lemmas.List.{length-map}
use Rattle.sml_objects.specs.Initial.{Name}
use Rattle.sml_objects.specs.Maps.{Map}
use Rattle.sml_objects.specs.Objects.{Head, row}
use Rattle.sml_graph.specs.declared.node.Node.{Node}
use Rattle.sml_graph.specs.declared.node.Node.TheVariants.{Unknown, Link, App, Open}
use Rattle.sml_layers.specs.Worlds.{infinite, tree}
use Rattle.sml_graph.specs.Worlds.{Assignment}
use Rattle.sml_graph.specs.declared.fields.Fields.{Fields}
use Rattle.sml_layers.specs.Rows.{fields_at}
use Rattle.sml_graph.specs.Rows.{HasFields}
use Rattle.sml_graph.proofs.Rowing.{set_fields, labels_in, values_in, sets-at, labels-at, values-at, row_with, row_with-has, rising-sets, rising-none, sets-found, distinct-at}
use Rattle.sml_graph.specs.Graphs.{node_at, head_over, fields_of, Agrees, Meets, IsSound, IsSoundNode}

-- what a node leads to
abbrev leads : ℕ → Node → ℕ
leads i Unknown = i
leads i (Link j) = j
leads i (App h kids) = i
leads i (Open fs) = i

-- the fields of an open row, in the order of their labels
abbrev row_map : Fields → Map ℕ
row_map fs = set_fields (fields_of fs) []

-- where at most n links lead
abbrev root : List Node → ℕ → ℕ → ℕ
root ns zero i = i
root ns (suc n) i = root ns n (leads i (node_at ns i))

abbrev label : Node → Option (Head Name × ℕ)
label Unknown = None
label (Link j) = None
label (App h kids) = Some (head_over h (length kids.items), length kids.items)
label (Open fs) = Some (row (labels_in (row_map fs.value)), length (values_in (row_map fs.value)))

abbrev kids_of : Node → List ℕ
kids_of Unknown = []
kids_of (Link j) = []
kids_of (App h kids) = kids.items
kids_of (Open fs) = values_in (row_map fs.value)

-- what stands at the end of a path from a node
abbrev walk : List Node → List ℕ → ℕ → Option (Head Name × ℕ)
walk ns [] i = label (node_at ns (root ns i i))
walk ns (k ∷ path) i = get_or (map (walk ns path) (kids_of (node_at ns (root ns i i)))) k None

abbrev walks : List Node → Assignment infinite
walks ns i = λ path. walk ns path i

leads_le : (n i : ℕ) (m : Node) → IsSoundNode n i m → leads i m ≤ i
leads_le n i Unknown s = omega arith
leads_le n i (Link j) s = omega (arith, s)
leads_le n i (App h kids) s = omega arith
leads_le n i (Open fs) s = omega arith

-- a node that leads to itself
root-stays : (ns : List Node) (n i : ℕ) → leads i (node_at ns i) ≡ i → root ns n i ≡ i
root-stays ns zero i e = refl
root-stays ns (suc n) i e = ap (root ns n) e ∙ root-stays ns n i e

leads_less : (n i : ℕ) (m : Node) → IsSoundNode n i m → (leads i m ≡ i) ⊎ (leads i m < i)
leads_less n i Unknown s = inl refl
leads_less n i (Link j) s = inr s
leads_less n i (App h kids) s = inl refl
leads_less n i (Open fs) s = inl refl

root-same : (ns : List Node) → IsSound ns → (m n i : ℕ) → i ≤ m → i ≤ n → root ns m i ≡ root ns n i
root-same ns s zero zero i h l = refl
root-same ns s zero (suc n) i h l = sym (root-stays ns (suc n) i (let b = leads_le (length ns) i (node_at ns i) (s i) in omega (arith, b, h)))
root-same ns s (suc m) zero i h l = root-stays ns (suc m) i (let b = leads_le (length ns) i (node_at ns i) (s i) in omega (arith, b, l))
root-same ns s (suc m) (suc n) i h l =
    elim (leads_less (length ns) i (node_at ns i) (s i)) [
      | inl e ↦ root-stays ns (suc m) i e ∙ sym (root-stays ns (suc n) i e)
      | inr b ↦ root-same ns s m n (leads i (node_at ns i)) (omega (arith, b, h)) (omega (arith, b, l))
    ]

walk-of : (ns : List Node) (path : List ℕ) (ks : List ℕ) (k : ℕ) → get_or (map (walk ns path) ks) k None ≡ get_or (map (walks ns) ks) k (λ _. None) path
walk-of ns path [] k = refl
walk-of ns path (x ∷ xs) zero = refl
walk-of ns path (x ∷ xs) (suc k) = walk-of ns path xs k

-- a node with a head
walks-tree : (ns : List Node) (i : ℕ) (h : Head Name) (ks : List ℕ) → leads i (node_at ns i) ≡ i → label (node_at ns i) ≡ Some (h, length ks) → kids_of (node_at ns i) ≡ ks → walks ns i ≡ tree h (map (walks ns) ks)
walks-tree ns i h ks l a b =
    let r : root ns i i ≡ i = root-stays ns i i l in
    fun_ext (λ path. elim path as (λ p. walk ns p i ≡ tree h (map (walks ns) ks) p) [
      | [] ↦ rw (r, a, length-map ks (walks ns)) refl
      | k ∷ rest ↦ rw (r, b) (walk-of ns rest ks k)
    ])

agrees-walks : (ns : List Node) → IsSound ns → (i : ℕ) (n : Node) → node_at ns i ≡ n → Agrees infinite (walks ns) i n
agrees-walks ns s i Unknown e = tt
agrees-walks ns s i (Link j) e =
    let b : IsSoundNode (length ns) i (Link j) = rw e at (s i) in
    let r : root ns i i ≡ root ns j j = root-same ns s i (suc i) i (omega arith) (omega arith) ∙ (ap (λ n. root ns i (leads i n)) e ∙ root-same ns s i j j (omega (arith, b)) (omega arith)) in
    fun_ext (λ path. elim path as (λ p. walk ns p i ≡ walk ns p j) [ [] ↦ rw r refl | k ∷ rest ↦ rw r refl ])
agrees-walks ns s i (App h kids) e = walks-tree ns i (head_over h (length kids.items)) kids.items (rw e refl) (rw e refl) (rw e refl)
agrees-walks ns s i (Open fs) e =
    let gs = fields_of fs.value in
    let m = row_map fs.value in
    let ms = set_fields (fields_at (walks ns) gs) [] in
    let q : fields_at (walks ns) m ≡ ms = sets-at (walks ns) gs [] in
    let t : walks ns i ≡ tree (row (labels_in m)) (map (walks ns) (values_in m)) = walks-tree ns i (row (labels_in m)) (values_in m) (rw e refl) (rw e refl) (rw e refl) in
    let a : labels_in m ≡ labels_in ms = sym (labels-at (walks ns) m) ∙ ap labels_in q in
    let b : map (walks ns) (values_in m) ≡ values_in ms = sym (values-at (walks ns) m) ∙ ap values_in q in
    let u : walks ns i ≡ row_with infinite ms = t ∙ (λ j. tree (row (a j)) (b j)) in
    subst (λ t. HasFields infinite t (fields_at (walks ns) gs)) (sym u)
    (row_with-has infinite ms (fields_at (walks ns) gs) (rising-sets (fields_at (walks ns) gs) [] rising-none) (sets-found (fields_at (walks ns) gs) [] (distinct-at (walks ns) gs fs.value.distinct)))

pub has_infinite : (ns : List Node) → IsSound ns → (σ : Assignment infinite) × Meets infinite ns σ
has_infinite ns s = (walks ns, λ i. agrees-walks ns s i (node_at ns i) refl)

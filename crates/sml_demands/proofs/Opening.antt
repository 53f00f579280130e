-- Open rows with a label more, and the least of them.
use Rattle.std.proofs.Common.{◌≡◌, ℕ, suc, ◌+◌, ◌<◌, ◌≤◌, inl, inr, List, [], ◌∷◌, ◌++◌, length, Some, None, sym, ◌∙◌, ap, refl, arith, length-append}
use Rattle.std.specs.List.{AllByRecursion}
use Rattle.sml_tree.specs.Trees.{Id}
use Rattle.sml_objects.specs.Initial.{Name}
use Rattle.sml_objects.specs.Maps.{Map, lookup}
use Rattle.sml_objects.specs.Objects as O
use Rattle.sml_objects.specs.Sizes.{type_size, types_size}
use Rattle.sml_objects.specs.Objects.{types_of}
use Rattle.sml_objects.proofs.LabelPlaces.{label-exact}
use Rattle.sml_objects.specs.Labels.{with_labels}
use Rattle.sml_layers.specs.Rows.{fields_at}
use Rattle.sml_graph.specs.Rows.{AreDistinct, HasFields, kids_of}
use Rattle.sml_layers.specs.Worlds.{finite}
use Rattle.sml_graph.specs.Worlds.{Assignment}
use Rattle.sml_demands.specs.Counted.{sizes_at}
use Rattle.sml_graph.proofs.Rowing.{lookup-here, lookup-there, same_or_other, set_field, set_fields, labels_in, values_in, by_label, others-there, distinct-at, with-parts, values-of, list_of, components, components-row, open_row}

-- a label that is none of some labels

abbrev pub fresh_label : List Id → Id
fresh_label [] = 0 ∷ []
fresh_label (l ∷ ls) = l ++ fresh_label ls

fresh-some : (ls : List Id) → 0 < length (fresh_label ls)
fresh-some [] = omega arith
fresh-some (l ∷ ls) = let r = fresh-some ls in let a = length-append l (fresh_label ls) in omega (arith, r, a)

all-longer : (n m : ℕ) (ls : List Id) → n ≤ m → AllByRecursion (λ l. length l < n) ls → AllByRecursion (λ l. length l < m) ls
all-longer n m [] h a = tt
all-longer n m (l ∷ ls) h a = (let x = a.0 in omega (arith, x, h), all-longer n m ls h a.1)

fresh-longer : (ls : List Id) → AllByRecursion (λ l. length l < length (fresh_label ls)) ls
fresh-longer [] = tt
fresh-longer (l ∷ ls) =
    let a = length-append l (fresh_label ls) in
    let s = fresh-some ls in
    (omega (arith, a, s), all-longer (length (fresh_label ls)) (length (l ++ fresh_label ls)) ls (omega (arith, a)) (fresh-longer ls))

abbrev pub IsNone : Id → List Id → Type 0
IsNone l ls = AllByRecursion (λ k. l ≡ k → ⊥) ls

longer-none : (l : Id) (ls : List Id) → AllByRecursion (λ k. length k < length l) ls → IsNone l ls
longer-none l [] a = tt
longer-none l (k ∷ ls) a = (λ e. let n = ap length e in let x = a.0 in omega (arith, n, x), longer-none l ls a.1)

pub fresh-none : (ls : List Id) → IsNone (fresh_label ls) ls
fresh-none ls = longer-none (fresh_label ls) ls (fresh-longer ls)

pub none-front : (l : Id) (ls ks : List Id) → IsNone l (ls ++ ks) → IsNone l ls
none-front l [] ks a = tt
none-front l (j ∷ ls) ks a = (a.0, none-front l ls ks a.1)

pub none-back : (l : Id) (ls ks : List Id) → IsNone l (ls ++ ks) → IsNone l ks
none-back l [] ks a = a
none-back l (j ∷ ls) ks a = none-back l ls ks a.1

-- components of rows

pub lookup-none : {X : Type 0} (l : Id) (ls : List Id) (xs : List X) → IsNone l ls → lookup l (with_labels ls xs) ≡ None
lookup-none l [] xs a = refl
lookup-none l (k ∷ ls) [] a = refl
lookup-none l (k ∷ ls) (x ∷ xs) a = lookup-there l (k, x) (with_labels ls xs) a.0 ∙ lookup-none l ls xs a.1

-- the labels of a row
abbrev pub head_labels : O.Head Name → List Id
head_labels O.arrow = []
head_labels (O.row ls) = ls
head_labels (O.name n) = []

pub component-head : (l : Id) (h : O.Head Name) (ts : O.MlTypes Name) → IsNone l (head_labels h) → lookup l (components (O.app h ts)) ≡ None
component-head l O.arrow ts a = refl
component-head l (O.row ls) ts a = lookup-none l ls (list_of ts) a
component-head l (O.name n) ts a = refl

-- the row of one field
abbrev pub one_row : Id → O.MlType Name → O.MlType Name
one_row l t = O.app (O.row (l ∷ [])) (O.and_type t O.no_type)

none-at : {A B : Type 0} (g : A → B) (l : Id) (fs : List (Id × A)) → IsNone l (labels_in fs) → AllByRecursion (λ f. l ≡ f.0 → ⊥) (fields_at g fs)
none-at g l [] a = tt
none-at g l (f ∷ fs) a = (a.0, none-at g l fs a.1)

opened : (t : O.MlType Name) (fs : List (Id × O.MlType Name)) → components (open_row t fs) ≡ set_fields fs (set_fields (components t) [])
opened t fs = let m = set_fields fs (set_fields (components t) []) in components-row (labels_in m) (values_in m) ∙ with-parts m

-- a label more stays
pub component-more : (σ : Assignment finite) (l : Id) (t : O.MlType Name) (fs : List (Id × ℕ)) → IsNone l (labels_in fs) → lookup l (components (open_row (one_row l t) (fields_at σ fs))) ≡ Some t
component-more σ l t fs a = ap (lookup l) (opened (one_row l t) (fields_at σ fs)) ∙ (others-there l (fields_at σ fs) ((l, t) ∷ []) (none-at σ l fs a) ∙ lookup-here l (l, t) [] refl)

-- no label more comes from a type that is no row
pub component-none : (σ : Assignment finite) (l : Id) (t : O.MlType Name) (fs : List (Id × ℕ)) → components t ≡ [] → IsNone l (labels_in fs) → lookup l (components (open_row t (fields_at σ fs))) ≡ None
component-none σ l t fs e a = ap (lookup l) (opened t (fields_at σ fs) ∙ ap (λ m. set_fields (fields_at σ fs) (set_fields m [])) e) ∙ others-there l (fields_at σ fs) [] (none-at σ l fs a)

-- sizes of rows

abbrev total : Map (O.MlType Name) → ℕ
total m = types_size (types_of (values_in m))

size-set : (l : Id) (x : O.MlType Name) (m : Map (O.MlType Name)) → lookup l m ≡ None → total (set_field l x m) ≡ type_size x + total m
unfolding types_size
size-set l x [] h = refl
size-set l x (e ∷ m) h = by_label l x e m (λ n. total n ≡ type_size x + (type_size e.1 + total m))
    (λ q. refl)
    (λ q. let f : None ≡ Some e.1 = sym h ∙ lookup-here l e m (label-exact l e.0 q) in absurd cc)
    (λ q. elim (same_or_other l e.0) [
      | inl s ↦ let f : None ≡ Some e.1 = sym h ∙ lookup-here l e m s in absurd cc
      | inr s ↦ let r = size-set l x m (sym (lookup-there l e m s) ∙ h) in omega (arith, r)
    ])

sizes-set : (fs : List (Id × O.MlType Name)) → AreDistinct fs → total (set_fields fs []) ≡ total fs
unfolding types_size
sizes-set [] d = refl
sizes-set (f ∷ fs) d = let r = sizes-set fs d.1 in let s = size-set f.0 f.1 (set_fields fs []) (others-there f.0 fs [] d.0) in omega (arith, r, s)

size-fields : (τ : Assignment finite) (fs : List (Id × ℕ)) → total (fields_at τ fs) ≡ sizes_at τ (kids_of fs)
unfolding types_size
size-fields τ [] = refl
size-fields τ (f ∷ fs) = ap (λ n. type_size (τ f.1) + n) (size-fields τ fs)

-- a row that has its fields alone
pub size-open : (τ : Assignment finite) (t : O.MlType Name) (fs : List (Id × ℕ)) → components t ≡ [] → AreDistinct fs → type_size (open_row t (fields_at τ fs)) ≡ suc (sizes_at τ (kids_of fs))
unfolding type_size types_size
size-open τ t fs e d =
    let a : total (set_fields (fields_at τ fs) (set_fields (components t) [])) ≡ total (set_fields (fields_at τ fs) []) = ap (λ m. total (set_fields (fields_at τ fs) (set_fields m []))) e in
    ap suc (a ∙ (sizes-set (fields_at τ fs) (distinct-at τ fs d) ∙ size-fields τ fs))

nothing : (x : O.MlType Name) → None ≡ Some x → ⊥
nothing x e = cc

-- a map without the field that stands at a label
taken : (l : Id) (x : O.MlType Name) (m : Map (O.MlType Name)) → lookup l m ≡ Some x → (n : Map (O.MlType Name)) × (total m ≡ type_size x + total n) × ((k : Id) → (k ≡ l → ⊥) → lookup k n ≡ lookup k m)
unfolding types_size
taken l x [] h = absurd (nothing x h)
taken l x (e ∷ m) h =
    elim (same_or_other l e.0) [
      | inl s ↦
          let f : Some e.1 ≡ Some x = sym (lookup-here l e m s) ∙ h in
          let g : e.1 ≡ x = cc in
          (m, ap (λ t. type_size t + total m) g, λ k d. sym (lookup-there k e m (λ q. d (q ∙ sym s))))
      | inr s ↦
          let r = taken l x m (sym (lookup-there l e m s) ∙ h) in
          let t = r.1 in (
            e ∷ r.0,
            omega (arith, t),
            λ k d.
                elim (same_or_other k e.0) [
                  | inl q ↦ lookup-here k e r.0 q ∙ sym (lookup-here k e m q)
                  | inr q ↦ lookup-there k e r.0 q ∙ (r.2 k d ∙ sym (lookup-there k e m q))
                ],
          )
    ]

still-found : (f : Id × O.MlType Name) (m n : Map (O.MlType Name)) (fs : List (Id × O.MlType Name)) → ((k : Id) → (k ≡ f.0 → ⊥) → lookup k n ≡ lookup k m) → AllByRecursion (λ g. f.0 ≡ g.0 → ⊥) fs → AllByRecursion (λ g. lookup g.0 m ≡ Some g.1) fs → AllByRecursion (λ g. lookup g.0 n ≡ Some g.1) fs
still-found f m n [] s d a = tt
still-found f m n (g ∷ fs) s d a = (s g.0 (λ q. d.0 (sym q)) ∙ a.0, still-found f m n fs s d.1 a.1)

fields-less : (fs : List (Id × O.MlType Name)) (m : Map (O.MlType Name)) → AreDistinct fs → AllByRecursion (λ f. lookup f.0 m ≡ Some f.1) fs → total fs ≤ total m
unfolding types_size
fields-less [] m d a = omega arith
fields-less (f ∷ fs) m d a =
    let r = taken f.0 f.1 m a.0 in
    let t = r.1 in
    let n = fields-less fs r.0 d.1 (still-found f m r.0 fs r.2 d.0 a.1) in
    omega (arith, t, n)

-- a row is no smaller than its fields
pub size-has : (τ : Assignment finite) (t : O.MlType Name) (fs : List (Id × ℕ)) → AreDistinct fs → HasFields finite t (fields_at τ fs) → suc (sizes_at τ (kids_of fs)) ≤ type_size t
unfolding type_size
size-has τ t fs d h =
    let n = fields-less (fields_at τ fs) (with_labels h.labels h.types) (distinct-at τ fs d) h.fields in
    let e : type_size t ≡ suc (types_size (types_of h.types)) = ap type_size h.is_row in
    let m : total (with_labels h.labels h.types) ≡ types_size (types_of h.types) = ap (λ ts. types_size (types_of ts)) (values-of h.labels h.types h.count) in
    let s = size-fields τ fs in
    omega (arith, n, e, m, s)

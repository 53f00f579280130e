-- Rows with some fields and others.
use Rattle.std.proofs.Common.{◌≡◌, ◌⊎◌, inl, inr, ℕ, List, [], ◌∷◌, ◌++◌, length, map, Option, Some, None, Result, Ok, Err, Bool, true, false, cond, nat_eq, Vec, Global, sym, ◌∙◌, ap, subst, refl, arith}
use Rattle.std.specs.Cmp.{tied_itself}
use Rattle.std.specs.List.Sorted.{IsStrictlySortedBy}
use Rattle.std.specs.Cmp.Lexicographic.{nat_list_cmp_total, pointwise, same_text, other_text}
use Rattle.std.specs.Map as stored
use Rattle.std.specs.Result.{OnOk, OnErr}
use Rattle.std.specs.Option.{option_map}
use Rattle.std.specs.Ordering.{ordering_reverse}
use Rattle.std.specs.List.{AllByRecursion}
use Rattle.std.specs.declared.cmp.Ordering.{Ordering}
use Rattle.std.specs.declared.cmp.Ordering.TheVariants.{Less, Equal, Greater}
use Rattle.std.specs.declared.rc.Rc.{Rc}
use Rattle.std.proofs.lemmas.Map.Lookups.{exact_bytes}
use Rattle.sml_tree.specs.Trees.{Id}
use Rattle.sml_tree.specs.Views.{ident_of}
use Rattle.sml_objects.specs.Initial.{Name}
use Rattle.sml_objects.specs.Maps.{Map, lookup, by_order, order_of}
use Rattle.sml_objects.specs.Objects.{MlType, MlTypes, Head, bound, free, app, arrow, row, name, no_type, and_type, types_of}
use Rattle.sml_objects.specs.Labels.{label_order, AreRising, with_labels}
use Rattle.sml_objects.proofs.RisingLabels.{label_total}
use Rattle.sml_objects.proofs.LabelPlaces.{label-exact}
use Rattle.sml_layers.specs.Rows.{fields_at}
use Rattle.sml_graph.specs.Rows.{AreDistinct, HasFields, IsField, field_list, kids_of}
use Rattle.sml_layers.specs.Worlds.{World, finite, make}
use Rattle.sml_graph.specs.Worlds.{In}
use Rattle.sml_graph.proofs.Worlding.{app_head, app_parts}

-- fields as the code reads them

pub kids-seen : (es : List (Rc (Vec ℕ Global) Global × ℕ)) → map (λ e. e.1) es ≡ kids_of (field_list es)
kids-seen [] = refl
kids-seen (e ∷ es) = ap (λ ks. e.1 ∷ ks) (kids-seen es)

pub labels-seen : (es : List (Rc (Vec ℕ Global) Global × ℕ)) → map ident_of (map (λ e. e.0) es) ≡ map (λ f. f.0) (field_list es)
labels-seen [] = refl
labels-seen (e ∷ es) = ap (λ ks. ident_of e.0 ∷ ks) (labels-seen es)

abbrev pub Key : Type 0
Key = Rc (Vec ℕ Global) Global

module _ (test : Key → Key → Bool) (exact : (x y : Key) → test x y ≡ pointwise nat_eq (ident_of x) (ident_of y)) where
  apart-by : (k : Key) (e : Key × ℕ) (es : List (Key × ℕ)) (b : Bool) → test k e.0 ≡ b → cond b (Some e.1) (stored.lookup (test k) es) ≡ None → (ident_of k ≡ ident_of e.0 → ⊥) × (stored.lookup (test k) es ≡ None)
  apart-by k e es true q n = absurd (let f : Some e.1 ≡ None = n in cc)
  apart-by k e es false q n = (other_text (ident_of k) (ident_of e.0) (sym q ∙ exact k e.0), n)

  pub field-absent : (k : Key) (es : List (Key × ℕ)) → stored.lookup (test k) es ≡ None → AllByRecursion (λ f. ident_of k ≡ f.0 → ⊥) (field_list es)
  field-absent k [] n = tt
  field-absent k (e ∷ es) n = let b = apart-by k e es (test k e.0) refl n in (b.0, field-absent k es b.1)

  present-by : (k : Key) (e : Key × ℕ) (es : List (Key × ℕ)) (v : ℕ) (b : Bool) → test k e.0 ≡ b → cond b (Some e.1) (stored.lookup (test k) es) ≡ Some v → ((ident_of k ≡ ident_of e.0) × (v ≡ e.1)) ⊎ (stored.lookup (test k) es ≡ Some v)
  present-by k e es v true q n = inl (same_text (ident_of k) (ident_of e.0) (sym q ∙ exact k e.0), (let f : Some e.1 ≡ Some v = n in cc))
  present-by k e es v false q n = inr n

  pub field-present : (k : Key) (v : ℕ) (es : List (Key × ℕ)) → stored.lookup (test k) es ≡ Some v → IsField (ident_of k) v (field_list es)
  field-present k v [] n = absurd (let f : None ≡ Some v = n in cc)
  field-present k v (e ∷ es) n = elim (present-by k e es v (test k e.0) refl n) [ inl p ↦ inl p | inr r ↦ inr (field-present k v es r) ]

pub field_list-append : (es : List (Key × ℕ)) (k : Key) (v : ℕ) → field_list (es ++ (k, v) ∷ []) ≡ field_list es ++ (ident_of k, v) ∷ []
field_list-append [] k v = refl
field_list-append (e ∷ es) k v = ap (λ fs. (ident_of e.0, e.1) ∷ fs) (field_list-append es k v)

apart-append : {X : Type 0} (l : Id) (fs : List (Id × X)) (f : Id × X) → AllByRecursion (λ g. l ≡ g.0 → ⊥) fs → (l ≡ f.0 → ⊥) → AllByRecursion (λ g. l ≡ g.0 → ⊥) (fs ++ f ∷ [])
apart-append l [] f a h = (h, tt)
apart-append l (g ∷ fs) f a h = (a.0, apart-append l fs f a.1 h)

pub distinct-append : {X : Type 0} (fs : List (Id × X)) (f : Id × X) → AreDistinct fs → AllByRecursion (λ g. f.0 ≡ g.0 → ⊥) fs → AreDistinct (fs ++ f ∷ [])
distinct-append [] f d a = (tt, tt)
distinct-append (g ∷ fs) f d a = (apart-append g.0 fs f d.0 (λ e. a.0 (sym e)), distinct-append fs f d.1 a.1)

-- with one more field, or as before
pub added-distinct : {T E : Type 0} (r : Result T E) (es xs ys : List (Key × ℕ)) (k : Key) (v : ℕ) → OnOk r (xs ≡ ys) → OnErr r (xs ≡ es) → ys ≡ es ++ (k, v) ∷ []
    → AreDistinct (field_list es) → AllByRecursion (λ f. ident_of k ≡ f.0 → ⊥) (field_list es) → AreDistinct (field_list xs)
added-distinct (Ok x) es xs ys k v a b q d n =
    subst (λ zs. AreDistinct (field_list zs)) (sym (a ∙ q)) (subst AreDistinct (sym (field_list-append es k v)) (distinct-append (field_list es) (ident_of k, v) d n))
added-distinct (Err x) es xs ys k v a b q d n = subst (λ zs. AreDistinct (field_list zs)) (sym b) d

-- the order of labels

own_label : (l : Id) → label_order l l ≡ Equal
own_label l = tied_itself label_total l

turned : (r s : Ordering) → r ≡ ordering_reverse s → s ≡ Greater → r ≡ Less
turned r s e g = e ∙ ap ordering_reverse g

label_turned : (l m : Id) → label_order l m ≡ Greater → label_order m l ≡ Less
label_turned l m g = turned (label_order m l) (label_order l m) (label_total.antisymm m l) g

less-apart : (l m : Id) → label_order l m ≡ Less → l ≡ m → ⊥
less-apart l m h e = let a : label_order l m ≡ Equal = subst (λ x. label_order l x ≡ Equal) e (own_label l) in let b : Less ≡ Equal = sym h ∙ a in cc

-- what is found in a map

own_order : (l : Id) → order_of l l ≡ Equal
own_order l = tied_itself nat_list_cmp_total l

found-by : {X : Type 0} (o : Ordering) (a b : Option X) → o ≡ Equal → by_order o a b a ≡ b
found-by Less a b e = absurd (let f : Less ≡ Equal = e in cc)
found-by Equal a b e = refl
found-by Greater a b e = absurd (let f : Greater ≡ Equal = e in cc)

passed-by : {X : Type 0} (o : Ordering) (a b : Option X) → (o ≡ Equal → ⊥) → by_order o a b a ≡ a
passed-by Less a b e = refl
passed-by Equal a b e = absurd (e refl)
passed-by Greater a b e = refl

pub lookup-here : {X : Type 0} (l : Id) (e : Id × X) (m : Map X) → l ≡ e.0 → lookup l (e ∷ m) ≡ Some e.1
lookup-here l e m q = found-by (order_of l e.0) (lookup l m) (Some e.1) (subst (λ k. order_of l k ≡ Equal) q (own_order l))

pub lookup-there : {X : Type 0} (l : Id) (e : Id × X) (m : Map X) → (l ≡ e.0 → ⊥) → lookup l (e ∷ m) ≡ lookup l m
lookup-there l e m d = passed-by (order_of l e.0) (lookup l m) (Some e.1) (λ q. d (exact_bytes l e.0 q))

pub same_or_other : (l m : Id) → (l ≡ m) ⊎ (l ≡ m → ⊥)
same_or_other l m = go (order_of l m) refl where
  go : (o : Ordering) → order_of l m ≡ o → (l ≡ m) ⊎ (l ≡ m → ⊥)
  go Less e = inr (λ q. let f : Less ≡ Equal = sym e ∙ subst (λ k. order_of l k ≡ Equal) q (own_order l) in cc)
  go Equal e = inl (exact_bytes l m e)
  go Greater e = inr (λ q. let f : Greater ≡ Equal = sym e ∙ subst (λ k. order_of l k ≡ Equal) q (own_order l) in cc)

pub same-some : {X : Type 0} (x y : X) → Some x ≡ Some y → x ≡ y
same-some x y e = cc

pub none-some : {X : Type 0} (x : X) → None ≡ Some x → ⊥
none-some x e = cc

pub rising-none : AreRising []
unfolding IsStrictlySortedBy
rising-none = tt

-- a map with one more field at its place

abbrev pub set_field : {X : Type 0} → Id → X → Map X → Map X
set_field l x [] = (l, x) ∷ []
set_field l x (e ∷ m) = by_order (label_order l e.0) ((l, x) ∷ e ∷ m) ((l, x) ∷ m) (e ∷ set_field l x m)

abbrev pub set_fields : {X : Type 0} → List (Id × X) → Map X → Map X
set_fields [] m = m
set_fields (f ∷ fs) m = set_field f.0 f.1 (set_fields fs m)

abbrev pub labels_in : {X : Type 0} → List (Id × X) → List Id
labels_in m = map (λ e. e.0) m

abbrev pub values_in : {X : Type 0} → List (Id × X) → List X
values_in m = map (λ e. e.1) m

module _ {X : Type 0} (l : Id) (x : X) where
  pub by_label : (e : Id × X) (m : Map X) (P : Map X → Type 0) → (label_order l e.0 ≡ Less → P ((l, x) ∷ e ∷ m)) → (label_order l e.0 ≡ Equal → P ((l, x) ∷ m)) → (label_order l e.0 ≡ Greater → P (e ∷ set_field l x m)) → P (set_field l x (e ∷ m))
  by_label e m P f g h = go (label_order l e.0) refl where
    go : (o : Ordering) → label_order l e.0 ≡ o → P (by_order o ((l, x) ∷ e ∷ m) ((l, x) ∷ m) (e ∷ set_field l x m))
    go Less q = f q
    go Equal q = g q
    go Greater q = h q

  pub set-here : (m : Map X) → lookup l (set_field l x m) ≡ Some x
  set-here [] = lookup-here l (l, x) [] refl
  set-here (e ∷ m) = by_label e m (λ n. lookup l n ≡ Some x)
      (λ q. lookup-here l (l, x) (e ∷ m) refl)
      (λ q. lookup-here l (l, x) m refl)
      (λ q. lookup-there l e (set_field l x m) (λ s. let f : Greater ≡ Equal = sym q ∙ subst (λ k. label_order l k ≡ Equal) s (own_label l) in cc) ∙ set-here m)

  -- a field with another label stays
  pub set-there : (k : Id) (m : Map X) → (k ≡ l → ⊥) → lookup k (set_field l x m) ≡ lookup k m
  set-there k [] d = lookup-there k (l, x) [] d
  set-there k (e ∷ m) d = by_label e m (λ n. lookup k n ≡ lookup k (e ∷ m))
      (λ q. lookup-there k (l, x) (e ∷ m) d)
      (λ q. lookup-there k (l, x) m d ∙ sym (lookup-there k e m (λ s. d (s ∙ sym (label-exact l e.0 q)))))
      (λ q. elim (same_or_other k e.0) [
        | inl s ↦ lookup-here k e (set_field l x m) s ∙ sym (lookup-here k e m s)
        | inr s ↦ lookup-there k e (set_field l x m) s ∙ (set-there k m d ∙ sym (lookup-there k e m s))
      ])

  -- labels still rise
  below-set : (k : Id) (m : Map X) → label_order k l ≡ Less → AllByRecursion (λ j. label_order k j ≡ Less) (labels_in m) → AllByRecursion (λ j. label_order k j ≡ Less) (labels_in (set_field l x m))
  below-set k [] h a = (h, tt)
  below-set k (e ∷ m) h a = by_label e m (λ n. AllByRecursion (λ j. label_order k j ≡ Less) (labels_in n))
      (λ q. (h, a))
      (λ q. (h, a.1))
      (λ q. (a.0, below-set k m h a.1))

  all-less : (k : Id) (ls : List Id) → label_order l k ≡ Less → AllByRecursion (λ j. label_order k j ≡ Less) ls → AllByRecursion (λ j. label_order l j ≡ Less) ls
  all-less k [] h a = tt
  all-less k (j ∷ ls) h a = (label_total.trans l k j h a.0, all-less k ls h a.1)

  rising-set : (m : Map X) → AreRising (labels_in m) → AreRising (labels_in (set_field l x m))
  unfolding IsStrictlySortedBy
  rising-set [] r = (tt, tt)
  rising-set (e ∷ m) r = by_label e m (λ n. AreRising (labels_in n))
      (λ q. ((q, all-less e.0 (labels_in m) q r.0), r))
      (λ q. (subst (λ k. AllByRecursion (λ j. label_order k j ≡ Less) (labels_in m)) (sym (label-exact l e.0 q)) r.0, r.1))
      (λ q. (below-set e.0 m (label_turned l e.0 q) r.0, rising-set m r.1))

  -- a label below all others comes first
  set-first : (m : Map X) → AllByRecursion (λ j. label_order l j ≡ Less) (labels_in m) → set_field l x m ≡ (l, x) ∷ m
  set-first [] a = refl
  set-first (e ∷ m) a = ap (λ o. by_order o ((l, x) ∷ e ∷ m) ((l, x) ∷ m) (e ∷ set_field l x m)) a.0

  none-below : (m : Map X) → AllByRecursion (λ j. label_order l j ≡ Less) (labels_in m) → lookup l m ≡ None
  none-below [] a = refl
  none-below (e ∷ m) a = lookup-there l e m (less-apart l e.0 a.0) ∙ none-below m a.1

  -- what stands there already
  set-same : (m : Map X) → AreRising (labels_in m) → lookup l m ≡ Some x → set_field l x m ≡ m
  unfolding IsStrictlySortedBy
  set-same [] r h = absurd (none-some x h)
  set-same (e ∷ m) r h = by_label e m (λ n. n ≡ e ∷ m)
      (λ q. absurd (none-some x (sym (none-below (e ∷ m) (q, all-less e.0 (labels_in m) q r.0)) ∙ h)))
      (λ q.
      let s = label-exact l e.0 q in
      let f : Some e.1 ≡ Some x = sym (lookup-here l e m s) ∙ h in
      let g : e.1 ≡ x = cc in
      λ i. (s i, sym g i) ∷ m)
      (λ q.
      let d : l ≡ e.0 → ⊥ = λ s. let f : Greater ≡ Equal = sym q ∙ subst (λ k. label_order l k ≡ Equal) s (own_label l) in cc in
      ap (λ n. e ∷ n) (set-same m r.1 (sym (lookup-there l e m d) ∙ h)))

  all-set : (P : X → Type 0) (m : Map X) → P x → AllByRecursion P (values_in m) → AllByRecursion P (values_in (set_field l x m))
  all-set P [] p a = (p, tt)
  all-set P (e ∷ m) p a = by_label e m (λ n. AllByRecursion P (values_in n))
      (λ q. (p, a))
      (λ q. (p, a.1))
      (λ q. (a.0, all-set P m p a.1))

module _ {X : Type 0} where
  pub rising-sets : (fs : List (Id × X)) (m : Map X) → AreRising (labels_in m) → AreRising (labels_in (set_fields fs m))
  rising-sets [] m r = r
  rising-sets (f ∷ fs) m r = rising-set f.0 f.1 (set_fields fs m) (rising-sets fs m r)

  all-sets : (P : X → Type 0) (fs : List (Id × X)) (m : Map X) → AllByRecursion P (values_in fs) → AllByRecursion P (values_in m) → AllByRecursion P (values_in (set_fields fs m))
  all-sets P [] m a b = b
  all-sets P (f ∷ fs) m a b = all-set f.0 f.1 P (set_fields fs m) a.0 (all-sets P fs m a.1 b)

  sets-same : (fs : List (Id × X)) (m : Map X) → AreRising (labels_in m) → AllByRecursion (λ f. lookup f.0 m ≡ Some f.1) fs → set_fields fs m ≡ m
  sets-same [] m r a = refl
  sets-same (f ∷ fs) m r a = ap (set_field f.0 f.1) (sets-same fs m r a.1) ∙ set-same f.0 f.1 m r a.0

  after-set : (f : Id × X) (fs : List (Id × X)) (m : Map X) → AllByRecursion (λ g. f.0 ≡ g.0 → ⊥) fs → AllByRecursion (λ g. lookup g.0 m ≡ Some g.1) fs → AllByRecursion (λ g. lookup g.0 (set_field f.0 f.1 m) ≡ Some g.1) fs
  after-set f [] m d a = tt
  after-set f (g ∷ fs) m d a = (set-there f.0 f.1 g.0 m (λ q. d.0 (sym q)) ∙ a.0, after-set f fs m d.1 a.1)

  -- distinct fields are found
  pub sets-found : (fs : List (Id × X)) (m : Map X) → AreDistinct fs → AllByRecursion (λ f. lookup f.0 (set_fields fs m) ≡ Some f.1) fs
  sets-found [] m d = tt
  sets-found (f ∷ fs) m d = (set-here f.0 f.1 (set_fields fs m), after-set f fs (set_fields fs m) d.0 (sets-found fs m d.1))

  pub others-there : (l : Id) (fs : List (Id × X)) (m : Map X) → AllByRecursion (λ f. l ≡ f.0 → ⊥) fs → lookup l (set_fields fs m) ≡ lookup l m
  others-there l [] m d = refl
  others-there l (f ∷ fs) m d = set-there f.0 f.1 l (set_fields fs m) d.0 ∙ others-there l fs m d.1

  -- a row's own components, one after another
  labels-of : (ls : List Id) (xs : List X) → length xs ≡ length ls → labels_in (with_labels ls xs) ≡ ls
  labels-of [] [] n = refl
  labels-of [] (x ∷ xs) n = absurd (omega (arith, n))
  labels-of (l ∷ ls) [] n = absurd (omega (arith, n))
  labels-of (l ∷ ls) (x ∷ xs) n = ap (λ ks. l ∷ ks) (labels-of ls xs (omega (arith, n)))

  pub values-of : (ls : List Id) (xs : List X) → length xs ≡ length ls → values_in (with_labels ls xs) ≡ xs
  values-of [] [] n = refl
  values-of [] (x ∷ xs) n = absurd (omega (arith, n))
  values-of (l ∷ ls) [] n = absurd (omega (arith, n))
  values-of (l ∷ ls) (x ∷ xs) n = ap (λ ks. x ∷ ks) (values-of ls xs (omega (arith, n)))

  sets-row : (ls : List Id) (xs : List X) → length xs ≡ length ls → AreRising ls → set_fields (with_labels ls xs) [] ≡ with_labels ls xs
  unfolding IsStrictlySortedBy
  sets-row [] [] n r = refl
  sets-row [] (x ∷ xs) n r = absurd (omega (arith, n))
  sets-row (l ∷ ls) [] n r = absurd (omega (arith, n))
  sets-row (l ∷ ls) (x ∷ xs) n r =
      let m : length xs ≡ length ls = omega (arith, n) in
      ap (set_field l x) (sets-row ls xs m r.1) ∙ set-first l x (with_labels ls xs) (subst (AllByRecursion (λ j. label_order l j ≡ Less)) (sym (labels-of ls xs m)) r.0)

  pub with-parts : (m : Map X) → with_labels (labels_in m) (values_in m) ≡ m
  with-parts [] = refl
  with-parts (e ∷ m) = ap (λ n. e ∷ n) (with-parts m)

  pub count-parts : (m : Map X) → length (values_in m) ≡ length (labels_in m)
  count-parts [] = refl
  count-parts (e ∷ m) = let r = count-parts m in omega (arith, r)

  -- what is found in a row is one of its parts
  pub row-found : (P : X → Type 0) (ls : List Id) (xs : List X) (l : Id) (x : X) → AllByRecursion P xs → lookup l (with_labels ls xs) ≡ Some x → P x
  row-found P [] xs l x a e = absurd (none-some x e)
  row-found P (k ∷ ls) [] l x a e = absurd (none-some x e)
  row-found P (k ∷ ls) (y ∷ xs) l x a e =
      elim (same_or_other l k) [
        | inl s ↦ let f : Some y ≡ Some x = sym (lookup-here l (k, y) (with_labels ls xs) s) ∙ e in let g : y ≡ x = cc in subst P g a.0
        | inr d ↦ row-found P ls xs l x a.1 (sym (lookup-there l (k, y) (with_labels ls xs) d) ∙ e)
      ]

  all-values : (P : X → Type 0) (ls : List Id) (xs : List X) → AllByRecursion P xs → AllByRecursion P (values_in (with_labels ls xs))
  all-values P [] xs a = tt
  all-values P (l ∷ ls) [] a = tt
  all-values P (l ∷ ls) (x ∷ xs) a = (a.0, all-values P ls xs a.1)

-- fields through a function

module _ {A B : Type 0} (g : A → B) where
  apart-at : (l : Id) (fs : List (Id × A)) → AllByRecursion (λ f. l ≡ f.0 → ⊥) fs → AllByRecursion (λ f. l ≡ f.0 → ⊥) (fields_at g fs)
  apart-at l [] a = tt
  apart-at l (f ∷ fs) a = (a.0, apart-at l fs a.1)

  pub distinct-at : (fs : List (Id × A)) → AreDistinct fs → AreDistinct (fields_at g fs)
  distinct-at [] d = tt
  distinct-at (f ∷ fs) d = (apart-at f.0 fs d.0, distinct-at fs d.1)

  pub labels-at : (fs : List (Id × A)) → labels_in (fields_at g fs) ≡ labels_in fs
  labels-at [] = refl
  labels-at (f ∷ fs) = ap (λ ls. f.0 ∷ ls) (labels-at fs)

  pub values-at : (fs : List (Id × A)) → values_in (fields_at g fs) ≡ map g (values_in fs)
  values-at [] = refl
  values-at (f ∷ fs) = ap (λ xs. g f.1 ∷ xs) (values-at fs)

  set-at-by : (l : Id) (x : A) (e : Id × A) (m : Map A) (o : Ordering) → fields_at g (set_field l x m) ≡ set_field l (g x) (fields_at g m)
      → fields_at g (by_order o ((l, x) ∷ e ∷ m) ((l, x) ∷ m) (e ∷ set_field l x m)) ≡ by_order o ((l, g x) ∷ fields_at g (e ∷ m)) ((l, g x) ∷ fields_at g m) ((e.0, g e.1) ∷ set_field l (g x) (fields_at g m))
  set-at-by l x e m Less r = refl
  set-at-by l x e m Equal r = refl
  set-at-by l x e m Greater r = ap (λ n. (e.0, g e.1) ∷ n) r

  pub set-at : (l : Id) (x : A) (m : Map A) → fields_at g (set_field l x m) ≡ set_field l (g x) (fields_at g m)
  set-at l x [] = refl
  set-at l x (e ∷ m) = set-at-by l x e m (label_order l e.0) (set-at l x m)

  pub sets-at : (fs : List (Id × A)) (m : Map A) → fields_at g (set_fields fs m) ≡ set_fields (fields_at g fs) (fields_at g m)
  sets-at [] m = refl
  sets-at (f ∷ fs) m = set-at f.0 f.1 (set_fields fs m) ∙ ap (set_field f.0 (g f.1)) (sets-at fs m)

  pub all-at-fields : (P : B → Type 0) (fs : List (Id × A)) → AllByRecursion (λ k. P (g k)) (values_in fs) → AllByRecursion P (values_in (fields_at g fs))
  all-at-fields P [] a = tt
  all-at-fields P (f ∷ fs) a = (a.0, all-at-fields P fs a.1)

  pub labels-map : (ls : List Id) (xs : List A) → with_labels ls (map g xs) ≡ fields_at g (with_labels ls xs)
  labels-map [] xs = refl
  labels-map (l ∷ ls) [] = refl
  labels-map (l ∷ ls) (x ∷ xs) = ap (λ m. (l, g x) ∷ m) (labels-map ls xs)

  lookup-by : (o : Ordering) (e : A) (r : Option A) (s : Option B) → option_map g r ≡ s → option_map g (by_order o r (Some e) r) ≡ by_order o s (Some (g e)) s
  lookup-by Less e r s q = q
  lookup-by Equal e r s q = refl
  lookup-by Greater e r s q = q

  pub lookup-at : (l : Id) (m : Map A) → option_map g (lookup l m) ≡ lookup l (fields_at g m)
  lookup-at l [] = refl
  lookup-at l (e ∷ m) = lookup-by (order_of l e.0) e.1 (lookup l m) (lookup l (fields_at g m)) (lookup-at l m)

-- a row's components

abbrev pub list_of : MlTypes Name → List (MlType Name)
list_of no_type = []
list_of (and_type t ts) = t ∷ list_of ts

pub list_of-types : (ts : List (MlType Name)) → list_of (types_of ts) ≡ ts
list_of-types [] = refl
list_of-types (t ∷ ts) = ap (λ us. t ∷ us) (list_of-types ts)

pub types-list_of : (ts : MlTypes Name) → types_of (list_of ts) ≡ ts
types-list_of no_type = refl
types-list_of (and_type t ts) = ap (and_type t) (types-list_of ts)

abbrev pub components : MlType Name → Map (MlType Name)
components (bound k) = []
components (free v) = []
components (app arrow ts) = []
components (app (row ls) ts) = with_labels ls (list_of ts)
components (app (name n) ts) = []

-- the row of these components
abbrev pub row_with : (w : World) → Map (In w) → In w
row_with w m = make w (row (labels_in m)) (values_in m)

-- the components of a type, where it is a row, with these fields put in at their places
abbrev pub open_row : MlType Name → List (Id × MlType Name) → MlType Name
open_row t fs = row_with finite (set_fields fs (set_fields (components t) []))

-- rows of fields have them
pub row_with-has : (w : World) (m : Map (In w)) (fs : List (Id × In w)) → AreRising (labels_in m) → AllByRecursion (λ f. lookup f.0 m ≡ Some f.1) fs → HasFields w (row_with w m) fs
row_with-has w m fs r a = record {
  labels = labels_in m;
  types = values_in m;
  rising = r;
  count = count-parts m;
  is_row = refl;
  fields = subst (λ n. AllByRecursion (λ f. lookup f.0 n ≡ Some f.1) fs) (sym (with-parts m)) a;
}

pub open-has : (t : MlType Name) (fs : List (Id × MlType Name)) → AreDistinct fs → HasFields finite (open_row t fs) fs
open-has t fs d = row_with-has finite (set_fields fs (set_fields (components t) [])) fs (rising-sets fs (set_fields (components t) []) (rising-sets (components t) [] rising-none)) (sets-found fs (set_fields (components t) []) d)

pub components-row : (ls : List Id) (ts : List (MlType Name)) → components (app (row ls) (types_of ts)) ≡ with_labels ls ts
components-row ls ts = ap (with_labels ls) (list_of-types ts)

-- a row that has the fields stays
pub open-same : (t : MlType Name) (fs : List (Id × MlType Name)) → HasFields finite t fs → open_row t fs ≡ t
open-same t fs h =
    let m = with_labels h.labels h.types in
    let c : components t ≡ m = ap components h.is_row ∙ components-row h.labels h.types in
    let a : set_fields (components t) [] ≡ m = ap (λ n. set_fields n []) c ∙ sets-row h.labels h.types h.count h.rising in
    let r : AreRising (labels_in m) = subst AreRising (sym (labels-of h.labels h.types h.count)) h.rising in
    let b : set_fields fs (set_fields (components t) []) ≡ m = ap (set_fields fs) a ∙ sets-same fs m r h.fields in
    ap (row_with finite) b ∙ ((λ i. make finite (row (labels-of h.labels h.types h.count i)) (values-of h.labels h.types h.count i)) ∙ sym h.is_row)

-- what holds of a row's components and of the fields holds of the parts
pub open-all : (P : MlType Name → Type 0) (t : MlType Name) (fs : List (Id × MlType Name)) → AllByRecursion P (values_in (components t)) → AllByRecursion P (values_in fs) → AllByRecursion P (values_in (set_fields fs (set_fields (components t) [])))
open-all P t fs a b = all-sets P fs (set_fields (components t) []) b (all-sets P (components t) [] a tt)

pub all-components : (P : MlType Name → Type 0) (ls : List Id) (ts : List (MlType Name)) → AllByRecursion P ts → AllByRecursion P (values_in (components (app (row ls) (types_of ts))))
all-components P ls ts a = subst (λ m. AllByRecursion P (values_in m)) (sym (components-row ls ts)) (all-values P ls ts a)

-- fields of one row

pub row-labels : (ls ks : List Id) → ◌≡◌ {A = Head Name} (row ls) (row ks) → ls ≡ ks
row-labels ls ks e = cc

module _ (w : World) (t : In w) (fs gs : List (Id × In w)) where
  pub fields-known : (h : HasFields w t fs) → HasFields w t gs → AllByRecursion (λ f. lookup f.0 (with_labels h.labels h.types) ≡ Some f.1) gs
  fields-known h k =
      let a : k.labels ≡ h.labels = row-labels k.labels h.labels (app_head w t (row k.labels) (row h.labels) k.types h.types k.is_row h.is_row) in
      let b : k.types ≡ h.types = app_parts w t (row k.labels) (row h.labels) k.types h.types k.is_row h.is_row in
      subst (λ m. AllByRecursion (λ f. lookup f.0 m ≡ Some f.1) gs) (λ i. with_labels (a i) (b i)) k.fields

  pub has-these : (h : HasFields w t fs) → AllByRecursion (λ f. lookup f.0 (with_labels h.labels h.types) ≡ Some f.1) gs → HasFields w t gs
  has-these h a = record { labels = h.labels; types = h.types; rising = h.rising; count = h.count; is_row = h.is_row; fields = a }

pub all-front : {A : Type 0} (P : A → Type 0) (xs ys : List A) → AllByRecursion P (xs ++ ys) → AllByRecursion P xs
all-front P [] ys a = tt
all-front P (x ∷ xs) ys a = (a.0, all-front P xs ys a.1)

pub all-back : {A : Type 0} (P : A → Type 0) (xs ys : List A) → AllByRecursion P (xs ++ ys) → AllByRecursion P ys
all-back P [] ys a = a
all-back P (x ∷ xs) ys a = all-back P xs ys a.1

all-joined : {A : Type 0} (P : A → Type 0) (xs ys : List A) → AllByRecursion P xs → AllByRecursion P ys → AllByRecursion P (xs ++ ys)
all-joined P [] ys a b = b
all-joined P (x ∷ xs) ys a b = (a.0, all-joined P xs ys a.1 b)

module _ (w : World) (t : In w) (fs gs : List (Id × In w)) where
  pub has-front : HasFields w t (fs ++ gs) → HasFields w t fs
  has-front h = has-these w t (fs ++ gs) fs h (all-front (λ f. lookup f.0 (with_labels h.labels h.types) ≡ Some f.1) fs gs h.fields)

  pub has-back : HasFields w t (fs ++ gs) → HasFields w t gs
  has-back h = has-these w t (fs ++ gs) gs h (all-back (λ f. lookup f.0 (with_labels h.labels h.types) ≡ Some f.1) fs gs h.fields)

  pub has-both : HasFields w t fs → HasFields w t gs → HasFields w t (fs ++ gs)
  has-both h k = has-these w t fs (fs ++ gs) h (all-joined (λ f. lookup f.0 (with_labels h.labels h.types) ≡ Some f.1) fs gs h.fields (fields-known w t fs gs h k))

-- what stands at a field
pub field-found : {X : Type 0} (g : ℕ → X) (fs : List (Id × ℕ)) (m : Map X) (l : Id) (k : ℕ) → IsField l k fs → AllByRecursion (λ f. lookup f.0 m ≡ Some f.1) (fields_at g fs) → lookup l m ≡ Some (g k)
field-found g [] m l k h a = absurd h
field-found g (f ∷ fs) m l k h a =
    elim h [
      | inl q ↦ ap (λ j. lookup j m) q.0 ∙ (a.0 ∙ ap (λ j. Some (g j)) (sym q.1))
      | inr r ↦ field-found g fs m l k r a.1
    ]

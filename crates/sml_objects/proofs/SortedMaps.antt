-- Maps whose entries come in order.
use Rattle.std.proofs.Common.{◌≡◌, ℕ, List, [], ◌∷◌, ◌++◌, map, refl, ap, sym, subst, ◌∙◌, Vec, Global, append_assoc}
use Rattle.std.proofs.lemmas.List.{map-append}
use Rattle.std.proofs.lemmas.Cmp.{nat_list_cmp_total}
use Rattle.std.specs.List.{AllByRecursion}
use Rattle.std.specs.List.Sorted.{IsStrictlySortedBy}
use Rattle.std.specs.Ordering.{ordering_reverse}
use Rattle.std.specs.BTreeMap.{insert_entry}
use Rattle.std.specs.declared.cmp.Ordering.TheVariants.{Less}
use Rattle.std.specs.declared.rc.Rc.{Rc}
use Rattle.sml_tree.specs.Trees.{Id}
use Rattle.sml_tree.specs.Views.{ident_of}
use Rattle.sml_objects.specs.Maps.{Map, put, join, order_of, by_order}
use Rattle.sml_objects.specs.Views.{entries_of}
use Rattle.sml_objects.proofs.EnvViews.{entries-put}
use Rattle.sml_objects.proofs.Joins.{Stored, mapped, join-push}

abbrev ids : {X : Type 0} → Map X → List Id
ids m = map (λ e. e.0) m

-- each identifier of the map is below x
abbrev AreBelow : {X : Type 0} → Map X → Id → Type 0
AreBelow m x = AllByRecursion (λ y. order_of y x ≡ Less) (ids m)

put-last : {X : Type 0} (m : Map X) (x : Id) (v : X) → AreBelow m x → put x v m ≡ m ++ ((x, v) ∷ [])
put-last [] x v h = refl
put-last (e ∷ m) x v h =
    ap (λ o. by_order o ((x, v) ∷ e ∷ m) ((e.0, v) ∷ m) (e ∷ put x v m)) (nat_list_cmp_total.antisymm x e.0 ∙ ap ordering_reverse h.0)
    ∙ ap (λ l. e ∷ l) (put-last m x v h.1)

all-push : {K : Type 0} (P : K → Type 0) (ks : List K) (k : K) → AllByRecursion P ks → P k → AllByRecursion P (ks ++ (k ∷ []))
all-push P [] k h p = (p, tt)
all-push P (j ∷ ks) k h p = (h.0, all-push P ks k h.1 p)

-- each identifier of the first map is below each of the second
AreApart : {X : Type 0} → Map X → Map X → Type 0
AreApart m [] = Unit {0}
AreApart m (e ∷ n) = AreBelow m e.0 × AreApart m n

apart-push : {X : Type 0} (m n : Map X) (x : Id) (v : X) → AreApart m n → AllByRecursion (λ y. order_of x y ≡ Less) (ids n) → AreApart (m ++ ((x, v) ∷ [])) n
unfolding AreApart
apart-push m [] x v h k = tt
apart-push m (e ∷ n) x v h k = (
  subst (λ ks. AllByRecursion (λ y. order_of y e.0 ≡ Less) ks) (sym (map-append (λ e. e.0) m ((x, v) ∷ []))) (all-push (λ y. order_of y e.0 ≡ Less) (ids m) x h.0 k.0),
  apart-push m n x v h.1 k.1,
)

join-apart : {X : Type 0} (m n : Map X) → AreApart m n → IsStrictlySortedBy order_of (ids n) → join m n ≡ m ++ n
unfolding AreApart IsStrictlySortedBy
join-apart m [] h s = sym (no-more m)
  where
    no-more : {X : Type 0} (xs : List X) → xs ++ [] ≡ xs
    no-more [] = refl
    no-more (x ∷ xs) = ap (λ l. x ∷ l) (no-more xs)
join-apart m (e ∷ n) h s =
    ap (λ l. join l n) (put-last m e.0 e.1 h.0)
    ∙ join-apart (m ++ (e ∷ [])) n (apart-push m n e.0 e.1 h.1 s.0) s.1
    ∙ append_assoc m (e ∷ []) n

apart-none : {X : Type 0} (n : Map X) → AreApart [] n
unfolding AreApart
apart-none [] = tt
apart-none (e ∷ n) = (tt, apart-none n)

join-sorted : {X : Type 0} (n : Map X) → IsStrictlySortedBy order_of (ids n) → join [] n ≡ n
join-sorted n s = join-apart [] n (apart-none n) s

abbrev Key : Type 0
Key = Rc (Vec ℕ Global) Global

all-ids : (k : Key) (ks : List Key) → AllByRecursion (λ j. order_of (ident_of k) (ident_of j) ≡ Less) ks → AllByRecursion (λ y. order_of (ident_of k) y ≡ Less) (map ident_of ks)
all-ids k [] h = tt
all-ids k (j ∷ ks) h = (h.0, all-ids k ks h.1)

sorted-ids : (ks : List Key) → IsStrictlySortedBy (λ x y. order_of (ident_of x) (ident_of y)) ks → IsStrictlySortedBy order_of (map ident_of ks)
unfolding IsStrictlySortedBy
sorted-ids [] h = tt
sorted-ids (k ∷ ks) h = (all-ids k ks h.0, sorted-ids ks h.1)

ids-mapped : {A X Y : Type 0} (f : A → X) (h : X → Y) (es : Stored A) → ids (mapped h (entries_of f es)) ≡ map ident_of (map (λ e. e.0) es)
ids-mapped f h [] = refl
ids-mapped f h (e ∷ es) = ap (λ l. ident_of e.0 ∷ l) (ids-mapped f h es)

-- the entries of a map in order, put one after the other
pub put-in-order : {A X Y : Type 0} (f : A → X) (h : X → Y) (es : Stored A)
    → IsStrictlySortedBy (λ x y. order_of (ident_of x) (ident_of y)) (map (λ e. e.0) es)
    → join [] (mapped h (entries_of f es)) ≡ mapped h (entries_of f es)
put-in-order f h es s =
    join-sorted (mapped h (entries_of f es)) (subst (IsStrictlySortedBy order_of) (sym (ids-mapped f h es)) (sorted-ids (map (λ e. e.0) es) s))

-- one entry more
pub mapped-next : {A X : Type 0} (f : A → X) (h : X → X) (old new ys zs : Stored A) (k x : Key) (v w : A)
    → new ≡ insert_entry (λ x y. order_of (ident_of x) (ident_of y)) old k v → zs ≡ ys ++ ((x, w) ∷ []) → ident_of k ≡ ident_of x → f v ≡ h (f w)
    → entries_of f old ≡ join [] (mapped h (entries_of f ys)) → entries_of f new ≡ join [] (mapped h (entries_of f zs))
mapped-next f h old new ys zs k x v w inserted yielded key value e =
    ap (entries_of f) inserted
    ∙ entries-put f old k v
    ∙ (λ i. put (key i) (value i) (e i))
    ∙ sym (join-push [] (mapped h (entries_of f ys)) (ident_of x) (h (f w)))
    ∙ ap (join []) (sym (map-append (λ e. (e.0, h e.1)) (entries_of f ys) ((ident_of x, f w) ∷ [])))
    ∙ ap (λ l. join [] (mapped h l)) (sym (map-append (λ e. (ident_of e.0, f e.1)) ys ((x, w) ∷ [])))
    ∙ ap (λ l. join [] (mapped h (entries_of f l))) (sym yielded)

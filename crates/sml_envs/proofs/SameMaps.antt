-- Maps in order, of which each entry of one is in the other.
use Rattle.std.proofs.Common.{◌≡◌, true, false, ◌≤◌, ◌++◌, ℕ, suc, List, [], ◌∷◌, map, length, Option, Some, None, Bor, Vec, Global, refl, ap, sym, subst, ◌∙◌, arith}
use Rattle.std.proofs.lemmas.Cmp.{nat_list_cmp_total, on_total}
use Rattle.std.proofs.lemmas.List.{length-map}
use Rattle.std.proofs.lemmas.Map.Lookups.{exact_bytes}
use Rattle.std.specs.List.{AllByRecursion}
use Rattle.std.specs.List.Sorted.{IsStrictlySortedBy}
use Rattle.std.specs.Ordering.{ordering_reverse}
use Rattle.std.specs.declared.cmp.Ordering.{Ordering}
use Rattle.std.specs.declared.cmp.Ordering.TheVariants.{Less, Equal, Greater}
use Rattle.std.specs.Cmp.{IsTotalOrder}
use Rattle.std.specs.Map as stored
use Rattle.std.specs.Map.Iter.{deref_pair}
use Rattle.std.specs.BTreeMap.{is_at}
use Rattle.std.specs.Option.{option_map, is_some}
use Rattle.std.specs.declared.rc.Rc.{Rc}
use Rattle.sml_tree.specs.Trees.{Id}
use Rattle.sml_tree.specs.Views.{ident_of}
use Rattle.sml_objects.specs.Maps.{Map, lookup, order_of, by_order}
use Rattle.sml_objects.specs.Views.{entries_of}
use Rattle.sml_objects.proofs.EnvViews.{lookup-entries}
use Rattle.sml_objects.proofs.Joins.{Stored}

abbrev ids : {X : Type 0} → Map X → List Id
ids m = map (λ e. e.0) m

abbrev pub IsInOrder : {X : Type 0} → Map X → Type 0
IsInOrder m = IsStrictlySortedBy order_of (ids m)

-- x is below each of these
abbrev IsBelow : Id → List Id → Type 0
IsBelow x ys = AllByRecursion (λ y. order_of x y ≡ Less) ys

-- each entry of the first map is in the second
abbrev pub AreIn : {X : Type 0} → Map X → Map X → Type 0
AreIn m n = AllByRecursion (λ e. lookup e.0 n ≡ Some e.1) m

abbrev Key : Type 0
Key = Rc (Vec ℕ Global) Global

-- one entry more
pub one-more : {A X : Type 0} (f : A → X) (es : List (Bor Key × Bor A)) (k : Bor Key) (v : Bor A) (n : Map X) → lookup (ident_of k.now) n ≡ Some (f v.now)
    → AreIn (entries_of f (map deref_pair es)) n → AreIn (entries_of f (map deref_pair (es ++ ((k, v) ∷ [])))) n
one-more f [] k v n e h = (e, tt)
one-more f (p ∷ es) k v n e h = (h.0, one-more f es k v n e h.1)

below-less : (x y : Id) (zs : List Id) → order_of x y ≡ Less → IsBelow y zs → IsBelow x zs
below-less x y [] e h = tt
below-less x y (z ∷ zs) e h = (nat_list_cmp_total.trans x y z e h.0, below-less x y zs e h.1)

below-equal : (x y : Id) (zs : List Id) → x ≡ y → IsBelow y zs → IsBelow x zs
below-equal x y [] e h = tt
below-equal x y (z ∷ zs) e h = (ap (λ w. order_of w z) e ∙ h.0, below-equal x y zs e h.1)

turned : (x y : Id) (o : Ordering) → order_of x y ≡ o → order_of y x ≡ ordering_reverse o
turned x y o e = nat_list_cmp_total.antisymm y x ∙ ap ordering_reverse e

-- nothing stands at an identifier below those of a map
none-below : {X : Type 0} (x : Id) (n : Map X) → IsBelow x (ids n) → lookup x n ≡ None
none-below x [] h = refl
none-below x (e ∷ n) h = ap (λ o. by_order o (lookup x n) (Some e.1) (lookup x n)) h.0 ∙ none-below x n h.1

-- those above the first entry are in the rest
in-rest : {X : Type 0} (f : Id × X) (n m : Map X) → IsBelow f.0 (ids m) → AreIn m (f ∷ n) → AreIn m n
in-rest f n [] b h = tt
in-rest f n (e ∷ m) b h = (
  ap (λ o. by_order o (lookup e.0 n) (Some f.1) (lookup e.0 n)) (sym (turned f.0 e.0 Less b.0)) ∙ h.0,
  in-rest f n m b.1 h.1,
)

-- the first entries of both: which is first
module _ {X : Type 0} (e f : Id × X) (m n : Map X) (s : IsInOrder (e ∷ m)) (t : IsInOrder (f ∷ n)) (h : AreIn (e ∷ m) (f ∷ n)) where
  found-at : (o : Ordering) → order_of e.0 f.0 ≡ o → by_order o (lookup e.0 n) (Some f.1) (lookup e.0 n) ≡ Some e.1
  found-at o q = ap (λ p. by_order p (lookup e.0 n) (Some f.1) (lookup e.0 n)) (sym q) ∙ h.0

  not-less : order_of e.0 f.0 ≡ Less → ⊥
  unfolding IsStrictlySortedBy
  not-less q =
      let a : lookup e.0 n ≡ Some e.1 = found-at Less q in
      let b : lookup e.0 n ≡ None = none-below e.0 n (below-less e.0 f.0 (ids n) q t.0) in
      cc

  same-first : order_of e.0 f.0 ≡ Equal → e ≡ f
  same-first q =
      let a : Some f.1 ≡ Some e.1 = found-at Equal q in
      let b : f.1 ≡ e.1 = cc in
      let c : e.0 ≡ f.0 = exact_bytes e.0 f.0 q in
      λ i. (c i, sym b i)

  rest-equal : order_of e.0 f.0 ≡ Equal → AreIn m n
  unfolding IsStrictlySortedBy
  rest-equal q = in-rest f n m (below-equal f.0 e.0 (ids m) (sym (exact_bytes e.0 f.0 q)) s.0) h.1

  rest-greater : order_of e.0 f.0 ≡ Greater → AreIn (e ∷ m) n
  unfolding IsStrictlySortedBy
  rest-greater q =
      let a : order_of f.0 e.0 ≡ Less = turned e.0 f.0 Greater q in
      in-rest f n (e ∷ m) (a, below-less f.0 e.0 (ids m) a s.0) h

by-cases : {P : Type 0} (o : Ordering) → (o ≡ Less → P) → (o ≡ Equal → P) → (o ≡ Greater → P) → P
by-cases Less a b c = a refl
by-cases Equal a b c = b refl
by-cases Greater a b c = c refl

tail : {X : Type 0} (e : Id × X) (m : Map X) → IsInOrder (e ∷ m) → IsInOrder m
unfolding IsStrictlySortedBy
tail e m s = s.1

no-room : {X : Type 0} (m n : Map X) → IsInOrder m → IsInOrder n → AreIn m n → length m ≤ length n
no-room [] n s t h = omega arith
no-room (e ∷ m) [] s t h = let a : None ≡ Some e.1 = h.0 in cc
no-room (e ∷ m) (f ∷ n) s t h =
    by-cases (order_of e.0 f.0)
    (λ q. absurd (not-less e f m n s t h q))
    (λ q. let a : length m ≤ length n = no-room m n (tail e m s) (tail f n t) (rest-equal e f m n s t h q) in omega arith)
    (λ q. let a : length (e ∷ m) ≤ length n = no-room (e ∷ m) n s (tail f n t) (rest-greater e f m n s t h q) in omega arith)

pub same-maps : {X : Type 0} (m n : Map X) → IsInOrder m → IsInOrder n → length m ≡ length n → AreIn m n → m ≡ n
same-maps [] [] s t l h = refl
same-maps [] (f ∷ n) s t l h = absurd (omega arith)
same-maps (e ∷ m) [] s t l h = absurd (omega arith)
same-maps (e ∷ m) (f ∷ n) s t l h =
    by-cases (order_of e.0 f.0)
    (λ q. absurd (not-less e f m n s t h q))
    (λ q. λ i. same-first e f m n s t h q i ∷ same-maps m n (tail e m s) (tail f n t) (let a : suc (length m) ≡ suc (length n) = l in omega arith) (rest-equal e f m n s t h q) i)
    (λ q. let a : length (e ∷ m) ≤ length n = no-room (e ∷ m) n s (tail f n t) (rest-greater e f m n s t h q) in absurd (omega arith))

-- what the program's maps hold

pub keys_total : IsTotalOrder (λ (x y : Key). order_of (ident_of x) (ident_of y))
keys_total = on_total ident_of nat_list_cmp_total

pub held : {A X : Type 0} (f : A → X) (es : Stored A) (k : Key) (r : Option A) → stored.lookup (is_at (λ x. order_of (ident_of k) (ident_of x))) es ≡ r
    → lookup (ident_of k) (entries_of f es) ≡ option_map f r
held f es k r h = sym (lookup-entries f es k) ∙ ap (option_map f) h

all-ids : (k : Key) (ks : List Key) → AllByRecursion (λ j. order_of (ident_of k) (ident_of j) ≡ Less) ks → IsBelow (ident_of k) (map ident_of ks)
all-ids k [] h = tt
all-ids k (j ∷ ks) h = (h.0, all-ids k ks h.1)

sorted-ids : (ks : List Key) → IsStrictlySortedBy (λ x y. order_of (ident_of x) (ident_of y)) ks → IsStrictlySortedBy order_of (map ident_of ks)
unfolding IsStrictlySortedBy
sorted-ids [] h = tt
sorted-ids (k ∷ ks) h = (all-ids k ks h.0, sorted-ids ks h.1)

ids-entries : {A X : Type 0} (f : A → X) (es : Stored A) → ids (entries_of f es) ≡ map ident_of (map (λ e. e.0) es)
ids-entries f [] = refl
ids-entries f (e ∷ es) = ap (λ l. ident_of e.0 ∷ l) (ids-entries f es)

in-order : {A X : Type 0} (f : A → X) (es : Stored A) → IsStrictlySortedBy (λ x y. order_of (ident_of x) (ident_of y)) (map (λ e. e.0) es)
    → IsInOrder (entries_of f es)
in-order f es s = subst (IsStrictlySortedBy order_of) (sym (ids-entries f es)) (sorted-ids (map (λ e. e.0) es) s)

-- as many entries, each of which is in the other map
pub same-entries : {A X : Type 0} (f : A → X) (es fs : Stored A) → IsStrictlySortedBy (λ x y. order_of (ident_of x) (ident_of y)) (map (λ e. e.0) es)
    → IsStrictlySortedBy (λ x y. order_of (ident_of x) (ident_of y)) (map (λ e. e.0) fs) → length es ≡ length fs → AreIn (entries_of f es) (entries_of f fs)
    → entries_of f es ≡ entries_of f fs
same-entries f es fs s t l h =
    same-maps (entries_of f es) (entries_of f fs) (in-order f es s) (in-order f fs t)
    (length-map es (λ e. (ident_of e.0, f e.1)) ∙ l ∙ sym (length-map fs (λ e. (ident_of e.0, f e.1)))) h

pub as-many : {A X : Type 0} (f : A → X) (es fs : Stored A) → entries_of f es ≡ entries_of f fs → length es ≡ length fs
as-many f es fs e = sym (length-map es (λ e. (ident_of e.0, f e.1))) ∙ ap length e ∙ length-map fs (λ e. (ident_of e.0, f e.1))

pub as-many-ids : {A X : Type 0} (f : A → X) (es fs : Stored A) → ids (entries_of f es) ≡ ids (entries_of f fs) → length es ≡ length fs
as-many-ids f es fs e =
    sym (length-map (map (λ e. e.0) es) ident_of ∙ length-map es (λ e. e.0)) ∙ ap length (sym (ids-entries f es) ∙ e ∙ ids-entries f fs)
    ∙ (length-map (map (λ e. e.0) fs) ident_of ∙ length-map fs (λ e. e.0))

abbrev pub nothing : {A : Type 0} → A → Unit {0}
nothing x = tt

seen-some : {A : Type 0} (r : Option A) → is_some r ≡ true → option_map nothing r ≡ Some tt
seen-some None h = cc
seen-some (Some x) h = refl

seen-none : {A : Type 0} (r : Option A) → is_some r ≡ false → option_map nothing r ≡ None
seen-none None h = refl
seen-none (Some x) h = cc

pub present : {A : Type 0} (es : Stored A) (k : Key) → is_some (stored.lookup (is_at (λ x. order_of (ident_of k) (ident_of x))) es) ≡ true
    → lookup (ident_of k) (entries_of nothing es) ≡ Some tt
present es k h = held nothing es k _ refl ∙ seen-some (stored.lookup (is_at (λ x. order_of (ident_of k) (ident_of x))) es) h

pub missing : {A : Type 0} (es : Stored A) (k : Key) → is_some (stored.lookup (is_at (λ x. order_of (ident_of k) (ident_of x))) es) ≡ false
    → lookup (ident_of k) (entries_of nothing es) ≡ None
missing es k h = held nothing es k _ refl ∙ seen-none (stored.lookup (is_at (λ x. order_of (ident_of k) (ident_of x))) es) h

-- the same identifiers, without what they stand for
pub same-ids : {A X : Type 0} (f : A → X) (es fs : Stored A) → entries_of nothing es ≡ entries_of nothing fs → ids (entries_of f es) ≡ ids (entries_of f fs)
same-ids f es fs e = ids-entries f es ∙ sym (ids-entries nothing es) ∙ ap ids e ∙ ids-entries nothing fs ∙ sym (ids-entries f fs)

bare : List Id → Map (Unit {0})
bare xs = map (λ x. (x, tt)) xs

bare-ids : {A : Type 0} (es : Stored A) → bare (map ident_of (map (λ e. e.0) es)) ≡ entries_of nothing es
unfolding bare
bare-ids [] = refl
bare-ids (e ∷ es) = ap (λ l. (ident_of e.0, tt) ∷ l) (bare-ids es)

pub ids-same : {A X : Type 0} (f : A → X) (es fs : Stored A) → ids (entries_of f es) ≡ ids (entries_of f fs) → entries_of nothing es ≡ entries_of nothing fs
ids-same f es fs e = sym (bare-ids es) ∙ ap bare (sym (ids-entries f es) ∙ e ∙ ids-entries f fs) ∙ bare-ids fs

-- an entry of one map that the other does not have, or has otherwise

pub lacks : {X : Type 0} (m n : Map X) (x : Id) (v : X) → lookup x m ≡ Some v → lookup x n ≡ None → ¬ (m ≡ n)
lacks m n x v h k e = let q : Some v ≡ None = sym h ∙ ap (lookup x) e ∙ k in cc

pub differs : {X : Type 0} (m n : Map X) (x : Id) (v w : X) → lookup x m ≡ Some v → lookup x n ≡ Some w → ¬ (v ≡ w) → ¬ (m ≡ n)
differs m n x v w h k apart e =
    let q : Some v ≡ Some w = sym h ∙ ap (lookup x) e ∙ k in
    let p : v ≡ w = cc in
    apart p

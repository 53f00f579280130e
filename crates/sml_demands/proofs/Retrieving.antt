-- Types that are read back from nodes.
use Rattle.std.proofs.Common.{◌≡◌, ℕ, zero, suc, ◌+◌, ◌<◌, ◌≤◌, List, [], ◌∷◌, ◌++◌, length, map, get_or, length-append, take, drop, reverse, sym, ◌∙◌, ap, subst, refl, arith, inl, inr, Option, Some, None}
use Rattle.std.specs.Prelude.{IsSome, option_to_list}
use Rattle.std.specs.Option.{IfSome, IfNone}
use Rattle.std.proofs.Math.Seq.{take-append_seam, drop-append_seam}
use Rattle.std.proofs.lemmas.Bool.{cases_lt}
use Rattle.std.proofs.lemmas.Grind.{reverse_onto}
use Rattle.std.proofs.lemmas.List.{append_assoc, length-map, length-reverse, reverse-append, length-take-le, take-map, drop-map, take-append-drop}
use Rattle.std.specs.List.{sum_by, AllByRecursion}
use Rattle.std.proofs.lemmas.List.Sums.{sum_by-cons}
use Rattle.std.specs.Global.{Global}
use Rattle.std.specs.declared.rc.Rc.{Rc}
use Rattle.sml_objects.specs.Initial.{Name}
use Rattle.sml_objects.specs.Objects as O
use Rattle.sml_objects.specs.Sizes.{type_size}
use Rattle.sml_objects.specs.Types.{assign}
use Rattle.sml_objects.specs.Objects.{types_of}
use Rattle.sml_objects.specs.Views.{type_of}
use Rattle.sml_objects.specs.declared.objects.MlType.{MlType}
use Rattle.smallvec.specs.SmallVec.{SmallVec}
use denote.Ref.{Bor}
use Rattle.sml_graph.specs.declared.cell.Shape.{Shape}
use Rattle.sml_graph.specs.declared.cell.Shape.TheVariants as S
use Rattle.sml_graph.specs.declared.cell.Top.{Top}
use Rattle.sml_graph.specs.declared.node.Head.{Head}
use Rattle.sml_graph.specs.declared.node.Node.{Node}
use Rattle.sml_graph.specs.declared.node.Node.TheVariants.{Unknown, Link, App, Open}
use Rattle.sml_demands.specs.declared.reading.Task.{Task}
use Rattle.sml_demands.specs.declared.reading.Task.TheVariants.{Read, Apply}
use Rattle.sml_layers.specs.Worlds.{finite, make}
use Rattle.sml_graph.specs.Worlds.{Assignment}
use Rattle.sml_graph.specs.Graphs.{node_at, head_over, IsSame, IsSoundNode, IsCountOf, IsRootNode, IsKnown, IsLoose}
use Rattle.sml_graph.specs.Interned.{through, sizes}
use Rattle.sml_graph.specs.CodeCells.{IsShape}
use Rattle.sml_graph.specs.CodeRanks.{HasRank}
use Rattle.sml_schemes.specs.Left.{IsMadeOf}
use Rattle.sml_demands.specs.CodeReads.{IsTypeAt, stacked, Gives, heads, unread, IsTaskIn, IsReadingOn}
use Rattle.sml_graph.proofs.Interning.{typed-app, typed-free, map-push, types_size-is, sizes-append}
use Rattle.sml_graph.proofs.Merging.{all-append}
use Rattle.sml_graph.proofs.Ranking.{finite_of}
use Rattle.sml_demands.proofs.Owning.{made-app}

-- stacks

pub reverse-push : {A : Type 0} (xs : List A) (x : A) → reverse (xs ++ x ∷ []) ≡ x ∷ reverse xs
reverse-push xs x = reverse-append xs (x ∷ [])

pub stacked-push : (xs : List (Rc MlType Global)) (x : Rc MlType Global) → stacked (xs ++ x ∷ []) ≡ type_of x.value ∷ stacked xs
stacked-push xs x = ap reverse (map-push (λ t. type_of t.value) xs x) ∙ reverse-push (map (λ t. type_of t.value) xs) (type_of x.value)

pub length-stacked : (xs : List (Rc MlType Global)) → length (stacked xs) ≡ length xs
length-stacked xs = length-reverse (map (λ t. type_of t.value) xs) ∙ length-map xs (λ t. type_of t.value)

pub take-further : {A : Type 0} (xs ys : List A) (k : ℕ) (y : A) → drop k xs ≡ y ∷ ys → take (k + 1) xs ≡ take k xs ++ y ∷ []
take-further [] ys k y e = absurd (none k e) where
  none : (k : ℕ) → drop k [] ≡ y ∷ ys → ⊥
  none zero e = cc
  none (suc k) e = cc
take-further (x ∷ xs) ys zero y e = let d : x ≡ y = cc in rw d refl
take-further (x ∷ xs) ys (suc k) y e =
    let a : suc k + 1 ≡ suc (k + 1) = omega arith in
    rw a (ap (λ zs. x ∷ zs) (take-further xs ys k y e))

pub drop-further : {A : Type 0} (xs ys : List A) (k : ℕ) (y : A) → drop k xs ≡ y ∷ ys → drop (k + 1) xs ≡ ys
drop-further [] ys k y e = absurd (none k e) where
  none : (k : ℕ) → drop k [] ≡ y ∷ ys → ⊥
  none zero e = cc
  none (suc k) e = cc
drop-further (x ∷ xs) ys zero y e = cc
drop-further (x ∷ xs) ys (suc k) y e =
    let a : suc k + 1 ≡ suc (k + 1) = omega arith in
    rw a (drop-further xs ys k y e)

take-of : {A : Type 0} (n : ℕ) (xs ys : List A) → length xs ≡ n → take n (xs ++ ys) ≡ xs
take-of n xs ys e = ap (λ k. take k (xs ++ ys)) (sym e) ∙ take-append_seam xs ys

drop-of : {A : Type 0} (n : ℕ) (xs ys : List A) → length xs ≡ n → drop n (xs ++ ys) ≡ ys
drop-of n xs ys e = ap (λ k. drop k (xs ++ ys)) (sym e) ∙ drop-append_seam xs ys

all-reverse : {A : Type 0} (P : A → Type 0) (xs : List A) → AllByRecursion P xs → AllByRecursion P (reverse xs)
all-reverse P [] a = tt
all-reverse P (x ∷ xs) a = rw (reverse_onto xs x []) (all-append P (reverse xs) (x ∷ []) (all-reverse P xs a.1) (a.0, tt))

all-take : {A : Type 0} (P : A → Type 0) (n : ℕ) (xs : List A) → AllByRecursion P xs → AllByRecursion P (take n xs)
all-take P zero xs a = tt
all-take P (suc n) [] a = tt
all-take P (suc n) (x ∷ xs) a = (a.0, all-take P n xs a.1)

all-drop : {A : Type 0} (P : A → Type 0) (n : ℕ) (xs : List A) → AllByRecursion P xs → AllByRecursion P (drop n xs)
all-drop P zero xs a = a
all-drop P (suc n) [] a = tt
all-drop P (suc n) (x ∷ xs) a = all-drop P n xs a.1

-- types made of some variables

made-free : (P : ℕ → Type 0) (v : ℕ) → P v → IsMadeOf P (O.free v)
unfolding IsMadeOf
made-free P v p = p

size-free : (v : ℕ) → type_size {N = Name} (O.free v) ≡ 1
unfolding type_size
size-free v = refl

size-over : (h : O.Head Name) (ts : List (O.MlType Name)) → type_size (O.app h (types_of ts)) ≡ suc (sizes ts)
unfolding type_size
size-over h ts = ap suc (types_size-is ts)

-- what reading the parts of a node adds

reads-next : (i : ℕ) (is : List ℕ) (ks : List Task) → reverse (map Read (i ∷ is)) ++ ks ≡ reverse (map Read is) ++ (Read i ∷ ks)
reads-next i is ks = ap (λ zs. zs ++ ks) (reverse_onto (map Read is) (Read i) []) ∙ append_assoc (reverse (map Read is)) (Read i ∷ []) ks

gives-reads : (τ : Assignment finite) (at : ℕ) (is : List ℕ) (ks : List Task) (ts : List (O.MlType Name)) → Gives τ at ks (map τ is ++ ts) → Gives τ at (reverse (map Read is) ++ ks) ts
gives-reads τ at [] ks ts g = g
gives-reads τ at (i ∷ is) ks ts g = rw (reads-next i is ks) (gives-reads τ at is (Read i ∷ ks) ts (swap τ at i is ks ts g)) where
  swap : (τ : Assignment finite) (at i : ℕ) (is : List ℕ) (ks : List Task) (ts : List (O.MlType Name)) → Gives τ at ks (τ i ∷ (map τ is ++ ts)) → Gives τ at (Read i ∷ ks) (map τ is ++ ts)
  swap τ at i is ks ts g = g

heads-reads : (is : List ℕ) (ks : List Task) → heads (reverse (map Read is) ++ ks) ≡ heads ks
heads-reads [] ks = refl
heads-reads (i ∷ is) ks = ap heads (reads-next i is ks) ∙ heads-reads is (Read i ∷ ks)

unread-reads : (f : ℕ → ℕ) (is : List ℕ) (ks : List Task) → unread f (reverse (map Read is) ++ ks) ≡ sum_by f is + unread f ks
unread-reads f [] ks = omega arith
unread-reads f (i ∷ is) ks =
    let a = ap (unread f) (reads-next i is ks) in
    let r = unread-reads f is (Read i ∷ ks) in
    let c = sum_by-cons f i is in
    omega (arith, a, r, c)

reads-inside : (n : ℕ) (is : List ℕ) → AllByRecursion (λ i. i < n) is → AllByRecursion (IsTaskIn n) (map Read is)
reads-inside n [] a = tt
reads-inside n (i ∷ is) a = (a.0, reads-inside n is a.1)

-- a root that says nothing of a head isn't known
pub not-app-known : (x : Node) (s : Shape) → IsShape x s → IsRootNode x → ((p : Top) (ks : Bor (List ℕ)) → s ≡ S.App p ks → ⊥) → IsKnown x → ⊥
not-app-known x S.Unknown e r d k = rw e at k
not-app-known x (S.Link j) e r d k = rw e at r
not-app-known x (S.App p ks) e r d k = d p ks refl
not-app-known x (S.Open b) e r d k = rw e.1 at k

-- steps on the way to the type of a node

pub reading-first : (ns : List Node) (us : List ℕ) (at : ℕ) (ks : List Task) (ts : List (O.MlType Name)) → at < length ns → ks ≡ Read at ∷ [] → ts ≡ [] → IsReadingOn ns us at 0 ks ts
reading-first ns us at ks ts h e f = record {
  gives = λ τ m. rw (e, f) refl;
  over = rw f tt;
  inside = rw e (h, tt);
  sized = rw (e, f) (omega arith);
  less = λ f a. rw e (omega arith);
}

pub reading-unknown : (ns : List Node) (us : List ℕ) (at size : ℕ) (ks : List Task) (ts : List (O.MlType Name)) (i here v : ℕ) → IsReadingOn ns us at size (Read i ∷ ks) ts → IsSame ns i here → (IsKnown (node_at ns here) → ⊥) → v < length us → get_or us v 0 ≡ here → IsReadingOn ns us at (size + 1) ks (O.free v ∷ ts)
reading-unknown ns us at size ks ts i here v r s e h f =
    let one = size-free v in
    record {
      gives = λ τ m.
          let q : assign (through finite us τ) (O.free v) ≡ τ i = typed-free finite (through finite us τ) v ∙ (ap τ f ∙ sym (s finite τ m)) in
          subst (λ t. Gives τ at ks (t ∷ map (assign (through finite us τ)) ts)) (sym q) (r.gives τ m);
      over = (made-free (IsLoose ns us) v (h, λ k. e (subst (λ i. IsKnown (node_at ns i)) f k)), r.over);
      inside = r.inside.1;
      sized = let z = r.sized in omega (arith, z, one);
      less = λ f a. let z = r.less f a in let p = a.some i in omega (arith, z, p);
    }

pub reading-app : (ns : List Node) (us : List ℕ) (at size : ℕ) (ks qs : List Task) (ts : List (O.MlType Name)) (i here : ℕ) (h f : Head) (kids : SmallVec ℕ) → IsReadingOn ns us at size (Read i ∷ ks) ts → IsSame ns i here → node_at ns here ≡ App h kids → IsSoundNode (length ns) here (App h kids) → ((n : ℕ) → head_over f n ≡ head_over h n) → ((n : ℕ) → IsCountOf h n → IsCountOf f n) → qs ≡ reverse (map Read kids.items) ++ Apply f (length kids.items) ∷ ks → IsReadingOn ns us at (size + 1) qs ts
reading-app ns us at size ks qs ts i here h f kids r s e sound same count q =
    let n = length kids.items in
    record {
      gives = λ τ m.
          let us' = map (assign (through finite us τ)) ts in
          let p : length (map τ kids.items) ≡ n = length-map kids.items τ in
          let whole : τ i ≡ make finite (head_over f n) (map τ kids.items) = s finite τ m ∙ (rw e at (m here) ∙ ap (λ h. make finite h (map τ kids.items)) (sym (same n))) in
          let len : length (map τ kids.items ++ us') ≡ n + length us' = length-append (map τ kids.items) us' ∙ ap (λ k. k + length us') p in
          rw q (gives-reads τ at kids.items (Apply f n ∷ ks) us' (omega (arith, len), rw (take-of n (map τ kids.items) us' p, drop-of n (map τ kids.items) us' p, ← whole) (r.gives τ m)));
      over = r.over;
      inside = rw q (all-append (IsTaskIn (length ns)) (reverse (map Read kids.items)) (Apply f n ∷ ks) (all-reverse (IsTaskIn (length ns)) (map Read kids.items) (reads-inside (length ns) kids.items sound.0)) (count n sound.1, r.inside.1));
      sized = let z = r.sized in let y = ap heads q ∙ heads-reads kids.items (Apply f n ∷ ks) in omega (arith, z, y);
      less = λ g a.
          let z = r.less g a in
          let y = ap (unread g) q ∙ unread-reads g kids.items (Apply f n ∷ ks) in
          let w = a.parts here h kids e in
          let v = a.same i here s in
          omega (arith, z, y, w, v);
    }

pub reading-enough : (ns : List Node) (us : List ℕ) (at size : ℕ) (ks : List Task) (ts : List (O.MlType Name)) (h : Head) (n : ℕ) → HasRank ns → IsReadingOn ns us at size (Apply h n ∷ ks) ts → n ≤ length ts
reading-enough ns us at size ks ts h n rank r =
    let f = finite_of ns rank in
    let g = (r.gives f.0 f.1).0 in
    let l = length-map ts (assign (through finite us f.0)) in
    omega (arith, g, l)

pub reading-apply : (ns : List Node) (us : List ℕ) (at size : ℕ) (ks : List Task) (ts rs : List (O.MlType Name)) (h : Head) (n : ℕ) (t : O.MlType Name) → IsReadingOn ns us at size (Apply h n ∷ ks) ts → t ≡ O.app (head_over h n) (types_of (take n ts)) → rs ≡ t ∷ drop n ts → IsReadingOn ns us at size ks rs
reading-apply ns us at size ks ts rs h n t r e f = record {
  gives = λ τ m.
      let σ = through finite us τ in
      let g = (r.gives τ m).1 in
      let a : assign σ t ≡ make finite (head_over h n) (take n (map (assign σ) ts)) = ap (assign σ) e ∙ (typed-app finite σ (head_over h n) (take n ts) ∙ ap (make finite (head_over h n)) (sym (take-map (assign σ) n ts))) in
      rw (f, a, ← drop-map (assign σ) n ts) g;
  over = rw f (rw e (made-app (IsLoose ns us) (head_over h n) (take n ts) (all-take (IsMadeOf (IsLoose ns us)) n ts r.over)), all-drop (IsMadeOf (IsLoose ns us)) n ts r.over);
  inside = r.inside.1;
  sized =
      let z = r.sized in
      let a = ap type_size e ∙ size-over (head_over h n) (take n ts) in
      let b : sizes ts ≡ sizes (take n ts) + sizes (drop n ts) = ap sizes (sym (take-append-drop n ts)) ∙ sizes-append (take n ts) (drop n ts) in
      let c : sizes rs ≡ type_size t + sizes (drop n ts) = ap sizes f in
      omega (arith, z, a, b, c);
  less = r.less;
}

pub reading-last : (ns : List Node) (us : List ℕ) (at size limit : ℕ) (ts rs : List (O.MlType Name)) (t : O.MlType Name) → IsReadingOn ns us at size [] ts → ts ≡ t ∷ rs → size ≤ limit → IsTypeAt ns us at limit t
reading-last ns us at size limit ts rs t r e h =
    let o : AllByRecursion (IsMadeOf (IsLoose ns us)) (t ∷ rs) = rw e at r.over in
    record {
      over = o.0;
      same = λ τ m.
          let σ = through finite us τ in
          let g : assign σ t ∷ map (assign σ) rs ≡ τ at ∷ [] = rw e at (r.gives τ m) in
          cc;
      small = let z = r.sized in let y : sizes ts ≡ type_size t + sizes rs = ap sizes e in omega (arith, z, y, h);
    }

pub reading-some : (ns : List Node) (us : List ℕ) (at size : ℕ) → HasRank ns → IsReadingOn ns us at size [] [] → ⊥
reading-some ns us at size rank r = let f = finite_of ns rank in let g : [] ≡ f.0 at ∷ [] = r.gives f.0 f.1 in cc

-- the unknown of a place is found

pub owner-found : (us : List ℕ) (place i : ℕ) → ((v w : ℕ) → v < w → w < length us → get_or us v 0 < get_or us w 0) → ((v : ℕ) × (v < length us) × (get_or us v 0 ≡ place)) → ((k : ℕ) → k < i → get_or us k 0 < place) → ((k : ℕ) → i ≤ k → k < length us → place < get_or us k 0) → ⊥
owner-found us place i rising o below above =
    elim (cases_lt o.0 i) [
      | inl l ↦ let b = below o.0 l in omega (arith, b, o.2)
      | inr g ↦ let b = above o.0 g o.1 in omega (arith, b, o.2)
    ]

pub rising-weakly : (us : List ℕ) → ((v w : ℕ) → v < w → w < length us → get_or us v 0 < get_or us w 0) → (i j : ℕ) → i ≤ j → j < length us → get_or us i 0 ≤ get_or us j 0
rising-weakly us rising i j h l =
    elim (cases_lt i j) [
      | inl b ↦ let r = rising i j b l in omega (arith, r)
      | inr g ↦ let e : i ≡ j = omega (arith, h, g) in rw e (omega arith)
    ]

pub heads-app : (is : List ℕ) (h : Head) (n : ℕ) (ks : List Task) → heads (reverse (map Read is) ++ Apply h n ∷ ks) ≡ suc (heads ks)
heads-app is h n ks = heads-reads is (Apply h n ∷ ks)

-- what is left to do, next first, after some of it was added at the end
pub reverse-reads : (xs ys zs : List Task) (k : Task) (is : List ℕ) → ys ≡ xs ++ k ∷ [] → zs ≡ ys ++ map Read is → reverse zs ≡ reverse (map Read is) ++ k ∷ reverse xs
reverse-reads xs ys zs k is e f = ap reverse f ∙ (reverse-append ys (map Read is) ∙ ap (λ ks. reverse (map Read is) ++ ks) (ap reverse e ∙ reverse-push xs k))

pub head-taken : (h : Head) (n : ℕ) (ts more : List (O.MlType Name)) → more ≡ take n ts → n ≤ length ts → O.app (head_over h (length more)) (types_of more) ≡ O.app (head_over h n) (types_of (take n ts))
head-taken h n ts more e l = rw (e, length-take-le n ts l) refl

pub empty : {A : Type 0} (xs : List A) → length xs ≡ 0 → xs ≡ []
empty [] e = refl
empty (x ∷ xs) e = absurd (omega (arith, e))

-- what is taken from the stack at the end

pub reading-found : (ns : List Node) (us : List ℕ) (at size limit : ℕ) (xs ys : List (Rc MlType Global)) (o : Option (Rc MlType Global)) → IsReadingOn ns us at size [] (stacked xs) → xs ≡ ys ++ option_to_list o → size ≤ limit → IfSome o (λ t. IsTypeAt ns us at limit (type_of t.value))
reading-found ns us at size limit xs ys None r e h = tt
reading-found ns us at size limit xs ys (Some t) r e h = reading-last ns us at size limit (stacked xs) (stacked ys) (type_of t.value) r (ap stacked e ∙ stacked-push ys t) h

not-some : IsSome {T = Rc MlType Global} None → ⊥
not-some e = cc

pub reading-none : (ns : List Node) (us : List ℕ) (at size n : ℕ) (xs : List (Rc MlType Global)) (o : Option (Rc MlType Global)) (P : Type 0) → HasRank ns → IsReadingOn ns us at size [] (stacked xs) → n ≡ length xs → (0 < n → IsSome o) → IfNone o P
reading-none ns us at size n xs None P rank r h v =
    let e : xs ≡ [] = empty xs (elim (cases_lt 0 n) [ inl l ↦ absurd (not-some (v l)) | inr g ↦ omega (arith, g, h) ]) in
    absurd (reading-some ns us at size rank (rw e at r))
reading-none ns us at size n xs (Some t) P rank r h v = tt

-- one type more is taken from the stack
pub popped : (xs ys zs : List (Rc MlType Global)) (x : Rc MlType Global) (k : ℕ) → xs ≡ ys ++ x ∷ [] → stacked xs ≡ drop k (stacked zs) → (take (k + 1) (stacked zs) ≡ take k (stacked zs) ++ type_of x.value ∷ []) × (stacked ys ≡ drop (k + 1) (stacked zs))
popped xs ys zs x k e f =
    let g : drop k (stacked zs) ≡ type_of x.value ∷ stacked ys = sym f ∙ (ap stacked e ∙ stacked-push ys x) in
    (take-further (stacked zs) (stacked ys) k (type_of x.value) g, sym (drop-further (stacked zs) (stacked ys) k (type_of x.value) g))

-- What one step of unification keeps.
use Rattle.std.proofs.Common.{◌≡◌, ◌≢◌, ℕ, zero, suc, ◌+◌, ◌<◌, ◌≤◌, ◌⊎◌, inl, inr, List, [], ◌∷◌, ◌++◌, length, map, get_or, set, drop, take, Some, None, append-nil, append_assoc, sym, ◌∙◌, ap, subst, refl, arith, add-one, get_or-set_same, get_or-set_other, length-append}
use Rattle.std.proofs.Math.Seq.{drop-cons}
use Rattle.std.proofs.lemmas.Bool.{cases_lt}
use Rattle.std.proofs.lemmas.List.{length-map, get_or_default, set-set}
use Rattle.std.proofs.Math.ListN.{length-set}
use Rattle.std.proofs.lemmas.List.Sums.{sum_by-set}
use Rattle.std.specs.Prelude.{Result, Ok, Err, OnOk, IfOk}
use Rattle.smallvec.specs.SmallVec.{SmallVec}
use Rattle.std.specs.List.{AllByRecursion}
use Rattle.std.specs.Global.{Box, Global}
use Rattle.std.specs.Option.{option_map}
use Rattle.std.specs.declared.rc.Rc.{Rc}
use Rattle.sml_objects.specs.Initial.{Name as ObjectName}
use Rattle.sml_objects.specs.Objects as O
use Rattle.sml_objects.specs.Views.{label_list, name_of}
use Rattle.sml_objects.specs.declared.labels.Labels.{Labels}
use Rattle.sml_objects.specs.declared.objects.TyName.{TyName}
use Rattle.sml_graph.specs.declared.node.Head.TheVariants.{Arrow, Row, Name as Applied}
use Rattle.sml_tree.specs.Trees.{Id}
use Rattle.sml_tree.specs.Views.{ident_of}
use Rattle.sml_objects.specs.Maps.{lookup}
use Rattle.sml_graph.specs.declared.fields.Fields.{Fields}
use Rattle.sml_graph.specs.declared.merge.Unsolved.{Unsolved}
use Rattle.sml_graph.specs.declared.node.Head.{Head}
use Rattle.sml_graph.specs.declared.node.Node.{Node}
use Rattle.sml_graph.specs.declared.node.Node.TheVariants.{Unknown, Link, App, Open}
use Rattle.sml_layers.specs.Worlds.{World, make}
use Rattle.sml_graph.specs.Worlds.{In, Assignment}
use Rattle.sml_objects.specs.Labels.{with_labels}
use Rattle.sml_layers.specs.Rows.{fields_at}
use Rattle.sml_graph.specs.Rows.{HasFields, IsField, kids_of}
use Rattle.sml_graph.specs.Graphs.{head_over, node_at, Agrees, Meets, MeetsPairs, pairs_of, SameSolutions, HasNoSolution, IsSound, IsSoundNode, ArePairsIn, IsRootNode, IsSame, IsKnown, size, weight, Merges, AreApart, Joins, JoinsFields, JoinsRow, LacksLabel, fields_of, Leads}
use Rattle.sml_graph.proofs.Worlding.{app_head, app_parts}
use Rattle.sml_graph.proofs.Rowing.{Key, same-some, none-some, row-found, row-labels, labels-map, lookup-at, all-front, all-back, fields-known, has-these, has-front, has-back, has-both, field-found}

pub pairs_of-drop : (xs ys : List ℕ) (i : ℕ) → i < length xs → i < length ys → pairs_of (drop i xs) (drop i ys) ≡ (get_or xs i 0, get_or ys i 0) ∷ pairs_of (drop (i + 1) xs) (drop (i + 1) ys)
pairs_of-drop xs ys i h k = rw (add-one, drop-cons xs i 0, drop-cons ys i 0)

pub same_or_not : (i j : ℕ) → (i ≡ j) ⊎ (i ≢ j)
same_or_not i j = elim (cases_lt i j) [ inl a ↦ inr (λ e. omega arith) | inr a ↦ elim (cases_lt j i) [ inl b ↦ inr (λ e. omega arith) | inr b ↦ inl (omega arith) ] ]

-- a node written
pub node_at-same : (ns : List Node) (i : ℕ) (n : Node) → i < length ns → node_at (set ns i n) i ≡ n
node_at-same ns i n h = get_or-set_same ns i n Unknown h

pub node_at-other : (ns : List Node) (i j : ℕ) (n : Node) → j ≢ i → node_at (set ns i n) j ≡ node_at ns j
node_at-other ns i j n h = get_or-set_other ns i j n Unknown h

pub Meets-set : (w : World) (ns : List Node) (σ : Assignment w) (i : ℕ) (n : Node) → i < length ns → Meets w ns σ → Agrees w σ i n → Meets w (set ns i n) σ
Meets-set w ns σ i n h m a j =
    elim (same_or_not j i) [
      | inl e ↦ rw (e, node_at-same ns i n h) a
      | inr d ↦ rw (node_at-other ns i j n d) (m j)
    ]

pub Meets-unset : (w : World) (ns : List Node) (σ : Assignment w) (i : ℕ) (n : Node) → Meets w (set ns i n) σ → Agrees w σ i (node_at ns i) → Meets w ns σ
Meets-unset w ns σ i n m a j =
    elim (same_or_not j i) [
      | inl e ↦ rw e a
      | inr d ↦ rw (node_at-other ns i j n d) at (m j)
    ]

pub MeetsPairs-append : (w : World) (ps qs : List (ℕ × ℕ)) (σ : Assignment w) → MeetsPairs w ps σ → MeetsPairs w qs σ → MeetsPairs w (ps ++ qs) σ
MeetsPairs-append w [] qs σ a b = b
MeetsPairs-append w (p ∷ ps) qs σ a b = (a.0, MeetsPairs-append w ps qs σ a.1 b)

pub MeetsPairs-front : (w : World) (ps qs : List (ℕ × ℕ)) (σ : Assignment w) → MeetsPairs w (ps ++ qs) σ → MeetsPairs w ps σ
MeetsPairs-front w [] qs σ a = tt
MeetsPairs-front w (p ∷ ps) qs σ a = (a.0, MeetsPairs-front w ps qs σ a.1)

pub MeetsPairs-back : (w : World) (ps qs : List (ℕ × ℕ)) (σ : Assignment w) → MeetsPairs w (ps ++ qs) σ → MeetsPairs w qs σ
MeetsPairs-back w [] qs σ a = a
MeetsPairs-back w (p ∷ ps) qs σ a = MeetsPairs-back w ps qs σ a.1

pub MeetsPairs-of : (w : World) (xs ys : List ℕ) (σ : Assignment w) → map σ xs ≡ map σ ys → MeetsPairs w (pairs_of xs ys) σ
MeetsPairs-of w [] ys σ e = tt
MeetsPairs-of w (x ∷ xs) [] σ e = tt
MeetsPairs-of w (x ∷ xs) (y ∷ ys) σ e =
    let a : σ x ≡ σ y = cc in
    let b : map σ xs ≡ map σ ys = cc in
    (a, MeetsPairs-of w xs ys σ b)

pub map-pairs : (w : World) (xs ys : List ℕ) (σ : Assignment w) → length xs ≡ length ys → MeetsPairs w (pairs_of xs ys) σ → map σ xs ≡ map σ ys
map-pairs w [] [] σ n e = refl
map-pairs w [] (y ∷ ys) σ n e = absurd (omega (arith, n))
map-pairs w (x ∷ xs) [] σ n e = absurd (omega (arith, n))
map-pairs w (x ∷ xs) (y ∷ ys) σ n e =
    let h : σ x ≡ σ y = e.0 in
    let r : map σ xs ≡ map σ ys = map-pairs w xs ys σ (omega (arith, n)) e.1 in
    cc

-- sound after a write
pub IsSound-set : (ns : List Node) (i : ℕ) (n : Node) → IsSound ns → i < length ns → IsSoundNode (length ns) i n → IsSound (set ns i n)
IsSound-set ns i n s h a j =
    elim (same_or_not j i) [
      | inl e ↦ rw (e, length-set, node_at-same ns i n h) a
      | inr d ↦ rw (node_at-other ns i j n d, length-set) (s j)
    ]

pub weight-set : (ns : List Node) (i : ℕ) (n : Node) → i < length ns → weight (set ns i n) + size (node_at ns i) ≡ weight ns + size n
weight-set ns i n h = sum_by-set size ns i n Unknown h

pub ArePairsIn-append : (n : ℕ) (ps qs : List (ℕ × ℕ)) → ArePairsIn n ps → ArePairsIn n qs → ArePairsIn n (ps ++ qs)
ArePairsIn-append n [] qs a b = b
ArePairsIn-append n (p ∷ ps) qs a b = (a.0, ArePairsIn-append n ps qs a.1 b)

pub ArePairsIn-of : (n : ℕ) (xs ys : List ℕ) → AllByRecursion (λ k. k < n) xs → AllByRecursion (λ k. k < n) ys → ArePairsIn n (pairs_of xs ys)
ArePairsIn-of n [] ys a b = tt
ArePairsIn-of n (x ∷ xs) [] a b = tt
ArePairsIn-of n (x ∷ xs) (y ∷ ys) a b = ((a.0, b.0), ArePairsIn-of n xs ys a.1 b.1)

pub length-pairs_of : (xs ys : List ℕ) → length (pairs_of xs ys) ≤ length xs
length-pairs_of [] ys = omega arith
length-pairs_of (x ∷ xs) [] = omega arith
length-pairs_of (x ∷ xs) (y ∷ ys) = let r = length-pairs_of xs ys in omega (arith, r)

pub all-append : {A : Type 0} (P : A → Type 0) (xs ys : List A) → AllByRecursion P xs → AllByRecursion P ys → AllByRecursion P (xs ++ ys)
all-append P [] ys a b = b
all-append P (x ∷ xs) ys a b = (a.0, all-append P xs ys a.1 b)

-- what a root says doesn't depend on its place

pub root-sound : (n i j : ℕ) (x : Node) → IsRootNode x → IsSoundNode n i x → IsSoundNode n j x
root-sound n i j Unknown r s = s
root-sound n i j (Link k) r s = absurd r
root-sound n i j (App f kids) r s = s
root-sound n i j (Open fs) r s = s

pub root-agrees : (w : World) (σ : Assignment w) (i j : ℕ) (x : Node) → σ i ≡ σ j → Agrees w σ i x → Agrees w σ j x
root-agrees w σ i j Unknown e a = tt
root-agrees w σ i j (Link k) e a = sym e ∙ a
root-agrees w σ i j (App f kids) e a = sym e ∙ a
root-agrees w σ i j (Open fs) e a = subst (λ t. HasFields w t (fields_at σ (fields_of fs.value))) e a

-- two nodes become one

pub joins-left : (b : Node) (ps : List (ℕ × ℕ)) → IsRootNode b → Joins Unknown b b ps ps
joins-left b ps r = record {
  more = [];
  pairs = sym (append-nil ps);
  less = omega arith;
  sound = λ n i j k _ s. (root-sound n j k b r s, tt);
  same = λ w σ i. (λ m. (m.1, tt), λ m. (tt, m.0));
}

pub joins-right : (a : Node) (ps : List (ℕ × ℕ)) → IsRootNode a → Joins a Unknown a ps ps
joins-right a ps r = record {
  more = [];
  pairs = sym (append-nil ps);
  less = omega arith;
  sound = λ n i j k s _. (root-sound n i k a r s, tt);
  same = λ w σ i. (λ m. (m.0, tt), λ m. (m.0, tt));
}

-- one of two equal heads stays, and their parts are left to solve
pub joins-heads : (f g : Head) (kids others : SmallVec ℕ) (ps qs : List (ℕ × ℕ)) → ((n : ℕ) → head_over f n ≡ head_over g n) → length kids.items ≡ length others.items → qs ≡ ps ++ pairs_of kids.items others.items → Joins (App f kids) (App g others) (App f kids) ps qs
joins-heads f g kids others ps qs fg n q = record {
  more = pairs_of kids.items others.items;
  pairs = q;
  less = let y = length-pairs_of kids.items others.items in omega (arith, y, n);
  sound = λ m i j k s t. (s, ArePairsIn-of m kids.items others.items s.0 t.0);
  same = λ w σ i. (
    λ m. (m.0, MeetsPairs-of w kids.items others.items σ (app_parts w (σ i) (head_over f (length kids.items)) (head_over g (length others.items)) (map σ kids.items) (map σ others.items) m.0 m.1)),
    λ m.
        let same : map σ kids.items ≡ map σ others.items = map-pairs w kids.items others.items σ n m.1 in
        let heads : head_over f (length kids.items) ≡ head_over g (length others.items) = ap (head_over f) n ∙ fg (length others.items) in
        (m.0, m.0 ∙ (λ j. make w (heads j) (same j))),
  );
}

-- two heads or two numbers of parts
pub heads-apart : (f g : Head) (kids others : SmallVec ℕ) → (head_over f (length kids.items) ≡ head_over g (length others.items) → length kids.items ≡ length others.items → ⊥) → AreApart (App f kids) (App g others)
heads-apart f g kids others differ w σ i left right =
    let same : map σ kids.items ≡ map σ others.items = app_parts w (σ i) (head_over f (length kids.items)) (head_over g (length others.items)) (map σ kids.items) (map σ others.items) left right in
    differ (app_head w (σ i) (head_over f (length kids.items)) (head_over g (length others.items)) (map σ kids.items) (map σ others.items) left right) (sym (length-map kids.items σ) ∙ ap length same ∙ length-map others.items σ)

pub apart-as : (a b x y : Node) → x ≡ a → y ≡ b → AreApart a b → AreApart x y
apart-as a b x y e f d = rw (e, f) d

-- fields are added one by one

pub fields-append : {A B : Type 0} (g : A → B) (fs hs : List (Id × A)) → fields_at g (fs ++ hs) ≡ fields_at g fs ++ fields_at g hs
fields-append g [] hs = refl
fields-append g (f ∷ fs) hs = ap (λ xs. (f.0, g f.1) ∷ xs) (fields-append g fs hs)

pub field-same : (w : World) (σ : Assignment w) (t : In w) (hs : List (Id × ℕ)) (l : Id) (k j : ℕ) → HasFields w t (fields_at σ hs) → IsField l k hs → HasFields w t ((l, σ j) ∷ []) → σ k ≡ σ j
field-same w σ t hs l k j h f g =
    let a : lookup l (with_labels h.labels h.types) ≡ Some (σ k) = field-found σ hs (with_labels h.labels h.types) l k f h.fields in
    let b : lookup l (with_labels h.labels h.types) ≡ Some (σ j) = (fields-known w t (fields_at σ hs) ((l, σ j) ∷ []) h g).0 in
    same-some (σ k) (σ j) (sym a ∙ b)

pub field-there : (w : World) (σ : Assignment w) (t : In w) (hs : List (Id × ℕ)) (l : Id) (k j : ℕ) → HasFields w t (fields_at σ hs) → IsField l k hs → σ k ≡ σ j → HasFields w t ((l, σ j) ∷ [])
field-there w σ t hs l k j h f e =
    has-these w t (fields_at σ hs) ((l, σ j) ∷ []) h (field-found σ hs (with_labels h.labels h.types) l k f h.fields ∙ ap (λ x. Some x) e, tt)

pub fields-none : (fs : List (Id × ℕ)) (ps : List (ℕ × ℕ)) → JoinsFields fs [] fs ps ps
fields-none fs ps = record {
  more = [];
  pairs = sym (append-nil ps);
  less = omega arith;
  sound = λ n a b. (a, tt);
  same = λ w σ t. (λ m. (m.0, tt), λ m. (m.0, has-these w t (fields_at σ fs) [] m.0 tt));
}

pub kids-more : (fs : List (Id × ℕ)) (f : Id × ℕ) → kids_of (fs ++ f ∷ []) ≡ kids_of fs ++ f.1 ∷ []
kids-more [] f = refl
kids-more (g ∷ fs) f = ap (λ ks. g.1 ∷ ks) (kids-more fs f)

inside-front : (n : ℕ) (fs : List (Id × ℕ)) (f : Id × ℕ) → AllByRecursion (λ k. k < n) (kids_of (fs ++ f ∷ [])) → AllByRecursion (λ k. k < n) (kids_of fs) × (f.1 < n)
inside-front n [] f a = (tt, a.0)
inside-front n (g ∷ fs) f a = let r = inside-front n fs f a.1 in ((a.0, r.0), r.1)

pub inside-field : (n : ℕ) (fs : List (Id × ℕ)) (l : Id) (k : ℕ) → AllByRecursion (λ k. k < n) (kids_of fs) → IsField l k fs → k < n
inside-field n [] l k a h = absurd h
inside-field n (f ∷ fs) l k a h = elim h [ inl q ↦ rw q.1 a.0 | inr r ↦ inside-field n fs l k a.1 r ]

-- the next field, as the code reads it

field-take : (fs : List (Id × ℕ)) (ls : List Key) (i : ℕ) (l : Key) → map ident_of ls ≡ map (λ f. f.0) fs → i < length ls → l ≡ get_or ls i l → take (suc i) fs ≡ take i fs ++ (ident_of l, get_or (kids_of fs) i 0) ∷ []
field-take [] [] i l p h e = absurd (omega (arith, h))
field-take [] (x ∷ ls) i l p h e = absurd (let z : suc (length (map ident_of ls)) ≡ 0 = ap length p in omega (arith, z))
field-take (f ∷ fs) [] i l p h e = absurd (omega (arith, h))
field-take (f ∷ fs) (x ∷ ls) zero l p h e =
    let a : ident_of x ≡ f.0 = cc in
    λ j. (sym (ap ident_of e ∙ a) j, f.1) ∷ []
field-take (f ∷ fs) (x ∷ ls) (suc i) l p h e =
    let a : map ident_of ls ≡ map (λ f. f.0) fs = cc in
    ap (λ xs. f ∷ xs) (field-take fs ls i l a (omega (arith, h)) e)

pub field-next : (fs : List (Id × ℕ)) (ls : List Key) (ks : List ℕ) (i : ℕ) (l k : Key) → map ident_of ls ≡ map (λ f. f.0) fs → ks ≡ kids_of fs → i < length ls → l ≡ get_or ls i l → k.value ≡ l.value → take (i + 1) fs ≡ take i fs ++ (ident_of k, get_or ks i 0) ∷ []
field-next fs ls ks i l k p q h e c = rw add-one (field-take fs ls i l p h e ∙ (λ j. take i fs ++ ((sym c j).items, get_or (sym q j) i 0) ∷ []))

-- a new one
pub fields-new : (fs gs hs js ks : List (Id × ℕ)) (ps qs : List (ℕ × ℕ)) (f : Id × ℕ) → JoinsFields fs gs hs ps qs → js ≡ hs ++ f ∷ [] → ks ≡ gs ++ f ∷ [] → JoinsFields fs ks js ps qs
fields-new fs gs hs js ks ps qs f m p q = rw (p, q) record {
  more = m.more;
  pairs = m.pairs;
  less = let x = m.less in simp length-append (omega (arith, x));
  sound = λ n a b.
      let c = inside-front n gs f b in
      let r = m.sound n a c.0 in
      (rw kids-more (all-append (λ k. k < n) (kids_of hs) (f.1 ∷ []) r.0 (c.1, tt)), r.1);
  same = λ w σ t. (
    λ x.
        let y : HasFields w t (fields_at σ gs ++ (f.0, σ f.1) ∷ []) = subst (HasFields w t) (fields-append σ gs (f ∷ [])) x.1 in
        let z = (m.same w σ t).0 (x.0, has-front w t (fields_at σ gs) ((f.0, σ f.1) ∷ []) y) in
        (subst (HasFields w t) (sym (fields-append σ hs (f ∷ []))) (has-both w t (fields_at σ hs) ((f.0, σ f.1) ∷ []) z.0 (has-back w t (fields_at σ gs) ((f.0, σ f.1) ∷ []) y)), z.1),
    λ x.
        let y : HasFields w t (fields_at σ hs ++ (f.0, σ f.1) ∷ []) = subst (HasFields w t) (fields-append σ hs (f ∷ [])) x.0 in
        let z = (m.same w σ t).1 (has-front w t (fields_at σ hs) ((f.0, σ f.1) ∷ []) y, x.1) in
        (z.0, subst (HasFields w t) (sym (fields-append σ gs (f ∷ []))) (has-both w t (fields_at σ gs) ((f.0, σ f.1) ∷ []) z.1 (has-back w t (fields_at σ hs) ((f.0, σ f.1) ∷ []) y))),
  );
}

-- one whose label stands already
pub fields-known-too : (fs gs hs js ks : List (Id × ℕ)) (ps qs rs : List (ℕ × ℕ)) (f : Id × ℕ) (k : ℕ) → JoinsFields fs gs hs ps qs → js ≡ hs → IsField f.0 k hs → ks ≡ gs ++ f ∷ [] → rs ≡ qs ++ (k, f.1) ∷ [] → JoinsFields fs ks js ps rs
fields-known-too fs gs hs js ks ps qs rs f k m p h q r = rw (p, q, r) record {
  more = m.more ++ (k, f.1) ∷ [];
  pairs = ap (λ xs. xs ++ (k, f.1) ∷ []) m.pairs ∙ append_assoc ps m.more ((k, f.1) ∷ []);
  less = let x = m.less in simp length-append (omega (arith, x));
  sound = λ n a b.
      let c = inside-front n gs f b in
      let r = m.sound n a c.0 in
      (r.0, ArePairsIn-append n m.more ((k, f.1) ∷ []) r.1 ((inside-field n hs f.0 k r.0 h, c.1), tt));
  same = λ w σ t. (
    λ x.
        let y : HasFields w t (fields_at σ gs ++ (f.0, σ f.1) ∷ []) = subst (HasFields w t) (fields-append σ gs (f ∷ [])) x.1 in
        let z = (m.same w σ t).0 (x.0, has-front w t (fields_at σ gs) ((f.0, σ f.1) ∷ []) y) in
        let e : σ k ≡ σ f.1 = field-same w σ t hs f.0 k f.1 z.0 h (has-back w t (fields_at σ gs) ((f.0, σ f.1) ∷ []) y) in
        (z.0, MeetsPairs-append w m.more ((k, f.1) ∷ []) σ z.1 (e, tt)),
    λ x.
        let z = (m.same w σ t).1 (x.0, MeetsPairs-front w m.more ((k, f.1) ∷ []) σ x.1) in
        let e : σ k ≡ σ f.1 = (MeetsPairs-back w m.more ((k, f.1) ∷ []) σ x.1).0 in
        (z.0, subst (HasFields w t) (sym (fields-append σ gs (f ∷ []))) (has-both w t (fields_at σ gs) ((f.0, σ f.1) ∷ []) z.1 (field-there w σ t hs f.0 k f.1 x.0 h e))),
  );
}

-- fields and the parts of a row

pub row-none : (ls : List Id) (kids : List ℕ) (ps : List (ℕ × ℕ)) → JoinsRow [] ls kids ps ps
row-none ls kids ps = record {
  more = [];
  pairs = sym (append-nil ps);
  less = omega arith;
  sound = λ n a b. tt;
  same = λ w σ. (λ a. tt, λ a. tt);
}

part-found : (w : World) (σ : Assignment w) (ls : List Id) (kids : List ℕ) (l : Id) (k : ℕ) → lookup l (with_labels ls kids) ≡ Some k → lookup l (with_labels ls (map σ kids)) ≡ Some (σ k)
part-found w σ ls kids l k h = ap (lookup l) (labels-map σ ls kids) ∙ (sym (lookup-at σ l (with_labels ls kids)) ∙ ap (option_map σ) h)

pub row-more : (fs js : List (Id × ℕ)) (ls : List Id) (kids : List ℕ) (ps qs rs : List (ℕ × ℕ)) (f : Id × ℕ) (k : ℕ) → JoinsRow fs ls kids ps qs → lookup f.0 (with_labels ls kids) ≡ Some k → js ≡ fs ++ f ∷ [] → rs ≡ qs ++ (k, f.1) ∷ [] → JoinsRow js ls kids ps rs
row-more fs js ls kids ps qs rs f k m h p q = rw (p, q) record {
  more = m.more ++ (k, f.1) ∷ [];
  pairs = ap (λ xs. xs ++ (k, f.1) ∷ []) m.pairs ∙ append_assoc ps m.more ((k, f.1) ∷ []);
  less = let x = m.less in simp length-append (omega (arith, x));
  sound = λ n a b.
      let c = inside-front n fs f a in
      ArePairsIn-append n m.more ((k, f.1) ∷ []) (m.sound n c.0 b) ((row-found (λ k. k < n) ls kids f.0 k b h, c.1), tt);
  same = λ w σ.
      let P : Id × In w → Type 0 = λ g. lookup g.0 (with_labels ls (map σ kids)) ≡ Some g.1 in (
        λ x.
            let y : AllByRecursion P (fields_at σ fs ++ (f.0, σ f.1) ∷ []) = subst (AllByRecursion P) (fields-append σ fs (f ∷ [])) x in
            let e : σ k ≡ σ f.1 = same-some (σ k) (σ f.1) (sym (part-found w σ ls kids f.0 k h) ∙ (all-back P (fields_at σ fs) ((f.0, σ f.1) ∷ []) y).0) in
            MeetsPairs-append w m.more ((k, f.1) ∷ []) σ ((m.same w σ).0 (all-front P (fields_at σ fs) ((f.0, σ f.1) ∷ []) y)) (e, tt),
        λ x.
            let e : σ k ≡ σ f.1 = (MeetsPairs-back w m.more ((k, f.1) ∷ []) σ x).0 in
            subst (AllByRecursion P) (sym (fields-append σ fs (f ∷ [])))
            (all-append P (fields_at σ fs) ((f.0, σ f.1) ∷ []) ((m.same w σ).1 (MeetsPairs-front w m.more ((k, f.1) ∷ []) σ x)) (part-found w σ ls kids f.0 k h ∙ ap (λ t. Some t) e, tt)),
      );
}

-- a label that isn't there
pub row-lacks : (fs gs : List (Id × ℕ)) (ls : List Id) (kids : List ℕ) (i : ℕ) (f : Id × ℕ) → take (i + 1) fs ≡ gs ++ f ∷ [] → lookup f.0 (with_labels ls kids) ≡ None → LacksLabel fs ls kids
row-lacks fs gs ls kids i f e n = record { label = f.0; kid = f.1; field = field-within fs (i + 1) f.0 f.1 (rw e (field-last gs f)); none = n } where
  field-last : (gs : List (Id × ℕ)) (f : Id × ℕ) → IsField f.0 f.1 (gs ++ f ∷ [])
  field-last [] f = inl (refl, refl)
  field-last (g ∷ gs) f = inr (field-last gs f)

  field-within : (fs : List (Id × ℕ)) (i : ℕ) (l : Id) (k : ℕ) → IsField l k (take i fs) → IsField l k fs
  field-within fs zero l k h = absurd h
  field-within [] (suc i) l k h = h
  field-within (f ∷ fs) (suc i) l k h = elim h [ inl q ↦ inl q | inr r ↦ inr (field-within fs i l k r) ]

-- a row and an open one
pub joins-row : (ls : Rc Labels Global) (kids : SmallVec ℕ) (b : Box Fields) (ps qs : List (ℕ × ℕ)) → length kids.items ≡ length (label_list ls.value) → JoinsRow (fields_of b.value) (label_list ls.value) kids.items ps qs → Joins (App (Row ls) kids) (Open b) (App (Row ls) kids) ps qs
joins-row ls kids b ps qs n m = record {
  more = m.more;
  pairs = m.pairs;
  less = let x = m.less in omega (arith, x);
  sound = λ k i j l s t. (s, m.sound k t s.0);
  same = λ w σ i. (
    λ x.
        let h = x.1 in
        let a : h.labels ≡ label_list ls.value = row-labels h.labels (label_list ls.value) (app_head w (σ i) (O.row h.labels) (O.row (label_list ls.value)) h.types (map σ kids.items) h.is_row x.0) in
        let c : h.types ≡ map σ kids.items = app_parts w (σ i) (O.row h.labels) (O.row (label_list ls.value)) h.types (map σ kids.items) h.is_row x.0 in
        (x.0, (m.same w σ).0 (subst (λ m. AllByRecursion (λ f. lookup f.0 m ≡ Some f.1) (fields_at σ (fields_of b.value))) (λ j. with_labels (a j) (c j)) h.fields)),
    λ x. (x.0, record { labels = label_list ls.value; types = map σ kids.items; rising = ls.value.rising; count = length-map kids.items σ ∙ n; is_row = x.0; fields = (m.same w σ).1 x.1 }),
  );
}

pub head-apart : (f : Head) (kids : SmallVec ℕ) (b : Box Fields) → ((ls : List Id) → head_over f (length kids.items) ≡ O.row ls → ⊥) → AreApart (App f kids) (Open b)
head-apart f kids b d w σ i x h = d h.labels (app_head w (σ i) (head_over f (length kids.items)) (O.row h.labels) (map σ kids.items) h.types x h.is_row)

pub arrow-apart : (f : Head) (kids : SmallVec ℕ) (b : Box Fields) → f ≡ Arrow → AreApart (App f kids) (Open b)
arrow-apart f kids b e = rw e (head-apart Arrow kids b (λ ls q. arrow-row ls q)) where
  arrow-row : (ls : List Id) → ◌≡◌ {A = O.Head ObjectName} O.arrow (O.row ls) → ⊥
  arrow-row ls q = cc

pub name-apart : (f : Head) (m : TyName) (kids : SmallVec ℕ) (b : Box Fields) → f ≡ Applied m → AreApart (App f kids) (Open b)
name-apart f m kids b e = rw e (head-apart (Applied m) kids b (λ ls q. name-row (name_of m) ls q)) where
  name-row : (n : ObjectName) (ls : List Id) → ◌≡◌ {A = O.Head ObjectName} (O.name n) (O.row ls) → ⊥
  name-row n ls q = cc

module _ (f : Head) (ls : Rc Labels Global) (kids : SmallVec ℕ) (b : Box Fields) (e : f ≡ Row ls) where
  row-known : (w : World) (σ : Assignment w) (i : ℕ) → Agrees w σ i (App f kids) → (h : Agrees w σ i (Open b)) → (h.labels ≡ label_list ls.value) × (h.types ≡ map σ kids.items)
  row-known w σ i x h =
      let y : σ i ≡ make w (O.row (label_list ls.value)) (map σ kids.items) = subst (λ f. Agrees w σ i (App f kids)) e x in (
        row-labels h.labels (label_list ls.value) (app_head w (σ i) (O.row h.labels) (O.row (label_list ls.value)) h.types (map σ kids.items) h.is_row y),
        app_parts w (σ i) (O.row h.labels) (O.row (label_list ls.value)) h.types (map σ kids.items) h.is_row y,
      )

  pub count-apart : (length kids.items ≡ length (label_list ls.value) → ⊥) → AreApart (App f kids) (Open b)
  count-apart d w σ i x h =
      let q = row-known w σ i x h in
      d (sym (length-map kids.items σ) ∙ (ap length (sym q.1) ∙ (h.count ∙ ap length q.0)))

  pub label-apart : LacksLabel (fields_of b.value) (label_list ls.value) kids.items → AreApart (App f kids) (Open b)
  label-apart m w σ i x h =
      let q = row-known w σ i x h in
      let found : lookup m.label (with_labels (label_list ls.value) (map σ kids.items)) ≡ Some (σ m.kid) =
      field-found σ (fields_of b.value) (with_labels (label_list ls.value) (map σ kids.items)) m.label m.kid m.field
      (subst (λ n. AllByRecursion (λ f. lookup f.0 n ≡ Some f.1) (fields_at σ (fields_of b.value))) (λ j. with_labels (q.0 j) (q.1 j)) h.fields) in
      let none : lookup m.label (with_labels (label_list ls.value) (map σ kids.items)) ≡ None =
      ap (lookup m.label) (labels-map σ (label_list ls.value) kids.items) ∙ (sym (lookup-at σ m.label (with_labels (label_list ls.value) kids.items)) ∙ ap (option_map σ) m.none) in
      none-some (σ m.kid) (sym none ∙ found)

pub joins-turned : (a b c : Node) (ps qs : List (ℕ × ℕ)) → Joins a b c ps qs → Joins b a c ps qs
joins-turned a b c ps qs m = record {
  more = m.more;
  pairs = m.pairs;
  less = let x = m.less in omega (arith, x);
  sound = λ n i j k s t. m.sound n j i k t s;
  same = λ w σ i. (λ x. (m.same w σ i).0 (x.1, x.0), λ x. let y = (m.same w σ i).1 x in (y.1, y.0));
}

pub if-turned : (r : Result Node Unsolved) (a b x y : Node) (ps qs : List (ℕ × ℕ)) → x ≡ b → y ≡ a → IfOk r (λ n. Joins a b n ps qs) → IfOk r (λ n. Joins x y n ps qs)
if-turned (Ok n) a b x y ps qs e f j = rw (e, f) (joins-turned a b n ps qs j)
if-turned (Err u) a b x y ps qs e f j = tt

pub apart-turned : (a b : Node) → AreApart a b → AreApart b a
apart-turned a b d w σ i x y = d w σ i y x

-- two open rows
pub joins-open : (a b c : Box Fields) (ps qs : List (ℕ × ℕ)) → JoinsFields (fields_of a.value) (fields_of b.value) (fields_of c.value) ps qs → Joins (Open a) (Open b) (Open c) ps qs
joins-open a b c ps qs m = record {
  more = m.more;
  pairs = m.pairs;
  less = m.less;
  sound = λ n i j k s t. m.sound n s t;
  same = λ w σ i. m.same w σ (σ i);
}

-- the upper node becomes a link, and the lower one says what both say
pub merged : (ns : List Node) (ps : List (ℕ × ℕ)) (high low : ℕ) (a b c : Node) (qs : List (ℕ × ℕ)) → IsSound ns → ArePairsIn (length ns) ps → low < high → high < length ns → node_at ns high ≡ a → node_at ns low ≡ b → Joins a b c ps qs → Merges ns ps high low (set (set ns high (Link low)) low c) qs
merged ns ps high low a b c qs s p o h e d j =
    let ms = set ns high (Link low) in
    let ne : low ≢ high = (λ q. omega (arith, o, q)) in
    let d' : node_at ms low ≡ b = node_at-other ns high low (Link low) ne ∙ d in
    let l : low < length ms = rw length-set (omega (arith, o, h)) in
    let sa : IsSoundNode (length ns) high a = rw e at (s high) in
    let sb : IsSoundNode (length ns) low b = rw d at (s low) in
    let sc = j.sound (length ns) high low low sa sb in
    record {
      len = length-set ms low c ∙ length-set ns high (Link low);
      sound = IsSound-set ms low c (IsSound-set ns high (Link low) s h o) l (rw length-set sc.0);
      inside = rw (length-set, length-set, j.pairs) (ArePairsIn-append (length ns) ps j.more p sc.1);
      less =
          let x = weight-set ns high (Link low) h in
          let y = weight-set ms low c l in
          let ex : size (node_at ns high) ≡ size a = ap size e in
          let ey : size (node_at ms low) ≡ size b = ap size d' in
          let z = j.less in
          let n : length qs ≡ length ps + length j.more = ap length j.pairs ∙ length-append ps j.more in
          omega (arith, x, y, ex, ey, z, n);
      same = λ w σ. (
        λ m.
            let upper : Agrees w σ low a = root-agrees w σ high low a m.1.0 (rw e at (m.0 high)) in
            let lower : Agrees w σ low b = rw d at (m.0 low) in
            let both = (j.same w σ low).0 (upper, lower) in
            (Meets-set w ms σ low c l (Meets-set w ns σ high (Link low) h m.0 m.1.0) both.0, rw j.pairs (MeetsPairs-append w ps j.more σ m.1.1 both.1)),
        λ m.
            let there : Agrees w σ low c = rw (node_at-same ms low c l) at (m.0 low) in
            let pairs : MeetsPairs w (ps ++ j.more) σ = rw j.pairs at m.1 in
            let both = (j.same w σ low).1 (there, MeetsPairs-back w ps j.more σ pairs) in
            let linked : Meets w ms σ = Meets-unset w ms σ low c m.0 (rw d' both.1) in
            let equal : σ high ≡ σ low = rw (node_at-same ns high (Link low) h) at (linked high) in
            (Meets-unset w ns σ high (Link low) linked (rw e (root-agrees w σ low high a (sym equal) both.0)), (equal, MeetsPairs-front w ps j.more σ pairs)),
      );
    }

pub clash : (ns : List Node) (high low : ℕ) (a b : Node) → node_at ns high ≡ a → node_at ns low ≡ b → AreApart a b → HasNoSolution ns ((high, low) ∷ [])
clash ns high low a b e d differ w σ m p =
    differ w σ low (root-agrees w σ high low a p.0 (rw e at (m high))) (rw d at (m low))

-- the same, where the lower node was written twice
pub merged-as : (ns : List Node) (ps : List (ℕ × ℕ)) (high low : ℕ) (a b c x y : Node) (qs : List (ℕ × ℕ)) → IsSound ns → ArePairsIn (length ns) ps → low < high → high < length ns → node_at ns high ≡ a → node_at ns low ≡ b → x ≡ Link low → Joins a b c ps qs → Merges ns ps high low (set (set (set ns high x) low y) low c) qs
merged-as ns ps high low a b c x y qs s p o h e d f j = rw (set-set, f) (merged ns ps high low a b c qs s p o h e d j)

-- a node as the code reads it
pub read_node : (ns : List Node) (i : ℕ) (x n : Node) → i < length ns → x ≡ get_or ns i x → x ≡ n → node_at ns i ≡ n
read_node ns i x n h a b = get_or_default ns i Unknown x h ∙ sym a ∙ b

pub read_other : (ns : List Node) (i j : ℕ) (y x n : Node) → j < length ns → j ≢ i → x ≡ get_or (set ns i y) j x → x ≡ n → node_at ns j ≡ n
read_other ns i j y x n h d a b = sym (node_at-other ns i j y d) ∙ read_node (set ns i y) j x n (rw length-set h) a b

pub not_app : (n : Node) → IsRootNode n → ((f : Head) (kids : SmallVec ℕ) → n ≡ App f kids → ⊥) → IsKnown n → ⊥
not_app Unknown r d k = k
not_app (Link j) r d k = r
not_app (App f kids) r d k = d f kids refl
not_app (Open fs) r d k = k

pub Merges-as : (ns : List Node) (ps : List (ℕ × ℕ)) (high low : ℕ) (ms ms' : List Node) (qs qs' : List (ℕ × ℕ)) → Merges ns ps high low ms qs → ms ≡ ms' → qs ≡ qs' → Merges ns ps high low ms' qs'
Merges-as ns ps high low ms ms' qs qs' m a b = subst (λ x. Merges ns ps high low x qs') a (subst (λ x. Merges ns ps high low ms x) b m)

-- a step between nodes that lead to others
pub Merges-from : (ns : List Node) (ps : List (ℕ × ℕ)) (i j high low : ℕ) (ms : List Node) (qs : List (ℕ × ℕ)) → Merges ns ps high low ms qs → IsSame ns i high → IsSame ns j low → Merges ns ps i j ms qs
Merges-from ns ps i j high low ms qs m a b = record {
  len = m.len;
  sound = m.sound;
  inside = m.inside;
  less = m.less;
  same = λ w σ. (
    λ x. (m.same w σ).0 (x.0, (sym (a w σ x.0) ∙ (x.1.0 ∙ b w σ x.0), x.1.1)),
    λ x. let y = (m.same w σ).1 x in (y.0, (a w σ y.0 ∙ (y.1.0 ∙ sym (b w σ y.0)), y.1.1)),
  );
}

pub Merges-swap : (ns : List Node) (ps : List (ℕ × ℕ)) (high low : ℕ) (ms : List Node) (qs : List (ℕ × ℕ)) → Merges ns ps high low ms qs → Merges ns ps low high ms qs
Merges-swap ns ps high low ms qs m = record {
  len = m.len;
  sound = m.sound;
  inside = m.inside;
  less = m.less;
  same = λ w σ. (
    λ x. (m.same w σ).0 (x.0, (sym x.1.0, x.1.1)),
    λ x. let y = (m.same w σ).1 x in (y.0, (sym y.1.0, y.1.1)),
  );
}

pub Merges-none : (ns : List Node) (ps : List (ℕ × ℕ)) (i j : ℕ) → i ≡ j → IsSound ns → ArePairsIn (length ns) ps → Merges ns ps i j ns ps
Merges-none ns ps i j e s a = record {
  len = refl;
  sound = s;
  inside = a;
  less = omega arith;
  same = λ w σ. (λ x. (x.0, x.1.1), λ x. (x.0, (ap σ e, x.1)));
}

pub clash-from : (ns : List Node) (i j high low : ℕ) → HasNoSolution ns ((high, low) ∷ []) → IsSame ns i high → IsSame ns j low → HasNoSolution ns ((i, j) ∷ [])
clash-from ns i j high low h a b w σ m p = h w σ m (sym (a w σ m) ∙ (p.0 ∙ b w σ m), tt)

pub clash-swap : (ns : List Node) (i j : ℕ) → HasNoSolution ns ((i, j) ∷ []) → HasNoSolution ns ((j, i) ∷ [])
clash-swap ns i j h w σ m p = h w σ m (sym p.0, tt)

-- the loop over what is left to solve
pub same-step : (old ns ms : List Node) (ps qs rs ts : List (ℕ × ℕ)) (p : ℕ × ℕ) → SameSolutions old ps ns qs → qs ≡ rs ++ p ∷ [] → Merges ns rs p.0 p.1 ms ts → SameSolutions old ps ms ts
same-step old ns ms ps qs rs ts p s e m w σ = (
  λ x.
      let y = (s w σ).0 x in
      let z : MeetsPairs w (rs ++ p ∷ []) σ = rw e at y.1 in
      (m.same w σ).0 (y.0, ((MeetsPairs-back w rs (p ∷ []) σ z).0, MeetsPairs-front w rs (p ∷ []) σ z)),
  λ x.
      let y = (m.same w σ).1 x in
      (s w σ).1 (y.0, rw e (MeetsPairs-append w rs (p ∷ []) σ y.1.1 (y.1.0, tt))),
)

pub clash-step : (old ns : List Node) (ps qs rs : List (ℕ × ℕ)) (p : ℕ × ℕ) → SameSolutions old ps ns qs → qs ≡ rs ++ p ∷ [] → HasNoSolution ns (p ∷ []) → HasNoSolution old ps
clash-step old ns ps qs rs p s e h w σ m x =
    let y = (s w σ).0 (m, x) in
    let z : MeetsPairs w (rs ++ p ∷ []) σ = rw e at y.1 in
    h w σ y.0 (MeetsPairs-back w rs (p ∷ []) σ z)

pub ArePairsIn-front : (n : ℕ) (ps qs : List (ℕ × ℕ)) → ArePairsIn n (ps ++ qs) → ArePairsIn n ps
ArePairsIn-front n [] qs a = tt
ArePairsIn-front n (p ∷ ps) qs a = (a.0, ArePairsIn-front n ps qs a.1)

pub ArePairsIn-back : (n : ℕ) (ps qs : List (ℕ × ℕ)) → ArePairsIn n (ps ++ qs) → ArePairsIn n qs
ArePairsIn-back n [] qs a = a
ArePairsIn-back n (p ∷ ps) qs a = ArePairsIn-back n ps qs a.1

pub same-none : (old : List Node) (ps : List (ℕ × ℕ)) (ns : List Node) (qs : List (ℕ × ℕ)) → SameSolutions old ps ns qs → length qs ≡ 0 → SameSolutions old ps ns []
same-none old ps ns [] s e = s
same-none old ps ns (q ∷ qs) s e = absurd (omega (arith, e))

-- what a step leaves as it was
pub others-set : (ns : List Node) (high low : ℕ) (n : Node) → (i : ℕ) → i ≢ high → i ≢ low → node_at (set ns high n) i ≡ node_at ns i
others-set ns high low n i a b = node_at-other ns high i n a

pub others-sets : (ns : List Node) (high low : ℕ) (n m : Node) → (i : ℕ) → i ≢ high → i ≢ low → node_at (set (set ns high n) low m) i ≡ node_at ns i
others-sets ns high low n m i a b = node_at-other (set ns high n) low i m b ∙ node_at-other ns high i n a

pub on_ok : {T E : Type 0} (r : Result T E) (P Q : Type 0) → OnOk r P → (P → Q) → OnOk r Q
on_ok (Ok x) P Q a f = f a
on_ok (Err e) P Q a f = tt

-- links that are led on

pub leads-none : (ns : List Node) → IsSound ns → Leads ns ns
leads-none ns s = record { len = refl; sound = s; weight = refl; roots = λ i r. refl; same = λ w σ. (λ m. m, λ m. m) }

pub leads-then : (ns ms ls : List Node) → Leads ns ms → Leads ms ls → Leads ns ls
leads-then ns ms ls a b = record {
  len = b.len ∙ a.len;
  sound = b.sound;
  weight = b.weight ∙ a.weight;
  roots = λ i r. b.roots i (rw (a.roots i r) r) ∙ a.roots i r;
  same = λ w σ. (λ m. (b.same w σ).0 ((a.same w σ).0 m), λ m. (a.same w σ).1 ((b.same w σ).1 m));
}

pub leads-past : (ns : List Node) (i j k : ℕ) → IsSound ns → i < length ns → node_at ns i ≡ Link j → node_at ns j ≡ Link k → Leads ns (set ns i (Link k))
leads-past ns i j k s h e d =
    let a : IsSoundNode (length ns) i (Link j) = rw e at (s i) in
    let b : IsSoundNode (length ns) j (Link k) = rw d at (s j) in
    let ne : j ≢ i = (λ q. omega (arith, a, q)) in
    record {
      len = length-set ns i (Link k);
      sound = IsSound-set ns i (Link k) s h (omega (arith, a, b));
      weight = let x = weight-set ns i (Link k) h in let y : size (node_at ns i) ≡ 0 = ap size e in omega (arith, x, y);
      roots = λ x r. node_at-other ns i x (Link k) (λ q. let z : IsRootNode (Link j) = subst IsRootNode (ap (node_at ns) q ∙ e) r in absurd z);
      same = λ w σ. (
        λ m.
            let p : σ i ≡ σ j = rw e at (m i) in
            let q : σ j ≡ σ k = rw d at (m j) in
            Meets-set w ns σ i (Link k) h m (p ∙ q),
        λ m.
            let p : σ i ≡ σ k = rw (node_at-same ns i (Link k) h) at (m i) in
            let q : σ j ≡ σ k = rw (node_at-other ns i j (Link k) ne, d) at (m j) in
            Meets-unset w ns σ i (Link k) m (rw e (p ∙ sym q)),
      );
    }

pub same-link : (ns : List Node) (at i j : ℕ) → IsSame ns at i → node_at ns i ≡ Link j → IsSame ns at j
same-link ns at i j a e w σ m = let p : σ i ≡ σ j = rw e at (m i) in a w σ m ∙ p

pub same-led : (ns ms : List Node) (at i j : ℕ) → Leads ns ms → IsSame ns at i → IsSame ms i j → IsSame ns at j
same-led ns ms at i j l a b w σ m = a w σ m ∙ b w σ ((l.same w σ).0 m)

-- a step after links were led on
pub Merges-led : (ns ms ls : List Node) (ps : List (ℕ × ℕ)) (i j a b : ℕ) (qs : List (ℕ × ℕ)) → Leads ns ms → Merges ms ps a b ls qs → IsSame ns i a → IsSame ns j b → Merges ns ps i j ls qs
Merges-led ns ms ls ps i j a b qs l m x y =
    let w = l.weight in
    let k = m.less in
    record {
      len = m.len ∙ l.len;
      sound = m.sound;
      inside = m.inside;
      less = omega (arith, w, k);
      same = λ w σ. (
        λ p. (m.same w σ).0 ((l.same w σ).0 p.0, (sym (x w σ p.0) ∙ (p.1.0 ∙ y w σ p.0), p.1.1)),
        λ p. let q = (m.same w σ).1 p in let z = (l.same w σ).1 q.0 in (z, (x w σ z ∙ (q.1.0 ∙ sym (y w σ z)), q.1.1)),
      );
    }

pub Merges-found : (ns ms : List Node) (ps : List (ℕ × ℕ)) (i j a : ℕ) → Leads ns ms → ArePairsIn (length ns) ps → IsSame ns i a → IsSame ns j a → Merges ns ps i j ms ps
Merges-found ns ms ps i j a l q x y =
    let w = l.weight in
    record {
      len = l.len;
      sound = l.sound;
      inside = rw l.len q;
      less = omega (arith, w);
      same = λ w σ. (
        λ p. ((l.same w σ).0 p.0, p.1.1),
        λ p. let z = (l.same w σ).1 p.0 in (z, (x w σ z ∙ sym (y w σ z), p.1)),
      );
    }

pub clash-led : (ns ms : List Node) (i j a b : ℕ) → Leads ns ms → HasNoSolution ms ((a, b) ∷ []) → IsSame ns i a → IsSame ns j b → HasNoSolution ns ((i, j) ∷ [])
clash-led ns ms i j a b l h x y w σ m p = h w σ ((l.same w σ).0 m) (sym (x w σ m) ∙ (p.0 ∙ y w σ m), tt)

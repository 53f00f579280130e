-- Nodes for types.
use Rattle.std.proofs.Common.{◌≡◌, ◌≢◌, ℕ, zero, suc, ◌+◌, ◌-◌, ◌<◌, ◌≤◌, inl, inr, List, [], ◌∷◌, ◌++◌, length, map, get_or, take, drop, sym, ◌∙◌, ap, subst, refl, arith, add-one, length-append, append_assoc}
use Rattle.std.proofs.Math.Seq.{take-suc, drop-cons}
use Rattle.std.proofs.lemmas.Bool.{cases_lt}
use Rattle.std.proofs.lemmas.List.{get_or_past}
use Rattle.std.specs.List.{AllByRecursion}
use Rattle.smallvec.specs.SmallVec.{SmallVec}
use Rattle.sml_objects.specs.Initial.{Name}
use Rattle.sml_objects.specs.Objects as O
use Rattle.sml_objects.specs.Types.{replace_type, replace_types, assign, instance_from}
use Rattle.sml_objects.specs.Sizes.{type_size, types_size}
use Rattle.sml_objects.specs.Objects.{types_of}
use Rattle.sml_graph.specs.declared.node.Head.{Head}
use Rattle.sml_graph.specs.declared.node.Node.{Node}
use Rattle.sml_graph.specs.declared.node.Node.TheVariants.{Unknown, Link, App, Open}
use Rattle.sml_layers.specs.Worlds.{World, finite, infinite, make, tree, spread, spread_all, typed}
use Rattle.sml_graph.specs.Worlds.{In, Assignment}
use Rattle.sml_tree.specs.Trees.{Id}
use Rattle.sml_layers.specs.Rows.{fields_at}
use Rattle.sml_graph.specs.Rows.{HasFields, kids_of}
use Rattle.sml_graph.specs.Graphs.{node_at, Agrees, Meets, IsSound, IsSoundNode, IsCountOf, IsKnown, fields_of, parts, head_over}
use Rattle.sml_graph.specs.Interned.{IsOver, AreOver, IsBodyOver, AreBodiesOver, through, Interns, IsInterning, numbers, IsHeadOver, IsUnknownAt, Expands, sizes}
use Rattle.sml_graph.proofs.Merging.{same_or_not, all-append}

-- lists

numbers-suc : (k n : ℕ) → numbers k (suc n) ≡ numbers k n ++ (k + n) ∷ []
numbers-suc k zero = let e : k ≡ k + 0 = omega arith in ap (λ x. x ∷ []) e
numbers-suc k (suc n) =
    let e : suc k + n ≡ k + suc n = omega arith in
    ap (λ xs. k ∷ xs) (numbers-suc (suc k) n ∙ ap (λ x. numbers (suc k) n ++ x ∷ []) e)

pub numbers-more : (k n : ℕ) → numbers k (n + 1) ≡ numbers k n ++ (k + n) ∷ []
numbers-more k n = rw add-one (numbers-suc k n)

pub length-numbers : (k n : ℕ) → length (numbers k n) ≡ n
length-numbers k zero = refl
length-numbers k (suc n) = ap suc (length-numbers (suc k) n)

pub numbers-below : (k n m : ℕ) → k + n ≤ m → AllByRecursion (λ x. x < m) (numbers k n)
numbers-below k zero m h = tt
numbers-below k (suc n) m h = (omega (arith, h), numbers-below (suc k) n m (omega (arith, h)))

pub map-numbers : {A B : Type 0} (f : ℕ → B) (g : A → B) (d : A) (k : ℕ) (xs : List A) → ((x : ℕ) → x < length xs → f (k + x) ≡ g (get_or xs x d)) → map f (numbers k (length xs)) ≡ map g xs
map-numbers f g d k [] h = refl
map-numbers f g d k (x ∷ xs) h =
    let z : k ≡ k + 0 = omega arith in
    let a : f k ≡ g x = ap f z ∙ h 0 (omega arith) in
    let next : (y : ℕ) → suc k + y ≡ k + suc y = (λ y. omega arith) in
    let b : map f (numbers (suc k) (length xs)) ≡ map g xs = map-numbers f g d (suc k) xs (λ y l. ap f (next y) ∙ h (suc y) (omega (arith, l))) in
    cc

pub map-push : {A B : Type 0} (f : A → B) (xs : List A) (x : A) → map f (xs ++ x ∷ []) ≡ map f xs ++ f x ∷ []
map-push f [] x = refl
map-push f (y ∷ xs) x = ap (λ ys. f y ∷ ys) (map-push f xs x)

pub take-next : {A : Type 0} (xs : List A) (i : ℕ) (x : A) → i < length xs → x ≡ get_or xs i x → take (i + 1) xs ≡ take i xs ++ x ∷ []
take-next xs i x h e = rw add-one (take-suc xs i x h ∙ ap (λ y. take i xs ++ y ∷ []) (sym e))

pub get_or-left : {A : Type 0} (xs ys : List A) (i : ℕ) (d : A) → i < length xs → get_or (xs ++ ys) i d ≡ get_or xs i d
get_or-left [] ys i d h = absurd (omega (arith, h))
get_or-left (x ∷ xs) ys zero d h = refl
get_or-left (x ∷ xs) ys (suc i) d h = get_or-left xs ys i d (omega (arith, h))

pub get_or-right : {A : Type 0} (xs ys : List A) (i : ℕ) (d : A) → get_or (xs ++ ys) (length xs + i) d ≡ get_or ys i d
get_or-right [] ys i d = let e : 0 + i ≡ i = omega arith in ap (λ k. get_or ys k d) e
get_or-right (x ∷ xs) ys i d =
    let e : suc (length xs) + i ≡ suc (length xs + i) = omega arith in
    ap (λ k. get_or ((x ∷ xs) ++ ys) k d) e ∙ get_or-right xs ys i d

pub inside-more : (n m : ℕ) (us : List ℕ) → n ≤ m → AllByRecursion (λ u. u < n) us → AllByRecursion (λ u. u < m) us
inside-more n m [] h a = tt
inside-more n m (u ∷ us) h a = (let b : u < n = a.0 in omega arith, inside-more n m us h a.1)

pub inside-at : (n : ℕ) (us : List ℕ) (i : ℕ) → AllByRecursion (λ u. u < n) us → i < length us → get_or us i 0 < n
inside-at n [] i a h = absurd (omega (arith, h))
inside-at n (u ∷ us) zero a h = a.0
inside-at n (u ∷ us) (suc i) a h = inside-at n us i a.1 (omega (arith, h))

pub all-at : {A : Type 0} (P : A → Type 0) (xs : List A) (i : ℕ) (d : A) → AllByRecursion P xs → i < length xs → P (get_or xs i d)
all-at P [] i d a h = absurd (omega (arith, h))
all-at P (x ∷ xs) zero d a h = a.0
all-at P (x ∷ xs) (suc i) d a h = all-at P xs i d a.1 (omega (arith, h))

-- types in a world

replaced-all : (f : ℕ → O.MlType Name) (ts : List (O.MlType Name)) → replace_types O.bound f (types_of ts) ≡ types_of (map (assign f) ts)
unfolding replace_type replace_types
replaced-all f [] = refl
replaced-all f (t ∷ ts) = ap (O.and_type (assign f t)) (replaced-all f ts)

spread-all : (f : Assignment infinite) (ts : List (O.MlType Name)) → spread_all f (types_of ts) ≡ map (spread f) ts
unfolding spread spread_all
spread-all f [] = refl
spread-all f (t ∷ ts) = ap (λ us. spread f t ∷ us) (spread-all f ts)

pub typed-app : (w : World) (σ : Assignment w) (h : O.Head Name) (ts : List (O.MlType Name)) → typed w σ (O.app h (types_of ts)) ≡ make w h (map (typed w σ) ts)
unfolding replace_type spread
typed-app finite σ h ts = ap (O.app h) (replaced-all σ ts)
typed-app infinite σ h ts = ap (tree h) (spread-all σ ts)

pub typed-free : (w : World) (σ : Assignment w) (v : ℕ) → typed w σ (O.free v) ≡ σ v
unfolding replace_type spread
typed-free finite σ v = refl
typed-free infinite σ v = refl

mutual
  unfolding replace_type replace_types spread spread_all IsOver AreOver

  pub typed-same : (w : World) (σ τ : Assignment w) (n : ℕ) (t : O.MlType Name) → ((u : ℕ) → u < n → σ u ≡ τ u) → IsOver n t → typed w σ t ≡ typed w τ t
  typed-same w σ τ n (O.bound k) e b = absurd b
  typed-same finite σ τ n (O.free v) e b = e v b
  typed-same infinite σ τ n (O.free v) e b = e v b
  typed-same finite σ τ n (O.app h ts) e b = ap (O.app h) (assigned-same σ τ n ts e b)
  typed-same infinite σ τ n (O.app h ts) e b = ap (tree h) (spread-same σ τ n ts e b)

  assigned-same : (σ τ : Assignment finite) (n : ℕ) (ts : O.MlTypes Name) → ((u : ℕ) → u < n → σ u ≡ τ u) → AreOver n ts → replace_types O.bound σ ts ≡ replace_types O.bound τ ts
  assigned-same σ τ n O.no_type e b = refl
  assigned-same σ τ n (O.and_type t ts) e b = λ i. O.and_type (typed-same finite σ τ n t e b.0 i) (assigned-same σ τ n ts e b.1 i)

  spread-same : (σ τ : Assignment infinite) (n : ℕ) (ts : O.MlTypes Name) → ((u : ℕ) → u < n → σ u ≡ τ u) → AreOver n ts → spread_all σ ts ≡ spread_all τ ts
  spread-same σ τ n O.no_type e b = refl
  spread-same σ τ n (O.and_type t ts) e b = λ i. typed-same infinite σ τ n t e b.0 i ∷ spread-same σ τ n ts e b.1 i

pub over-parts : (n : ℕ) (h : O.Head Name) (ts : List (O.MlType Name)) → IsOver n (O.app h (types_of ts)) → AllByRecursion (IsOver n) ts
unfolding IsOver AreOver
over-parts n h [] o = tt
over-parts n h (t ∷ ts) o = (o.0, over-parts n h ts o.1)

-- a node more
pub node_at-last : (ns : List Node) (n : Node) → node_at (ns ++ n ∷ []) (length ns) ≡ n
node_at-last [] n = refl
node_at-last (m ∷ ns) n = node_at-last ns n

pub node_at-before : (ns : List Node) (n : Node) (i : ℕ) → i ≢ length ns → node_at (ns ++ n ∷ []) i ≡ node_at ns i
node_at-before [] n zero d = absurd (d refl)
node_at-before [] n (suc i) d = refl
node_at-before (m ∷ ns) n zero d = refl
node_at-before (m ∷ ns) n (suc i) d = node_at-before ns n i (λ e. d (ap suc e))

abbrev pub Alike : (w : World) → Assignment w → Assignment w → List ℕ → Type 0
Alike w σ τ ks = AllByRecursion (λ k. σ k ≡ τ k) ks

pub map-alike : (w : World) (σ τ : Assignment w) (ks : List ℕ) → Alike w σ τ ks → map σ ks ≡ map τ ks
map-alike w σ τ [] a = refl
map-alike w σ τ (k ∷ ks) a =
    let h : σ k ≡ τ k = a.0 in
    let r : map σ ks ≡ map τ ks = map-alike w σ τ ks a.1 in
    cc

pub fields-alike : (w : World) (σ τ : Assignment w) (fs : List (Id × ℕ)) → Alike w σ τ (kids_of fs) → fields_at σ fs ≡ fields_at τ fs
fields-alike w σ τ [] a = refl
fields-alike w σ τ (f ∷ fs) a = let r = fields-alike w σ τ fs a.1 in λ i. (f.0, a.0 i) ∷ r i

pub agrees-alike : (w : World) (σ τ : Assignment w) (i : ℕ) (n : Node) → σ i ≡ τ i → Alike w σ τ (parts n) → Agrees w σ i n → Agrees w τ i n
agrees-alike w σ τ i Unknown e a h = tt
agrees-alike w σ τ i (Link j) e a h = sym e ∙ (h ∙ a.0)
agrees-alike w σ τ i (App f kids) e a h = sym e ∙ (h ∙ ap (make w (head_over f (length kids.items))) (map-alike w σ τ kids.items a))
agrees-alike w σ τ i (Open fs) e a h =
    subst (λ t. HasFields w t (fields_at τ (fields_of fs.value))) e (subst (HasFields w (σ i)) (fields-alike w σ τ (fields_of fs.value) a) h)

pub parts-inside : (n i : ℕ) (m : Node) → i < n → IsSoundNode n i m → AllByRecursion (λ k. k < n) (parts m)
parts-inside n i Unknown h s = tt
parts-inside n i (Link j) h s = (omega (arith, h, s), tt)
parts-inside n i (App f kids) h s = s.0
parts-inside n i (Open fs) h s = s

pub sound-more : (n m i : ℕ) (x : Node) → n ≤ m → IsSoundNode n i x → IsSoundNode m i x
sound-more n m i Unknown h s = tt
sound-more n m i (Link j) h s = s
sound-more n m i (App f kids) h s = (inside-more n m kids.items h s.0, s.1)
sound-more n m i (Open fs) h s = inside-more n m (kids_of (fields_of fs.value)) h s

-- an assignment with other types from k on
abbrev pub beyond : (w : World) → Assignment w → ℕ → (ℕ → In w) → Assignment w
beyond w σ k f = λ i. elim (cases_lt i k) [ inl _ ↦ σ i | inr _ ↦ f (i - k) ]

pub beyond-below : (w : World) (σ : Assignment w) (k : ℕ) (f : ℕ → In w) (i : ℕ) → i < k → beyond w σ k f i ≡ σ i
beyond-below w σ k f i h = elim (cases_lt i k) as (λ s. elim s as (λ _. In w) [ inl _ ↦ σ i | inr _ ↦ f (i - k) ] ≡ σ i) [ inl _ ↦ refl | inr g ↦ absurd (omega (arith, h, g)) ]

pub beyond-above : (w : World) (σ : Assignment w) (k : ℕ) (f : ℕ → In w) (x : ℕ) → beyond w σ k f (k + x) ≡ f x
beyond-above w σ k f x = elim (cases_lt (k + x) k) as (λ s. elim s as (λ _. In w) [ inl _ ↦ σ (k + x) | inr _ ↦ f ((k + x) - k) ] ≡ f x) [ inl l ↦ absurd (omega (arith, l)) | inr g ↦ ap f (omega arith) ]

alike-beyond : (w : World) (σ : Assignment w) (k : ℕ) (f : ℕ → In w) (ks : List ℕ) → AllByRecursion (λ i. i < k) ks → Alike w σ (beyond w σ k f) ks
alike-beyond w σ k f [] a = tt
alike-beyond w σ k f (i ∷ ks) a = (sym (beyond-below w σ k f i a.0), alike-beyond w σ k f ks a.1)

pub meets-beyond : (w : World) (ns : List Node) (σ : Assignment w) (k : ℕ) (f : ℕ → In w) → length ns ≤ k → ((i : ℕ) → IsSoundNode k i (node_at ns i)) → Meets w ns σ → Meets w ns (beyond w σ k f)
meets-beyond w ns σ k f h s m i =
    elim (cases_lt i (length ns)) [
      | inl l ↦ agrees-alike w σ (beyond w σ k f) i (node_at ns i) (sym (beyond-below w σ k f i (omega (arith, l, h)))) (alike-beyond w σ k f (parts (node_at ns i)) (parts-inside k i (node_at ns i) (omega (arith, l, h)) (s i))) (m i)
      | inr g ↦ rw (get_or_past ns i Unknown g) tt
    ]

pub meets-before : (w : World) (ns : List Node) (n : Node) (σ : Assignment w) → Meets w (ns ++ n ∷ []) σ → Meets w ns σ
meets-before w ns n σ m i =
    elim (same_or_not i (length ns)) [
      | inl e ↦ rw (e, get_or_past ns (length ns) Unknown (omega arith)) tt
      | inr d ↦ rw (node_at-before ns n i d) at (m i)
    ]

pub meets-push : (w : World) (ns : List Node) (n : Node) (σ : Assignment w) → Meets w ns σ → Agrees w σ (length ns) n → Meets w (ns ++ n ∷ []) σ
meets-push w ns n σ m a i =
    elim (same_or_not i (length ns)) [
      | inl e ↦ rw (e, node_at-last ns n) a
      | inr d ↦ rw (node_at-before ns n i d) (m i)
    ]

sound-push : (b : ℕ) (ns : List Node) (n : Node) → ((i : ℕ) → IsSoundNode b i (node_at ns i)) → IsSoundNode b (length ns) n → (i : ℕ) → IsSoundNode b i (node_at (ns ++ n ∷ []) i)
sound-push b ns n s a i =
    elim (same_or_not i (length ns)) [
      | inl e ↦ rw (e, node_at-last ns n) a
      | inr d ↦ rw (node_at-before ns n i d) (s i)
    ]

filled-push : (b : ℕ) (ns : List Node) (n : Node) → ((i : ℕ) → b ≤ i → i < length ns → IsKnown (node_at ns i)) → IsKnown n → (i : ℕ) → b ≤ i → i < length (ns ++ n ∷ []) → IsKnown (node_at (ns ++ n ∷ []) i)
filled-push b ns n f k i h l =
    let len : length (ns ++ n ∷ []) ≡ length ns + 1 = simp length-append in
    elim (same_or_not i (length ns)) [
      | inl e ↦ rw (e, node_at-last ns n) k
      | inr d ↦ rw (node_at-before ns n i d) (f i h (omega (arith, l, len, d)))
    ]

-- what a node for a type is

pub not-bound : (n k : ℕ) (t : O.MlType Name) → t ≡ O.bound k → IsOver n t → ⊥
unfolding IsOver
not-bound n k t e o = rw e at o

pub free-over : (n v : ℕ) (t : O.MlType Name) → t ≡ O.free v → IsOver n t → v < n
unfolding IsOver
free-over n v t e o = rw e at o

pub expands-head : (t : O.MlType Name) (us : List ℕ) (k : ℕ) (h : Head) (v : SmallVec ℕ) (ss ts more : List (O.MlType Name)) → t ≡ O.app (head_over h (length more)) (types_of more) → v.items ≡ numbers k (length more) → IsCountOf h (length more) → ts ≡ ss ++ more → Expands t us k (App h v) ss ts
expands-head t us k h v ss ts more a b n c = inr (record { head = h; kids = v; more = more; type = a; node = refl; places = b; count = n; rest = c })

pub expands-unknown : (t : O.MlType Name) (us : List ℕ) (k u : ℕ) (n : Node) (ss : List (O.MlType Name)) → u < length us → t ≡ O.free u → n ≡ Link (get_or us u 0) → Expands t us k n ss ss
expands-unknown t us k u n ss h a b = inl (record { unknown = u; known = h; type = a; node = b; rest = refl })

pub append-next : {A : Type 0} (new old start done : List A) (x : A) (next : List A) → new ≡ old ++ x ∷ [] → old ≡ start ++ done → next ≡ done ++ x ∷ [] → new ≡ start ++ next
append-next new old start done x next a b c = a ∙ (ap (λ xs. xs ++ x ∷ []) b ∙ (append_assoc start done (x ∷ []) ∙ ap (λ xs. start ++ xs) (sym c)))

pub two-places : (ps qs rs : List ℕ) (k x y : ℕ) → ps ≡ [] → qs ≡ ps ++ x ∷ [] → rs ≡ qs ++ y ∷ [] → x ≡ k → y ≡ k + 1 → rs ≡ numbers k 2
two-places ps qs rs k x y a b c d e = rw (c, b, a, d, e, add-one) refl

-- the way to nodes for a type

pub types_size-is : (ts : List (O.MlType Name)) → types_size (types_of ts) ≡ sizes ts
unfolding types_size
types_size-is [] = refl
types_size-is (t ∷ ts) = ap (λ n. type_size t + n) (types_size-is ts)

pub sizes-append : (ss ts : List (O.MlType Name)) → sizes (ss ++ ts) ≡ sizes ss + sizes ts
sizes-append [] ts = omega arith
sizes-append (s ∷ ss) ts = let r = sizes-append ss ts in omega (arith, r)

drop-append : (ss ts : List (O.MlType Name)) (k : ℕ) → k ≤ length ss → drop k (ss ++ ts) ≡ drop k ss ++ ts
drop-append ss ts zero h = refl
drop-append [] ts (suc k) h = absurd (omega (arith, h))
drop-append (s ∷ ss) ts (suc k) h = drop-append ss ts k (omega (arith, h))

-- what is left to come is smaller, one type on
pub interning-less : (ss ts : List (O.MlType Name)) (k : ℕ) (us : List ℕ) (p : ℕ) (n : Node) (d : O.MlType Name) → k < length ss → Expands (get_or ss k d) us p n ss ts → sizes (drop (k + 1) ts) < sizes (drop k ss)
unfolding type_size
interning-less ss ts k us p n d h e =
    let a : sizes (drop k ss) ≡ type_size (get_or ss k d) + sizes (drop (suc k) ss) = ap sizes (drop-cons ss k d h) in
    elim e [
      | inl u ↦
          let b : type_size (get_or ss k d) ≡ 1 = ap type_size u.type in
          let r : sizes (drop (k + 1) ts) ≡ sizes (drop (suc k) ss) = rw (u.rest, add-one) refl in
          omega (arith, a, b, r)
      | inr u ↦
          let b : type_size (get_or ss k d) ≡ suc (types_size (types_of u.more)) = ap type_size u.type in
          let c = types_size-is u.more in
          let r : sizes (drop (k + 1) ts) ≡ sizes (drop (suc k) ss) + sizes u.more = rw (u.rest, add-one) (ap sizes (drop-append ss u.more (suc k) (omega (arith, h))) ∙ sizes-append (drop (suc k) ss) u.more) in
          omega (arith, a, b, c, r)
    ]

pub interning-first : (ns : List Node) (us : List ℕ) (t : O.MlType Name) (ts : List (O.MlType Name)) → IsSound ns → IsOver (length us) t → ts ≡ t ∷ [] → IsInterning ns us t ns ts 0
interning-first ns us t ts s o e =
    let n : length ts ≡ 1 = ap length e in
    let more : (i : ℕ) → IsSoundNode (length ns + length ts) i (node_at ns i) = λ i. sound-more (length ns) (length ns + length ts) i (node_at ns i) (omega arith) (s i) in
    let z : length ns + 0 ≡ length ns = omega arith in
    record {
      place = omega arith;
      known = omega arith;
      first = omega (arith, n);
      over = rw e (o, tt);
      sound = more;
      before = λ i l. refl;
      filled = λ i h l. absurd (omega (arith, h, l));
      back = λ w τ m pend. (m, ap τ (sym z) ∙ (pend 0 (omega arith) (omega (arith, n)) ∙ ap (λ xs. typed w (through w us τ) (get_or xs 0 (O.free 0))) e));
      forth = λ w τ m.
          let f = λ (x : ℕ). typed w (through w us τ) (get_or ts x (O.free 0)) in (
            beyond w τ (length ns) f,
            meets-beyond w ns τ (length ns) f (omega arith) s m,
            λ i l. beyond-below w τ (length ns) f i l,
            λ j l. beyond-above w τ (length ns) f j,
          );
    }

next-unknown : (ns : List Node) (us : List ℕ) (t : O.MlType Name) (ms : List Node) (ss ts : List (O.MlType Name)) (k : ℕ) (n : Node) → AllByRecursion (λ u. u < length ns) us → IsInterning ns us t ms ss k → k < length ss → IsUnknownAt (get_or ss k (O.free 0)) us n ss ts → IsInterning ns us t (ms ++ n ∷ []) ts (k + 1)
next-unknown ns us t ms ss ts k n a i h e =
    let p = i.place in
    let len : length (ms ++ n ∷ []) ≡ suc (length ms) = simp length-append (omega arith) in
    let le : length ts ≡ length ss = ap length e.rest in
    let u : get_or us e.unknown 0 < length ns = inside-at (length ns) us e.unknown a e.known in
    let node : (b : ℕ) → IsSoundNode b (length ms) n = λ b. rw e.node (omega (arith, p, u)) in
    record {
      place = omega (arith, p, len);
      known = omega (arith, h, le);
      first = omega (arith, h, le);
      over = rw e.rest i.over;
      sound = rw e.rest (sound-push (length ns + length ss) ms n i.sound (node (length ns + length ss)));
      filled = filled-push (length ns) ms n i.filled (rw e.node tt);
      before = λ x l. node_at-before ms n x (λ q. omega (arith, p, l, q)) ∙ i.before x l;
      back = λ w τ m pend.
          let here : τ (length ms) ≡ τ (get_or us e.unknown 0) = rw (node_at-last ms n, e.node) at (m (length ms)) in
          i.back w τ (meets-before w ms n τ m) (λ j ge lt.
          elim (same_or_not j k) [
            | inl s ↦ ap τ (omega (arith, p, s)) ∙ (here ∙ (sym (typed-free w (through w us τ) e.unknown) ∙ ap (typed w (through w us τ)) (sym e.type ∙ ap (λ x. get_or ss x (O.free 0)) (sym s))))
            | inr d ↦ pend j (omega (arith, ge, d)) (omega (arith, lt, le)) ∙ ap (λ xs. typed w (through w us τ) (get_or xs j (O.free 0))) e.rest
          ]);
      forth = λ w τ m.
          let f = i.forth w τ m in
          let here : f.0 (length ms) ≡ f.0 (get_or us e.unknown 0) = ap f.0 p ∙ (f.3 k h ∙ (ap (typed w (through w us τ)) e.type ∙ (typed-free w (through w us τ) e.unknown ∙ sym (f.2 (get_or us e.unknown 0) u)))) in (
            f.0,
            meets-push w ms n f.0 f.1 (rw e.node here),
            f.2,
            λ j l. f.3 j (omega (arith, l, le)) ∙ ap (λ xs. typed w (through w us τ) (get_or xs j (O.free 0))) (sym e.rest),
          );
    }

next-head : (ns : List Node) (us : List ℕ) (t : O.MlType Name) (ms : List Node) (ss ts : List (O.MlType Name)) (k : ℕ) (n : Node) → IsInterning ns us t ms ss k → k < length ss → IsHeadOver (get_or ss k (O.free 0)) (length ns + length ss) n ss ts → IsInterning ns us t (ms ++ n ∷ []) ts (k + 1)
next-head ns us t ms ss ts k n i h e =
    let p = i.place in
    let len : length (ms ++ n ∷ []) ≡ suc (length ms) = simp length-append (omega arith) in
    let le : length ts ≡ length ss + length e.more = ap length e.rest ∙ simp length-append in
    let b = length ns + length ss in
    let count : length e.kids.items ≡ length e.more = ap length e.places ∙ length-numbers b (length e.more) in
    let inside : AllByRecursion (λ x. x < length ns + length ts) e.kids.items = rw e.places (numbers-below b (length e.more) (length ns + length ts) (omega (arith, le))) in
    let here-over : IsOver (length us) (O.app (head_over e.head (length e.more)) (types_of e.more)) = rw e.type at (all-at (IsOver (length us)) ss k (O.free 0) i.over h) in
    record {
      place = omega (arith, p, len);
      known = omega (arith, h, le);
      first = omega (arith, h, le);
      over = rw e.rest (all-append (IsOver (length us)) ss e.more i.over (over-parts (length us) (head_over e.head (length e.more)) e.more here-over));
      sound = sound-push (length ns + length ts) ms n (λ x. sound-more b (length ns + length ts) x (node_at ms x) (omega (arith, le)) (i.sound x)) (rw e.node (inside, rw count e.count));
      filled = filled-push (length ns) ms n i.filled (rw e.node tt);
      before = λ x l. node_at-before ms n x (λ q. omega (arith, p, l, q)) ∙ i.before x l;
      back = λ w τ m pend.
          let σ = through w us τ in
          let here : τ (length ms) ≡ make w (head_over e.head (length e.kids.items)) (map τ e.kids.items) = rw (node_at-last ms n, e.node) at (m (length ms)) in
          let same : map τ e.kids.items ≡ map (typed w σ) e.more = ap (map τ) e.places ∙ map-numbers τ (typed w σ) (O.free 0) b e.more
          (λ x l. let q : (length ns + length ss) + x ≡ length ns + (length ss + x) = omega arith in
          ap τ q ∙ (pend (length ss + x) (omega (arith, h)) (omega (arith, l, le)) ∙ ap (typed w σ) (ap (λ xs. get_or xs (length ss + x) (O.free 0)) e.rest ∙ get_or-right ss e.more x (O.free 0)))) in
          i.back w τ (meets-before w ms n τ m) (λ j ge lt.
          elim (same_or_not j k) [
            | inl s ↦
                let q : length ns + j ≡ length ms = omega (arith, p, s) in
                ap τ q ∙ (here ∙ (ap (λ x. make w (head_over e.head x) (map τ e.kids.items)) count ∙ (ap (make w (head_over e.head (length e.more))) same ∙ (sym (typed-app w σ (head_over e.head (length e.more)) e.more) ∙ ap (typed w σ) (sym e.type ∙ ap (λ x. get_or ss x (O.free 0)) (sym s))))))
            | inr d ↦ pend j (omega (arith, ge, d)) (omega (arith, lt, le)) ∙ ap (typed w σ) (ap (λ xs. get_or xs j (O.free 0)) e.rest ∙ get_or-left ss e.more j (O.free 0) lt)
          ]);
      forth = λ w τ m.
          let σ = through w us τ in
          let f = i.forth w τ m in
          let g = λ (x : ℕ). typed w σ (get_or e.more x (O.free 0)) in
          let υ : Assignment w = beyond w f.0 b g in
          let same : map υ e.kids.items ≡ map (typed w σ) e.more = ap (map υ) e.places ∙ map-numbers υ (typed w σ) (O.free 0) b e.more (λ x l. beyond-above w f.0 b g x) in
          let here : υ (length ms) ≡ make w (head_over e.head (length e.kids.items)) (map υ e.kids.items) =
          beyond-below w f.0 b g (length ms) (omega (arith, p, h)) ∙ (ap f.0 p ∙ (f.3 k h ∙ (ap (typed w σ) e.type ∙ (typed-app w σ (head_over e.head (length e.more)) e.more ∙ (ap (make w (head_over e.head (length e.more))) (sym same) ∙ ap (λ x. make w (head_over e.head x) (map υ e.kids.items)) (sym count)))))) in (
            υ,
            meets-push w ms n υ (meets-beyond w ms f.0 b g (omega (arith, p, h)) i.sound f.1) (rw e.node here),
            λ x l. beyond-below w f.0 b g x (omega (arith, l)) ∙ f.2 x l,
            λ j l.
                elim (cases_lt j (length ss)) [
                  | inl lt ↦ beyond-below w f.0 b g (length ns + j) (omega (arith, lt)) ∙ (f.3 j lt ∙ ap (typed w σ) (sym (ap (λ xs. get_or xs j (O.free 0)) e.rest ∙ get_or-left ss e.more j (O.free 0) lt)))
                  | inr ge ↦
                      let x = j - length ss in
                      let q : length ns + j ≡ (length ns + length ss) + x = omega (arith, ge) in
                      let r : j ≡ length ss + x = omega (arith, ge) in
                      ap υ q ∙ (beyond-above w f.0 b g x ∙ ap (typed w σ) (sym (ap (λ xs. get_or xs j (O.free 0)) e.rest ∙ (ap (λ y. get_or (ss ++ e.more) y (O.free 0)) r ∙ get_or-right ss e.more x (O.free 0)))))
                ],
          );
    }

pub interning-next : (ns : List Node) (us : List ℕ) (t : O.MlType Name) (ms : List Node) (ss ts : List (O.MlType Name)) (k p : ℕ) (n : Node) (x : O.MlType Name) → AllByRecursion (λ u. u < length ns) us → IsInterning ns us t ms ss k → k < length ss → x ≡ get_or ss k (O.free 0) → p ≡ length ns + length ss → Expands x us p n ss ts → IsInterning ns us t (ms ++ n ∷ []) ts (k + 1)
interning-next ns us t ms ss ts k p n x a i h e f y =
    let z : Expands (get_or ss k (O.free 0)) us (length ns + length ss) n ss ts = rw (e, f) at y in
    elim z [
      | inl u ↦ next-unknown ns us t ms ss ts k n a i h u
      | inr v ↦ next-head ns us t ms ss ts k n i h v
    ]

pub interning-last : (ns : List Node) (us : List ℕ) (t : O.MlType Name) (ms : List Node) (ts : List (O.MlType Name)) (k : ℕ) → IsInterning ns us t ms ts k → length ts ≤ k → Interns ns us t ms (length ns)
interning-last ns us t ms ts k i h =
    let p = i.place in
    let q = i.known in
    let f = i.first in
    let n : length ns + length ts ≡ length ms = omega (arith, p, q, h) in
    record {
      len = omega (arith, p);
      inside = omega (arith, p, f, h);
      sound = λ x. subst (λ b. IsSoundNode b x (node_at ms x)) n (i.sound x);
      before = i.before;
      filled = i.filled;
      back = λ w τ m. i.back w τ m (λ j ge lt. absurd (omega (arith, ge, lt, h)));
      forth = λ w τ m. let g = i.forth w τ m in (g.0, g.1, g.2);
    }

pub over-app : (n : ℕ) (h : O.Head Name) (ts : List (O.MlType Name)) → AllByRecursion (IsOver n) ts → IsOver n (O.app h (types_of ts))
unfolding IsOver AreOver
over-app n h [] a = tt
over-app n h (t ∷ ts) a = (a.0, over-app n h ts a.1)

pub over-free : (n v : ℕ) → v < n → IsOver n (O.free v)
unfolding IsOver
over-free n v h = h

-- an instance speaks of the unknowns before and of the new ones
mutual
  unfolding IsOver AreOver IsBodyOver AreBodiesOver replace_type replace_types

  pub instance-over : (b n : ℕ) (t : O.MlType Name) → IsBodyOver b n t → IsOver (n + b) (instance_from n t)
  instance-over b n (O.bound k) h = omega (arith, h)
  instance-over b n (O.free v) h = omega (arith, h)
  instance-over b n (O.app x ts) h = instances-over b n ts h

  instances-over : (b n : ℕ) (ts : O.MlTypes Name) → AreBodiesOver b n ts → AreOver (n + b) (replace_types (λ j. O.free (n + j)) O.free ts)
  instances-over b n O.no_type h = tt
  instances-over b n (O.and_type t ts) h = (instance-over b n t h.0, instances-over b n ts h.1)

pub body-bound : (b n k : ℕ) → k < b → IsBodyOver b n (O.bound k)
unfolding IsBodyOver
body-bound b n k h = h

-- The sizes of types that type functions give, and what was added to counts of all nodes.
use Rattle.std.proofs.Common.{inl, inr, ◌⊎◌, ◌≡◌, ◌≤◌, ◌<◌, ℕ, zero, suc, ◌+◌, ◌*◌, min, cond, nat_eq, nat_lt, List, [], ◌∷◌, ◌++◌, length, map, take, get_or, replicate, Global, refl, ap, ◌∙◌, sym, subst, arith, Result, Ok, Err, IfOk, Option, Some, None, vec_len}
use Rattle.std.proofs.lemmas.Grind.{take_at_read}
use Rattle.std.proofs.lemmas.Bool.Decides.{nat_tests, leb_tells}
use Rattle.std.proofs.lemmas.List.{map-append, get_or-replicate, length-replicate, length-map, length-take, take_all}
use Rattle.std.specs.declared.rc.Rc.{Rc}
use Rattle.sml_tree.specs.Trees.{Id}
use Rattle.sml_objects.specs.Objects as O
use Rattle.sml_objects.specs.Initial.{Name}
use Rattle.sml_objects.specs.Objects.{types_of}
use Rattle.sml_objects.specs.Sizes.{type_size, types_size}
use Rattle.sml_objects.specs.Types.{replace_type, replace_types, argument, argument_or}
use Rattle.sml_objects.specs.Fates.{type_or}
use Rattle.sml_objects.specs.Views.{type_of}
use Rattle.sml_objects.specs.declared.objects.MlType.{MlType}
use Rattle.sml_objects.specs.declared.objects.TyName.{TyName}
use Rattle.sml_type_maps.specs.declared.mapping.Image.{Image}
use Rattle.sml_type_maps.specs.declared.mapping.Image.TheVariants.{Same, Name as Other}
use Rattle.sml_type_maps.specs.Mapped.{mapped, all_mapped, image_of, seen}
use Rattle.sml_type_maps.specs.declared.sizes.Count.{Count}
use Rattle.sml_type_maps.specs.Counted.{HasAddedType, HasNodes, IsCountOf, SameNodes, nodes_past, all_nodes_past, size_or_one, uses_in, uses_in_all}
use Rattle.sml_type_maps.proofs.Counts.{is-first, is-past}

-- the sum of the sizes of these types, each as often as the function of its place says
abbrev pub weighed : (ℕ → ℕ) → List (O.MlType Name) → ℕ
weighed f [] = 0
weighed f (t ∷ ts) = f 0 * type_size t + weighed (λ k. f (suc k)) ts

pub weighed-push : (f : ℕ → ℕ) (ts : List (O.MlType Name)) (t : O.MlType Name)
    → weighed f (ts ++ (t ∷ [])) ≡ weighed f ts + f (length ts) * type_size t
weighed-push f [] t = omega arith
weighed-push f (u ∷ ts) t = omega (arith, weighed-push (λ k. f (suc k)) ts t)

weighed-none : (f : ℕ → ℕ) (ts : List (O.MlType Name)) → ((k : ℕ) → f k ≡ 0) → weighed f ts ≡ 0
weighed-none f [] h = refl
weighed-none f (t ∷ ts) h =
    let e : f 0 * type_size t ≡ 0 = ap (λ x. x * type_size t) (h 0) ∙ omega arith in
    omega (arith, weighed-none (λ k. f (suc k)) ts (λ k. h (suc k)))

weighed-same : (f g : ℕ → ℕ) (ts : List (O.MlType Name)) → ((k : ℕ) → f k ≡ g k) → weighed f ts ≡ weighed g ts
weighed-same f g [] h = refl
weighed-same f g (t ∷ ts) h =
    let e : f 0 * type_size t ≡ g 0 * type_size t = ap (λ x. x * type_size t) (h 0) in
    omega (arith, weighed-same (λ k. f (suc k)) (λ k. g (suc k)) ts (λ k. h (suc k)))

weighed-sum : (f g : ℕ → ℕ) (ts : List (O.MlType Name)) → weighed (λ k. f k + g k) ts ≡ weighed f ts + weighed g ts
weighed-sum f g [] = refl
weighed-sum f g (t ∷ ts) = omega (arith, weighed-sum (λ k. f (suc k)) (λ k. g (suc k)) ts)

first-past : (k : ℕ) → ◌≡◌ {A = ℕ} (cond (nat_eq (suc k) 0) 1 0) 0
first-past k = grind (arith, nat_tests)

past-first : (k : ℕ) → ◌≡◌ {A = ℕ} (cond (nat_eq 0 (suc k)) 1 0) 0
past-first k = grind (arith, nat_tests)

same-past : (j k : ℕ) → ◌≡◌ {A = ℕ} (cond (nat_eq (suc k) (suc j)) 1 0) (cond (nat_eq k j) 1 0)
same-past j k = grind (arith, nat_tests)

below-past : (j n x : ℕ) → cond (nat_lt (suc j) (suc n)) 0 x ≡ cond (nat_lt j n) 0 x
below-past j n x = grind (arith, nat_tests)

size-argument : (d : O.MlType Name) (j : ℕ) (ts : List (O.MlType Name))
    → type_size (argument_or d (types_of ts) j) ≡ cond (nat_lt j (length ts)) 0 (type_size d) + weighed (λ k. cond (nat_eq k j) 1 0) ts
size-argument d j [] = omega (arith, is-past j 0 0 (type_size d) (omega arith))
size-argument d zero (t ∷ ts) =
    omega (arith, is-first 0 (suc (length ts)) 0 (type_size d) (omega arith), weighed-none (λ k. cond (nat_eq (suc k) 0) 1 0) ts first-past)
size-argument d (suc j) (t ∷ ts) =
    let e : cond (nat_eq 0 (suc j)) 1 0 * type_size t ≡ 0 = ap (λ (x : ℕ). x * type_size t) (past-first j) ∙ omega arith in
    omega (
      arith,
      size-argument d j ts,
      below-past j (length ts) (type_size d),
      weighed-same (λ k. cond (nat_eq (suc k) (suc j)) 1 0) (λ k. cond (nat_eq k j) 1 0) ts (same-past j),
    )

module _ (ts : List (O.MlType Name)) where
  mutual
    unfolding replace_type replace_types type_size types_size nodes_past all_nodes_past uses_in uses_in_all

    pub size-applied : (t : O.MlType Name)
        → type_size (replace_type (argument (types_of ts)) O.free t) ≡ nodes_past (length ts) t + weighed (uses_in t) ts
    size-applied (O.bound j) = size-argument (O.bound j) j ts
    size-applied (O.free v) = omega (arith, weighed-none (λ k. 0) ts (λ k. refl))
    size-applied (O.app h us) = omega (arith, sizes-applied us)

    sizes-applied : (us : O.MlTypes Name)
        → types_size (replace_types (argument (types_of ts)) O.free us) ≡ all_nodes_past (length ts) us + weighed (uses_in_all us) ts
    sizes-applied O.no_type = omega (arith, weighed-none (λ k. 0) ts (λ k. refl))
    sizes-applied (O.and_type u us) = omega (arith, size-applied u, sizes-applied us, weighed-sum (uses_in u) (uses_in_all us) ts)

mutual
  unfolding type_size types_size nodes_past all_nodes_past

  pub past-none : (t : O.MlType Name) → nodes_past 0 t ≡ type_size t
  past-none (O.bound k) = is-past k 0 0 1 (omega arith)
  past-none (O.free v) = refl
  past-none (O.app h ts) = ap suc (all-past-none ts)

  all-past-none : (ts : O.MlTypes Name) → all_nodes_past 0 ts ≡ types_size ts
  all-past-none O.no_type = refl
  all-past-none (O.and_type t ts) = omega (arith, past-none t, all-past-none ts)

size-positive : (t : O.MlType Name) → 1 ≤ type_size t
unfolding type_size
size-positive (O.bound k) = omega arith
size-positive (O.free v) = omega arith
size-positive (O.app h ts) = omega arith

pub size-or-one : (o : Option (O.MlType Name)) (t u : O.MlType Name) → type_size t ≡ 1 → type_or t o ≡ u → size_or_one o ≡ type_size u
size-or-one None t u h e = sym h ∙ ap type_size e
size-or-one (Some v) t u h e = ap type_size e

-- numbers that are the same up to a limit

pub alike : (limit m n : ℕ) → min m limit ≡ min n limit → (m ≡ n) ⊎ ((limit ≤ m) × (limit ≤ n))
alike limit m n h = elim (leb_tells limit m) [ inl e ↦ inr (omega (arith, e.1), omega (arith, e.1)) | inr e ↦ inl (omega (arith, e.1)) ]

pub scaled : (t m n : ℕ) → SameNodes m n → SameNodes (t * m) (t * n)
scaled zero m n h = omega arith
scaled (suc t) m n h =
    elim (alike 10001 m n h) [
      | inl e ↦ ap (λ x. min (suc t * x) 10001) e
      | inr l ↦ omega arith
    ]

-- so many uses of a part as a count has them
many : (t u f s : ℕ) → min u 4294967295 ≡ min f 4294967295 → SameNodes (min (suc t * u) 4294967295 * suc s) (suc t * (f * suc s))
many t u f s h =
    elim (alike 4294967295 u f h) [
      | inl e ↦
          elim (leb_tells 4294967295 (suc t * u)) [
            | inl g ↦
                let c : min (suc t * u) 4294967295 ≡ 4294967295 = omega (arith, g.1) in
                let l : 4294967295 ≤ suc t * f = subst (λ x. 4294967295 ≤ suc t * x) e g.1 in
                ap (λ x. min (x * suc s) 10001) c ∙ omega arith
            | inr g ↦
                let c : min (suc t * u) 4294967295 ≡ suc t * u = omega (arith, g.1) in
                ap (λ x. min (x * suc s) 10001) c ∙ ap (λ x. min (suc t * x * suc s) 10001) e ∙ omega arith
          ]
      | inr l ↦
          let c : min (suc t * u) 4294967295 ≡ 4294967295 = omega arith in
          ap (λ x. min (x * suc s) 10001) c ∙ omega arith
    ]

pub part-step : (t past sum f s u bodied before was now : ℕ) → (bodied ≤ 10000 → min u 4294967295 ≡ min f 4294967295) → SameNodes bodied past → 1 ≤ s
    → SameNodes was (before + t * (past + sum)) → SameNodes now (was + min (t * u) 4294967295 * s)
    → SameNodes now (before + t * (past + (sum + f * s)))
part-step zero past sum f s u bodied before was now h b l one other =
    let z : min (zero * u) 4294967295 ≡ 0 = omega arith in
    let e : min (zero * u) 4294967295 * s ≡ 0 = ap (λ x. x * s) z ∙ omega arith in
    omega arith
part-step (suc t) past sum f zero u bodied before was now h b l one other = absurd (omega arith)
part-step (suc t) past sum f (suc s) u bodied before was now h b l one other =
    elim (leb_tells bodied 10000) [
      | inl small ↦ omega (arith, many t u f s (h small.1))
      | inr large ↦ omega (arith, large.1)
    ]

-- what was added to a count of all nodes

pub nodes-alone : (a b : Count) (n m : ℕ) → b.nodes ≡ min (a.nodes + n) 4294967295 → b.uses ≡ a.uses → m ≡ n → HasNodes a b m
nodes-alone a b n m h same e none = (ap vec_len same ∙ none, omega arith)

pub nodes-then : (a b c : Count) (m n k : ℕ) → HasNodes a b m → HasNodes b c n → k ≡ m + n → HasNodes a c k
nodes-then a b c m n k one other e none =
    let first = one none in
    let second = other first.0 in
    (second.0, omega (arith, first.1, second.1))

pub type-nodes : (a b : Count) (times : ℕ) (t u : O.MlType Name) → t ≡ u → HasAddedType a b times t → HasNodes a b (times * type_size u)
type-nodes a b times t u e added none =
    let size : nodes_past (vec_len a.uses) t ≡ type_size u = ap (λ n. nodes_past n t) none ∙ past-none t ∙ ap type_size e in
    (added.variables ∙ none, added.nodes ∙ ap (λ x. min (a.nodes + times * x) 10001) size)

pub ok-nodes : {A E : Type 0} (r : Result A E) (a b c : Count) (m n : ℕ) → (HasNodes a b m → HasNodes c b n)
    → IfOk r (λ _. HasNodes a b m) → IfOk r (λ _. HasNodes c b n)
ok-nodes (Ok x) a b c m n f h = f h
ok-nodes (Err e) a b c m n f h = h

pub bound-size : (k : ℕ) → type_size {N = Name} (O.bound k) ≡ 1
unfolding type_size
bound-size k = refl

pub free-size : (k : ℕ) → type_size {N = Name} (O.free k) ≡ 1
unfolding type_size
free-size k = refl

pub arrow-nodes : {A E : Type 0} (r : Result A E) (w x y z : Count) (times m n k : ℕ) → x.nodes ≡ min (w.nodes + times) 4294967295 → x.uses ≡ w.uses
    → k ≡ suc (m + n) → HasNodes x y (times * m) → IfOk r (λ _. HasNodes y z (times * n)) → IfOk r (λ _. HasNodes w z (times * k))
arrow-nodes r w x y z times m n k h same e one other =
    let left : HasNodes w y (times + times * m) = nodes-then w x y times _ _ (nodes-alone w x times times h same refl) one refl in
    ok-nodes r y z w _ _ (λ right. nodes-then w y z _ _ _ left right (ap (λ x. times * x) e ∙ omega arith)) other

pub head-size : (i : Image) (m : Name) (ts : O.MlTypes Name) → (i ≡ Same) ⊎ ((x : TyName) × (i ≡ Other x)) → suc (types_size ts) ≡ type_size (image_of i m ts)
unfolding type_size
head-size i m ts (inl e) = sym (ap (λ i. type_size (image_of i m ts)) e)
head-size i m ts (inr e) = sym (ap (λ i. type_size (image_of i m ts)) e.1)

module _ (b f : ℕ → O.MlType Name) (n : Name → O.MlTypes Name → O.MlType Name) where
  pub row-size : (ls : List Id) (ts : O.MlTypes Name) (t : O.MlType Name) → t ≡ O.app (O.row ls) ts
      → suc (types_size (all_mapped b f n ts)) ≡ type_size (mapped b f n t)
  unfolding mapped type_size
  row-size ls ts t is = sym (ap (λ t. type_size (mapped b f n t)) is)

  pub function-size : (m : Name) (ts : O.MlTypes Name) (t u : O.MlType Name) → t ≡ O.app (O.name m) ts
      → u ≡ n m (all_mapped b f n ts) → type_size u ≡ type_size (mapped b f n t)
  unfolding mapped
  function-size m ts t u is e = ap type_size e ∙ sym (ap (λ t. type_size (mapped b f n t)) is)

  pub arrow-size : (t u whole : O.MlType Name) → whole ≡ O.arrow_of t u
      → type_size (mapped b f n whole) ≡ suc (type_size (mapped b f n t) + type_size (mapped b f n u))
  unfolding mapped all_mapped type_size types_size
  arrow-size t u whole is = ap (λ t. type_size (mapped b f n t)) is ∙ omega arith

  pub none-size : suc (types_size (all_mapped b f n O.no_type)) ≡ 1
  unfolding all_mapped types_size
  none-size = refl

  push-size : (ts : List (O.MlType Name)) (t : O.MlType Name)
      → types_size (all_mapped b f n (types_of (ts ++ (t ∷ [])))) ≡ types_size (all_mapped b f n (types_of ts)) + type_size (mapped b f n t)
  unfolding all_mapped types_size
  push-size [] t = omega arith
  push-size (u ∷ ts) t = omega (arith, push-size ts t)

  pub mapped-list : (ts : List (O.MlType Name)) → all_mapped b f n (types_of ts) ≡ types_of (map (mapped b f n) ts)
  unfolding all_mapped
  mapped-list [] = refl
  mapped-list (t ∷ ts) = ap (O.and_type (mapped b f n t)) (mapped-list ts)

  -- a part after others
  pub part-nodes : (x y z : Count) (times : ℕ) (ts us : List (Rc MlType Global)) (t : Rc MlType Global) (u : O.MlType Name) → us ≡ ts ++ (t ∷ []) → u ≡ type_of t.value
      → HasNodes x y (times * suc (types_size (all_mapped b f n (types_of (seen ts))))) → HasNodes y z (times * type_size (mapped b f n u))
      → HasNodes x z (times * suc (types_size (all_mapped b f n (types_of (seen us)))))
  part-nodes x y z times ts us t u more is one other =
      let pushed : seen us ≡ seen ts ++ (u ∷ []) =
      ap seen more ∙ map-append (λ (t : Rc MlType Global). type_of t.value) ts (t ∷ []) ∙ ap (λ x. seen ts ++ (x ∷ [])) (sym is) in
      nodes-then x y z _ _ _ one other
      (ap (λ l. times * suc (types_size (all_mapped b f n (types_of l)))) pushed ∙ ap (λ s. times * suc s) (push-size (seen ts) u) ∙ omega arith)

-- a count of a body from nothing
pub counted : (n : ℕ) (a b : Count) (t u : O.MlType Name) → t ≡ u → a.nodes ≡ 0 → a.uses.items ≡ replicate n 0 → HasAddedType a b 1 t → IsCountOf n u b
counted n a b t u e none fresh added =
    let long : vec_len a.uses ≡ n = a.uses.ok.0 ∙ ap length fresh ∙ length-replicate n 0 in
    let same : nodes_past (vec_len a.uses) t ≡ nodes_past n u = ap (λ l. nodes_past l t) long ∙ ap (nodes_past n) e in
    record {
      variables = added.variables ∙ long;
      nodes = omega (arith, added.nodes, same);
      each = λ small k l.
          omega (
            arith,
            added.each small k (omega (arith, long)),
            ap (λ (xs : List ℕ). get_or xs k 0) fresh ∙ get_or-replicate n k 0 0 l,
            ap (λ t. uses_in t k) e,
          );
    }

pub start-nodes : (a b body : Count) (times n m : ℕ) (t : O.MlType Name) → IsCountOf n t body → m ≡ min (times * body.nodes) 4294967295
    → b.nodes ≡ min (a.nodes + m) 4294967295 → b.uses ≡ a.uses → HasNodes a b (times * (nodes_past n t + 0))
start-nodes a b body times n m t is e h same none =
    (ap vec_len same ∙ none, omega (arith, scaled times body.nodes (nodes_past n t) is.nodes))

-- an argument that isn't used
pub unused-nodes : (x : Count) (times u s : ℕ) → u ≡ 0 → HasNodes x x (min (times * u) 4294967295 * s)
unused-nodes x times u s h none =
    let z : min (times * u) 4294967295 ≡ 0 = ap (λ u. min (times * u) 4294967295) h ∙ omega arith in
    let e : min (times * u) 4294967295 * s ≡ 0 = ap (λ x. x * s) z ∙ omega arith in
    (none, omega arith)

module _ (b f : ℕ → O.MlType Name) (n : Name → O.MlTypes Name → O.MlType Name) where
  abbrev pub become : List (Rc MlType Global) → List (O.MlType Name)
  become ts = map (mapped b f n) (seen ts)

  become-push : (ts us : List (Rc MlType Global)) (t : Rc MlType Global) → us ≡ ts ++ (t ∷ []) → become us ≡ become ts ++ (mapped b f n (type_of t.value) ∷ [])
  become-push ts us t more =
      ap become more ∙ ap (map (mapped b f n)) (map-append (λ (t : Rc MlType Global). type_of t.value) ts (t ∷ []))
      ∙ map-append (mapped b f n) (seen ts) (type_of t.value ∷ [])

  become-long : (ts : List (Rc MlType Global)) → length (become ts) ≡ length ts
  become-long ts = length-map (seen ts) (mapped b f n) ∙ length-map ts (λ t. type_of t.value)

  -- the next argument of a type function
  pub turn-nodes : (a x y body : Count) (times m u i j : ℕ) (t p : O.MlType Name) (ks : List (Rc MlType Global)) (part : Rc MlType Global)
      → IsCountOf (length ks) t body → i < length ks → part ≡ get_or ks i part → u ≡ get_or body.uses.items i 0 → p ≡ type_of part.value
      → m ≡ min (times * u) 4294967295 → j ≡ i + 1
      → HasNodes a x (times * (nodes_past (length ks) t + weighed (uses_in t) (become (take i ks))))
      → HasNodes x y (m * type_size (mapped b f n p))
      → HasNodes a y (times * (nodes_past (length ks) t + weighed (uses_in t) (become (take j ks))))
  turn-nodes a x y body times m u i j t p ks part is l at used seen_at e next one other none =
      let was = one none in
      let now = other was.0 in
      let s = type_size (mapped b f n p) in
      let taken : take j ks ≡ take i ks ++ (part ∷ []) =
      ap (λ k. take k ks) next ∙ (take_at_read ks i part l).1 ∙ ap (λ y. take i ks ++ (y ∷ [])) (sym at) in
      let place : length (become (take i ks)) ≡ i = omega (arith, become-long (take i ks), length-take i ks) in
      let size : type_size (mapped b f n (type_of part.value)) ≡ s = ap (λ t. type_size (mapped b f n t)) (sym seen_at) in
      let more : weighed (uses_in t) (become (take j ks)) ≡ weighed (uses_in t) (become (take i ks)) + uses_in t i * s =
      ap (weighed (uses_in t)) (become-push (take i ks) (take j ks) part taken)
      ∙ weighed-push (uses_in t) (become (take i ks)) (mapped b f n (type_of part.value))
      ∙ ap (λ k. weighed (uses_in t) (become (take i ks)) + uses_in t k * type_size (mapped b f n (type_of part.value))) place
      ∙ ap (λ z. weighed (uses_in t) (become (take i ks)) + uses_in t i * z) size in
      let counts : body.nodes ≤ 10000 → min u 4294967295 ≡ min (uses_in t i) 4294967295 =
      λ small. ap (λ z. min z 4294967295) used ∙ is.each small i l in (
        now.0,
        part-step times (nodes_past (length ks) t) (weighed (uses_in t) (become (take i ks))) (uses_in t i) s u body.nodes a.nodes x.nodes y.nodes counts is.nodes
            (size-positive (mapped b f n p)) was.1 (now.1 ∙ ap (λ z. min (x.nodes + z * s) 10001) e)
            ∙ ap (λ z. min (a.nodes + times * (nodes_past (length ks) t + z)) 10001) (sym more),
      )

  pub end-nodes : (a x : Count) (times j : ℕ) (t : O.MlType Name) (ks : List (Rc MlType Global)) → length ks ≤ j
      → HasNodes a x (times * (nodes_past (length ks) t + weighed (uses_in t) (become (take j ks))))
      → HasNodes a x (times * type_size (replace_type (argument (all_mapped b f n (types_of (seen ks)))) O.free t))
  end-nodes a x times j t ks l one =
      let size : type_size (replace_type (argument (all_mapped b f n (types_of (seen ks)))) O.free t)
      ≡ nodes_past (length ks) t + weighed (uses_in t) (become (take j ks)) =
      ap (λ us. type_size (replace_type (argument us) O.free t)) (mapped-list b f n (seen ks))
      ∙ size-applied (become ks) t
      ∙ ap (λ k. nodes_past k t + weighed (uses_in t) (become ks)) (become-long ks)
      ∙ ap (λ l. nodes_past (length ks) t + weighed (uses_in t) (become l)) (sym (take_all j ks l)) in
      subst (λ x'. HasNodes a x (times * x')) (sym size) one

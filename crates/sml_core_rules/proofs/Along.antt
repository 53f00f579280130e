-- Objects along a path from names to names.
use Rattle.std.specs.Prelude.{◌≡◌, ℕ, zero, suc, List, [], ◌∷◌, ◌++◌}
use mathlib.Core.Path.{refl, sym, subst}
use mathlib.Core.Logic.{inl, inr}
use Rattle.sml_objects.specs.Appearance.{Stands}
use std.Path.{PathP}
use Rattle.sml_objects.specs.Maps.{Map}
use Rattle.sml_objects.specs.Objects.{MlType, MlTypes, Head, Scheme, bound, free, app, arrow, row, name, no_type, and_type, names_head, names_type, names_types}
use Rattle.sml_core_rules.specs.Objects.{Env, Maps, Structures, Value, TyStr, maps, no_structure, and_structure, names_map, names_in, names_structures, names_scheme, names_ty_str, names_env}

-- each of some names becomes that of others
unfoldable pub Become : {A B : Type 0} → A ≡ B → List A → List B → Type 0
Become p [] [] = Unit {0}
Become p [] (m ∷ ms) = ⊥
Become p (n ∷ ns) [] = ⊥
Become p (n ∷ ns) (m ∷ ms) = PathP (λ i. p i) n m × Become p ns ms

pub become-same : {A : Type 0} (ns : List A) → Become refl ns ns
unfolding Become
become-same [] = tt
become-same (n ∷ ns) = (refl, become-same ns)

pub become-list : {A B : Type 0} (p : A ≡ B) (ns : List A) (ms : List B) → Become p ns ms → PathP (λ i. List (p i)) ns ms
unfolding Become
become-list p [] [] h = λ i. []
become-list p [] (m ∷ ms) h = absurd h
become-list p (n ∷ ns) [] h = absurd h
become-list p (n ∷ ns) (m ∷ ms) h = let q = become-list p ns ms h.1 in λ i. h.0 i ∷ q i

pub become-left : {A : Type 0} (p : A ≡ A) (ns ms : List A) → Become p (ns ++ ms) (ns ++ ms) → Become p ns ns
unfolding Become
become-left p [] ms h = tt
become-left p (n ∷ ns) ms h = (h.0, become-left p ns ms h.1)

pub become-right : {A : Type 0} (p : A ≡ A) (ns ms : List A) → Become p (ns ++ ms) (ns ++ ms) → Become p ms ms
unfolding Become
become-right p [] ms h = h
become-right p (n ∷ ns) ms h = become-right p ns ms h.1

pub become-both : {A : Type 0} (p : A ≡ A) (ns ms : List A) → Become p ns ns → Become p ms ms → Become p (ns ++ ms) (ns ++ ms)
unfolding Become
become-both p [] ms h k = k
become-both p (n ∷ ns) ms h k = (h.0, become-both p ns ms h.1 k)

-- each of some names that are among others, where a list of these stays

abbrev pub at : {A : Type 0} → A → ℕ → List A → A
at d k [] = d
at d zero (n ∷ ns) = n
at d (suc k) (n ∷ ns) = at d k ns

at-stands : {A : Type 0} (n : A) (ns : List A) → Stands n ns → (k : ℕ) × ((d : A) → at d k ns ≡ n)
unfolding Stands
at-stands n [] h = absurd h
at-stands n (m ∷ ns) (inl e) = (0, λ d. sym e)
at-stands n (m ∷ ns) (inr h) = let r = at-stands n ns h in (suc r.0, r.1)

ends : {A : Type 0} (p : A ≡ A) (x y z w : A) → x ≡ y → z ≡ w → PathP (λ i. p i) x z → PathP (λ i. p i) y w
ends p x y z w e f h = subst (λ y. PathP (λ i. p i) y w) e (subst (λ w. PathP (λ i. p i) x w) f h)

pub become-known : {A : Type 0} (p : A ≡ A) (d c : A) → PathP (λ i. p i) d c → (ns : List A) → PathP (λ i. List (p i)) ns ns
    → (ms : List A) → ((n : A) → Stands n ms → Stands n ns) → Become p ms ms
unfolding Become Stands
become-known p d c dp ns np [] h = tt
become-known p d c dp ns np (m ∷ ms) h =
    let r = at-stands m ns (h m (inl refl)) in
    (ends p (at d r.0 ns) m (at c r.0 ns) m (r.1 d) (r.1 c) (λ i. at (dp i) r.0 (np i)), become-known p d c dp ns np ms (λ n k. h n (inr k)))

-- objects whose names stay

pub head-along : {A : Type 0} (p : A ≡ A) (h : Head A) → Become p (names_head h) (names_head h) → PathP (λ i. Head (p i)) h h
unfolding Become
head-along p arrow b = λ i. arrow
head-along p (row ls) b = λ i. row ls
head-along p (name n) b = λ i. name (b.0 i)

mutual
  unfolding names_type

  pub type-along : {A : Type 0} (p : A ≡ A) (t : MlType A) → Become p (names_type t) (names_type t) → PathP (λ i. MlType (p i)) t t
  type-along p (bound k) b = λ i. bound k
  type-along p (free v) b = λ i. free v
  type-along p (app h ts) b =
      let g = head-along p h (become-left p (names_head h) (names_types ts) b) in
      let q = types-along p ts (become-right p (names_head h) (names_types ts) b) in λ i. app (g i) (q i)

  types-along : {A : Type 0} (p : A ≡ A) (ts : MlTypes A) → Become p (names_types ts) (names_types ts) → PathP (λ i. MlTypes (p i)) ts ts
  types-along p no_type b = λ i. no_type
  types-along p (and_type t ts) b =
      let g = type-along p t (become-left p (names_type t) (names_types ts) b) in
      let q = types-along p ts (become-right p (names_type t) (names_types ts) b) in λ i. and_type (g i) (q i)

scheme-along : {A : Type 0} (p : A ≡ A) (σ : Scheme A) → Become p (names_scheme σ) (names_scheme σ) → PathP (λ i. Scheme (p i)) σ σ
scheme-along p σ b = let q = type-along p σ.body b in λ i. record { variables = σ.variables; body = q i }

pub map-along : {A X : Type 0} (r : A ≡ A) (p : X ≡ X) (f : X → List A) → ((x : X) → Become r (f x) (f x) → PathP (λ i. p i) x x)
    → (m : Map X) → Become r (names_map f m) (names_map f m) → PathP (λ i. Map (p i)) m m
map-along r p f g [] b = λ i. []
map-along r p f g (e ∷ m) b =
    let v = g e.1 (become-left r (f e.1) (names_map f m) b) in
    let q = map-along r p f g m (become-right r (f e.1) (names_map f m) b) in λ i. (e.0, v i) ∷ q i

value-along : {A : Type 0} (p : A ≡ A) (v : Value A) → Become p (names_scheme v.scheme) (names_scheme v.scheme) → PathP (λ i. Value (p i)) v v
value-along p v b = let q = scheme-along p v.scheme b in λ i. record { scheme = q i; status = v.status }

str-along : {A : Type 0} (p : A ≡ A) (t : TyStr A) → Become p (names_ty_str t) (names_ty_str t) → PathP (λ i. TyStr (p i)) t t
str-along p t b =
    let q = scheme-along p t.function (become-left p (names_scheme t.function) (names_map names_scheme t.constructors) b) in
    let m = map-along p (λ i. Scheme (p i)) names_scheme (scheme-along p) t.constructors (become-right p (names_scheme t.function) (names_map names_scheme t.constructors) b) in
    λ i. record { function = q i; constructors = m i }

module _ {A T V : Type 0} (r : A ≡ A) (p : T ≡ T) (q : V ≡ V) (f : T → List A) (g : V → List A)
    (h : (t : T) → Become r (f t) (f t) → PathP (λ i. p i) t t) (k : (v : V) → Become r (g v) (g v) → PathP (λ i. q i) v v) where
  mutual
    unfolding names_in names_structures

    maps-along : (E : Maps T V) → Become r (names_in f g E) (names_in f g E) → PathP (λ i. Maps (p i) (q i)) E E
    maps-along (maps ss ts vs) b =
        let rest = names_map f ts ++ names_map g vs in
        let s = structures-along ss (become-left r (names_structures f g ss) rest b) in
        let c = become-right r (names_structures f g ss) rest b in
        let t = map-along r p f h ts (become-left r (names_map f ts) (names_map g vs) c) in
        let v = map-along r q g k vs (become-right r (names_map f ts) (names_map g vs) c) in λ i. maps (s i) (t i) (v i)

    structures-along : (ss : Structures T V) → Become r (names_structures f g ss) (names_structures f g ss) → PathP (λ i. Structures (p i) (q i)) ss ss
    structures-along no_structure b = λ i. no_structure
    structures-along (and_structure x E ss) b =
        let e = maps-along E (become-left r (names_in f g E) (names_structures f g ss) b) in
        let s = structures-along ss (become-right r (names_in f g E) (names_structures f g ss) b) in λ i. and_structure x (e i) (s i)

pub env-along : {A : Type 0} (p : A ≡ A) (E : Env A) → Become p (names_env E) (names_env E) → PathP (λ i. Env (p i)) E E
env-along p E b = maps-along p (λ i. TyStr (p i)) (λ i. Value (p i)) names_ty_str (λ v. names_scheme v.scheme) (str-along p) (value-along p) E b

-- A renaming that leaves the names of an object where they are leaves the object as it is.
use Rattle.std.specs.Prelude.{◌≡◌, List, [], ◌∷◌}
use mathlib.Core.List.{◌++◌, map}
use mathlib.Core.Path.{refl, ap, ap₂}
use Rattle.sml_tree.specs.Trees.{Id}
use Rattle.sml_objects.specs.Objects.{Head, MlType, MlTypes, Scheme, Env, Structures, Sig, arrow, row, name, bound, free, app, no_type, and_type, env, no_structure, and_structure, rename_head, rename_type, rename_types, rename_scheme, rename_map, rename_env, rename_structures, rename_sig, rename_basis, Basis, names_head, names_type, names_types, names_map, names_env, names_structures, names_sig, names_basis}

unfoldable pub Fixes : {N : Type 0} → (N → N) → List N → Type 0
Fixes f [] = Unit {0}
Fixes f (n ∷ ns) = (f n ≡ n) × Fixes f ns

pub fixes-left : {N : Type 0} (f : N → N) (ms ns : List N) → Fixes f (ms ++ ns) → Fixes f ms
unfolding Fixes ◌++◌
fixes-left f [] ns h = tt
fixes-left f (m ∷ ms) ns h = (h.0, fixes-left f ms ns h.1)

pub fixes-right : {N : Type 0} (f : N → N) (ms ns : List N) → Fixes f (ms ++ ns) → Fixes f ns
unfolding Fixes ◌++◌
fixes-right f [] ns h = h
fixes-right f (m ∷ ms) ns h = fixes-right f ms ns h.1

pub fixes-id : {N : Type 0} (ns : List N) → Fixes (λ n. n) ns
unfolding Fixes
fixes-id [] = tt
fixes-id (n ∷ ns) = (refl, fixes-id ns)

pub fixed_names : {N : Type 0} (f : N → N) (ns : List N) → Fixes f ns → map f ns ≡ ns
unfolding Fixes map
fixed_names f [] h = refl
fixed_names f (n ∷ ns) h = ap₂ ◌∷◌ h.0 (fixed_names f ns h.1)

pub fixed_head : {N : Type 0} (f : N → N) (h : Head N) → Fixes f (names_head h) → rename_head f h ≡ h
unfolding Fixes
fixed_head f arrow h = refl
fixed_head f (row ls) h = refl
fixed_head f (name n) h = ap name h.0

mutual
  unfolding Fixes names_type rename_type

  pub fixed_type : {N : Type 0} (f : N → N) (t : MlType N) → Fixes f (names_type t) → rename_type f t ≡ t
  fixed_type f (bound v) h = refl
  fixed_type f (free v) h = refl
  fixed_type f (app k ts) h =
      ap₂ app (fixed_head f k (fixes-left f (names_head k) (names_types ts) h))
      (fixed_types f ts (fixes-right f (names_head k) (names_types ts) h))

  pub fixed_types : {N : Type 0} (f : N → N) (ts : MlTypes N) → Fixes f (names_types ts) → rename_types f ts ≡ ts
  fixed_types f no_type h = refl
  fixed_types f (and_type t ts) h =
      ap₂ and_type (fixed_type f t (fixes-left f (names_type t) (names_types ts) h))
      (fixed_types f ts (fixes-right f (names_type t) (names_types ts) h))

pub fixed_map : {N : Type 0} (f : N → N) (xs : List (Id × Scheme N)) → Fixes f (names_map xs) → rename_map f xs ≡ xs
unfolding Fixes names_map rename_map rename_scheme
fixed_map f [] h = refl
fixed_map f (x ∷ xs) h =
    let p : rename_type f x.1.body ≡ x.1.body = fixed_type f x.1.body (fixes-left f (names_type x.1.body) (names_map xs) h) in
    let q : rename_map f xs ≡ xs = fixed_map f xs (fixes-right f (names_type x.1.body) (names_map xs) h) in
    λ i. (x.0, record { variables = x.1.variables; body = p i }) ∷ q i

mutual
  unfolding Fixes names_env rename_env

  pub fixed_env : {N : Type 0} (f : N → N) (e : Env N) → Fixes f (names_env e) → rename_env f e ≡ e
  fixed_env f (env ss ts vs) h =
      let r : Fixes f (names_map ts ++ names_map vs) = fixes-right f (names_structures ss) (names_map ts ++ names_map vs) h in
      let p : rename_structures f ss ≡ ss = fixed_structures f ss (fixes-left f (names_structures ss) (names_map ts ++ names_map vs) h) in
      let q : rename_map f ts ≡ ts = fixed_map f ts (fixes-left f (names_map ts) (names_map vs) r) in
      let s : rename_map f vs ≡ vs = fixed_map f vs (fixes-right f (names_map ts) (names_map vs) r) in
      λ i. env (p i) (q i) (s i)

  pub fixed_structures : {N : Type 0} (f : N → N) (ss : Structures N) → Fixes f (names_structures ss) → rename_structures f ss ≡ ss
  fixed_structures f no_structure h = refl
  fixed_structures f (and_structure s e ss) h =
      ap₂ (and_structure s) (fixed_env f e (fixes-left f (names_env e) (names_structures ss) h))
      (fixed_structures f ss (fixes-right f (names_env e) (names_structures ss) h))

pub fixed_sig : {N : Type 0} (f : N → N) (s : Sig N) → Fixes f (names_sig s) → rename_sig f s ≡ s
unfolding names_sig rename_sig
fixed_sig f s h =
    let p : map f s.names ≡ s.names = fixed_names f s.names (fixes-left f s.names (names_env s.body) h) in
    let q : rename_env f s.body ≡ s.body = fixed_env f s.body (fixes-right f s.names (names_env s.body) h) in
    λ i. record { names = p i; body = q i }

pub fixed_basis : {N : Type 0} (f : N → N) (b : Basis N) → Fixes f (names_basis b) → rename_basis f b ≡ b
unfolding names_basis rename_basis
fixed_basis f b h =
    let p : map f b.names ≡ b.names = fixed_names f b.names (fixes-left f b.names (names_env b.body) h) in
    let q : rename_env f b.body ≡ b.body = fixed_env f b.body (fixes-right f b.names (names_env b.body) h) in
    λ i. record { names = p i; count = b.count; body = q i }

unfoldable pub rename_sigs : {A B : Type 0} → (A → B) → List (Sig A) → List (Sig B)
rename_sigs f [] = []
rename_sigs f (s ∷ ss) = rename_sig f s ∷ rename_sigs f ss

unfoldable pub names_sigs : {N : Type 0} → List (Sig N) → List N
names_sigs [] = []
names_sigs (s ∷ ss) = names_sig s ++ names_sigs ss

pub fixed_sigs : {N : Type 0} (f : N → N) (ss : List (Sig N)) → Fixes f (names_sigs ss) → rename_sigs f ss ≡ ss
unfolding rename_sigs names_sigs
fixed_sigs f [] h = refl
fixed_sigs f (s ∷ ss) h = ap₂ ◌∷◌ (fixed_sig f s (fixes-left f (names_sig s) (names_sigs ss) h)) (fixed_sigs f ss (fixes-right f (names_sig s) (names_sigs ss) h))

-- The laws of renaming.
use Rattle.std.proofs.Common.{◌≡◌, List, [], ◌∷◌, ◌++◌, map, refl, ap, sym, ◌∙◌}
use Rattle.std.proofs.lemmas.List.{map-append}
use Rattle.sml_objects.specs.Maps.{Map}
use Rattle.sml_objects.specs.Objects.{MlType, MlTypes, Head, Scheme, Env, Structures, Sig, Basis, arrow, row, name, bound, free, app, no_type, and_type, env, no_structure, and_structure, rename_head, rename_type, rename_types, rename_scheme, rename_map, rename_env, rename_structures, rename_sig, rename_basis, names_head, names_type, names_types, names_map, names_env, names_structures, names_sig, names_basis}
use Rattle.sml_objects.specs.Laws.{ObeysLaws}

-- what fixes every name

list-id : {N : Type 0} (ns : List N) → map (λ n. n) ns ≡ ns
list-id [] = refl
list-id (n ∷ ns) = ap (λ ms. n ∷ ms) (list-id ns)

head-id : {N : Type 0} (h : Head N) → rename_head (λ n. n) h ≡ h
head-id arrow = refl
head-id (row ls) = refl
head-id (name n) = refl

mutual
  unfolding rename_type rename_types

  pub rename_type-id : {N : Type 0} (t : MlType N) → rename_type (λ n. n) t ≡ t
  rename_type-id (bound k) = refl
  rename_type-id (free v) = refl
  rename_type-id (app h ts) = λ i. app (head-id h i) (rename_types-id ts i)

  rename_types-id : {N : Type 0} (ts : MlTypes N) → rename_types (λ n. n) ts ≡ ts
  rename_types-id no_type = refl
  rename_types-id (and_type t ts) = λ i. and_type (rename_type-id t i) (rename_types-id ts i)

scheme-id : {N : Type 0} (s : Scheme N) → rename_scheme (λ n. n) s ≡ s
unfolding rename_scheme
scheme-id s = λ i. record { variables = s.variables; body = rename_type-id s.body i }

map-id : {N : Type 0} (m : Map (Scheme N)) → rename_map (λ n. n) m ≡ m
unfolding rename_map
map-id [] = refl
map-id (x ∷ xs) = λ i. (x.0, scheme-id x.1 i) ∷ map-id xs i

mutual
  unfolding rename_env rename_structures

  env-id : {N : Type 0} (E : Env N) → rename_env (λ n. n) E ≡ E
  env-id (env ss ts vs) = λ i. env (structures-id ss i) (map-id ts i) (map-id vs i)

  structures-id : {N : Type 0} (ss : Structures N) → rename_structures (λ n. n) ss ≡ ss
  structures-id no_structure = refl
  structures-id (and_structure s E ss) = λ i. and_structure s (env-id E i) (structures-id ss i)

-- one after the other

module _ {A B C : Type 0} (f : A → B) (g : B → C) where
  list-both : (ns : List A) → map g (map f ns) ≡ map (λ n. g (f n)) ns
  list-both [] = refl
  list-both (n ∷ ns) = ap (λ ms. g (f n) ∷ ms) (list-both ns)

  head-both : (h : Head A) → rename_head g (rename_head f h) ≡ rename_head (λ n. g (f n)) h
  head-both arrow = refl
  head-both (row ls) = refl
  head-both (name n) = refl

  mutual
    unfolding rename_type rename_types

    pub type-both : (t : MlType A) → rename_type g (rename_type f t) ≡ rename_type (λ n. g (f n)) t
    type-both (bound k) = refl
    type-both (free v) = refl
    type-both (app h ts) = λ i. app (head-both h i) (types-both ts i)

    types-both : (ts : MlTypes A) → rename_types g (rename_types f ts) ≡ rename_types (λ n. g (f n)) ts
    types-both no_type = refl
    types-both (and_type t ts) = λ i. and_type (type-both t i) (types-both ts i)

  scheme-both : (s : Scheme A) → rename_scheme g (rename_scheme f s) ≡ rename_scheme (λ n. g (f n)) s
  unfolding rename_scheme
  scheme-both s = λ i. record { variables = s.variables; body = type-both s.body i }

  map-both : (m : Map (Scheme A)) → rename_map g (rename_map f m) ≡ rename_map (λ n. g (f n)) m
  unfolding rename_map
  map-both [] = refl
  map-both (x ∷ xs) = λ i. (x.0, scheme-both x.1 i) ∷ map-both xs i

  mutual
    unfolding rename_env rename_structures

    env-both : (E : Env A) → rename_env g (rename_env f E) ≡ rename_env (λ n. g (f n)) E
    env-both (env ss ts vs) = λ i. env (structures-both ss i) (map-both ts i) (map-both vs i)

    structures-both : (ss : Structures A) → rename_structures g (rename_structures f ss) ≡ rename_structures (λ n. g (f n)) ss
    structures-both no_structure = refl
    structures-both (and_structure s E ss) = λ i. and_structure s (env-both E i) (structures-both ss i)

  pub sig-both : (S : Sig A) → rename_sig g (rename_sig f S) ≡ rename_sig (λ n. g (f n)) S
  unfolding rename_sig
  sig-both S = λ i. record { names = list-both S.names i; body = env-both S.body i }

  basis-both : (b : Basis A) → rename_basis g (rename_basis f b) ≡ rename_basis (λ n. g (f n)) b
  unfolding rename_basis
  basis-both b = λ i. record { names = list-both b.names i; count = b.count; body = env-both b.body i }

-- the names of a renamed object

module _ {A B : Type 0} (f : A → B) where
  -- the image of two parts
  pub parts-image : (ms ns : List A) (ks ls : List B) → ks ≡ map f ms → ls ≡ map f ns → ks ++ ls ≡ map f (ms ++ ns)
  parts-image ms ns ks ls h k = (λ i. h i ++ k i) ∙ sym (map-append f ms ns)

  head-image : (h : Head A) → names_head (rename_head f h) ≡ map f (names_head h)
  head-image arrow = refl
  head-image (row ls) = refl
  head-image (name n) = refl

  mutual
    unfolding rename_type rename_types names_type names_types

    type-image : (t : MlType A) → names_type (rename_type f t) ≡ map f (names_type t)
    type-image (bound k) = refl
    type-image (free v) = refl
    type-image (app h ts) = parts-image (names_head h) (names_types ts) _ _ (head-image h) (types-image ts)

    types-image : (ts : MlTypes A) → names_types (rename_types f ts) ≡ map f (names_types ts)
    types-image no_type = refl
    types-image (and_type t ts) = parts-image (names_type t) (names_types ts) _ _ (type-image t) (types-image ts)

  map-image : (m : Map (Scheme A)) → names_map (rename_map f m) ≡ map f (names_map m)
  unfolding rename_map rename_scheme names_map
  map-image [] = refl
  map-image (x ∷ xs) = parts-image (names_type x.1.body) (names_map xs) _ _ (type-image x.1.body) (map-image xs)

  mutual
    unfolding rename_env rename_structures names_env names_structures

    env-image : (E : Env A) → names_env (rename_env f E) ≡ map f (names_env E)
    env-image (env ss ts vs) =
        parts-image (names_structures ss) (names_map ts ++ names_map vs) _ _ (structures-image ss)
        (parts-image (names_map ts) (names_map vs) _ _ (map-image ts) (map-image vs))

    structures-image : (ss : Structures A) → names_structures (rename_structures f ss) ≡ map f (names_structures ss)
    structures-image no_structure = refl
    structures-image (and_structure s E ss) = parts-image (names_env E) (names_structures ss) _ _ (env-image E) (structures-image ss)

  pub sig-image : (S : Sig A) → names_sig (rename_sig f S) ≡ map f (names_sig S)
  unfolding rename_sig names_sig
  sig-image S = parts-image S.names (names_env S.body) _ _ refl (env-image S.body)

  basis-image : (b : Basis A) → names_basis (rename_basis f b) ≡ map f (names_basis b)
  unfolding rename_basis names_basis
  basis-image b = parts-image b.names (names_env b.body) _ _ refl (env-image b.body)

-- together

pub type_laws : {N : Type 0} → ObeysLaws {N = N} rename_type names_type
type_laws = record { identity = rename_type-id; composition = type-both; image = type-image }

pub scheme_laws : {N : Type 0} → ObeysLaws {N = N} rename_scheme (λ s. names_type s.body)
unfolding rename_scheme
scheme_laws = record { identity = scheme-id; composition = scheme-both; image = λ f s. type-image f s.body }

pub env_laws : {N : Type 0} → ObeysLaws {N = N} rename_env names_env
env_laws = record { identity = env-id; composition = env-both; image = env-image }

pub sig_laws : {N : Type 0} → ObeysLaws {N = N} rename_sig names_sig
unfolding rename_sig
sig_laws = record {
  identity = λ S i. record { names = list-id S.names i; body = env-id S.body i };
  composition = sig-both;
  image = sig-image;
}

pub basis_laws : {N : Type 0} → ObeysLaws {N = N} rename_basis names_basis
unfolding rename_basis
basis_laws = record {
  identity = λ b i. record { names = list-id b.names i; count = b.count; body = env-id b.body i };
  composition = basis-both;
  image = basis-image;
}

-- Which names stand in objects, and renamings that agree on these.
use Rattle.std.proofs.Common.{◌≡◌, ◌⊎◌, List, [], ◌∷◌, ◌++◌, map, refl, ap, inl, inr}
use Rattle.sml_objects.specs.Maps.{Map}
use Rattle.sml_objects.specs.Objects.{MlType, MlTypes, Head, Scheme, Env, Structures, Sig, arrow, row, name, bound, free, app, no_type, and_type, env, no_structure, and_structure, rename_head, rename_type, rename_types, rename_scheme, rename_map, rename_env, rename_structures, rename_sig, names_head, names_type, names_types, names_map, names_env, names_structures, names_sig}
use Rattle.sml_objects.specs.Appearance.{Stands, appear_type, appear_types, appear_map, appear_env, appear_structures, appear_sig}
use Rattle.sml_objects.proofs.Standing.{left, right, either}
use Rattle.sml_objects.proofs.Renaming.{parts-image}

-- the names that appear are those that stand there

module _ {N : Type 0} (n : N) where
  abbrev pub Within : List N → List N → Type 0
  Within ms ns = Stands n ms → Stands n ns

  both : (a b c d : List N) → Within a c → Within b d → Within (a ++ b) (c ++ d)
  both a b c d f g h = go (either n a b h)
    where
      go : Stands n a ⊎ Stands n b → Stands n (c ++ d)
      go (inl k) = left n c d (f k)
      go (inr k) = right n c d (g k)

  swapped : (a b c d : List N) → Within a c → Within b d → Within (a ++ b) (d ++ c)
  swapped a b c d f g h = go (either n a b h)
    where
      go : Stands n a ⊎ Stands n b → Stands n (d ++ c)
      go (inl k) = right n d c (f k)
      go (inr k) = left n d c (g k)

  mutual
    unfolding appear_type appear_types names_type names_types

    pub type-appears : (t : MlType N) → Within (names_type t) (appear_type t)
    type-appears (bound k) h = h
    type-appears (free v) h = h
    type-appears (app g ts) h = swapped (names_head g) (names_types ts) (names_head g) (appear_types ts) (λ k. k) (types-appear ts) h

    types-appear : (ts : MlTypes N) → Within (names_types ts) (appear_types ts)
    types-appear no_type h = h
    types-appear (and_type t ts) h = both (names_type t) (names_types ts) (appear_type t) (appear_types ts) (type-appears t) (types-appear ts) h

  map-appears : (m : Map (Scheme N)) → Within (names_map m) (appear_map m)
  unfolding appear_map names_map
  map-appears [] h = h
  map-appears (x ∷ xs) h = both (names_type x.1.body) (names_map xs) (appear_type x.1.body) (appear_map xs) (type-appears x.1.body) (map-appears xs) h

  mutual
    unfolding appear_env appear_structures names_env names_structures

    pub env-appears : (E : Env N) → Within (names_env E) (appear_env E)
    env-appears (env ss ts vs) h =
        both (names_structures ss) (names_map ts ++ names_map vs) (appear_structures ss) (appear_map ts ++ appear_map vs) (structures-appear ss)
        (both (names_map ts) (names_map vs) (appear_map ts) (appear_map vs) (map-appears ts) (map-appears vs)) h

    structures-appear : (ss : Structures N) → Within (names_structures ss) (appear_structures ss)
    structures-appear no_structure h = h
    structures-appear (and_structure s E ss) h =
        both (names_env E) (names_structures ss) (appear_env E) (appear_structures ss) (env-appears E) (structures-appear ss) h

  pub sig-appears : (S : Sig N) → Stands n (names_sig S) → Stands n (appear_sig S)
  unfolding appear_sig names_sig
  sig-appears S h = swapped S.names (names_env S.body) S.names (appear_env S.body) (λ k. k) (env-appears S.body) h

  mutual
    unfolding appear_type appear_types names_type names_types

    pub type-stands : (t : MlType N) → Within (appear_type t) (names_type t)
    type-stands (bound k) h = h
    type-stands (free v) h = h
    type-stands (app g ts) h = swapped (appear_types ts) (names_head g) (names_types ts) (names_head g) (types-stand ts) (λ k. k) h

    types-stand : (ts : MlTypes N) → Within (appear_types ts) (names_types ts)
    types-stand no_type h = h
    types-stand (and_type t ts) h = both (appear_type t) (appear_types ts) (names_type t) (names_types ts) (type-stands t) (types-stand ts) h

  map-stands : (m : Map (Scheme N)) → Within (appear_map m) (names_map m)
  unfolding appear_map names_map
  map-stands [] h = h
  map-stands (x ∷ xs) h = both (appear_type x.1.body) (appear_map xs) (names_type x.1.body) (names_map xs) (type-stands x.1.body) (map-stands xs) h

  mutual
    unfolding appear_env appear_structures names_env names_structures

    pub env-stands : (E : Env N) → Within (appear_env E) (names_env E)
    env-stands (env ss ts vs) h =
        both (appear_structures ss) (appear_map ts ++ appear_map vs) (names_structures ss) (names_map ts ++ names_map vs) (structures-stand ss)
        (both (appear_map ts) (appear_map vs) (names_map ts) (names_map vs) (map-stands ts) (map-stands vs)) h

    structures-stand : (ss : Structures N) → Within (appear_structures ss) (names_structures ss)
    structures-stand no_structure h = h
    structures-stand (and_structure s E ss) h =
        both (appear_env E) (appear_structures ss) (names_env E) (names_structures ss) (env-stands E) (structures-stand ss) h

  pub sig-stands : (S : Sig N) → Stands n (appear_sig S) → Stands n (names_sig S)
  unfolding appear_sig names_sig
  sig-stands S h = swapped (appear_env S.body) S.names (names_env S.body) S.names (env-stands S.body) (λ k. k) h

-- two maps that agree on the names

module _ {A B : Type 0} (f g : A → B) where
  pub Agree : List A → Type 0
  Agree ns = (n : A) → Stands n ns → f n ≡ g n

  list-agree : (ns : List A) → Agree ns → map f ns ≡ map g ns
  unfolding Agree Stands
  list-agree [] h = refl
  list-agree (n ∷ ns) h = λ i. h n (inl refl) i ∷ list-agree ns (λ m s. h m (inr s)) i

  agree-left : (ms ns : List A) → Agree (ms ++ ns) → Agree ms
  unfolding Agree
  agree-left ms ns h n s = h n (left n ms ns s)

  agree-right : (ms ns : List A) → Agree (ms ++ ns) → Agree ns
  unfolding Agree
  agree-right ms ns h n s = h n (right n ms ns s)

  head-agree : (h : Head A) → Agree (names_head h) → rename_head f h ≡ rename_head g h
  unfolding Agree Stands
  head-agree arrow a = refl
  head-agree (row ls) a = refl
  head-agree (name n) a = ap name (a n (inl refl))

  mutual
    unfolding names_type names_types rename_type rename_types

    type-agree : (t : MlType A) → Agree (names_type t) → rename_type f t ≡ rename_type g t
    type-agree (bound k) a = refl
    type-agree (free v) a = refl
    type-agree (app h ts) a =
        λ i. app (head-agree h (agree-left (names_head h) (names_types ts) a) i) (types-agree ts (agree-right (names_head h) (names_types ts) a) i)

    types-agree : (ts : MlTypes A) → Agree (names_types ts) → rename_types f ts ≡ rename_types g ts
    types-agree no_type a = refl
    types-agree (and_type t ts) a =
        λ i. and_type (type-agree t (agree-left (names_type t) (names_types ts) a) i) (types-agree ts (agree-right (names_type t) (names_types ts) a) i)

  map-agree : (m : Map (Scheme A)) → Agree (names_map m) → rename_map f m ≡ rename_map g m
  unfolding names_map rename_map rename_scheme
  map-agree [] a = refl
  map-agree (x ∷ xs) a = λ i.
      (x.0, record { variables = x.1.variables; body = type-agree x.1.body (agree-left (names_type x.1.body) (names_map xs) a) i })
      ∷ map-agree xs (agree-right (names_type x.1.body) (names_map xs) a) i

  mutual
    unfolding names_env names_structures rename_env rename_structures

    env-agree : (E : Env A) → Agree (names_env E) → rename_env f E ≡ rename_env g E
    env-agree (env ss ts vs) a =
        let b : Agree (names_map ts ++ names_map vs) = agree-right (names_structures ss) (names_map ts ++ names_map vs) a in
        λ i. env (structures-agree ss (agree-left (names_structures ss) (names_map ts ++ names_map vs) a) i)
        (map-agree ts (agree-left (names_map ts) (names_map vs) b) i) (map-agree vs (agree-right (names_map ts) (names_map vs) b) i)

    structures-agree : (ss : Structures A) → Agree (names_structures ss) → rename_structures f ss ≡ rename_structures g ss
    structures-agree no_structure a = refl
    structures-agree (and_structure s E ss) a =
        λ i. and_structure s (env-agree E (agree-left (names_env E) (names_structures ss) a) i) (structures-agree ss (agree-right (names_env E) (names_structures ss) a) i)

  pub sig-agree : (S : Sig A) → ((n : A) → Stands n (names_sig S) → f n ≡ g n) → rename_sig f S ≡ rename_sig g S
  unfolding Agree names_sig rename_sig
  sig-agree S a = λ i. record {
    names = list-agree S.names (agree-left S.names (names_env S.body) a) i;
    body = env-agree S.body (agree-right S.names (names_env S.body) a) i;
  }

-- a renamed object's names appear in the same order

module _ {A B : Type 0} (f : A → B) where
  head-image : (h : Head A) → names_head (rename_head f h) ≡ map f (names_head h)
  head-image arrow = refl
  head-image (row ls) = refl
  head-image (name n) = refl

  mutual
    unfolding appear_type appear_types rename_type rename_types

    type-image : (t : MlType A) → appear_type (rename_type f t) ≡ map f (appear_type t)
    type-image (bound k) = refl
    type-image (free v) = refl
    type-image (app h ts) = parts-image f (appear_types ts) (names_head h) _ _ (types-image ts) (head-image h)

    types-image : (ts : MlTypes A) → appear_types (rename_types f ts) ≡ map f (appear_types ts)
    types-image no_type = refl
    types-image (and_type t ts) = parts-image f (appear_type t) (appear_types ts) _ _ (type-image t) (types-image ts)

  map-image : (m : Map (Scheme A)) → appear_map (rename_map f m) ≡ map f (appear_map m)
  unfolding appear_map rename_map rename_scheme
  map-image [] = refl
  map-image (x ∷ xs) = parts-image f (appear_type x.1.body) (appear_map xs) _ _ (type-image x.1.body) (map-image xs)

  mutual
    unfolding appear_env appear_structures rename_env rename_structures

    env-image : (E : Env A) → appear_env (rename_env f E) ≡ map f (appear_env E)
    env-image (env ss ts vs) =
        parts-image f (appear_structures ss) (appear_map ts ++ appear_map vs) _ _ (structures-image ss)
        (parts-image f (appear_map ts) (appear_map vs) _ _ (map-image ts) (map-image vs))

    structures-image : (ss : Structures A) → appear_structures (rename_structures f ss) ≡ map f (appear_structures ss)
    structures-image no_structure = refl
    structures-image (and_structure s E ss) = parts-image f (appear_env E) (appear_structures ss) _ _ (env-image E) (structures-image ss)

  pub sig-appear-image : (S : Sig A) → appear_sig (rename_sig f S) ≡ map f (appear_sig S)
  unfolding appear_sig rename_sig
  sig-appear-image S = parts-image f (appear_env S.body) S.names _ _ (env-image S.body) refl

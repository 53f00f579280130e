-- What is read of types stays so where types stand for the unknowns.
use Rattle.std.specs.Prelude.{◌≡◌, ℕ, zero, suc, List, [], ◌∷◌, ◌++◌, map, decimal, Option, Some, None}
use Rattle.std.specs.declared.cmp.Ordering.{Ordering}
use Rattle.std.specs.declared.cmp.Ordering.TheVariants.{Less, Equal, Greater}
use mathlib.Core.Path.{refl, sym, ap, subst, ◌∙◌}
use Rattle.sml_tree.specs.Trees.{Id, LongId}
use Rattle.sml_tree.specs.Types.{Ty, Tys, TyFields, ty_variable, ty_row, ty_tuple, ty_constructor, ty_misapplied, ty_arrow, ty_bracket, no_ty, and_ty, ty_field, no_ty_field, and_ty_field}
use Rattle.sml_objects.specs.Labels.{label_order}
use Rattle.sml_objects.specs.Maps.{Map, lookup, by_order, order_of}
use Rattle.sml_objects.specs.Names.{Naming}
use Rattle.sml_objects.specs.Objects.{MlType, MlTypes, bound, free, app, row, no_type, and_type, tuple_of, types_of, labels_of}
use Rattle.sml_objects.specs.Types.{assign, replace_type, replace_types, argument_or, argument}
use Rattle.sml_rules.specs.Lookups.{Found, found, no_path, no_entry, entry}
use Rattle.sml_core_rules.specs.Objects.{Env, Maps, Structures, Value, TyStr, maps, no_structure, and_structure, structures, types, values, find_structure, replace, replace_structures, replaced}
use Rattle.sml_core_rules.specs.Lookups.{found_in, find_at, value_at, type_at}
use Rattle.sml_core_rules.specs.Types.{Fields, put_field, row_of, count_types}
use Rattle.sml_core_rules.specs.Contexts.{IsType, AreTypes}
use Rattle.sml_core_rules.specs.Rules.{Means, MeanAll, MeanFields}
use Rattle.sml_core_rules.specs.Assigned.{assign_value, assign_ty_str, assign_env}

-- what is found where a map or an environment has other things

abbrev pub there : {X Y : Type 0} → (X → Y) → Option X → Option Y
there f None = None
there f (Some x) = Some (f x)

abbrev pub found_there : {X Y : Type 0} → (X → Y) → Found X → Found Y
found_there f (found x) = found (f x)
found_there f (no_path s) = no_path s
found_there f no_entry = no_entry

there-order : {X Y : Type 0} (f : X → Y) (o : Ordering) (a b c : Option X) → by_order o (there f a) (there f b) (there f c) ≡ there f (by_order o a b c)
there-order f Less a b c = refl
there-order f Equal a b c = refl
there-order f Greater a b c = refl

pub lookup-there : {X Y : Type 0} (f : X → Y) (x : Id) (m : Map X) → lookup x (replaced f m) ≡ there f (lookup x m)
lookup-there f x [] = refl
lookup-there f x (e ∷ m) =
    let r = lookup-there f x m in (λ i. by_order (order_of x e.0) (r i) (Some (f e.1)) (r i)) ∙ there-order f (order_of x e.0) (lookup x m) (Some e.1) (lookup x m)

module _ {T U V W : Type 0} (f : T → U) (g : V → W) where
  structure-there : (s : Id) (ss : Structures T V) → find_structure s (replace_structures f g ss) ≡ there (replace f g) (find_structure s ss)
  unfolding replace_structures
  structure-there s no_structure = refl
  structure-there s (and_structure r E ss) =
      let k = structure-there s ss in (λ i. by_order (order_of s r) (k i) (Some (replace f g E)) (k i)) ∙ there-order (replace f g) (order_of s r) (find_structure s ss) (Some E) (find_structure s ss)

  structures-there : (E : Maps T V) → structures (replace f g E) ≡ replace_structures f g (structures E)
  unfolding replace
  structures-there (maps ss ts vs) = refl

  found-there : {X Y : Type 0} (h : X → Y) (pick : Maps T V → Option X) (pick' : Maps U W → Option Y) → ((E : Maps T V) → pick' (replace f g E) ≡ there h (pick E))
      → (path seen : List Id) (E : Maps T V) → find_at pick' seen path (replace f g E) ≡ found_there h (find_at pick seen path E)
  unfolding find_at
  found-there {X} {Y} h pick pick' k [] seen E = ap entry (k E) ∙ last (pick E)
    where
      last : (o : Option X) → entry (there h o) ≡ found_there h (entry o)
      last None = refl
      last (Some x) = refl
  found-there {X} {Y} h pick pick' k (s ∷ path) seen E =
      ap (found_in (seen ++ s ∷ []) (find_at pick' (seen ++ s ∷ []) path)) (ap (find_structure s) (structures-there E) ∙ structure-there s (structures E))
      ∙ inside (find_structure s (structures E)) (λ D. found-there h pick pick' k path (seen ++ s ∷ []) D)
    where
      inside : (o : Option (Maps T V)) → ((D : Maps T V) → find_at pick' (seen ++ s ∷ []) path (replace f g D) ≡ found_there h (find_at pick (seen ++ s ∷ []) path D))
          → found_in (seen ++ s ∷ []) (find_at pick' (seen ++ s ∷ []) path) (there (replace f g) o) ≡ found_there h (found_in (seen ++ s ∷ []) (find_at pick (seen ++ s ∷ []) path) o)
      inside None r = refl
      inside (Some D) r = r D

-- types

abbrev pub assign_all : {N : Type 0} → (ℕ → MlType N) → MlTypes N → MlTypes N
assign_all σ ts = replace_types bound σ ts

module _ {N : Type 0} (names : Naming N) where
  mutual
    unfolding IsType replace_type replace_types

    -- a type has no bound variable
    still : (b : ℕ → MlType N) (t : MlType N) → IsType names t → replace_type b free t ≡ t
    still b (bound k) h = absurd h
    still b (free v) h = refl
    still b (app h ts) k = ap (app h) (all-still b ts k.1)

    all-still : (b : ℕ → MlType N) (ts : MlTypes N) → AreTypes names ts → replace_types b free ts ≡ ts
    all-still b no_type h = refl
    all-still b (and_type t ts) h = λ i. and_type (still b t h.0 i) (all-still b ts h.1 i)

  module _ (σ : ℕ → MlType N) (are : (v : ℕ) → IsType names (σ v)) where
    mutual
      unfolding replace_type replace_types

      pub replaced-assigned : (b c : ℕ → MlType N) → ((k : ℕ) → assign σ (b k) ≡ c k) → (t : MlType N) → assign σ (replace_type b free t) ≡ replace_type c free (assign σ t)
      replaced-assigned b c h (bound k) = h k
      replaced-assigned b c h (free v) = sym (still c (σ v) (are v))
      replaced-assigned b c h (app g ts) = ap (app g) (all-replaced-assigned b c h ts)

      all-replaced-assigned : (b c : ℕ → MlType N) → ((k : ℕ) → assign σ (b k) ≡ c k) → (ts : MlTypes N) → assign_all σ (replace_types b free ts) ≡ replace_types c free (assign_all σ ts)
      all-replaced-assigned b c h no_type = refl
      all-replaced-assigned b c h (and_type t ts) = λ i. and_type (replaced-assigned b c h t i) (all-replaced-assigned b c h ts i)

module _ {N : Type 0} (σ : ℕ → MlType N) where
  argument-assigned : (u : MlType N) (ts : MlTypes N) (k : ℕ) → assign σ (argument_or u ts k) ≡ argument_or (assign σ u) (assign_all σ ts) k
  unfolding replace_type
  argument-assigned u no_type k = refl
  argument-assigned u (and_type t ts) zero = refl
  argument-assigned u (and_type t ts) (suc k) = argument-assigned u ts k

  arguments-assigned : (ts : MlTypes N) (k : ℕ) → assign σ (argument ts k) ≡ argument (assign_all σ ts) k
  unfolding replace_type
  arguments-assigned ts k = argument-assigned (bound k) ts k

  count-assigned : (ts : MlTypes N) → count_types (assign_all σ ts) ≡ count_types ts
  unfolding replace_type
  count-assigned no_type = refl
  count-assigned (and_type t ts) = ap suc (count-assigned ts)

  labels-assigned : (k : ℕ) (ts : MlTypes N) → labels_of k (assign_all σ ts) ≡ labels_of k ts
  unfolding replace_type
  labels-assigned k no_type = refl
  labels-assigned k (and_type t ts) = ap (λ ls. decimal k ∷ ls) (labels-assigned (suc k) ts)

  pub tuple-assigned : (ts : MlTypes N) → assign σ (tuple_of ts) ≡ tuple_of (assign_all σ ts)
  unfolding replace_type
  tuple-assigned ts = ap (λ ls. app (row ls) (assign_all σ ts)) (sym (labels-assigned 1 ts))

  row-labels : (us : Fields (MlType N)) → map (λ f. f.0) (replaced (assign σ) us) ≡ map (λ f. f.0) us
  row-labels [] = refl
  row-labels (u ∷ us) = ap (λ ls. u.0 ∷ ls) (row-labels us)

  row-types : (us : Fields (MlType N)) → assign_all σ (types_of (map (λ f. f.1) us)) ≡ types_of (map (λ f. f.1) (replaced (assign σ) us))
  unfolding replace_type
  row-types [] = refl
  row-types (u ∷ us) = ap (and_type (assign σ u.1)) (row-types us)

  pub row-assigned : (us : Fields (MlType N)) → assign σ (row_of us) ≡ row_of (replaced (assign σ) us)
  unfolding replace_type
  row-assigned us = λ i. app (row (sym (row-labels us) i)) (row-types us i)

  pub field-assigned : (l : Id) (t : MlType N) (us : Fields (MlType N)) → replaced (assign σ) (put_field l t us) ≡ put_field l (assign σ t) (replaced (assign σ) us)
  field-assigned l t [] = refl
  field-assigned l t (u ∷ us) = go (label_order l u.0) (field-assigned l t us)
    where
      go : (o : Ordering) → replaced (assign σ) (put_field l t us) ≡ put_field l (assign σ t) (replaced (assign σ) us)
          → replaced (assign σ) (by_order o ((l, t) ∷ u ∷ us) ((l, t) ∷ us) (u ∷ put_field l t us))
          ≡ by_order o ((l, assign σ t) ∷ replaced (assign σ) (u ∷ us)) ((l, assign σ t) ∷ replaced (assign σ) us) ((u.0, assign σ u.1) ∷ put_field l (assign σ t) (replaced (assign σ) us))
      go Less e = refl
      go Equal e = refl
      go Greater e = ap (λ es. (u.0, assign σ u.1) ∷ es) e

  pub value-assigned : (C : Env N) (x : LongId) (v : Value N) → value_at C x ≡ found v → value_at (assign_env σ C) x ≡ found (assign_value σ v)
  unfolding value_at replace
  value-assigned C x v h =
      found-there (assign_ty_str σ) (assign_value σ) (assign_value σ) (λ E. lookup x.last (values E)) (λ E. lookup x.last (values E)) (λ E. pick E) x.path [] C ∙ ap (found_there (assign_value σ)) h
    where
      pick : (E : Env N) → lookup x.last (values (replace (assign_ty_str σ) (assign_value σ) E)) ≡ there (assign_value σ) (lookup x.last (values E))
      pick (maps ss ts vs) = lookup-there (assign_value σ) x.last vs

  pub type-assigned : (C : Env N) (c : LongId) (t : TyStr N) → type_at C c ≡ found t → type_at (assign_env σ C) c ≡ found (assign_ty_str σ t)
  unfolding type_at replace
  type-assigned C c t h =
      found-there (assign_ty_str σ) (assign_value σ) (assign_ty_str σ) (λ E. lookup c.last (types E)) (λ E. lookup c.last (types E)) (λ E. pick E) c.path [] C ∙ ap (found_there (assign_ty_str σ)) h
    where
      pick : (E : Env N) → lookup c.last (types (replace (assign_ty_str σ) (assign_value σ) E)) ≡ there (assign_ty_str σ) (lookup c.last (types E))
      pick (maps ss ts vs) = lookup-there (assign_ty_str σ) c.last ts

module _ {P N : Type 0} (names : Naming N) (σ : ℕ → MlType N) (are : (v : ℕ) → IsType names (σ v)) (C : Env N) (vs : Map (MlType N)) where
  mutual
    unfolding Means replace_type

    pub means-assigned : (u : Ty P) (t : MlType N) → Means C vs u t → Means (assign_env σ C) (replaced (assign σ) vs) u (assign σ t)
    means-assigned (ty_variable p x) t h = lookup-there (assign σ) x vs ∙ ap (there (assign σ)) h
    means-assigned (ty_row p fs) t (us, h, e) = (replaced (assign σ) us, fields-assigned [] fs us h, ap (assign σ) e ∙ row-assigned σ us)
    means-assigned (ty_tuple p us) t (ts, h, e) = (assign_all σ ts, all-assigned us ts h, ap (assign σ) e ∙ tuple-assigned σ ts)
    means-assigned (ty_constructor p us c) t (ts, s, h, f, n, e) = (
      assign_all σ ts,
      assign_ty_str σ s,
      all-assigned us ts h,
      type-assigned σ C c.id s f,
      n ∙ sym (count-assigned σ ts),
      ap (assign σ) e ∙ replaced-assigned names σ are (argument ts) (argument (assign_all σ ts)) (arguments-assigned σ ts) s.function.body,
    )
    means-assigned (ty_misapplied p us c) t h = absurd h
    means-assigned (ty_arrow p u v) t (a, b, h, k, e) = (assign σ a, assign σ b, means-assigned u a h, means-assigned v b k, ap (assign σ) e)
    means-assigned (ty_bracket p u) t h = means-assigned u t h

    all-assigned : (us : Tys P) (ts : MlTypes N) → MeanAll C vs us ts → MeanAll (assign_env σ C) (replaced (assign σ) vs) us (assign_all σ ts)
    all-assigned no_ty ts h = ap (assign_all σ) h
    all-assigned (and_ty u us) ts (t, rest, h, k, e) = (assign σ t, assign_all σ rest, means-assigned u t h, all-assigned us rest k, ap (assign_all σ) e)

    fields-assigned : (fs : Fields (MlType N)) (es : TyFields P) (us : Fields (MlType N)) → MeanFields C vs fs es us
        → MeanFields (assign_env σ C) (replaced (assign σ) vs) (replaced (assign σ) fs) es (replaced (assign σ) us)
    fields-assigned fs no_ty_field us h = ap (replaced (assign σ)) h
    fields-assigned fs (and_ty_field (ty_field l u) es) us (t, h, k) =
        (assign σ t, means-assigned u t h, subst (λ gs. MeanFields (assign_env σ C) (replaced (assign σ) vs) gs es (replaced (assign σ) us)) (field-assigned σ l.id t fs) (fields-assigned (put_field l.id t fs) es us k))

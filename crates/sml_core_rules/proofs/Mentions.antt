-- What is read of types mentions only names of the context.
use Rattle.std.specs.Prelude.{◌≡◌, ℕ, zero, suc, Bool, true, ◌&&◌, ◌||◌, List, [], ◌∷◌, ◌++◌, map, length, Option, Some, None}
use Rattle.std.specs.List.{AllByRecursion}
use mathlib.Core.Path.{refl, sym, subst, ◌∙◌}
use mathlib.Core.Logic.{inl, inr}
use Rattle.std.specs.declared.cmp.Ordering.{Ordering}
use Rattle.std.specs.declared.cmp.Ordering.TheVariants.{Less, Equal, Greater}
use Rattle.sml_tree.specs.Trees.{Id, LongId}
use Rattle.sml_tree.specs.Names.{Name}
use Rattle.sml_tree.specs.Types.{Ty, Tys, TyFields, ty_variable, ty_row, ty_tuple, ty_constructor, ty_misapplied, ty_arrow, ty_bracket, no_ty, and_ty, ty_field, no_ty_field, and_ty_field}
use Rattle.sml_tree.specs.Expressions.{ConBind, DatBind}
use Rattle.sml_objects.specs.Equality.{admits_by, all_admit_by}
use Rattle.sml_objects.specs.Appearance.{Stands}
use Rattle.sml_objects.specs.Labels.{label_order}
use Rattle.sml_objects.specs.Maps.{Map, lookup, put, join, by_order, order_of}
use Rattle.sml_objects.specs.Objects.{MlType, MlTypes, Head, bound, free, app, arrow, row, name, no_type, and_type, types_of, names_head, names_type, names_types}
use Rattle.sml_objects.specs.Types.{replace_type, replace_types, argument_or, argument}
use Rattle.sml_layers.specs.Demands.{HeadMentions, Mentions, AllMention}
use Rattle.sml_rules.specs.Lookups.{found, no_path, no_entry, entry}
use Rattle.sml_rules.specs.Answers.{accepted}
use Rattle.sml_core_rules.specs.Objects.{Env, Maps, Structures, TyStr, maps, no_structure, and_structure, types, find_structure, extend, of_types, names_map, names_in, names_structures, names_ty_str, names_scheme, names_env}
use Rattle.sml_core_rules.specs.Lookups.{found_in, find_at, type_at}
use Rattle.sml_core_rules.specs.Types.{Fields, put_field}
use Rattle.sml_core_rules.specs.Datatypes.{Arguments, Respects, argument_admits, arguments_admit, with_names, listed, types_from, name_function, datatype_types, arguments_of}
use Rattle.sml_core_rules.proofs.Derived.{all-arguments-to}
use Rattle.sml_core_rules.specs.Rules.{Means, MeanAll, MeanFields, MeansArgument, MeanArguments, MeanAllArguments}

-- finite maps

unfoldable pub Each : {X : Type 0} → (X → Type 0) → Map X → Type 0
Each F [] = Unit {0}
Each F (e ∷ m) = F e.1 × Each F m

module _ {X : Type 0} (F : X → Type 0) where
  each-lookup : (x : Id) (m : Map X) (v : X) → Each F m → lookup x m ≡ Some v → F v
  unfolding Each
  each-lookup x [] v h e = let f : None ≡ Some v = e in absurd cc
  each-lookup x (d ∷ m) v h e = go (order_of x d.0) e (λ e. each-lookup x m v h.1 e)
    where
      go : (o : Ordering) → by_order o (lookup x m) (Some d.1) (lookup x m) ≡ Some v → (lookup x m ≡ Some v → F v) → F v
      go Less e k = k e
      go Equal e k = let f : Some d.1 ≡ Some v = e in let g : d.1 ≡ v = cc in subst F g h.0
      go Greater e k = k e

  each-put : (x : Id) (v : X) (m : Map X) → F v → Each F m → Each F (put x v m)
  unfolding Each
  each-put x v [] f h = (f, tt)
  each-put x v (e ∷ m) f h = go (order_of x e.0) (each-put x v m f h.1)
    where
      go : (o : Ordering) → Each F (put x v m) → Each F (by_order o ((x, v) ∷ e ∷ m) ((e.0, v) ∷ m) (e ∷ put x v m))
      go Less k = (f, h)
      go Equal k = (f, h.1)
      go Greater k = (h.0, k)

  each-field : (x : Id) (v : X) (m : Fields X) → F v → Each F m → Each F (put_field x v m)
  unfolding Each
  each-field x v [] f h = (f, tt)
  each-field x v (e ∷ m) f h = go (label_order x e.0) (each-field x v m f h.1)
    where
      go : (o : Ordering) → Each F (put_field x v m) → Each F (by_order o ((x, v) ∷ e ∷ m) ((x, v) ∷ m) (e ∷ put_field x v m))
      go Less k = (f, h)
      go Equal k = (f, h.1)
      go Greater k = (h.0, k)

  each-join : (m n : Map X) → Each F m → Each F n → Each F (join m n)
  unfolding Each
  each-join m [] h k = h
  each-join m (e ∷ n) h k = each-join (put e.0 e.1 m) n (each-put e.0 e.1 m k.0 h) k.1

-- the types of an environment, and of its structures

unfoldable mutual
  EachType : {T V : Type 0} → (T → Type 0) → Maps T V → Type 0
  EachType F (maps ss ts vs) = EachStructure F ss × Each F ts

  EachStructure : {T V : Type 0} → (T → Type 0) → Structures T V → Type 0
  EachStructure F no_structure = Unit {0}
  EachStructure F (and_structure s E ss) = EachType F E × EachStructure F ss

module _ {T V : Type 0} (F : T → Type 0) where
  structure-each : (s : Id) (ss : Structures T V) (E : Maps T V) → EachStructure F ss → find_structure s ss ≡ Some E → EachType F E
  unfolding EachType
  structure-each s no_structure E h e = let f : None ≡ Some E = e in absurd cc
  structure-each s (and_structure r D ss) E h e = go (order_of s r) e (λ e. structure-each s ss E h.1 e)
    where
      go : (o : Ordering) → by_order o (find_structure s ss) (Some D) (find_structure s ss) ≡ Some E → (find_structure s ss ≡ Some E → EachType F E) → EachType F E
      go Less e k = k e
      go Equal e k = let f : Some D ≡ Some E = e in let g : D ≡ E = cc in subst (EachType F) g h.0
      go Greater e k = k e

  found-each : (c : Id) (path seen : List Id) (E : Maps T V) (t : T) → EachType F E → find_at (λ E. lookup c (types E)) seen path E ≡ found t → F t
  unfolding find_at EachType
  found-each c [] seen (maps ss ts vs) t h e = go (lookup c ts) (λ v f. each-lookup F c ts v h.1 f) e
    where
      go : (o : Option T) → ((v : T) → o ≡ Some v → F v) → entry o ≡ found t → F t
      go None k e = let f : no_entry ≡ found t = e in absurd cc
      go (Some v) k e = let f : found v ≡ found t = e in let g : v ≡ t = cc in subst F g (k v refl)
  found-each c (s ∷ path) seen (maps ss ts vs) t h e = go (find_structure s ss) (λ D f. structure-each s ss D h.0 f) (λ D d e. found-each c path (seen ++ s ∷ []) D t d e) e
    where
      go : (o : Option (Maps T V)) → ((D : Maps T V) → o ≡ Some D → EachType F D)
          → ((D : Maps T V) → EachType F D → find_at (λ E. lookup c (types E)) (seen ++ s ∷ []) path D ≡ found t → F t)
          → found_in (seen ++ s ∷ []) (find_at (λ E. lookup c (types E)) (seen ++ s ∷ []) path) o ≡ found t → F t
      go None k r e = let f : no_path (seen ++ s ∷ []) ≡ found t = e in absurd cc
      go (Some D) k r e = r D (k D refl) e

-- what stands in an environment

left : {N : Type 0} (n : N) (ms ns : List N) → Stands n ms → Stands n (ms ++ ns)
unfolding Stands
left n [] ns h = absurd h
left n (m ∷ ms) ns (inl e) = inl e
left n (m ∷ ms) ns (inr h) = inr (left n ms ns h)

right : {N : Type 0} (n : N) (ms ns : List N) → Stands n ns → Stands n (ms ++ ns)
unfolding Stands
right n [] ns h = h
right n (m ∷ ms) ns h = inr (right n ms ns h)

module _ {A T V : Type 0} (f : T → List A) (g : V → List A) (Q : A → Type 0) (F : T → Type 0) (own : (t : T) → ((n : A) → Stands n (f t) → Q n) → F t) where
  own-map : (m : Map T) → ((n : A) → Stands n (names_map f m) → Q n) → Each F m
  unfolding Each
  own-map [] h = tt
  own-map (e ∷ m) h = (own e.1 (λ n k. h n (left n (f e.1) (names_map f m) k)), own-map m (λ n k. h n (right n (f e.1) (names_map f m) k)))

  mutual
    unfolding EachType names_in names_structures

    own-types : (E : Maps T V) → ((n : A) → Stands n (names_in f g E) → Q n) → EachType F E
    own-types (maps ss ts vs) h =
        let rest = names_map f ts ++ names_map g vs in
        (own-structures ss (λ n k. h n (left n (names_structures f g ss) rest k)), own-map ts (λ n k. h n (right n (names_structures f g ss) rest (left n (names_map f ts) (names_map g vs) k))))

    own-structures : (ss : Structures T V) → ((n : A) → Stands n (names_structures f g ss) → Q n) → EachStructure F ss
    own-structures no_structure h = tt
    own-structures (and_structure s E ss) h =
        (own-types E (λ n k. h n (left n (names_in f g E) (names_structures f g ss) k)), own-structures ss (λ n k. h n (right n (names_in f g E) (names_structures f g ss) k)))

module _ {N : Type 0} (Q : N → Type 0) where
  own-head : (h : Head N) → ((n : N) → Stands n (names_head h) → Q n) → HeadMentions Q h
  unfolding Stands
  own-head arrow f = tt
  own-head (row ls) f = tt
  own-head (name n) f = f n (inl refl)

  mutual
    unfolding Mentions names_type

    own-type : (t : MlType N) → ((n : N) → Stands n (names_type t) → Q n) → Mentions Q t
    own-type (bound k) h = tt
    own-type (free v) h = tt
    own-type (app k ts) h = (own-head k (λ n s. h n (left n (names_head k) (names_types ts) s)), all-own ts (λ n s. h n (right n (names_head k) (names_types ts) s)))

    all-own : (ts : MlTypes N) → ((n : N) → Stands n (names_types ts) → Q n) → AllMention Q ts
    all-own no_type h = tt
    all-own (and_type t ts) h = (own-type t (λ n s. h n (left n (names_type t) (names_types ts) s)), all-own ts (λ n s. h n (right n (names_type t) (names_types ts) s)))

  -- a type function
  abbrev Str : TyStr N → Type 0
  Str t = Mentions Q t.function.body

  own-env : (E : Env N) → ((n : N) → Stands n (names_env E) → Q n) → EachType Str E
  own-env E h = own-types names_ty_str (λ v. names_scheme v.scheme) Q Str (λ t k. own-type t.function.body (λ n s. k n (left n (names_scheme t.function) (names_map names_scheme t.constructors) s))) E h

  mutual
    unfolding Mentions replace_type

    put-type : (f : ℕ → MlType N) → ((k : ℕ) → Mentions Q (f k)) → (t : MlType N) → Mentions Q t → Mentions Q (replace_type f free t)
    put-type f h (bound k) m = h k
    put-type f h (free v) m = tt
    put-type f h (app g ts) m = (m.0, put-types f h ts m.1)

    put-types : (f : ℕ → MlType N) → ((k : ℕ) → Mentions Q (f k)) → (ts : MlTypes N) → AllMention Q ts → AllMention Q (replace_types f free ts)
    put-types f h no_type m = tt
    put-types f h (and_type t ts) m = (put-type f h t m.0, put-types f h ts m.1)

  argument-mentions : (u : MlType N) → Mentions Q u → (ts : MlTypes N) → AllMention Q ts → (k : ℕ) → Mentions Q (argument_or u ts k)
  unfolding Mentions
  argument-mentions u h no_type m k = h
  argument-mentions u h (and_type t ts) m zero = m.0
  argument-mentions u h (and_type t ts) m (suc k) = argument-mentions u h ts m.1 k

  row-mentions : (fs : Fields (MlType N)) → Each (Mentions Q) fs → AllMention Q (types_of (map (λ f. f.1) fs))
  unfolding Each Mentions
  row-mentions [] h = tt
  row-mentions (f ∷ fs) h = (h.0, row-mentions fs h.1)

  constructor-mentions : (C : Env N) → EachType Str C → (c : LongId) (s : TyStr N) → type_at C c ≡ found s → Mentions Q s.function.body
  unfolding type_at
  constructor-mentions C h c s e = found-each Str c.last c.path [] C s h e

  module _ {P : Type 0} (C : Env N) (inside : EachType Str C) (vs : Map (MlType N)) (given : Each (Mentions Q) vs) where
    mutual
      unfolding Mentions Means Each

      ty-mentions : (u : Ty P) (t : MlType N) → Means C vs u t → Mentions Q t
      ty-mentions (ty_variable p x) t h = each-lookup (Mentions Q) x vs t given h
      ty-mentions (ty_row p fs) t (us, h, e) = subst (Mentions Q) (sym e) (tt, row-mentions us (fields-mention [] fs us tt h))
      ty-mentions (ty_tuple p us) t (ts, h, e) = subst (Mentions Q) (sym e) (tt, tys-mention us ts h)
      ty-mentions (ty_constructor p us c) t (ts, s, h, f, k, e) =
          subst (Mentions Q) (sym e) (put-type (argument ts) (λ k. argument-mentions (bound k) tt ts (tys-mention us ts h) k) s.function.body (constructor-mentions C inside c.id s f))
      ty-mentions (ty_misapplied p us c) t h = absurd h
      ty-mentions (ty_arrow p u v) t (a, b, h, k, e) = subst (Mentions Q) (sym e) (tt, (ty-mentions u a h, (ty-mentions v b k, tt)))
      ty-mentions (ty_bracket p u) t h = ty-mentions u t h

      tys-mention : (us : Tys P) (ts : MlTypes N) → MeanAll C vs us ts → AllMention Q ts
      tys-mention no_ty ts h = subst (AllMention Q) (sym h) tt
      tys-mention (and_ty u us) ts (t, rest, h, k, e) = subst (AllMention Q) (sym e) (ty-mentions u t h, tys-mention us rest k)

      fields-mention : (fs : Fields (MlType N)) (es : TyFields P) (us : Fields (MlType N)) → Each (Mentions Q) fs → MeanFields C vs fs es us → Each (Mentions Q) us
      fields-mention fs no_ty_field us m h = subst (Each (Mentions Q)) (sym h) m
      fields-mention fs (and_ty_field (ty_field l u) es) us m (t, h, k) = fields-mention (put_field l.id t fs) es us (each-field (Mentions Q) l.id t fs (ty-mentions u t h) m) k

  -- the arguments of constructors

  abbrev OptionMentions : Option (MlType N) → Type 0
  OptionMentions None = Unit {0}
  OptionMentions (Some t) = Mentions Q t

  unfoldable pub AllArguments : List (Arguments N) → Type 0
  AllArguments [] = Unit {0}
  AllArguments (g ∷ gs) = Each OptionMentions g × AllArguments gs

  variables-mention : {P : Type 0} (f : ℕ → MlType N) → ((k : ℕ) → Mentions Q (f k)) → (k : ℕ) (xs : List (Name P)) → Each (Mentions Q) (listed f k xs)
  unfolding Each
  variables-mention f h k [] = tt
  variables-mention f h k (x ∷ xs) = (h k, variables-mention f h (suc k) xs)

  module _ {P : Type 0} (C : Env N) (inside : EachType Str C) where
    argument-mention : (vs : Map (MlType N)) → Each (Mentions Q) vs → (u : Option (Ty P)) (a : Option (MlType N)) → MeansArgument C vs u a → OptionMentions a
    argument-mention vs g None a h = subst OptionMentions (sym h) tt
    argument-mention vs g (Some u) a (t, h, e) = subst OptionMentions (sym e) (ty-mentions C inside vs g u t h)

    arguments-mention : (vs : Map (MlType N)) → Each (Mentions Q) vs → (cs : List (ConBind P)) (xs : Arguments N) → MeanArguments C vs cs xs → Each OptionMentions xs
    unfolding MeanArguments Each
    arguments-mention vs g [] xs h = subst (Each OptionMentions) (sym h) tt
    arguments-mention vs g (c ∷ cs) xs (a, rest, h, k, e) = subst (Each OptionMentions) (sym e) (argument-mention vs g c.argument a h, arguments-mention vs g cs rest k)

    all-arguments-mention : (ds : List (DatBind P)) (gs : List (Arguments N)) → MeanAllArguments C ds gs → AllArguments gs
    unfolding MeanAllArguments AllArguments Mentions
    all-arguments-mention [] gs h = subst AllArguments (sym h) tt
    all-arguments-mention (d ∷ ds) gs (a, rest, h, k, e) =
        subst AllArguments (sym e) (arguments-mention (listed free 0 d.variables) (variables-mention free (λ k. tt) 0 d.variables) d.constructors a h, all-arguments-mention ds rest k)

  -- the context with the datatypes

  bound-mention : (k n : ℕ) → AllMention Q (types_from bound k n)
  unfolding Mentions
  bound-mention k zero = tt
  bound-mention k (suc n) = (tt, bound-mention (suc k) n)

  datatypes-mention : {P : Type 0} (m : Map (TyStr N)) (ds : List (DatBind P)) (ns : List N) → AllByRecursion Q ns → Each Str m → Each Str (datatype_types m ds ns)
  unfolding Mentions
  datatypes-mention m [] ns q h = h
  datatypes-mention m (d ∷ ds) [] q h = h
  datatypes-mention m (d ∷ ds) (n ∷ ns) q h =
      datatypes-mention (put d.name.id (record { function = name_function n (length d.variables); constructors = [] }) m) ds ns q.1
      (each-put Str d.name.id (record { function = name_function n (length d.variables); constructors = [] }) m (q.0, bound-mention 0 (length d.variables)) h)

  context-mentions : {P : Type 0} (C : Env N) (ds : List (DatBind P)) (ns : List N) → EachType Str C → AllByRecursion Q ns → EachType Str (extend C (of_types (datatype_types [] ds ns)))
  unfolding EachType Each
  context-mentions (maps ss ts vs) ds ns h q = (h.0, each-join Str ts (datatype_types [] ds ns) h.1 (datatypes-mention [] ds ns q tt))

-- Where two ways to say which names admit equality agree on the names of datatypes and of their arguments, one respects
-- equality just as the other.
module _ {N : Type 0} (refs : N → Bool) (f g : N → Bool) where
  mutual
    unfolding Mentions admits_by

    admits-same : (v : ℕ → Bool) (t : MlType N) → Mentions (λ n. f n ≡ g n) t → admits_by refs v f t ≡ admits_by refs v g t
    admits-same v (bound k) m = refl
    admits-same v (free k) m = refl
    admits-same v (app arrow ts) m = refl
    admits-same v (app (row ls) ts) m = all-admit-same v ts m.1
    admits-same v (app (name n) ts) m = λ i. refs n || (m.0 i && all-admit-same v ts m.1 i)

    all-admit-same : (v : ℕ → Bool) (ts : MlTypes N) → AllMention (λ n. f n ≡ g n) ts → all_admit_by refs v f ts ≡ all_admit_by refs v g ts
    all-admit-same v no_type m = refl
    all-admit-same v (and_type t ts) m = λ i. admits-same v t m.0 i && all-admit-same v ts m.1 i

  argument-same : (a : Option (MlType N)) → OptionMentions (λ n. f n ≡ g n) a → argument_admits refs f a ≡ argument_admits refs g a
  argument-same None m = refl
  argument-same (Some t) m = admits-same (λ _. true) t m

  arguments-same : (xs : Arguments N) → Each (OptionMentions (λ n. f n ≡ g n)) xs → arguments_admit refs f xs ≡ arguments_admit refs g xs
  unfolding Each
  arguments-same [] m = refl
  arguments-same (x ∷ xs) m = λ i. argument-same x.1 m.0 i && arguments-same xs m.1 i

  pub respects-same : (ns : List N) (gs : List (Arguments N)) → AllByRecursion (λ n. f n ≡ g n) ns → AllArguments (λ n. f n ≡ g n) gs
      → Respects refs f (with_names ns gs) → Respects refs g (with_names ns gs)
  unfolding AllArguments
  respects-same [] gs q m h = tt
  respects-same (n ∷ ns) [] q m h = tt
  respects-same (n ∷ ns) (x ∷ gs) q m h = ((λ e. sym (arguments-same x m.0) ∙ h.0 (q.0 ∙ e)), respects-same ns gs q.1 m.1 h.1)

-- What is read of the arguments of datatypes mentions the names of the context and of the datatypes.
pub arguments_of-mention : {P N : Type 0} (Q : N → Type 0) (C : Env N) (ds : List (DatBind P)) (ns : List N) (gs : List (Arguments N))
    → ((n : N) → Stands n (names_env C) → Q n) → AllByRecursion Q ns → arguments_of C ds ns ≡ accepted gs → AllArguments Q gs
arguments_of-mention Q C ds ns gs h q e =
    all-arguments-mention Q (extend C (of_types (datatype_types [] ds ns))) (context-mentions Q C ds ns (own-env Q C h) q) ds gs (all-arguments-to (extend C (of_types (datatype_types [] ds ns))) ds gs e)

-- Types are read alike whatever the names are.
use Rattle.std.specs.Prelude.{◌≡◌, ℕ, zero, suc, Bool, true, false, nat_eq, decimal, List, [], ◌∷◌, ◌++◌, map, length, replicate, Option, Some, None}
use Rattle.std.specs.declared.cmp.Ordering.{Ordering}
use Rattle.std.specs.declared.cmp.Ordering.TheVariants.{Less, Equal, Greater}
use mathlib.Core.Path.{refl, sym, ap, ◌∙◌}
use Rattle.sml_lex.specs.Faults.{Fault}
use Rattle.sml_lex.specs.declared.fault.Code.{Code}
use Rattle.sml_lex.specs.declared.fault.Code.TheVariants.{E2, E4}
use Rattle.sml_tree.specs.Trees.{Id, LongId}
use Rattle.sml_tree.specs.Names.{Name}
use Rattle.sml_tree.specs.Expressions.{TypBind, ConBind, DatBind}
use Rattle.sml_tree.specs.Types.{Ty, Tys, TyFields, ty_variable, ty_row, ty_tuple, ty_constructor, ty_misapplied, ty_arrow, ty_bracket, no_ty, and_ty, ty_field, no_ty_field, and_ty_field}
use Rattle.sml_objects.specs.Labels.{label_order}
use Rattle.sml_objects.specs.Maps.{Map, lookup, by_order, order_of, put, join}
use Rattle.sml_objects.specs.Objects.{MlType, MlTypes, Scheme, bound, free, app, row, name, no_type, and_type, arrow_of, tuple_of, types_of, labels_of, rename_head, rename_type, rename_types, rename_scheme}
use Rattle.sml_objects.specs.Types.{replace_type, replace_types, argument_or, argument, applied}
use Rattle.sml_rules.specs.Answers.{Answer, refused, accepted, fault}
use Rattle.sml_rules.specs.Lookups.{Found, found, no_path, no_entry, entry}
use Rattle.sml_core_rules.specs.Answers.{give, ◌>>=◌, check, need}
use Rattle.sml_core_rules.specs.Datatypes.{listed, type_function, name_function, types_from, datatype_types, read_type_binds, read_argument, read_arguments, read_all_arguments, arguments_of}
use Rattle.sml_core_rules.specs.Lookups.{found_in, find_at, type_at}
use Rattle.sml_core_rules.specs.Objects.{Env, Maps, Structures, TyStr, maps, no_structure, and_structure, structures, types, find_structure, put_structure, join_structures, extend, of_types, replaced, replace, replace_structures, rename_env, rename_ty_str, rename_value}
use Rattle.sml_core_rules.specs.Types.{Fields, put_field, row_of, count_types, variable_type, read_ty, read_tys, read_fields}
use Rattle.sml_core_rules.proofs.Assigned.{there, found_there, lookup-there}
use Rattle.sml_core_laws.specs.Natural.{ReadingsAreNatural, answer_with, rename_argument, rename_arguments}

-- one answer after the other
in-turn : {P X Y Z W : Type 0} (g : X → Y) (h : Z → W) (o : Answer P X) (q : Answer P Y) (j : X → Answer P Z) (k : Y → Answer P W)
    → q ≡ answer_with g o → ((x : X) → k (g x) ≡ answer_with h (j x)) → (q >>= k) ≡ answer_with h (o >>= j)
unfolding ◌>>=◌
in-turn g h (refused f) q j k e n = ap (λ q. q >>= k) e
in-turn g h (accepted x) q j k e n = ap (λ q. q >>= k) e ∙ n x

-- what is found

there-order : {X Y : Type 0} (f : X → Y) (o : Ordering) (a b c : Option X) → by_order o (there f a) (there f b) (there f c) ≡ there f (by_order o a b c)
there-order f Less a b c = refl
there-order f Equal a b c = refl
there-order f Greater a b c = refl

put-there : {X Y : Type 0} (h : X → Y) (x : Id) (v : X) (m : Map X) → put x (h v) (replaced h m) ≡ replaced h (put x v m)
put-there h x v [] = refl
put-there {X} {Y} h x v (e ∷ m) = go (order_of x e.0) (put-there h x v m)
  where
    go : (o : Ordering) → put x (h v) (replaced h m) ≡ replaced h (put x v m)
        → by_order o ((x, h v) ∷ (e.0, h e.1) ∷ replaced h m) ((e.0, h v) ∷ replaced h m) ((e.0, h e.1) ∷ put x (h v) (replaced h m))
        ≡ replaced h (by_order o ((x, v) ∷ e ∷ m) ((e.0, v) ∷ m) (e ∷ put x v m))
    go Less k = refl
    go Equal k = refl
    go Greater k = ap (λ m. (e.0, h e.1) ∷ m) k

join-there : {X Y : Type 0} (h : X → Y) (m n : Map X) → join (replaced h m) (replaced h n) ≡ replaced h (join m n)
join-there h m [] = refl
join-there h m (e ∷ n) = ap (λ m. join m (replaced h n)) (put-there h e.0 e.1 m) ∙ join-there h (put e.0 e.1 m) n

module _ {T U V W : Type 0} (f : T → U) (g : V → W) where
  structure-there : (s : Id) (ss : Structures T V) → find_structure s (replace_structures f g ss) ≡ there (replace f g) (find_structure s ss)
  unfolding replace_structures
  structure-there s no_structure = refl
  structure-there s (and_structure r E ss) =
      let k = structure-there s ss in
      (λ i. by_order (order_of s r) (k i) (Some (replace f g E)) (k i)) ∙ there-order (replace f g) (order_of s r) (find_structure s ss) (Some E) (find_structure s ss)

  structures-there : (E : Maps T V) → structures (replace f g E) ≡ replace_structures f g (structures E)
  unfolding replace
  structures-there (maps ss ts vs) = refl

  types-there : (E : Maps T V) → types (replace f g E) ≡ replaced f (types E)
  unfolding replace
  types-there (maps ss ts vs) = refl

  found-type : (c : Id) (path seen : List Id) (E : Maps T V)
      → find_at (λ E. lookup c (types E)) seen path (replace f g E) ≡ found_there f (find_at (λ E. lookup c (types E)) seen path E)
  unfolding find_at
  found-type c [] seen E = ap (λ ts. entry (lookup c ts)) (types-there E) ∙ (ap entry (lookup-there f c (types E)) ∙ last (lookup c (types E)))
    where
      last : (o : Option T) → entry (there f o) ≡ found_there f (entry o)
      last None = refl
      last (Some x) = refl
  found-type c (s ∷ path) seen E =
      ap (λ ss. found_in (seen ++ s ∷ []) (find_at (λ E. lookup c (types E)) (seen ++ s ∷ []) path) (find_structure s ss)) (structures-there E)
      ∙ (ap (λ o. found_in (seen ++ s ∷ []) (find_at (λ E. lookup c (types E)) (seen ++ s ∷ []) path) o) (structure-there s (structures E))
      ∙ further (find_structure s (structures E)) (λ F. found-type c path (seen ++ s ∷ []) F))
    where
      look : {X Y : Type 0} → Maps X Y → Found X
      look E = find_at (λ E. lookup c (types E)) (seen ++ s ∷ []) path E

      further : (o : Option (Maps T V)) → ((F : Maps T V) → look (replace f g F) ≡ found_there f (look F))
          → found_in (seen ++ s ∷ []) (λ E. look E) (there (replace f g) o) ≡ found_there f (found_in (seen ++ s ∷ []) (λ E. look E) o)
      further None k = refl
      further (Some F) k = k F

  -- an environment extended by another

  put-structure-there : (s : Id) (E : Maps T V) (ss : Structures T V) → put_structure s (replace f g E) (replace_structures f g ss) ≡ replace_structures f g (put_structure s E ss)
  unfolding replace_structures
  put-structure-there s E no_structure = refl
  put-structure-there s E (and_structure r F ss) = go (order_of s r) (put-structure-there s E ss)
    where
      go : (o : Ordering) → put_structure s (replace f g E) (replace_structures f g ss) ≡ replace_structures f g (put_structure s E ss)
          → by_order o (and_structure s (replace f g E) (and_structure r (replace f g F) (replace_structures f g ss))) (and_structure r (replace f g E) (replace_structures f g ss)) (and_structure r (replace f g F) (put_structure s (replace f g E) (replace_structures f g ss)))
          ≡ replace_structures f g (by_order o (and_structure s E (and_structure r F ss)) (and_structure r E ss) (and_structure r F (put_structure s E ss)))
      go Less k = refl
      go Equal k = refl
      go Greater k = ap (λ ss. and_structure r (replace f g F) ss) k

  join-structures-there : (ss rs : Structures T V) → join_structures (replace_structures f g ss) (replace_structures f g rs) ≡ replace_structures f g (join_structures ss rs)
  unfolding replace_structures
  join-structures-there ss no_structure = refl
  join-structures-there ss (and_structure r E rs) =
      ap (λ ss. join_structures ss (replace_structures f g rs)) (put-structure-there r E ss) ∙ join-structures-there (put_structure r E ss) rs

  extend-there : (E F : Maps T V) → extend (replace f g E) (replace f g F) ≡ replace f g (extend E F)
  unfolding replace
  extend-there (maps ss ts vs) (maps rs us ws) = λ i. maps (join-structures-there ss rs i) (join-there f ts us i) (join-there g vs ws i)

-- types

module _ {A B : Type 0} (f : A → B) where
  to : MlType A → MlType B
  to t = rename_type f t

  all_to : MlTypes A → MlTypes B
  all_to ts = rename_types f ts

  count-renamed : (ts : MlTypes A) → count_types (all_to ts) ≡ count_types ts
  unfolding rename_types all_to
  count-renamed no_type = refl
  count-renamed (and_type t ts) = ap suc (count-renamed ts)

  labels-renamed : (k : ℕ) (ts : MlTypes A) → labels_of k (all_to ts) ≡ labels_of k ts
  unfolding rename_types all_to
  labels-renamed k no_type = refl
  labels-renamed k (and_type t ts) = ap (λ ls. decimal k ∷ ls) (labels-renamed (suc k) ts)

  tuple-renamed : (ts : MlTypes A) → tuple_of (all_to ts) ≡ to (tuple_of ts)
  unfolding rename_type to all_to
  tuple-renamed ts = ap (λ ls. app (row ls) (rename_types f ts)) (labels-renamed 1 ts)

  row-labels : (us : Fields (MlType A)) → map (λ u. u.0) (replaced to us) ≡ map (λ u. u.0) us
  row-labels [] = refl
  row-labels (u ∷ us) = ap (λ ls. u.0 ∷ ls) (row-labels us)

  row-types : (us : Fields (MlType A)) → types_of (map (λ u. u.1) (replaced to us)) ≡ all_to (types_of (map (λ u. u.1) us))
  unfolding rename_types to all_to
  row-types [] = refl
  row-types (u ∷ us) = ap (and_type (rename_type f u.1)) (row-types us)

  row-renamed : (us : Fields (MlType A)) → row_of (replaced to us) ≡ to (row_of us)
  unfolding rename_type to all_to
  row-renamed us = λ i. app (row (row-labels us i)) (row-types us i)

  field-renamed : (l : Id) (t : MlType A) (us : Fields (MlType A)) → put_field l (to t) (replaced to us) ≡ replaced to (put_field l t us)
  field-renamed l t [] = refl
  field-renamed l t (u ∷ us) = go (label_order l u.0) (field-renamed l t us)
    where
      go : (o : Ordering) → put_field l (to t) (replaced to us) ≡ replaced to (put_field l t us)
          → by_order o ((l, to t) ∷ (u.0, to u.1) ∷ replaced to us) ((l, to t) ∷ replaced to us) ((u.0, to u.1) ∷ put_field l (to t) (replaced to us))
          ≡ replaced to (by_order o ((l, t) ∷ u ∷ us) ((l, t) ∷ us) (u ∷ put_field l t us))
      go Less e = refl
      go Equal e = refl
      go Greater e = ap (λ es. (u.0, to u.1) ∷ es) e

  -- a type function that is applied

  argument-renamed : (d : MlType A) (ts : MlTypes A) (k : ℕ) → argument_or (to d) (all_to ts) k ≡ to (argument_or d ts k)
  unfolding rename_types to all_to
  argument-renamed d no_type k = refl
  argument-renamed d (and_type t ts) zero = refl
  argument-renamed d (and_type t ts) (suc k) = argument-renamed d ts k

  mutual
    unfolding rename_type replace_type to all_to

    body-renamed : (ts : MlTypes A) (t : MlType A) → replace_type (argument (all_to ts)) free (to t) ≡ to (replace_type (argument ts) free t)
    body-renamed ts (bound k) = argument-renamed (bound k) ts k
    body-renamed ts (free v) = refl
    body-renamed ts (app h us) = ap (λ us. app (rename_head f h) us) (bodies-renamed ts us)

    bodies-renamed : (ts us : MlTypes A) → replace_types (argument (all_to ts)) free (all_to us) ≡ all_to (replace_types (argument ts) free us)
    bodies-renamed ts no_type = refl
    bodies-renamed ts (and_type u us) = λ i. and_type (body-renamed ts u i) (bodies-renamed ts us i)

  applied-renamed : (θ : Scheme A) (ts : MlTypes A) → applied (rename_scheme f θ) (all_to ts) ≡ to (applied θ ts)
  unfolding rename_scheme to
  applied-renamed θ ts = body-renamed ts θ.body

  -- what is read

  variable-renamed : {P : Type 0} (p : P) (o : Option (MlType A)) → variable_type p (there to o) ≡ answer_with to (variable_type p o)
  variable-renamed p None = refl
  variable-renamed p (Some t) = refl

  need-renamed : {P X Y : Type 0} (h : X → Y) (c : Code) (p : P) (x : LongId) (o : Found X) → need c p x (found_there h o) ≡ answer_with h (need c p x o)
  need-renamed h c p x (found v) = refl
  need-renamed h c p x (no_path s) = refl
  need-renamed h c p x no_entry = refl

  check-same : {P : Type 0} (b : Bool) (x : Fault P) → check b x ≡ answer_with (λ u. u) (check b x)
  check-same true x = refl
  check-same false x = refl

  arrow-renamed : (a b : MlType A) → arrow_of (to a) (to b) ≡ to (arrow_of a b)
  unfolding rename_type to
  arrow-renamed a b = refl

  type-renamed : {P : Type 0} (C : Env A) (p : P) (c : LongId) → need E2 p c (type_at (rename_env f C) c) ≡ answer_with (rename_ty_str f) (need E2 p c (type_at C c))
  unfolding type_at
  type-renamed C p c =
      ap (need E2 p c) (found-type (rename_ty_str f) (rename_value f) c.last c.path [] C) ∙ need-renamed (rename_ty_str f) E2 p c (type_at C c)

  checked : {P : Type 0} (p : P) (t : TyStr A) (ts : MlTypes A)
      → check (nat_eq (length (rename_ty_str f t).function.variables) (count_types (all_to ts))) (fault E4 p)
      ≡ answer_with (λ u. u) (check (nat_eq (length t.function.variables) (count_types ts)) (fault E4 p))
  unfolding rename_scheme
  checked p t ts =
      ap (λ k. check (nat_eq (length t.function.variables) k) (fault E4 p)) (count-renamed ts) ∙ check-same (nat_eq (length t.function.variables) (count_types ts)) (fault E4 p)

  module _ (C : Env A) (vs : Map (MlType A)) where
    abbrev D : Env B
    D = rename_env f C

    abbrev ws : Map (MlType B)
    ws = replaced to vs

    mutual
      unfolding read_ty rename_types to all_to

      read-renamed : {P : Type 0} (ty : Ty P) → read_ty D ws ty ≡ answer_with to (read_ty C vs ty)
      read-renamed (ty_variable p x) = ap (variable_type p) (lookup-there to x vs) ∙ variable-renamed p (lookup x vs)
      read-renamed (ty_row p fs) =
          in-turn (replaced to) to (read_fields C vs [] fs) (read_fields D ws [] fs) (λ r. give (row_of r)) (λ r. give (row_of r)) (fields-renamed [] fs)
          (λ r. ap accepted (row-renamed r))
      read-renamed (ty_tuple p us) =
          in-turn all_to to (read_tys C vs us) (read_tys D ws us) (λ ts. give (tuple_of ts)) (λ ts. give (tuple_of ts)) (all-renamed us) (λ ts. ap accepted (tuple-renamed ts))
      read-renamed (ty_constructor p us c) =
          in-turn all_to to (read_tys C vs us) (read_tys D ws us) _ _ (all-renamed us) (λ ts.
          in-turn (rename_ty_str f) to (need E2 c.place c.id (type_at C c.id)) (need E2 c.place c.id (type_at D c.id)) _ _ (type-renamed C c.place c.id) (λ t.
          in-turn (λ u. u) to (check (nat_eq (length t.function.variables) (count_types ts)) (fault E4 c.place))
          (check (nat_eq (length (rename_ty_str f t).function.variables) (count_types (all_to ts))) (fault E4 c.place)) _ _
          (checked c.place t ts) (λ u. ap accepted (applied-renamed t.function ts))))
      read-renamed (ty_misapplied p us c) =
          in-turn all_to to (read_tys C vs us) (read_tys D ws us) (λ ts. refused (fault E4 c.place)) (λ ts. refused (fault E4 c.place)) (all-renamed us) (λ ts. refl)
      read-renamed (ty_arrow p u v) =
          in-turn to to (read_ty C vs u) (read_ty D ws u) _ _ (read-renamed u) (λ a.
          in-turn to to (read_ty C vs v) (read_ty D ws v) (λ b. give (arrow_of a b)) (λ b. give (arrow_of (to a) b)) (read-renamed v) (λ b. ap accepted (arrow-renamed a b)))
      read-renamed (ty_bracket p u) = read-renamed u

      all-renamed : {P : Type 0} (us : Tys P) → read_tys D ws us ≡ answer_with all_to (read_tys C vs us)
      all-renamed no_ty = refl
      all-renamed (and_ty u us) =
          in-turn to all_to (read_ty C vs u) (read_ty D ws u) _ _ (read-renamed u) (λ t.
          in-turn all_to all_to (read_tys C vs us) (read_tys D ws us) (λ ts. give (and_type t ts)) (λ ts. give (and_type (to t) ts)) (all-renamed us) (λ ts. refl))

      fields-renamed : {P : Type 0} (fs : Fields (MlType A)) (us : TyFields P) → read_fields D ws (replaced to fs) us ≡ answer_with (replaced to) (read_fields C vs fs us)
      fields-renamed fs no_ty_field = refl
      fields-renamed fs (and_ty_field (ty_field l u) us) =
          in-turn to (replaced to) (read_ty C vs u) (read_ty D ws u) _ _ (read-renamed u) (λ t.
          ap (λ fs. read_fields D ws fs us) (field-renamed l.id t fs) ∙ fields-renamed (put_field l.id t fs) us)

  -- bindings of types

  listed-renamed : {P : Type 0} (g : ℕ → MlType A) (h : ℕ → MlType B) → ((k : ℕ) → to (g k) ≡ h k) → (k : ℕ) (xs : List (Name P))
      → replaced to (listed g k xs) ≡ listed h k xs
  listed-renamed g h e k [] = refl
  listed-renamed g h e k (x ∷ xs) = λ i. (x.id, e k i) ∷ listed-renamed g h e (suc k) xs i

  bound-renamed : (k : ℕ) → to (bound k) ≡ bound k
  unfolding rename_type to
  bound-renamed k = refl

  free-renamed : (k : ℕ) → to (free k) ≡ free k
  unfolding rename_type to
  free-renamed k = refl

  abbrev renames : TyStr A → TyStr B
  renames t = rename_ty_str f t

  bindings-renamed : {P : Type 0} (C : Env A) (m : Map (TyStr A)) (bs : List (TypBind P))
      → read_type_binds (rename_env f C) (replaced renames m) bs ≡ answer_with (replaced renames) (read_type_binds C m bs)
  unfolding read_type_binds rename_scheme to
  bindings-renamed C m [] = refl
  bindings-renamed C m (b ∷ bs) =
      in-turn to (replaced renames) (read_ty C (listed bound 0 b.variables) b.ty) (read_ty (rename_env f C) (listed bound 0 b.variables) b.ty) _ _
      (ap (λ vs. read_ty (rename_env f C) vs b.ty) (sym (listed-renamed bound bound bound-renamed 0 b.variables)) ∙ read-renamed C (listed bound 0 b.variables) b.ty) (λ t.
      let s : TyStr A = record { function = type_function b.variables t; constructors = [] } in
      ap (λ m. read_type_binds (rename_env f C) m bs) (put-there renames b.name.id s m) ∙ bindings-renamed C (put b.name.id s m) bs)

  -- arguments of constructors

  argument-read : {P : Type 0} (C : Env A) (vs : Map (MlType A)) (a : Option (Ty P))
      → read_argument (rename_env f C) (replaced to vs) a ≡ answer_with (rename_argument f) (read_argument C vs a)
  unfolding to
  argument-read C vs None = refl
  argument-read C vs (Some ty) =
      in-turn to (rename_argument f) (read_ty C vs ty) (read_ty (rename_env f C) (replaced to vs) ty) (λ t. give (Some t)) (λ t. give (Some t)) (read-renamed C vs ty) (λ t. refl)

  arguments-read : {P : Type 0} (C : Env A) (vs : Map (MlType A)) (cs : List (ConBind P))
      → read_arguments (rename_env f C) (replaced to vs) cs ≡ answer_with (rename_arguments f) (read_arguments C vs cs)
  unfolding read_arguments
  arguments-read C vs [] = refl
  arguments-read C vs (c ∷ cs) =
      in-turn (rename_argument f) (rename_arguments f) (read_argument C vs c.argument) (read_argument (rename_env f C) (replaced to vs) c.argument) _ _ (argument-read C vs c.argument) (λ t.
      in-turn (rename_arguments f) (rename_arguments f) (read_arguments C vs cs) (read_arguments (rename_env f C) (replaced to vs) cs)
      (λ ts. give ((c.name.id, t) ∷ ts)) (λ ts. give ((c.name.id, rename_argument f t) ∷ ts)) (arguments-read C vs cs) (λ ts. refl))

  all-arguments-read : {P : Type 0} (C : Env A) (ds : List (DatBind P)) → read_all_arguments (rename_env f C) ds ≡ answer_with (map (rename_arguments f)) (read_all_arguments C ds)
  unfolding read_all_arguments
  all-arguments-read C [] = refl
  all-arguments-read C (d ∷ ds) =
      in-turn (rename_arguments f) (map (rename_arguments f)) (read_arguments C (listed free 0 d.variables) d.constructors) (read_arguments (rename_env f C) (listed free 0 d.variables) d.constructors) _ _
      (ap (λ vs. read_arguments (rename_env f C) vs d.constructors) (sym (listed-renamed free free free-renamed 0 d.variables)) ∙ arguments-read C (listed free 0 d.variables) d.constructors) (λ a.
      in-turn (map (rename_arguments f)) (map (rename_arguments f)) (read_all_arguments C ds) (read_all_arguments (rename_env f C) ds) (λ gs. give (a ∷ gs)) (λ gs. give (rename_arguments f a ∷ gs))
      (all-arguments-read C ds) (λ gs. refl))

  -- a context with datatypes

  types-from-renamed : (k n : ℕ) → all_to (types_from bound k n) ≡ types_from bound k n
  unfolding rename_types rename_type all_to
  types-from-renamed k zero = refl
  types-from-renamed k (suc n) = ap (and_type (bound k)) (types-from-renamed (suc k) n)

  function-renamed : (n : A) (k : ℕ) → rename_scheme f (name_function n k) ≡ name_function (f n) k
  unfolding rename_scheme rename_type all_to
  function-renamed n k = λ i. record { variables = replicate k false; body = app (name (f n)) (types-from-renamed 0 k i) }

  datatypes-renamed : {P : Type 0} (m : Map (TyStr A)) (ds : List (DatBind P)) (ns : List A) → datatype_types (replaced renames m) ds (map f ns) ≡ replaced renames (datatype_types m ds ns)
  datatypes-renamed m [] ns = refl
  datatypes-renamed m (d ∷ ds) [] = refl
  datatypes-renamed m (d ∷ ds) (n ∷ ns) =
      let s : TyStr A = record { function = name_function n (length d.variables); constructors = [] } in
      let e : put d.name.id (record { function = name_function (f n) (length d.variables); constructors = [] }) (replaced renames m) ≡ replaced renames (put d.name.id s m) =
      (λ i. put d.name.id (record { function = sym (function-renamed n (length d.variables)) i; constructors = [] }) (replaced renames m)) ∙ put-there renames d.name.id s m in
      ap (λ m. datatype_types m ds (map f ns)) e ∙ datatypes-renamed (put d.name.id s m) ds ns

  pub arguments-renamed : {P : Type 0} (C : Env A) (ds : List (DatBind P)) (ns : List A)
      → arguments_of (rename_env f C) ds (map f ns) ≡ answer_with (map (rename_arguments f)) (arguments_of C ds ns)
  unfolding replace replace_structures
  arguments-renamed C ds ns =
      let ts = datatype_types [] ds ns in
      ap (λ C. read_all_arguments C ds)
      (ap (λ ts. extend (rename_env f C) (of_types ts)) (datatypes-renamed [] ds ns) ∙ extend-there renames (rename_value f) C (of_types ts))
      ∙ all-arguments-read (extend C (of_types ts)) ds

pub readings-are-natural : ReadingsAreNatural
unfolding to
readings-are-natural f = record {
  types = λ C vs ty. read-renamed f C vs ty;
  bindings = λ C m bs. bindings-renamed f C m bs;
  arguments = λ C ds ns. arguments-renamed f C ds ns;
}

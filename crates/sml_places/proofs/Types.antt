-- Type expressions and bindings with other places: the answers are the same, but for places.
use Rattle.std.specs.Prelude.{◌≡◌, ℕ, suc, Bool, true, false, List, [], ◌∷◌, map, length, replicate, Option, Some, None}
use Rattle.std.proofs.lemmas.List.{length-map}
use mathlib.Core.Path.{refl, ap, ◌∙◌}
use Rattle.sml_lex.specs.declared.fault.Code.{Code}
use Rattle.sml_lex.specs.declared.fault.Code.TheVariants.{E1, E2, E3, E4, E5}
use Rattle.sml_lex.specs.Faults.{Fault}
use Rattle.sml_tree.specs.Trees.{LongId}
use Rattle.sml_tree.specs.Names.{Name, LongName}
use Rattle.sml_tree.specs.Types.{Ty, Tys, TyFields, ty_variable, ty_row, ty_tuple, ty_constructor, ty_misapplied, ty_arrow, ty_bracket, no_ty, and_ty, ty_field, no_ty_field, and_ty_field}
use Rattle.sml_tree.specs.Expressions.{TypBind, ConBind, DatBind, ExnBind, new_exception, exception_copy}
use Rattle.sml_objects.specs.Maps.{Map, lookup, put}
use Rattle.sml_objects.specs.Names.{Naming, Initial}
use Rattle.sml_objects.specs.Objects.{MlType, Scheme, Outside, bound, free, app, name, and_type, arrow_of, tuple_of, mono}
use Rattle.sml_objects.specs.Types.{applied}
use Rattle.sml_rules.specs.Answers.{Answer, refused, accepted, fault}
use Rattle.sml_rules.specs.Lookups.{Found, found, no_path, no_entry}
use Rattle.sml_core_rules.specs.Answers.{give, ◌>>=◌, check, need}
use Rattle.sml_core_rules.specs.Objects.{Env, Value, TyStr, exception, maps, no_structure, of_types, extend}
use Rattle.sml_core_rules.specs.Lookups.{value_at, type_at, structure_at}
use Rattle.sml_core_rules.specs.Types.{Fields, put_field, row_of, variable_type, read_ty, read_tys, read_fields}
use Rattle.sml_core_rules.specs.Datatypes.{Arguments, listed, types_from, type_function, name_function, is_equality, constructors_of, constructor_values, read_type_binds, read_argument, read_arguments, read_all_arguments, datatype_types, arguments_of, datatype_env, datatype_envs, AreNew}
use Rattle.sml_core_rules.specs.Expressions.{exception_type, is_exception, read_exception, read_exceptions, read_opened}
use Rattle.sml_core_rules.specs.States.{Scope}
use Rattle.sml_places.specs.Places.{place_name, place_long, place_names, place_ty, place_tys, place_ty_fields, place_optional, place_typ_bind, place_con_bind, place_dat_bind, place_exn_bind}
use Rattle.sml_places.specs.Answers.{place_fault, place_answer}

module _ {P Q : Type 0} (f : P → Q) where
  -- the second answer is the first with other places
  pub record AreEqual {X : Type 0} (a : Answer P X) (b : Answer Q X) : Type 0 where
    pub same : b ≡ place_answer f a

  equal-after : {X Y : Type 0} (a : Answer P X) (n : X → Answer P Y) (m : X → Answer Q Y) → ((x : X) → AreEqual (n x) (m x)) → (place_answer f a >>= m) ≡ place_answer f (a >>= n)
  unfolding ◌>>=◌
  equal-after (refused e) n m h = refl
  equal-after (accepted x) n m h = (h x).same

  -- one after the other
  pub equal-then : {X Y : Type 0} {a : Answer P X} {b : Answer Q X} {n : X → Answer P Y} {m : X → Answer Q Y} → AreEqual a b → ((x : X) → AreEqual (n x) (m x)) → AreEqual (a >>= n) (b >>= m)
  equal-then {a = a} {n = n} {m = m} h k = record { same = ap (λ b. b >>= m) h.same ∙ equal-after a n m k }

  pub equal-give : {X : Type 0} (x : X) → AreEqual (accepted x) (accepted x)
  equal-give x = record { same = refl }

  pub equal-refuse : {X : Type 0} (e : Fault P) → AreEqual {X = X} (refused e) (refused (place_fault f e))
  equal-refuse e = record { same = refl }

  pub equal-check : (b : Bool) (e : Fault P) → AreEqual (check b e) (check b (place_fault f e))
  equal-check true e = record { same = refl }
  equal-check false e = record { same = refl }

  pub equal-need : {X : Type 0} (c : Code) (p : P) (x : LongId) (r : Found X) → AreEqual (need c p x r) (need c (f p) x r)
  equal-need c p x (found v) = record { same = refl }
  equal-need c p x (no_path s) = record { same = refl }
  equal-need c p x no_entry = record { same = refl }

  -- type expressions

  equal-variable : {N : Type 0} (p : P) (t : Option (MlType N)) → AreEqual (variable_type p t) (variable_type (f p) t)
  equal-variable p (Some t) = record { same = refl }
  equal-variable p None = record { same = refl }

  module _ {N : Type 0} (C : Env N) (vs : Map (MlType N)) where
    mutual
      unfolding read_ty read_tys read_fields place_ty place_tys place_ty_fields

      pub equal-ty : (t : Ty P) → AreEqual (read_ty C vs t) (read_ty C vs (place_ty f t))
      equal-ty (ty_variable p x) = equal-variable p (lookup x vs)
      equal-ty (ty_row p fs) = equal-then (equal-fields [] fs) (λ r. equal-give (row_of r))
      equal-ty (ty_tuple p us) = equal-then (equal-tys us) (λ ts. equal-give (tuple_of ts))
      equal-ty (ty_constructor p us c) =
          equal-then (equal-tys us) (λ ts. equal-then (equal-need E2 c.place c.id (type_at C c.id)) (λ t. equal-then (equal-check _ (fault E4 c.place)) (λ u. equal-give (applied t.function ts))))
      equal-ty (ty_misapplied p us c) = equal-then (equal-tys us) (λ ts. equal-refuse (fault E4 c.place))
      equal-ty (ty_arrow p u v) = equal-then (equal-ty u) (λ a. equal-then (equal-ty v) (λ b. equal-give (arrow_of a b)))
      equal-ty (ty_bracket p u) = equal-ty u

      pub equal-tys : (us : Tys P) → AreEqual (read_tys C vs us) (read_tys C vs (place_tys f us))
      equal-tys no_ty = equal-give _
      equal-tys (and_ty u us) = equal-then (equal-ty u) (λ t. equal-then (equal-tys us) (λ ts. equal-give (and_type t ts)))

      pub equal-fields : (fs : Fields (MlType N)) (us : TyFields P) → AreEqual (read_fields C vs fs us) (read_fields C vs fs (place_ty_fields f us))
      equal-fields fs no_ty_field = equal-give fs
      equal-fields fs (and_ty_field (ty_field l u) us) = equal-then (equal-ty u) (λ t. equal-fields (put_field l.id t fs) us)

  -- bindings

  pub listed-same : {N : Type 0} (g : ℕ → MlType N) (k : ℕ) (xs : List (Name P)) → listed g k (place_names f xs) ≡ listed g k xs
  listed-same g k [] = refl
  listed-same g k (x ∷ xs) = ap (λ l. (x.id, g k) ∷ l) (listed-same g (suc k) xs)

  pub function-same : {N : Type 0} (xs : List (Name P)) (t : MlType N) → type_function (place_names f xs) t ≡ type_function xs t
  function-same xs t = λ i. record { variables = replicate (length-map xs (place_name f) i) false; body = t }

  pub equal-type-binds : {N : Type 0} (C : Env N) (m : Map (TyStr N)) (bs : List (TypBind P)) → AreEqual (read_type_binds C m bs) (read_type_binds C m (map (place_typ_bind f) bs))
  unfolding read_type_binds
  equal-type-binds C m [] = equal-give m
  equal-type-binds C m (b ∷ bs) =
      coe 1 0 (i. AreEqual (read_type_binds C m (b ∷ bs))
      (read_ty C (listed-same bound 0 b.variables i) (place_ty f b.ty)
      >>= λ t. read_type_binds C (put b.name.id (record { function = function-same b.variables t i; constructors = [] }) m) (map (place_typ_bind f) bs)))
      (equal-then (equal-ty C (listed bound 0 b.variables) b.ty) (λ t. equal-type-binds C (put b.name.id (record { function = type_function b.variables t; constructors = [] }) m) bs))

  module _ {N : Type 0} (C : Env N) (vs : Map (MlType N)) where
    pub equal-argument : (t : Option (Ty P)) → AreEqual (read_argument C vs t) (read_argument C vs (place_optional f t))
    equal-argument None = equal-give None
    equal-argument (Some t) = equal-then (equal-ty C vs t) (λ u. equal-give (Some u))

    equal-arguments : (cs : List (ConBind P)) → AreEqual (read_arguments C vs cs) (read_arguments C vs (map (place_con_bind f) cs))
    unfolding read_arguments
    equal-arguments [] = equal-give []
    equal-arguments (c ∷ cs) = equal-then (equal-argument c.argument) (λ t. equal-then (equal-arguments cs) (λ ts. equal-give ((c.name.id, t) ∷ ts)))

  equal-all-arguments : {N : Type 0} (C : Env N) (ds : List (DatBind P)) → AreEqual (read_all_arguments C ds) (read_all_arguments C (map (place_dat_bind f) ds))
  unfolding read_all_arguments
  equal-all-arguments C [] = equal-give []
  equal-all-arguments C (d ∷ ds) =
      coe 1 0 (i. AreEqual (read_all_arguments C (d ∷ ds))
      (read_arguments C (listed-same free 0 d.variables i) (map (place_con_bind f) d.constructors)
      >>= λ a. read_all_arguments C (map (place_dat_bind f) ds) >>= λ gs. give (a ∷ gs)))
      (equal-then (equal-arguments C (listed free 0 d.variables) d.constructors) (λ a. equal-then (equal-all-arguments C ds) (λ gs. equal-give (a ∷ gs))))

  types-same : {N : Type 0} (m : Map (TyStr N)) (ds : List (DatBind P)) (ns : List N) → datatype_types m (map (place_dat_bind f) ds) ns ≡ datatype_types m ds ns
  types-same m [] ns = refl
  types-same m (d ∷ ds) [] = refl
  types-same m (d ∷ ds) (n ∷ ns) =
      (λ i. datatype_types (put d.name.id (record { function = name_function n (length-map d.variables (place_name f) i); constructors = [] }) m) (map (place_dat_bind f) ds) ns)
      ∙ types-same (put d.name.id (record { function = name_function n (length d.variables); constructors = [] }) m) ds ns

  pub equal-arguments-of : {N : Type 0} (C : Env N) (ds : List (DatBind P)) (ns : List N) → AreEqual (arguments_of C ds ns) (arguments_of C (map (place_dat_bind f) ds) ns)
  equal-arguments-of C ds ns =
      coe 1 0 (i. AreEqual (arguments_of C ds ns) (read_all_arguments (extend C (of_types (types-same [] ds ns i))) (map (place_dat_bind f) ds)))
      (equal-all-arguments (extend C (of_types (datatype_types [] ds ns))) ds)

  equalities-same : (xs : List (Name P)) → map (λ x. is_equality x.id) (place_names f xs) ≡ map (λ x. is_equality x.id) xs
  equalities-same [] = refl
  equalities-same (x ∷ xs) = ap (λ l. is_equality x.id ∷ l) (equalities-same xs)

  datatype-same : {N : Type 0} (d : DatBind P) (n : N) (cs : Arguments N) → datatype_env (place_dat_bind f d) n cs ≡ datatype_env d n cs
  datatype-same d n cs = λ i.
      let k : ℕ = length-map d.variables (place_name f) i in
      let made : Map (Scheme _) = constructors_of (app (name n) (types_from free 0 k)) (equalities-same d.variables i) cs in
      maps no_structure ((d.name.id, record { function = name_function n k; constructors = made }) ∷ []) (constructor_values made)

  pub datatypes-same : {N : Type 0} (ds : List (DatBind P)) (gs : List (N × Arguments N)) → datatype_envs (map (place_dat_bind f) ds) gs ≡ datatype_envs ds gs
  datatypes-same [] gs = refl
  datatypes-same (d ∷ ds) [] = refl
  datatypes-same (d ∷ ds) (a ∷ gs) = λ i. extend (datatype-same d a.0 a.1 i) (datatypes-same ds gs i)

  pub new-same : {N : Type 0} (names : Naming N) (old : List N) (ds : List (DatBind P)) (ns : List N) → AreNew names old (map (place_dat_bind f) ds) ns ≡ AreNew names old ds ns
  unfolding AreNew
  new-same names old [] ns = refl
  new-same {N} names old (d ∷ ds) ns = λ i.
      (n : N) × (rest : List N) × Outside n old × ((k : Initial) → ¬ (names.initial k ≡ n)) × ((names.attributes n).arity ≡ length-map d.variables (place_name f) i)
      × ((names.attributes n).constructors ≡ []) × new-same names (n ∷ old) ds rest i × (ns ≡ n ∷ rest)

  -- exceptions, and structures that are opened

  module _ {N : Type 0} (scope : Scope N) where
    equal-exception : (C : Env N) (vs : Map (MlType N)) (b : ExnBind P) → AreEqual (read_exception scope C vs b) (read_exception scope C vs (place_exn_bind f b))
    equal-exception C vs (new_exception c) =
        equal-then (equal-argument C vs c.argument) (λ a. equal-give (c.name.id, record { scheme = mono (exception_type scope.names a); status = exception }))
    equal-exception C vs (exception_copy x y) =
        equal-then (equal-need E1 y.place y.id (value_at C y.id)) (λ v. equal-then (equal-check (is_exception v.status) (fault E5 y.place)) (λ u. equal-give (x.id, v)))

    pub equal-exceptions : (C : Env N) (vs : Map (MlType N)) (m : Map (Value N)) (bs : List (ExnBind P)) → AreEqual (read_exceptions scope C vs m bs) (read_exceptions scope C vs m (map (place_exn_bind f) bs))
    equal-exceptions C vs m [] = equal-give m
    equal-exceptions C vs m (b ∷ bs) = equal-then (equal-exception C vs b) (λ e. equal-exceptions C vs (put e.0 e.1 m) bs)

    pub equal-opened : (C F : Env N) (ss : List (LongName P)) → AreEqual (read_opened scope C F ss) (read_opened scope C F (map (place_long f) ss))
    equal-opened C F [] = equal-give F
    equal-opened C F (s ∷ ss) = equal-then (equal-need E3 s.place s.id (structure_at C s.id)) (λ E. equal-opened C (extend F E) ss)

-- Sharing, `where type` and what types and datatypes specify, with other places.
use Rattle.std.specs.Prelude.{◌≡◌, ◌↔◌, ℕ, Bool, true, false, cond, ◌&&◌, ◌||◌, not, is_some, List, [], ◌∷◌, ◌++◌, map, length, Option, Some, None}
use Rattle.std.specs.Option.{option_map}
use Rattle.std.proofs.lemmas.List.{length-map}
use mathlib.Core.Path.{refl, sym, subst, ◌∙◌}
use mathlib.Core.Logic.{inl, inr}
use Rattle.sml_lex.specs.declared.fault.Code.TheVariants.{E2, E3, E4, E7, N1, N2, N3, N4, N5, N6, N7}
use Rattle.sml_tree.specs.Trees.{Id, LongId}
use Rattle.sml_tree.specs.Names.{Name, LongName}
use Rattle.sml_tree.specs.Types.{Ty, Tys, ty_variable, ty_row, ty_tuple, ty_constructor, ty_misapplied, ty_arrow, ty_bracket, no_ty, and_ty}
use Rattle.sml_tree.specs.Expressions.{ConBind, DatBind}
use Rattle.sml_tree.specs.Signatures.{WhereType, ValDesc, TypDesc}
use Rattle.sml_objects.specs.Equality.{has_equality}
use Rattle.sml_objects.specs.Maps.{Map, put}
use Rattle.sml_objects.specs.Objects.{bound, mono}
use Rattle.sml_rules.specs.Answers.{fault, fault_at}
use Rattle.sml_rules.specs.Matching.{Realisation}
use Rattle.sml_core_rules.specs.Answers as A
use Rattle.sml_core_rules.specs.Objects.{Env, Value, TyStr, Sig, variable, exception, extend, of_types}
use Rattle.sml_core_rules.specs.Lookups.{type_at, structure_at}
use Rattle.sml_core_rules.specs.Types.{read_ty}
use Rattle.sml_core_rules.specs.Closing.{ty_variables}
use Rattle.sml_core_rules.specs.Datatypes.{is_equality, listed, type_function, name_function, constructor_scheme, datatype_envs}
use Rattle.sml_core_rules.specs.Datatypes as T
use Rattle.sml_core_rules.specs.Expressions.{exception_type}
use Rattle.sml_core_rules.specs.States.{Scope}
use Rattle.sml_core_rules.specs.Scripts.{give, ◌>>=◌, look, test, new_names}
use Rattle.sml_module_rules.specs.Lines.{lines, IsSmallEnv}
use Rattle.sml_module_rules.specs.Realising.{realise_env, is_same_name, admits_function, no_function, with_function}
use Rattle.sml_core_rules.specs.Objects.{identifiers}
use Rattle.sml_module_rules.specs.Bound.{constructors_in, inside, bound_name, function_at, name_at, joined_attributes, for_both, without, common_paths}
use Rattle.sml_module_rules.specs.Signatures.{once, standing, is_variable, are_variables, applied_constructor, HasConstructors, read_values, read_exceptions, need_name, join, share_named, share, need_names, share_others, share_types, need_structures, share_paths, share_with, share_pairs, share_structures, KeepsConstructors, realise_name, read_where, attributes_of, described, read_types, read_datatypes, add, named}
use Rattle.sml_places.specs.Places.{place_name, place_long, place_names, place_ty, place_tys, place_con_bind, place_dat_bind, place_where, place_val_desc, place_typ_desc}
use Rattle.sml_places.proofs.Scripts.{AreSame, alike-then, alike-give, alike-refuse}
use Rattle.sml_places.proofs.Types.{AreEqual, equal-then, equal-give, equal-ty, equal-argument, listed-same, function-same, datatypes-same}
use Rattle.sml_places.proofs.Steps.{itself, same-look, same-need, same-test, same-names, alike-datatypes}
use Rattle.sml_places.proofs.Trees.{variables-same}
use Rattle.sml_places.proofs.Patterns.{same-cond}
use Rattle.sml_places.proofs.Matching.{same-renewed-signature}

module _ {P Q : Type 0} (f : P → Q) where
  -- type constructors that are applied to variables

  variable-same : (x : Id) (t : Ty P) → is_variable x (place_ty f t) ≡ is_variable x t
  unfolding place_ty
  variable-same x (ty_variable p y) = refl
  variable-same x (ty_row p fs) = refl
  variable-same x (ty_tuple p ts) = refl
  variable-same x (ty_constructor p ts c) = refl
  variable-same x (ty_misapplied p ts c) = refl
  variable-same x (ty_arrow p t u) = refl
  variable-same x (ty_bracket p t) = variable-same x t

  are-variables-same : (xs : List (Name P)) (ts : Tys P) → are_variables (place_names f xs) (place_tys f ts) ≡ are_variables xs ts
  unfolding place_tys
  are-variables-same [] no_ty = refl
  are-variables-same [] (and_ty t ts) = refl
  are-variables-same (x ∷ xs) no_ty = refl
  are-variables-same (x ∷ xs) (and_ty t ts) = λ i. variable-same x.id t i && are-variables-same xs ts i

  chosen-placed : (b : Bool) (c : LongName P) → cond b (Some (place_long f c)) None ≡ option_map (place_long f) (cond b (Some c) None)
  chosen-placed true c = refl
  chosen-placed false c = refl

  constructor-placed : (xs : List (Name P)) (t : Ty P) → applied_constructor (place_names f xs) (place_ty f t) ≡ option_map (place_long f) (applied_constructor xs t)
  unfolding place_ty
  constructor-placed xs (ty_variable p y) = refl
  constructor-placed xs (ty_row p fs) = refl
  constructor-placed xs (ty_tuple p ts) = refl
  constructor-placed xs (ty_constructor p ts c) = (λ i. cond (are-variables-same xs ts i) (Some (place_long f c)) None) ∙ chosen-placed (are_variables xs ts) c
  constructor-placed xs (ty_misapplied p ts c) = refl
  constructor-placed xs (ty_arrow p t u) = refl
  constructor-placed xs (ty_bracket p t) = constructor-placed xs t

  has-same : {N : Type 0} (C : Env N) (cs : List Id) (c : Option (LongName P)) → HasConstructors C cs c ≡ HasConstructors C cs (option_map (place_long f) c)
  has-same C cs None = refl
  has-same C cs (Some c) = refl

  -- values and exceptions

  pub equal-values : {N : Type 0} (C : Env N) (m : Map (Value N)) (ds : List (ValDesc P)) → AreEqual f (read_values C m ds) (read_values C m (map (place_val_desc f) ds))
  unfolding read_values
  equal-values C m [] = equal-give f m
  equal-values C m (d ∷ ds) =
      let xs : List Id = once [] (ty_variables d.ty) in
      coe 1 0 (i. AreEqual f (read_values C m (d ∷ ds))
      (A.◌>>=◌ (read_ty C (standing 0 (once [] (variables-same f d.ty i))) (place_ty f d.ty))
      (λ t. read_values C (put d.name.id (record { scheme = constructor_scheme (map is_equality (once [] (variables-same f d.ty i))) t; status = variable }) m) (map (place_val_desc f) ds))))
      (equal-then f (equal-ty f C (standing 0 xs) d.ty) (λ t. equal-values C (put d.name.id (record { scheme = constructor_scheme (map is_equality xs) t; status = variable }) m) ds))

  pub equal-exceptions : {N : Type 0} (scope : Scope N) (C : Env N) (m : Map (Value N)) (cs : List (ConBind P)) → AreEqual f (read_exceptions scope C m cs) (read_exceptions scope C m (map (place_con_bind f) cs))
  unfolding read_exceptions
  equal-exceptions scope C m [] = equal-give f m
  equal-exceptions scope C m (c ∷ cs) =
      equal-then f (equal-argument f C [] c.argument) (λ a. equal-exceptions scope C (put c.name.id (record { scheme = mono (exception_type scope.names a); status = exception }) m) cs)

module _ {P Q N : Type 0} (scope : Scope N) (f : P → Q) where
  same-name : (p : P) (n : Option N) → AreSame scope f (need_name scope p n) (need_name scope (f p) n)
  same-name p (Some n) = alike-give n
  same-name p None = alike-refuse (fault N3 p)

  -- sharing

  same-join : (p : P) (S : Sig N) (n m : N) → AreSame scope f (join scope p S n m) (join scope (f p) S n m)
  same-join p S n m =
      same-cond (is_same_name scope.names n m) (alike-give S) (alike-then (same-test itself (fault N6 p)) (λ a. alike-then (same-names (joined_attributes scope n m ∷ [])) (λ ks.
      alike-then (same-test itself (fault N7 p)) (λ b. alike-give (record { names = without scope n m S.names ++ ks; body = realise_env (for_both scope n m ks) S.body })))))

  same-share-named : (p : P) (S : Sig N) (x y : LongId) (n m : Option N) → AreSame scope f (share_named scope p S x y n m) (share_named scope (f p) S x y n m)
  same-share-named p S x y (Some n) (Some m) = same-join p S n m
  same-share-named p S x y (Some n) None = alike-then (same-test itself (fault N3 p)) (λ a. alike-give S)
  same-share-named p S x y None m = alike-then (same-test itself (fault N3 p)) (λ a. alike-give S)

  same-share : (p : P) (S : Sig N) (x y : LongId) → AreSame scope f (share scope p S x y) (share scope (f p) S x y)
  same-share p S x y = same-share-named p S x y (name_at scope S x) (name_at scope S y)

  same-need-names : (S : Sig N) (xs : List (LongName P)) → AreSame scope f (need_names scope S xs) (need_names scope S (map (place_long f) xs))
  unfolding need_names
  same-need-names S [] = alike-give tt
  same-need-names S (x ∷ xs) =
      alike-then (same-need E2 x.place x.id (type_at S.body x.id)) (λ t. alike-then (same-name x.place (bound_name scope S.names t.function)) (λ n. same-need-names S xs))

  same-share-others : (S : Sig N) (x : LongId) (ys : List (LongName P)) → AreSame scope f (share_others scope S x ys) (share_others scope S x (map (place_long f) ys))
  unfolding share_others
  same-share-others S x [] = alike-give S
  same-share-others S x (y ∷ ys) = alike-then (same-share y.place S x y.id) (λ R. same-share-others R x ys)

  pub same-share-types : (S : Sig N) (xs : List (LongName P)) → AreSame scope f (share_types scope S xs) (share_types scope S (map (place_long f) xs))
  same-share-types S [] = alike-give S
  same-share-types S (x ∷ xs) = alike-then (same-need-names S (x ∷ xs)) (λ a. same-share-others S x.id xs)

  same-need-structures : (S : Sig N) (xs : List (LongName P)) → AreSame scope f (need_structures scope S xs) (need_structures scope S (map (place_long f) xs))
  unfolding need_structures
  same-need-structures S [] = alike-give tt
  same-need-structures S (x ∷ xs) = alike-then (same-need E3 x.place x.id (structure_at S.body x.id)) (λ E. same-need-structures S xs)

  same-share-paths : (p : P) (S : Sig N) (x y : LongId) (qs : Map LongId) → AreSame scope f (share_paths scope p S x y qs) (share_paths scope (f p) S x y qs)
  unfolding share_paths
  same-share-paths p S x y [] = alike-give S
  same-share-paths p S x y (q ∷ qs) =
      same-cond (is_some (function_at S (inside y q.1))) (alike-then (same-share p S (inside x q.1) (inside y q.1)) (λ R. same-share-paths p R x y qs)) (same-share-paths p S x y qs)

  same-share-with : (S : Sig N) (x : LongId) (ys : List (LongName P)) → AreSame scope f (share_with scope S x ys) (share_with scope S x (map (place_long f) ys))
  unfolding share_with
  same-share-with S x [] = alike-give S
  same-share-with S x (y ∷ ys) = alike-then (same-share-paths y.place S x y.id (common_paths (structure_at S.body x))) (λ R. same-share-with R x ys)

  same-share-pairs : (S : Sig N) (xs : List (LongName P)) → AreSame scope f (share_pairs scope S xs) (share_pairs scope S (map (place_long f) xs))
  unfolding share_pairs
  same-share-pairs S [] = alike-give S
  same-share-pairs S (x ∷ xs) = alike-then (same-share-with S x.id xs) (λ R. same-share-pairs R xs)

  pub same-share-structures : (S : Sig N) (xs : List (LongName P)) → AreSame scope f (share_structures scope S xs) (share_structures scope S (map (place_long f) xs))
  same-share-structures S xs = alike-then (same-need-structures S xs) (λ a. same-share-pairs S xs)

  -- `where type`

  keeps-same : (C : Env N) (n : N) (S : Sig N) (xs : List (Name P)) (t : Ty P)
      → KeepsConstructors scope C n S (applied_constructor xs t) ↔ KeepsConstructors scope C n S (applied_constructor (place_names f xs) (place_ty f t))
  keeps-same C n S xs t =
      let cs : List Id = identifiers (constructors_in scope.names n (lines [] S.body)) in
      let h = has-same f C cs (applied_constructor xs t) ∙ λ i. HasConstructors C cs (sym (constructor-placed f xs t) i) in (
        elim [ inl e ↦ inl e | inr k ↦ inr (coe 0 1 (i. h i) k) ],
        elim [ inl e ↦ inl e | inr k ↦ inr (coe 1 0 (i. h i) k) ],
      )

  same-realised : (C : Env N) (S : Sig N) (w : WhereType P) (n : N) (φ : Realisation N) → AreSame scope f (realise_name scope C S w n φ) (realise_name scope C S (place_where f w) n φ)
  same-realised C S w n φ =
      alike-then (same-test (keeps-same C n S w.variables w.ty) (fault N5 w.constructor.place)) (λ a. alike-then (same-test itself (fault E7 w.constructor.place)) (λ b.
      alike-give (record { names = without scope n n S.names; body = realise_env φ S.body })))

  -- the type of a `where type`, whose variables are listed
  same-right : (C : Env N) (w : WhereType P) → AreSame scope f (look (read_ty C (listed bound 0 w.variables) w.ty)) (look (read_ty C (listed bound 0 (place_names f w.variables)) (place_ty f w.ty)))
  same-right C w =
      subst (λ vs. AreSame scope f (look (read_ty C (listed bound 0 w.variables) w.ty)) (look (read_ty C vs (place_ty f w.ty)))) (sym (listed-same f bound 0 w.variables))
      (same-look (equal-ty f C (listed bound 0 w.variables) w.ty))

  as-many : (xs : List (Name P)) (k : ℕ) → (k ≡ length xs) ↔ (k ≡ length (place_names f xs))
  as-many xs k = ((λ h. h ∙ sym (length-map xs (place_name f))), (λ h. h ∙ length-map xs (place_name f)))

  pub same-where-type : (C : Env N) (S : Sig N) (w : WhereType P) → AreSame scope f (read_where scope C S w) (read_where scope C S (place_where f w))
  same-where-type C S w =
      alike-then (same-need E2 w.constructor.place w.constructor.id (type_at S.body w.constructor.id)) (λ t. alike-then (same-right C w) (λ u.
      alike-then (same-test (as-many w.variables (length t.function.variables)) (fault E4 w.constructor.place)) (λ a.
      alike-then (same-name w.constructor.place (bound_name scope S.names t.function)) (λ n.
      coe 1 0 (i. AreSame scope f
      (test ((not (has_equality scope.names n) || admits_function scope.names (type_function w.variables u)) ≡ true) (fault N4 w.constructor.place)
      >>= λ b. realise_name scope C S w n (with_function scope.names n (type_function w.variables u) (no_function scope.names)))
      (test ((not (has_equality scope.names n) || admits_function scope.names (function-same f w.variables u i)) ≡ true) (fault N4 (f w.constructor.place))
      >>= λ b. realise_name scope C S (place_where f w) n (with_function scope.names n (function-same f w.variables u i) (no_function scope.names))))
      (alike-then (same-test itself (fault N4 w.constructor.place)) (λ b. same-realised C S w n (with_function scope.names n (type_function w.variables u) (no_function scope.names))))))))

  -- types and datatypes

  attributes-same : (e : Bool) (ds : List (TypDesc P)) → attributes_of scope e (map (place_typ_desc f) ds) ≡ attributes_of scope e ds
  attributes-same e [] = refl
  attributes-same e (d ∷ ds) = λ i. record { maker = scope.unit; arity = length-map d.variables (place_name f) i; equality = e; constructors = [] } ∷ attributes-same e ds i

  described-same : (m : Map (TyStr N)) (ds : List (TypDesc P)) (ns : List N) → described scope m (map (place_typ_desc f) ds) ns ≡ described scope m ds ns
  described-same m [] ns = refl
  described-same m (d ∷ ds) [] = refl
  described-same m (d ∷ ds) (n ∷ ns) =
      (λ i. described scope (put d.name.id (record { function = name_function n (length-map d.variables (place_name f) i); constructors = [] }) m) (map (place_typ_desc f) ds) ns)
      ∙ described-same (put d.name.id (record { function = name_function n (length d.variables); constructors = [] }) m) ds ns

  pub same-described : (p : P) (e : Bool) (ds : List (TypDesc P)) → AreSame scope f (read_types scope p e ds) (read_types scope (f p) e (map (place_typ_desc f) ds))
  same-described p e ds =
      alike-then (subst (λ ws. AreSame scope f (new_names (attributes_of scope e ds)) (new_names ws)) (sym (attributes-same e ds)) (same-names (attributes_of scope e ds))) (λ ns.
      coe 1 0 (i. AreSame scope f {X = Sig N}
      (test (IsSmallEnv (of_types (described scope [] ds ns))) (fault E7 p) >>= λ a. give (record { names = ns; body = of_types (described scope [] ds ns) }))
      (test (IsSmallEnv (of_types (described-same [] ds ns i))) (fault E7 (f p)) >>= λ a. give (record { names = ns; body = of_types (described-same [] ds ns i) })))
      (alike-then (same-test itself (fault E7 p)) (λ a. alike-give (record { names = ns; body = of_types (described scope [] ds ns) }))))

  pub same-datatypes : (p : P) (C : Env N) (ds : List (DatBind P)) → AreSame scope f (read_datatypes scope p C ds) (read_datatypes scope (f p) C (map (place_dat_bind f) ds))
  same-datatypes p C ds =
      alike-datatypes C ds (λ ns gs.
      coe 1 0 (i. AreSame scope f {X = Sig N}
      (test (IsSmallEnv (datatype_envs ds (T.with_names ns gs))) (fault E7 p) >>= λ a. give (record { names = ns; body = datatype_envs ds (T.with_names ns gs) }))
      (test (IsSmallEnv (datatypes-same f ds (T.with_names ns gs) i)) (fault E7 (f p)) >>= λ a. give (record { names = ns; body = datatypes-same f ds (T.with_names ns gs) i })))
      (alike-then (same-test itself (fault E7 p)) (λ a. alike-give (record { names = ns; body = datatype_envs ds (T.with_names ns gs) }))))

  pub same-added : (p : P) (S R : Sig N) → AreSame scope f (add scope p S R) (add scope (f p) S R)
  same-added p S R = alike-then (same-test itself (fault N2 p)) (λ a. alike-give (record { names = S.names ++ R.names; body = extend S.body R.body }))

  pub same-signature-named : (p : P) (x : Id) (S : Option (Sig N)) → AreSame scope f (named scope p x S) (named scope (f p) x S)
  same-signature-named p x None = alike-refuse (fault_at N1 p (x ∷ []))
  same-signature-named p x (Some S) = same-renewed-signature scope f S

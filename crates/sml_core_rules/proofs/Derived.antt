-- What is read of type expressions, and of declarations that ask nothing of unknown types, is what the rules derive.
use Rattle.std.specs.Prelude.{◌≡◌, Bool, true, false, List, [], ◌∷◌, Option, Some, None}
use mathlib.Core.Path.{refl, sym, ap, subst, ◌∙◌}
use Rattle.std.proofs.lemmas.Bool.{eqb-true, eq-eqb, false≢true}
use Rattle.sml_lex.specs.declared.fault.Code.{Code}
use Rattle.sml_lex.specs.Faults.{Fault}
use Rattle.sml_tree.specs.Trees.{Id, LongId}
use Rattle.sml_tree.specs.Names.{LongName}
use Rattle.sml_tree.specs.Types.{Ty, Tys, TyFields, ty_variable, ty_row, ty_tuple, ty_constructor, ty_misapplied, ty_arrow, ty_bracket, no_ty, and_ty, ty_field, no_ty_field, and_ty_field}
use Rattle.sml_tree.specs.Expressions.{TypBind, ConBind, DatBind, ExnBind, new_exception, exception_copy}
use Rattle.sml_objects.specs.Maps.{Map, lookup, put}
use Rattle.sml_objects.specs.Objects.{MlType, MlTypes, bound, free}
use Rattle.sml_rules.specs.Lookups.{Found, found, no_path, no_entry}
use Rattle.sml_rules.specs.Answers.{Answer, refused, accepted}
use Rattle.sml_rules.proofs.Sound.{accepted_same, not_refused}
use Rattle.sml_core_rules.specs.Answers.{◌>>=◌, check, need}
use Rattle.sml_core_rules.specs.Objects.{Env, Value, TyStr, Status, variable, constructor, exception, overloaded, extend}
use Rattle.sml_core_rules.specs.Lookups.{value_at}
use Rattle.sml_core_rules.specs.Types.{Fields, put_field, variable_type, read_ty, read_tys, read_fields}
use Rattle.sml_core_rules.specs.Datatypes.{Arguments, listed, type_function, read_type_binds, read_argument, read_arguments, read_all_arguments}
use Rattle.sml_core_rules.specs.States.{Scope}
use Rattle.sml_core_rules.specs.Expressions.{is_exception, read_exception, read_exceptions, read_opened}
use Rattle.sml_core_rules.specs.Rules.{Means, MeanAll, MeanFields, BindTypes, MeansArgument, MeanArguments, MeanAllArguments, BindsException, BindExceptions, Opens}

module _ {P : Type 0} where
  same : {X : Type 0} (x y : X) → ◌≡◌ {A = Answer P X} (accepted x) (accepted y) → y ≡ x
  same x y h = sym (accepted_same h)

  bound_by : {X Y : Type 0} (m : Answer P X) (next : X → Answer P Y) (y : Y) → (m >>= next) ≡ accepted y → (x : X) × (m ≡ accepted x) × (next x ≡ accepted y)
  unfolding ◌>>=◌
  bound_by (refused f) next y h = absurd (not_refused (sym h))
  bound_by (accepted x) next y h = (x, refl, h)

  goes_on : {X Y : Type 0} (m : Answer P X) (next : X → Answer P Y) {y : Y} (x : X) → m ≡ accepted x → next x ≡ accepted y → (m >>= next) ≡ accepted y
  unfolding ◌>>=◌
  goes_on m next x h k = ap (λ m. m >>= next) h ∙ k

  gives : {X : Type 0} {x y : X} → y ≡ x → ◌≡◌ {A = Answer P X} (accepted x) (accepted y)
  gives h = ap accepted (sym h)

  checked : (b : Bool) (f : Fault P) (u : Unit {0}) → check b f ≡ accepted u → b ≡ true
  checked true f u h = refl
  checked false f u h = absurd (not_refused (sym h))

  passes : (b : Bool) (f : Fault P) → b ≡ true → check b f ≡ accepted tt
  passes b f h = ap (λ b. check b f) h

  pub needed : {X : Type 0} (c : Code) (p : P) (x : LongId) (r : Found X) (v : X) → need c p x r ≡ accepted v → r ≡ found v
  needed c p x (found w) v h = ap found (accepted_same h)
  needed c p x (no_path s) v h = absurd (not_refused (sym h))
  needed c p x no_entry v h = absurd (not_refused (sym h))

  finds : {X : Type 0} (c : Code) (p : P) (x : LongId) {r : Found X} {v : X} → r ≡ found v → need c p x r ≡ accepted v
  finds c p x h = ap (need c p x) h

exception-true : (w : Status) → is_exception w ≡ true → w ≡ exception
exception-true variable h = absurd (false≢true h)
exception-true (constructor k n) h = absurd (false≢true h)
exception-true exception h = refl
exception-true (overloaded c) h = absurd (false≢true h)

module _ {P N : Type 0} where
  variable-to : (p : P) (o : Option (MlType N)) (t : MlType N) → variable_type p o ≡ accepted t → o ≡ Some t
  variable-to p (Some u) t h = ap Some (accepted_same h)
  variable-to p None t h = absurd (not_refused (sym h))

  variable-from : (p : P) (o : Option (MlType N)) (t : MlType N) → o ≡ Some t → variable_type p o ≡ accepted t
  variable-from p o t h = ap (variable_type p) h

  -- type expressions
  module _ (C : Env N) (vs : Map (MlType N)) where
    mutual
      unfolding read_ty Means

      pub ty-to : (u : Ty P) (t : MlType N) → read_ty C vs u ≡ accepted t → Means C vs u t
      ty-to (ty_variable p x) t h = variable-to p (lookup x vs) t h
      ty-to (ty_row p fs) t h = let a = bound_by _ _ t h in (a.0, fields-to [] fs a.0 a.1, same _ t a.2)
      ty-to (ty_tuple p us) t h = let a = bound_by _ _ t h in (a.0, tys-to us a.0 a.1, same _ t a.2)
      ty-to (ty_constructor p us c) t h =
          let a = bound_by _ _ t h in
          let b = bound_by _ _ t a.2 in
          let d = bound_by _ _ t b.2 in
          (a.0, b.0, tys-to us a.0 a.1, needed _ c.place c.id _ b.0 b.1, eqb-true _ _ (checked _ _ d.0 d.1), same _ t d.2)
      ty-to (ty_misapplied p us c) t h = let a = bound_by _ _ t h in absurd (not_refused (sym a.2))
      ty-to (ty_arrow p u v) t h =
          let a = bound_by _ _ t h in
          let b = bound_by _ _ t a.2 in (a.0, b.0, ty-to u a.0 a.1, ty-to v b.0 b.1, same _ t b.2)
      ty-to (ty_bracket p u) t h = ty-to u t h

      tys-to : (us : Tys P) (ts : MlTypes N) → read_tys C vs us ≡ accepted ts → MeanAll C vs us ts
      tys-to no_ty ts h = same _ ts h
      tys-to (and_ty u us) ts h =
          let a = bound_by _ _ ts h in
          let b = bound_by _ _ ts a.2 in (a.0, b.0, ty-to u a.0 a.1, tys-to us b.0 b.1, same _ ts b.2)

      fields-to : (fs : Fields (MlType N)) (es : TyFields P) (us : Fields (MlType N)) → read_fields C vs fs es ≡ accepted us → MeanFields C vs fs es us
      fields-to fs no_ty_field us h = same _ us h
      fields-to fs (and_ty_field (ty_field l u) es) us h =
          let a = bound_by _ _ us h in (a.0, ty-to u a.0 a.1, fields-to (put_field l.id a.0 fs) es us a.2)

    mutual
      unfolding read_ty Means

      pub ty-from : (u : Ty P) (t : MlType N) → Means C vs u t → read_ty C vs u ≡ accepted t
      ty-from (ty_variable p x) t h = variable-from p (lookup x vs) t h
      ty-from (ty_row p fs) t (us, h, e) = goes_on _ _ us (fields-from [] fs us h) (gives e)
      ty-from (ty_tuple p us) t (ts, h, e) = goes_on _ _ ts (tys-from us ts h) (gives e)
      ty-from (ty_constructor p us c) t (ts, s, h, f, k, e) = goes_on _ _ ts (tys-from us ts h) (goes_on _ _ s (finds _ _ c.id f) (goes_on _ _ tt (passes _ _ (eq-eqb _ _ k)) (gives e)))
      ty-from (ty_misapplied p us c) t h = absurd h
      ty-from (ty_arrow p u v) t (a, b, h, k, e) = goes_on _ _ a (ty-from u a h) (goes_on _ _ b (ty-from v b k) (gives e))
      ty-from (ty_bracket p u) t h = ty-from u t h

      tys-from : (us : Tys P) (ts : MlTypes N) → MeanAll C vs us ts → read_tys C vs us ≡ accepted ts
      tys-from no_ty ts h = gives h
      tys-from (and_ty u us) ts (t, rest, h, k, e) = goes_on _ _ t (ty-from u t h) (goes_on _ _ rest (tys-from us rest k) (gives e))

      fields-from : (fs : Fields (MlType N)) (es : TyFields P) (us : Fields (MlType N)) → MeanFields C vs fs es us → read_fields C vs fs es ≡ accepted us
      fields-from fs no_ty_field us h = gives h
      fields-from fs (and_ty_field (ty_field l u) es) us (t, h, k) = goes_on _ _ t (ty-from u t h) (fields-from (put_field l.id t fs) es us k)

  -- bindings of types
  module _ (C : Env N) where
    pub type-binds-to : (m : Map (TyStr N)) (bs : List (TypBind P)) (ts : Map (TyStr N)) → read_type_binds C m bs ≡ accepted ts → BindTypes C m bs ts
    unfolding read_type_binds BindTypes
    type-binds-to m [] ts h = same _ ts h
    type-binds-to m (b ∷ bs) ts h =
        let a = bound_by _ _ ts h in
        (a.0, ty-to C (listed bound 0 b.variables) b.ty a.0 a.1, type-binds-to (put b.name.id (record { function = type_function b.variables a.0; constructors = [] }) m) bs ts a.2)

    pub type-binds-from : (m : Map (TyStr N)) (bs : List (TypBind P)) (ts : Map (TyStr N)) → BindTypes C m bs ts → read_type_binds C m bs ≡ accepted ts
    unfolding read_type_binds BindTypes
    type-binds-from m [] ts h = gives h
    type-binds-from m (b ∷ bs) ts (t, h, k) =
        goes_on _ _ t (ty-from C (listed bound 0 b.variables) b.ty t h) (type-binds-from (put b.name.id (record { function = type_function b.variables t; constructors = [] }) m) bs ts k)

  -- arguments of constructors
  module _ (C : Env N) (vs : Map (MlType N)) where
    argument-to : (u : Option (Ty P)) (a : Option (MlType N)) → read_argument C vs u ≡ accepted a → MeansArgument C vs u a
    argument-to None a h = same _ a h
    argument-to (Some u) a h = let r = bound_by _ _ a h in (r.0, ty-to C vs u r.0 r.1, same _ a r.2)

    argument-from : (u : Option (Ty P)) (a : Option (MlType N)) → MeansArgument C vs u a → read_argument C vs u ≡ accepted a
    argument-from None a h = gives h
    argument-from (Some u) a (t, h, e) = goes_on _ _ t (ty-from C vs u t h) (gives e)

    arguments-to : (cs : List (ConBind P)) (xs : Arguments N) → read_arguments C vs cs ≡ accepted xs → MeanArguments C vs cs xs
    unfolding read_arguments MeanArguments
    arguments-to [] xs h = same _ xs h
    arguments-to (c ∷ cs) xs h =
        let a = bound_by _ _ xs h in
        let b = bound_by _ _ xs a.2 in (a.0, b.0, argument-to c.argument a.0 a.1, arguments-to cs b.0 b.1, same _ xs b.2)

    arguments-from : (cs : List (ConBind P)) (xs : Arguments N) → MeanArguments C vs cs xs → read_arguments C vs cs ≡ accepted xs
    unfolding read_arguments MeanArguments
    arguments-from [] xs h = gives h
    arguments-from (c ∷ cs) xs (a, rest, h, k, e) = goes_on _ _ a (argument-from c.argument a h) (goes_on _ _ rest (arguments-from cs rest k) (gives e))

  pub all-arguments-to : (C : Env N) (ds : List (DatBind P)) (gs : List (Arguments N)) → read_all_arguments C ds ≡ accepted gs → MeanAllArguments C ds gs
  unfolding read_all_arguments MeanAllArguments
  all-arguments-to C [] gs h = same _ gs h
  all-arguments-to C (d ∷ ds) gs h =
      let a = bound_by _ _ gs h in
      let b = bound_by _ _ gs a.2 in
      (a.0, b.0, arguments-to C (listed free 0 d.variables) d.constructors a.0 a.1, all-arguments-to C ds b.0 b.1, same _ gs b.2)

  pub all-arguments-from : (C : Env N) (ds : List (DatBind P)) (gs : List (Arguments N)) → MeanAllArguments C ds gs → read_all_arguments C ds ≡ accepted gs
  unfolding read_all_arguments MeanAllArguments
  all-arguments-from C [] gs h = gives h
  all-arguments-from C (d ∷ ds) gs (a, rest, h, k, e) =
      goes_on _ _ a (arguments-from C (listed free 0 d.variables) d.constructors a h) (goes_on _ _ rest (all-arguments-from C ds rest k) (gives e))

  -- exceptions
  module _ (scope : Scope N) (C : Env N) (vs : Map (MlType N)) where
    exception-to : (b : ExnBind P) (r : Id × Value N) → read_exception scope C vs b ≡ accepted r → BindsException scope.names C vs b r.0 r.1
    exception-to (new_exception c) r h =
        let a = bound_by _ _ r h in
        let e = same _ r a.2 in (a.0, argument-to C vs c.argument a.0 a.1, ap (λ r. r.0) e, ap (λ r. r.1) e)
    exception-to (exception_copy x y) r h =
        let a = bound_by _ _ r h in
        let b = bound_by _ _ r a.2 in
        let e = same _ r b.2 in (
          subst (λ v. value_at C y.id ≡ found v) (sym (ap (λ r. r.1) e)) (needed _ y.place y.id _ a.0 a.1),
          subst (λ v. v.status ≡ exception) (sym (ap (λ r. r.1) e)) (exception-true _ (checked _ _ b.0 b.1)),
          ap (λ r. r.0) e,
        )

    exception-from : (b : ExnBind P) (r : Id × Value N) → BindsException scope.names C vs b r.0 r.1 → read_exception scope C vs b ≡ accepted r
    exception-from (new_exception c) r (a, h, e, f) = goes_on _ _ a (argument-from C vs c.argument a h) (gives (λ i. (e i, f i)))
    exception-from (exception_copy x y) r (f, k, e) = goes_on _ _ r.1 (finds _ _ y.id f) (goes_on _ _ tt (passes _ _ (ap is_exception k)) (gives (λ i. (e i, r.1))))

    pub exceptions-to : (m : Map (Value N)) (bs : List (ExnBind P)) (xs : Map (Value N)) → read_exceptions scope C vs m bs ≡ accepted xs → BindExceptions scope.names C vs m bs xs
    unfolding BindExceptions
    exceptions-to m [] xs h = same _ xs h
    exceptions-to m (b ∷ bs) xs h =
        let a = bound_by _ _ xs h in (a.0.0, a.0.1, exception-to b a.0 a.1, exceptions-to (put a.0.0 a.0.1 m) bs xs a.2)

    pub exceptions-from : (m : Map (Value N)) (bs : List (ExnBind P)) (xs : Map (Value N)) → BindExceptions scope.names C vs m bs xs → read_exceptions scope C vs m bs ≡ accepted xs
    unfolding BindExceptions
    exceptions-from m [] xs h = gives h
    exceptions-from m (b ∷ bs) xs (x, v, h, k) = goes_on _ _ (x, v) (exception-from b (x, v) h) (exceptions-from (put x v m) bs xs k)

  -- structures that are opened
  module _ (scope : Scope N) (C : Env N) where
    pub opened-to : (F : Env N) (ss : List (LongName P)) (E : Env N) → read_opened scope C F ss ≡ accepted E → Opens C F ss E
    unfolding Opens
    opened-to F [] E h = same _ E h
    opened-to F (s ∷ ss) E h =
        let a = bound_by _ _ E h in (a.0, needed _ s.place s.id _ a.0 a.1, opened-to (extend F a.0) ss E a.2)

    pub opened-from : (F : Env N) (ss : List (LongName P)) (E : Env N) → Opens C F ss E → read_opened scope C F ss ≡ accepted E
    unfolding Opens
    opened-from F [] E h = gives h
    opened-from F (s ∷ ss) E (G, f, k) = goes_on _ _ G (finds _ _ s.id f) (opened-from (extend F G) ss E k)

-- Type expressions, bindings of types, arguments of constructors, exceptions and opened structures: with which codes they are refused.
use Rattle.std.specs.Prelude.{◌≡◌, Bool, true, false, List, [], ◌∷◌, Option, Some, None, nat_eq, length}
use mathlib.Core.Path.{refl}
use Rattle.sml_lex.specs.declared.fault.Code.{Code}
use Rattle.sml_lex.specs.declared.fault.Code.TheVariants.{E1, E2, E3, E4, E5, E8}
use Rattle.sml_lex.specs.Faults.{Fault}
use Rattle.sml_tree.specs.Trees.{LongId}
use Rattle.sml_tree.specs.Names.{LongName}
use Rattle.sml_tree.specs.Types.{Ty, Tys, TyFields, ty_variable, ty_row, ty_tuple, ty_constructor, ty_misapplied, ty_arrow, ty_bracket, no_ty, and_ty, ty_field, no_ty_field, and_ty_field}
use Rattle.sml_tree.specs.Expressions.{TypBind, ConBind, DatBind, ExnBind, new_exception, exception_copy}
use Rattle.sml_objects.specs.Maps.{Map, lookup, put}
use Rattle.sml_objects.specs.Objects.{MlType, bound, free}
use Rattle.sml_rules.specs.Answers.{Answer, refused, accepted, fault}
use Rattle.sml_rules.specs.Lookups.{Found, found, no_path, no_entry}
use Rattle.sml_core_rules.specs.Answers as A
use Rattle.sml_core_rules.specs.Lookups.{type_at, value_at, structure_at}
use Rattle.sml_core_rules.specs.Objects.{Env, Value, TyStr, extend}
use Rattle.sml_core_rules.specs.Types.{Fields, put_field, count_types, variable_type, read_ty, read_tys, read_fields}
use Rattle.sml_core_rules.specs.Datatypes.{listed, type_function, read_type_binds, read_argument, read_arguments, read_all_arguments, arguments_of}
use Rattle.sml_core_rules.specs.Expressions.{is_exception, read_exception, read_exceptions, read_opened}
use Rattle.sml_core_rules.specs.States.{Scope}
use Rattle.sml_refusals.specs.Codes.{type_code}
use Rattle.sml_refusals.proofs.Refusing.{CodeOf, code-then}

module _ (D : Code → Bool) where
  pub code-need : {P X : Type 0} (c : Code) (p : P) (x : LongId) (r : Found X) → D c ≡ true → D E3 ≡ true → CodeOf D (A.need c p x r)
  code-need c p x (found v) h k = tt
  code-need c p x (no_path s) h k = k
  code-need c p x no_entry h k = h

  pub code-check : {P : Type 0} (b : Bool) (f : Fault P) → D f.code ≡ true → CodeOf D (A.check b f)
  code-check true f h = tt
  code-check false f h = h

  pub codes-opened : {P N : Type 0} (scope : Scope N) → D E3 ≡ true → (C E : Env N) (ss : List (LongName P)) → CodeOf D (read_opened scope C E ss)
  codes-opened scope h C E [] = tt
  codes-opened scope h C E (s ∷ ss) = code-then D _ _ (code-need E3 s.place s.id (structure_at C s.id) h h) (λ F. codes-opened scope h C (extend E F) ss)

  module _ (inside : (c : Code) → type_code c ≡ true → D c ≡ true) {P N : Type 0} where
    module _ (C : Env N) (vs : Map (MlType N)) where
      code-variable : (p : P) (t : Option (MlType N)) → CodeOf D (variable_type p t)
      code-variable p (Some t) = tt
      code-variable p None = inside E8 refl

      mutual
        unfolding read_ty read_tys read_fields

        pub codes-ty : (t : Ty P) → CodeOf D (read_ty C vs t)
        codes-ty (ty_variable p x) = code-variable p (lookup x vs)
        codes-ty (ty_row p fs) = code-then D _ _ (codes-fields [] fs) (λ r. tt)
        codes-ty (ty_tuple p us) = code-then D _ _ (codes-tys us) (λ ts. tt)
        codes-ty (ty_constructor p us c) =
            code-then D _ _ (codes-tys us) (λ ts. code-then D _ _ (code-need E2 c.place c.id (type_at C c.id) (inside E2 refl) (inside E3 refl)) (λ t.
            code-then D _ _ (code-check (nat_eq (length t.function.variables) (count_types ts)) (fault E4 c.place) (inside E4 refl)) (λ u. tt)))
        codes-ty (ty_misapplied p us c) = code-then D _ _ (codes-tys us) (λ ts. inside E4 refl)
        codes-ty (ty_arrow p u v) = code-then D _ _ (codes-ty u) (λ a. code-then D _ _ (codes-ty v) (λ b. tt))
        codes-ty (ty_bracket p u) = codes-ty u

        codes-tys : (ts : Tys P) → CodeOf D (read_tys C vs ts)
        codes-tys no_ty = tt
        codes-tys (and_ty u us) = code-then D _ _ (codes-ty u) (λ t. code-then D _ _ (codes-tys us) (λ ts. tt))

        codes-fields : (fs : Fields (MlType N)) (us : TyFields P) → CodeOf D (read_fields C vs fs us)
        codes-fields fs no_ty_field = tt
        codes-fields fs (and_ty_field (ty_field l u) us) = code-then D _ _ (codes-ty u) (λ t. codes-fields (put_field l.id t fs) us)

    pub codes-type-binds : (C : Env N) (m : Map (TyStr N)) (bs : List (TypBind P)) → CodeOf D (read_type_binds C m bs)
    unfolding read_type_binds
    codes-type-binds C m [] = tt
    codes-type-binds C m (b ∷ bs) =
        code-then D _ _ (codes-ty C (listed bound 0 b.variables) b.ty) (λ t.
        codes-type-binds C (put b.name.id (record { function = type_function b.variables t; constructors = [] }) m) bs)

    pub codes-argument : (C : Env N) (vs : Map (MlType N)) (t : Option (Ty P)) → CodeOf D (read_argument C vs t)
    codes-argument C vs None = tt
    codes-argument C vs (Some t) = code-then D _ _ (codes-ty C vs t) (λ u. tt)

    codes-arguments : (C : Env N) (vs : Map (MlType N)) (cs : List (ConBind P)) → CodeOf D (read_arguments C vs cs)
    unfolding read_arguments
    codes-arguments C vs [] = tt
    codes-arguments C vs (c ∷ cs) = code-then D _ _ (codes-argument C vs c.argument) (λ t. code-then D _ _ (codes-arguments C vs cs) (λ ts. tt))

    codes-all-arguments : (C : Env N) (ds : List (DatBind P)) → CodeOf D (read_all_arguments C ds)
    unfolding read_all_arguments
    codes-all-arguments C [] = tt
    codes-all-arguments C (d ∷ ds) =
        code-then D _ _ (codes-arguments C (listed free 0 d.variables) d.constructors) (λ a. code-then D _ _ (codes-all-arguments C ds) (λ gs. tt))

    pub codes-datatypes : (C : Env N) (ds : List (DatBind P)) (ns : List N) → CodeOf D (arguments_of C ds ns)
    codes-datatypes C ds ns = codes-all-arguments _ ds

    module _ (scope : Scope N) (unbound : D E1 ≡ true) (other : D E5 ≡ true) where
      codes-exception : (C : Env N) (vs : Map (MlType N)) (b : ExnBind P) → CodeOf D (read_exception scope C vs b)
      codes-exception C vs (new_exception c) = code-then D _ _ (codes-argument C vs c.argument) (λ a. tt)
      codes-exception C vs (exception_copy x y) =
          code-then D _ _ (code-need E1 y.place y.id (value_at C y.id) unbound (inside E3 refl)) (λ v.
          code-then D _ _ (code-check (is_exception v.status) (fault E5 y.place) other) (λ u. tt))

      pub codes-exceptions : (C : Env N) (vs : Map (MlType N)) (m : Map (Value N)) (bs : List (ExnBind P)) → CodeOf D (read_exceptions scope C vs m bs)
      codes-exceptions C vs m [] = tt
      codes-exceptions C vs m (b ∷ bs) = code-then D _ _ (codes-exception C vs b) (λ e. codes-exceptions C vs (put e.0 e.1 m) bs)

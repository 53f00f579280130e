-- Signature expressions and specifications (the Definition, section 5.7, rules 62 to 65 and 68 to 84).
-- The names of a signature stand in the order in which the text makes them.
use Rattle.std.specs.Prelude.{◌≡◌, ◌⊎◌, ℕ, suc, Bool, true, false, ◌&&◌, ◌||◌, not, is_some, cond, List, [], ◌∷◌, ◌++◌, map, length, Option, Some, None}
use Rattle.sml_lex.specs.declared.fault.Code.TheVariants.{E2, E3, E4, E7, N1, N2, N3, N4, N5, N6, N7}
use Rattle.sml_tree.specs.Trees.{Id, LongId}
use Rattle.sml_tree.specs.Names.{Name, LongName}
use Rattle.sml_tree.specs.Types.{Ty, Tys, ty_variable, ty_row, ty_tuple, ty_constructor, ty_misapplied, ty_arrow, ty_bracket, no_ty, and_ty}
use Rattle.sml_tree.specs.Expressions.{ConBind, DatBind}
use Rattle.sml_tree.specs.Signatures.{WhereType, ValDesc, TypDesc, SigExp, Spec, Specs, StrDescs, sig_end, sig_name, where_type, val_spec, type_spec, eqtype_spec, datatype_spec, copy_spec, exception_spec, structure_spec, include_spec, sharing_types, sharing_structures, no_spec, and_spec, str_desc, no_str_desc, and_str_desc}
use Rattle.sml_objects.specs.Equality.{has_equality}
use Rattle.sml_objects.specs.Maps.{Map, lookup, put}
use Rattle.sml_objects.specs.Names.{Attributes}
use Rattle.sml_objects.specs.Objects.{MlType, bound, free, mono}
use Rattle.sml_rules.specs.Answers.{Answer, fault, fault_at}
use Rattle.sml_rules.specs.Lookups.{found}
use Rattle.sml_core_rules.specs.Answers as A
use Rattle.sml_core_rules.specs.Objects.{Env, Structures, Value, TyStr, Sig, variable, exception, maps, no_structure, and_structure, structures, types, values, empty, extend, of_types, of_values, find_structure, put_structure}
use Rattle.sml_core_rules.specs.Lookups.{type_at, structure_at, is_listed, is_same}
use Rattle.sml_core_rules.specs.Types.{read_ty}
use Rattle.sml_core_rules.specs.Closing.{ty_variables}
use Rattle.sml_core_rules.specs.Datatypes.{IsSmall, AreSmall, is_equality, listed, type_function, name_function, constructor_scheme, constructor_values, datatype_envs, read_argument}
use Rattle.sml_core_rules.specs.Datatypes as T
use Rattle.sml_core_rules.specs.Expressions.{exception_type}
use Rattle.sml_core_rules.specs.States.{Scope}
use Rattle.sml_core_rules.specs.Scripts.{Script, give, refuse, makes_datatypes, ◌>>=◌, look, need, test, new_names}
use Rattle.sml_module_rules.specs.Lines.{lines, IsSmallEnv}
use Rattle.sml_module_rules.specs.Realising.{realise_env, is_same_name, admits_function, no_function, with_function}
use Rattle.sml_core_rules.specs.Objects.{identifiers}
use Rattle.sml_module_rules.specs.Bound.{constructors_in, inside, bound_name, function_at, name_at, joined_attributes, for_both, without, HaveSameConstructors, AreEqualFunctions, common_paths}
use Rattle.sml_module_rules.specs.Matching.{renewed_signature}
use Rattle.sml_rules.specs.Matching.{Realisation}

abbrev pub no_names : {N : Type 0} → Env N → Sig N
no_names E = record { names = []; body = E }

-- an identifier of one map that the other has too

abbrev pub is_again : {X : Type 0} → Map X → Map X → Bool
is_again m [] = false
is_again m (e ∷ es) = is_some (lookup e.0 m) || is_again m es

abbrev pub is_structure_again : {T V : Type 0} → Structures T V → Structures T V → Bool
is_structure_again ss no_structure = false
is_structure_again ss (and_structure s E rs) = is_some (find_structure s ss) || is_structure_again ss rs

-- the second environment specifies what the first does
abbrev pub specifies_again : {N : Type 0} → Env N → Env N → Bool
specifies_again E F = is_structure_again (structures E) (structures F) || (is_again (types E) (types F) || is_again (values E) (values F))

-- each variable once, in order
abbrev pub once : List Id → List Id → List Id
once seen [] = []
once seen (x ∷ xs) = cond (is_listed x seen) (once seen xs) (x ∷ once (x ∷ seen) xs)

-- the variables, each with a free variable, from 0 on
abbrev pub standing : {N : Type 0} → ℕ → List Id → Map (MlType N)
standing k [] = []
standing k (x ∷ xs) = (x, free k) ∷ standing (suc k) xs

-- the type is this variable, perhaps in brackets
abbrev pub is_variable : {P : Type 0} → Id → Ty P → Bool
is_variable x (ty_variable p y) = is_same y x
is_variable x (ty_row p fs) = false
is_variable x (ty_tuple p ts) = false
is_variable x (ty_constructor p ts c) = false
is_variable x (ty_misapplied p ts c) = false
is_variable x (ty_arrow p t u) = false
is_variable x (ty_bracket p t) = is_variable x t

abbrev pub are_variables : {P : Type 0} → List (Name P) → Tys P → Bool
are_variables [] no_ty = true
are_variables [] (and_ty t ts) = false
are_variables (x ∷ xs) no_ty = false
are_variables (x ∷ xs) (and_ty t ts) = is_variable x.id t && are_variables xs ts

-- the type constructor that is applied to these variables in order, if the type is one, perhaps in brackets
abbrev pub applied_constructor : {P : Type 0} → List (Name P) → Ty P → Option (LongName P)
applied_constructor xs (ty_variable p y) = None
applied_constructor xs (ty_row p fs) = None
applied_constructor xs (ty_tuple p ts) = None
applied_constructor xs (ty_constructor p ts c) = cond (are_variables xs ts) (Some c) None
applied_constructor xs (ty_misapplied p ts c) = None
applied_constructor xs (ty_arrow p t u) = None
applied_constructor xs (ty_bracket p t) = applied_constructor xs t

-- the type constructor has constructors of these identifiers
abbrev pub HasConstructors : {P N : Type 0} → Env N → List Id → Option (LongName P) → Type 0
HasConstructors C cs None = ⊥
HasConstructors {N = N} C cs (Some c) = (t : TyStr N) × (type_at C c.id ≡ found t) × (identifiers t.constructors ≡ cs)

module _ {P N : Type 0} where
  -- values, whose schemes bind all variables of their types
  unfoldable pub read_values : Env N → Map (Value N) → List (ValDesc P) → Answer P (Map (Value N))
  read_values C m [] = A.give m
  read_values C m (d ∷ ds) =
      let xs : List Id = once [] (ty_variables d.ty) in
      A.◌>>=◌ (read_ty C (standing 0 xs) d.ty) (λ t. read_values C (put d.name.id (record { scheme = constructor_scheme (map is_equality xs) t; status = variable }) m) ds)

  module _ (scope : Scope N) where
    unfoldable pub read_exceptions : Env N → Map (Value N) → List (ConBind P) → Answer P (Map (Value N))
    read_exceptions C m [] = A.give m
    read_exceptions C m (c ∷ cs) =
        A.◌>>=◌ (read_argument C [] c.argument) (λ a. read_exceptions C (put c.name.id (record { scheme = mono (exception_type scope.names a); status = exception }) m) cs)

    abbrev pub need_name : P → Option N → Script P N N
    need_name p (Some n) = give n
    need_name p None = refuse (fault N3 p)

    -- sharing

    -- Two bound names become one, which admits equality if one of them does (rule 78). Where both have constructors, these have the
    -- same identifiers.
    abbrev pub join : P → Sig N → N → N → Script P N (Sig N)
    join p S n m = cond (is_same_name scope.names n m) (give S) (do
      a ← test ((scope.names.attributes n).arity ≡ (scope.names.attributes m).arity) (fault N6 p)
      ks ← new_names (joined_attributes scope n m ∷ [])
      b ← test (HaveSameConstructors scope n m S) (fault N7 p)
      give (record { names = without scope n m S.names ++ ks; body = realise_env (for_both scope n m ks) S.body }))

    -- two type constructors are shared; equal type functions are passed over, and others have to be bound names

    abbrev pub share_named : P → Sig N → LongId → LongId → Option N → Option N → Script P N (Sig N)
    share_named p S x y (Some n) (Some m) = join p S n m
    share_named p S x y (Some n) None = do
      a ← test (AreEqualFunctions (function_at S x) (function_at S y)) (fault N3 p)
      give S
    share_named p S x y None m = do
      a ← test (AreEqualFunctions (function_at S x) (function_at S y)) (fault N3 p)
      give S

    abbrev pub share : P → Sig N → LongId → LongId → Script P N (Sig N)
    share p S x y = share_named p S x y (name_at scope S x) (name_at scope S y)

    -- `sharing type`: each is a bound name, and each behind the first is shared with it

    unfoldable pub need_names : Sig N → List (LongName P) → Script P N (Unit {0})
    need_names S [] = give tt
    need_names S (x ∷ xs) = do
      t ← need E2 x.place x.id (type_at S.body x.id)
      n ← need_name x.place (bound_name scope S.names t.function)
      need_names S xs

    unfoldable pub share_others : Sig N → LongId → List (LongName P) → Script P N (Sig N)
    share_others S x [] = give S
    share_others S x (y ∷ ys) = do
      R ← share y.place S x y.id
      share_others R x ys

    abbrev pub share_types : Sig N → List (LongName P) → Script P N (Sig N)
    share_types S [] = give S
    share_types S (x ∷ xs) = do
      a ← need_names S (x ∷ xs)
      share_others S x.id xs

    -- `sharing` of structures: pair by pair, and by path, the type constructors that both have

    unfoldable pub need_structures : Sig N → List (LongName P) → Script P N (Unit {0})
    need_structures S [] = give tt
    need_structures S (x ∷ xs) = do
      E ← need E3 x.place x.id (structure_at S.body x.id)
      need_structures S xs

    unfoldable pub share_paths : P → Sig N → LongId → LongId → Map LongId → Script P N (Sig N)
    share_paths p S x y [] = give S
    share_paths p S x y (q ∷ qs) = cond (is_some (function_at S (inside y q.1))) (do
      R ← share p S (inside x q.1) (inside y q.1)
      share_paths p R x y qs) (share_paths p S x y qs)

    unfoldable pub share_with : Sig N → LongId → List (LongName P) → Script P N (Sig N)
    share_with S x [] = give S
    share_with S x (y ∷ ys) = do
      R ← share_paths y.place S x y.id (common_paths (structure_at S.body x))
      share_with R x ys

    unfoldable pub share_pairs : Sig N → List (LongName P) → Script P N (Sig N)
    share_pairs S [] = give S
    share_pairs S (x ∷ xs) = do
      R ← share_with S x.id xs
      share_pairs R xs

    abbrev pub share_structures : Sig N → List (LongName P) → Script P N (Sig N)
    share_structures S xs = do
      a ← need_structures S xs
      share_pairs S xs

    -- the name has no constructors, or those of the type constructor that it is to be
    abbrev pub KeepsConstructors : Env N → N → Sig N → Option (LongName P) → Type 0
    KeepsConstructors C n S c =
        let cs : List Id = identifiers (constructors_in scope.names n (lines [] S.body)) in (cs ≡ []) ⊎ HasConstructors C cs c

    -- the signature where a bound name is a type function
    abbrev pub realise_name : Env N → Sig N → WhereType P → N → Realisation N → Script P N (Sig N)
    realise_name C S w n φ = do
      a ← test (KeepsConstructors C n S (applied_constructor w.variables w.ty)) (fault N5 w.constructor.place)
      b ← test (IsSmallEnv (realise_env φ S.body)) (fault E7 w.constructor.place)
      give (record { names = without scope n n S.names; body = realise_env φ S.body })

    -- `where type` (rule 64)
    abbrev pub read_where : Env N → Sig N → WhereType P → Script P N (Sig N)
    read_where C S w = do
      t ← need E2 w.constructor.place w.constructor.id (type_at S.body w.constructor.id)
      u ← look (read_ty C (listed bound 0 w.variables) w.ty)
      a ← test (length t.function.variables ≡ length w.variables) (fault E4 w.constructor.place)
      n ← need_name w.constructor.place (bound_name scope S.names t.function)
      b ← test ((not (has_equality scope.names n) || admits_function scope.names (type_function w.variables u)) ≡ true) (fault N4 w.constructor.place)
      realise_name C S w n (with_function scope.names n (type_function w.variables u) (no_function scope.names))

    -- types without right sides, which admit equality or not (rules 69 and 70)

    abbrev pub attributes_of : Bool → List (TypDesc P) → List Attributes
    attributes_of e [] = []
    attributes_of e (d ∷ ds) = record { maker = scope.unit; arity = length d.variables; equality = e; constructors = [] } ∷ attributes_of e ds

    abbrev pub described : Map (TyStr N) → List (TypDesc P) → List N → Map (TyStr N)
    described m [] ns = m
    described m (d ∷ ds) [] = m
    described m (d ∷ ds) (n ∷ ns) = described (put d.name.id (record { function = name_function n (length d.variables); constructors = [] }) m) ds ns

    abbrev pub read_types : P → Bool → List (TypDesc P) → Script P N (Sig N)
    read_types p e ds = do
      ns ← new_names (attributes_of e ds)
      a ← test (IsSmallEnv (of_types (described [] ds ns))) (fault E7 p)
      give (record { names = ns; body = of_types (described [] ds ns) })

    -- datatypes (rule 71)
    abbrev pub read_datatypes : P → Env N → List (DatBind P) → Script P N (Sig N)
    read_datatypes p C ds = makes_datatypes C ds (λ ns gs. do
      a ← test (IsSmallEnv (datatype_envs ds (T.with_names ns gs))) (fault E7 p)
      give (record { names = ns; body = datatype_envs ds (T.with_names ns gs) }))

    -- what a specification gives behind those before it, which may not specify the same (section 3.5)
    abbrev pub add : P → Sig N → Sig N → Script P N (Sig N)
    add p S R = do
      a ← test (specifies_again S.body R.body ≡ false) (fault N2 p)
      give (record { names = S.names ++ R.names; body = extend S.body R.body })

    -- the signature of an identifier, with new names (rule 63)
    abbrev pub named : P → Id → Option (Sig N) → Script P N (Sig N)
    named p x None = refuse (fault_at N1 p (x ∷ []))
    named p x (Some S) = renewed_signature scope S

    -- G has the signatures of the basis, C what is seen: the environment of the basis, and the specifications so far of each
    -- `sig .. end` around.
    module _ (G : Map (Sig N)) where
      unfoldable mutual
        pub read_sig : Env N → SigExp P → Script P N (Sig N)
        read_sig C (sig_end p qs) = read_specs C (no_names empty) qs
        read_sig C (sig_name p x) = named p x (lookup x G)
        read_sig C (where_type p e w) = do
          S ← read_sig C e
          read_where C S w

        -- each sees those before it
        pub read_specs : Env N → Sig N → Specs P → Script P N (Sig N)
        read_specs C S no_spec = give S
        read_specs C S (and_spec q qs) = do
          R ← read_spec C S q
          read_specs C R qs

        pub read_spec : Env N → Sig N → Spec P → Script P N (Sig N)
        read_spec C S (val_spec p ds) = do
          m ← look (read_values (extend C S.body) [] ds)
          a ← test (AreSmall (λ v. v.scheme) m) (fault E7 p)
          add p S (no_names (of_values m))
        read_spec C S (type_spec p ds) = do
          R ← read_types p false ds
          add p S R
        read_spec C S (eqtype_spec p ds) = do
          R ← read_types p true ds
          add p S R
        read_spec C S (datatype_spec p ds) = do
          R ← read_datatypes p (extend C S.body) ds
          add p S R
        read_spec C S (copy_spec p x c) = do
          t ← need E2 c.place c.id (type_at (extend C S.body) c.id)
          add p S (no_names (maps no_structure ((x.id, t) ∷ []) (constructor_values t.constructors)))
        read_spec C S (exception_spec p cs) = do
          m ← look (read_exceptions (extend C S.body) [] cs)
          a ← test (AreSmall (λ v. v.scheme) m) (fault E7 p)
          add p S (no_names (of_values m))
        read_spec C S (structure_spec p ds) = do
          R ← read_descs (extend C S.body) (no_names empty) ds
          add p S R
        read_spec C S (include_spec p e) = do
          R ← read_sig (extend C S.body) e
          add p S R
        read_spec C S (sharing_types p xs) = share_types S xs
        read_spec C S (sharing_structures p xs) = share_structures S xs

        -- structures, which see none of each other
        pub read_descs : Env N → Sig N → StrDescs P → Script P N (Sig N)
        read_descs C S no_str_desc = give S
        read_descs C S (and_str_desc (str_desc x e) ds) = do
          R ← read_sig C e
          read_descs C (record { names = S.names ++ R.names; body = maps (put_structure x.id R.body (structures S.body)) [] [] }) ds

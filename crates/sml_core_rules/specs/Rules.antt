-- The rules of the core, `C ⊢ phrase ⇒ object` (the Definition, section 4.10, rules 1 to 49; `abstype` is left out). Types are
-- guessed: there is no unknown, no demand and no order of solving. Rules look at no place.
use Rattle.std.specs.Prelude.{◌≡◌, ◌⊎◌, ℕ, Bool, true, false, ◌&&◌, ◌||◌, not, List, [], ◌∷◌, ◌++◌, map, length, Option, Some, None}
use Rattle.sml_tree.specs.Trees.{Id}
use Rattle.sml_tree.specs.Withtype.{dat_replaced}
use Rattle.sml_tree.specs.Names.{LongName}
use Rattle.sml_tree.specs.Types.{Ty, Tys, TyFields, ty_variable, ty_row, ty_tuple, ty_constructor, ty_misapplied, ty_arrow, ty_bracket, no_ty, and_ty, ty_field, no_ty_field, and_ty_field}
use Rattle.sml_tree.specs.Patterns.{Pat, Pats, PatFields, wildcard, pat_constant, pat_name, pat_row, pat_tuple, pat_bracket, pat_apply, pat_typed, pat_as, no_pat, and_pat, pat_field, no_pat_field, and_pat_field}
use Rattle.sml_tree.specs.Expressions.{Exp, Exps, Fields, Rules, Dec, Decs, ValBinds, TypBind, ConBind, DatBind, ExnBind, constant, name, row, tuple, let_in, bracket, apply, typed, handle, raise, fn, no_exp, and_exp, field, no_field, and_field, rule, no_rule, and_rule, val_dec, type_dec, datatype_dec, datatype_with, datatype_copy, exception_dec, local_dec, sequence_dec, open_dec, fixity_dec, no_dec, and_dec, bind, no_bind, and_bind, new_exception, exception_copy}
use Rattle.sml_objects.specs.Appearance.{Stands}
use Rattle.sml_objects.specs.Maps.{Map, lookup, put}
use Rattle.sml_objects.specs.Names.{Naming, exn}
use Rattle.sml_objects.specs.Objects.{MlType, MlTypes, bound, free, no_type, and_type, arrow_of, named, mono, tuple_of}
use Rattle.sml_objects.specs.Types.{applied}
use Rattle.sml_layers.specs.Rows.{HasFields}
use Rattle.sml_layers.specs.Worlds.{finite}
use Rattle.sml_rules.specs.Lookups.{found}
use Rattle.sml_core_rules.specs.Objects.{Env, Value, TyStr, variable, exception, of_types, of_values, maps, no_structure, empty, extend}
use Rattle.sml_core_rules.specs.Lookups.{value_at, type_at, structure_at}
use Rattle.sml_core_rules.specs.Types as T
use Rattle.sml_core_rules.specs.Types.{put_field, row_of, count_types}
use Rattle.sml_core_rules.specs.Values.{constructs, is_constructor, is_arrow}
use Rattle.sml_core_rules.specs.Patterns.{Bindings, constant_type, is_empty, is_variable_alone}
use Rattle.sml_core_rules.specs.Closing.{is_expansive, is_function, unguarded}
use Rattle.sml_core_rules.specs.Datatypes.{Arguments, AreNew, AdmitAsManyAsCan, is_equality, listed, type_function, with_names, datatype_types, datatype_envs, constructor_values}
use Rattle.sml_core_rules.specs.Expressions.{Bound, bounds, bound_values, exception_type, not_in_scope}
use Rattle.sml_core_rules.specs.Contexts.{Context, plus, plus_names, with_explicit, IsWithin, context_variables, type_variables, IsType, IsInstance, IsClosing}

-- Type expressions (rules 44 to 49). The types in `vs` stand for the type variables that are in scope. Of fields, `fs` has the
-- fields before these.
module _ {P N : Type 0} (C : Env N) (vs : Map (MlType N)) where
  unfoldable mutual
    pub Means : Ty P → MlType N → Type 0
    Means (ty_variable p x) t = lookup x vs ≡ Some t
    Means (ty_row p fs) t = (us : T.Fields (MlType N)) × MeanFields [] fs us × (t ≡ row_of us)
    Means (ty_tuple p us) t = (ts : MlTypes N) × MeanAll us ts × (t ≡ tuple_of ts)
    Means (ty_constructor p us c) t =
        (ts : MlTypes N) × (s : TyStr N) × MeanAll us ts × (type_at C c.id ≡ found s) × (length s.function.variables ≡ count_types ts)
        × (t ≡ applied s.function ts)
    Means (ty_misapplied p us c) t = ⊥
    Means (ty_arrow p u v) t = (a : MlType N) × (b : MlType N) × Means u a × Means v b × (t ≡ arrow_of a b)
    Means (ty_bracket p u) t = Means u t

    pub MeanAll : Tys P → MlTypes N → Type 0
    MeanAll no_ty ts = ts ≡ no_type
    MeanAll (and_ty u us) ts = (t : MlType N) × (rest : MlTypes N) × Means u t × MeanAll us rest × (ts ≡ and_type t rest)

    pub MeanFields : T.Fields (MlType N) → TyFields P → T.Fields (MlType N) → Type 0
    MeanFields fs no_ty_field us = us ≡ fs
    MeanFields fs (and_ty_field (ty_field l u) es) us = (t : MlType N) × Means u t × MeanFields (put_field l.id t fs) es us

-- the type that is asked for, if there is one
abbrev pub MeansIfAsked : {P N : Type 0} → Env N → Map (MlType N) → Option (Ty P) → MlType N → Type 0
MeansIfAsked C vs None t = Unit {0}
MeansIfAsked C vs (Some ty) t = Means C vs ty t

-- Bindings of types (rule 27), which see none of each other.
unfoldable pub BindTypes : {P N : Type 0} → Env N → Map (TyStr N) → List (TypBind P) → Map (TyStr N) → Type 0
BindTypes C m [] ts = ts ≡ m
BindTypes {N = N} C m (b ∷ bs) ts =
    (t : MlType N) × Means C (listed bound 0 b.variables) b.ty t × BindTypes C (put b.name.id (record { function = type_function b.variables t; constructors = [] }) m) bs ts

-- Bindings of datatypes (rules 28 and 29): the types of the constructors' arguments, in which the parameters are free variables
-- numbered from 0 on.

abbrev pub MeansArgument : {P N : Type 0} → Env N → Map (MlType N) → Option (Ty P) → Option (MlType N) → Type 0
MeansArgument C vs None a = a ≡ None
MeansArgument {N = N} C vs (Some ty) a = (t : MlType N) × Means C vs ty t × (a ≡ Some t)

unfoldable pub MeanArguments : {P N : Type 0} → Env N → Map (MlType N) → List (ConBind P) → Arguments N → Type 0
MeanArguments C vs [] xs = xs ≡ []
MeanArguments {N = N} C vs (c ∷ cs) xs =
    (a : Option (MlType N)) × (rest : Arguments N) × MeansArgument C vs c.argument a × MeanArguments C vs cs rest × (xs ≡ (c.name.id, a) ∷ rest)

unfoldable pub MeanAllArguments : {P N : Type 0} → Env N → List (DatBind P) → List (Arguments N) → Type 0
MeanAllArguments C [] gs = gs ≡ []
MeanAllArguments {N = N} C (d ∷ ds) gs =
    (a : Arguments N) × (rest : List (Arguments N)) × MeanArguments C (listed free 0 d.variables) d.constructors a × MeanAllArguments C ds rest × (gs ≡ a ∷ rest)

-- Exceptions (rules 30 and 31)

abbrev pub BindsException : {P N : Type 0} → Naming N → Env N → Map (MlType N) → ExnBind P → Id → Value N → Type 0
BindsException {N = N} names C vs (new_exception c) x v =
    (a : Option (MlType N)) × MeansArgument C vs c.argument a × (x ≡ c.name.id) × (v ≡ record { scheme = mono (exception_type names a); status = exception })
BindsException names C vs (exception_copy y z) x v = (value_at C z.id ≡ found v) × (v.status ≡ exception) × (x ≡ y.id)

unfoldable pub BindExceptions : {P N : Type 0} → Naming N → Env N → Map (MlType N) → Map (Value N) → List (ExnBind P) → Map (Value N) → Type 0
BindExceptions names C vs m [] xs = xs ≡ m
BindExceptions {N = N} names C vs m (b ∷ bs) xs =
    (x : Id) × (v : Value N) × BindsException names C vs b x v × BindExceptions names C vs (put x v m) bs xs

-- the structures that are opened, joined in their order (rule 22)
unfoldable pub Opens : {P N : Type 0} → Env N → Env N → List (LongName P) → Env N → Type 0
Opens C F [] E = E ≡ F
Opens {N = N} C F (s ∷ ss) E = (G : Env N) × (structure_at C s.id ≡ found G) × Opens C (extend F G) ss E

-- no variable is bound twice
abbrev pub AreApart : {N : Type 0} → Bindings N → Type 0
AreApart [] = Unit {0}
AreApart (b ∷ bs) = (lookup b.0 bs ≡ None) × AreApart bs

-- the types of what is bound mention names of the context alone
abbrev pub AreWithin : {N : Type 0} → Context N → Bindings N → Type 0
AreWithin C [] = Unit {0}
AreWithin C (b ∷ bs) = IsWithin C b.1 × AreWithin C bs

abbrev pub binding_of : {N : Type 0} → Bound N → Id × MlType N
binding_of b = (b.id, b.type)

module _ {N : Type 0} (names : Naming N) where
  -- a row of just these fields, or of others too
  abbrev pub IsRow : Bool → T.Fields (MlType N) → MlType N → Type 0
  IsRow false fs t = t ≡ row_of fs
  IsRow true fs t = IsType names t × HasFields N finite t fs

  abbrev pub BindDatatypes : {P : Type 0} → Context N → List (DatBind P) → Env N → Type 0
  BindDatatypes C ds E =
      (ns : List N) × (gs : List (Arguments N)) × AreNew names C.names ds ns × MeanAllArguments (extend C.env (of_types (datatype_types [] ds ns))) ds gs
      × AdmitAsManyAsCan names (with_names ns gs) × (E ≡ datatype_envs ds (with_names ns gs))

  -- Which type variables are equality variables is given.
  module _ (equality : ℕ → Bool) where
    -- Patterns (rules 32 to 43), with what they bind, in its order.
    module _ {P : Type 0} (C : Context N) (is_rec : Bool) where
      abbrev pub is_variable : LongName P → Bool
      is_variable x = is_empty x.id.path && is_variable_alone is_rec C.env x.id.last

      -- an identifier that is a constructor or an exception, with an argument or without one
      abbrev pub Constructs : LongName P → Bool → MlType N → Type 0
      Constructs x b t =
          (v : Value N) × (value_at C.env x.id ≡ found v) × (constructs v.status ≡ true) × (is_arrow v.scheme.body ≡ b) × IsInstance names equality v t

      unfoldable mutual
        pub Fits : Pat P → MlType N → Bindings N → Type 0
        Fits (wildcard p) t bs = IsType names t × (bs ≡ [])
        Fits (pat_constant p c) t bs = (t ≡ constant_type names c.kind) × (bs ≡ [])
        Fits (pat_name p x) t bs =
            ((is_variable x ≡ true) × IsType names t × (bs ≡ (x.id.last, t) ∷ []))
            ⊎ ((is_variable x ≡ false) × Constructs x false t × (bs ≡ []))
        Fits (pat_row p fs b) t bs = (us : T.Fields (MlType N)) × FitFields [] fs us bs × IsRow b us t
        Fits (pat_tuple p qs) t bs = (ts : MlTypes N) × FitAll qs ts bs × (t ≡ tuple_of ts)
        Fits (pat_bracket p q) t bs = Fits q t bs
        Fits (pat_apply p x q) t bs = (a : MlType N) × Constructs x true (arrow_of a t) × Fits q a bs
        Fits (pat_typed p q ty) t bs = Fits q t bs × Means C.env C.explicit ty t
        Fits (pat_as p x ty q) t bs =
            (cs : Bindings N) × ((is_rec || not (is_constructor C.env x.id)) ≡ true) × MeansIfAsked C.env C.explicit ty t × Fits q t cs
            × (bs ≡ (x.id, t) ∷ cs)

        pub FitAll : Pats P → MlTypes N → Bindings N → Type 0
        FitAll no_pat ts bs = (ts ≡ no_type) × (bs ≡ [])
        FitAll (and_pat q qs) ts bs =
            (t : MlType N) × (us : MlTypes N) × (cs : Bindings N) × (rest : Bindings N) × Fits q t cs × FitAll qs us rest
            × (ts ≡ and_type t us) × (bs ≡ cs ++ rest)

        pub FitFields : T.Fields (MlType N) → PatFields P → T.Fields (MlType N) → Bindings N → Type 0
        FitFields fs no_pat_field us bs = (us ≡ fs) × (bs ≡ [])
        FitFields fs (and_pat_field (pat_field l q) qs) us bs =
            (t : MlType N) × (cs : Bindings N) × (rest : Bindings N) × Fits q t cs × FitFields (put_field l.id t fs) qs us rest × (bs ≡ cs ++ rest)

    -- Explicit type variables become type variables that are free nowhere in the context (section 4.6).
    unfoldable pub Scopes : Context N → List Id → List ℕ → Context N → Type 0
    Scopes C [] ks D = (ks ≡ []) × (D ≡ C)
    Scopes C (x ∷ xs) ks D =
        (k : ℕ) × (rest : List ℕ) × (equality k ≡ is_equality x) × ¬ (Stands k (context_variables C)) × Scopes (with_explicit x k C) xs rest D
        × (ks ≡ k ∷ rest)

    -- the schemes of the variables of a value declaration
    unfoldable pub Closes : Context N → List (Bound N) → Map (Value N) → Type 0
    Closes C [] m = m ≡ []
    Closes C (b ∷ bs) m =
        (v : Value N) × (rest : Map (Value N)) × IsClosing names equality C b.expansive b.type v.scheme × (v.status ≡ variable) × Closes C bs rest
        × (m ≡ put b.id v rest)

    -- in no scheme is one of these free
    abbrev pub AreGeneral : List ℕ → Map (Value N) → Type 0
    AreGeneral ks [] = Unit {0}
    AreGeneral ks (e ∷ es) = ((k : ℕ) → Stands k ks → ¬ (Stands k (type_variables e.1.scheme.body))) × AreGeneral ks es

    unfoldable mutual
      -- Expressions (rules 1 to 12)
      pub Has : {P : Type 0} → Context N → Exp P → MlType N → Type 0
      Has C (constant p c) t = t ≡ constant_type names c.kind
      Has C (name p x) t = (v : Value N) × (value_at C.env x.id ≡ found v) × IsInstance names equality v t
      Has C (row p fs) t = (us : T.Fields (MlType N)) × HaveFields C [] fs us × (t ≡ row_of us)
      Has C (tuple p es) t = (ts : MlTypes N) × HaveAll C es ts × (t ≡ tuple_of ts)
      Has C (let_in p ds e) t = (E : Env N) × DeclareAll C empty ds E × Has (plus_names C E) e t × IsWithin C t
      Has C (bracket p e) t = Has C e t
      Has C (apply p f e) t = (a : MlType N) × Has C f (arrow_of a t) × Has C e a
      Has C (typed p e ty) t = Has C e t × Means C.env C.explicit ty t
      Has C (handle p e m) t = Has C e t × Matches C m (arrow_of (named (names.initial exn)) t)
      Has C (raise p e) t = Has C e (named (names.initial exn)) × IsType names t
      Has C (fn p m) t = Matches C m t

      pub HaveAll : {P : Type 0} → Context N → Exps P → MlTypes N → Type 0
      HaveAll C no_exp ts = ts ≡ no_type
      HaveAll C (and_exp e es) ts = (t : MlType N) × (rest : MlTypes N) × Has C e t × HaveAll C es rest × (ts ≡ and_type t rest)

      -- fields; fs has the fields before these
      pub HaveFields : {P : Type 0} → Context N → T.Fields (MlType N) → Fields P → T.Fields (MlType N) → Type 0
      HaveFields C fs no_field us = us ≡ fs
      HaveFields C fs (and_field (field l e) es) us = (t : MlType N) × Has C e t × HaveFields C (put_field l.id t fs) es us

      -- Each rule of a match has its type (rules 13 and 14); there is one at least.
      pub Matches : {P : Type 0} → Context N → Rules P → MlType N → Type 0
      Matches C no_rule t = IsType names t
      Matches C (and_rule (rule p q e) m) t =
          (a : MlType N) × (b : MlType N) × (bs : Bindings N) × Fits C false q a bs × AreApart bs × AreWithin C bs
          × Has (plus C (of_values (bound_values bs))) e b × (t ≡ arrow_of a b) × Matches C m t

      -- Declarations (rules 15 to 24)
      pub Declares : {P : Type 0} → Context N → Dec P → Env N → Type 0
      Declares C (val_dec p xs bs rs) E =
          (ks : List ℕ) × (D : Context N) × Scopes C (not_in_scope C.explicit [] (map (λ x. x.id) xs ++ (unguarded bs ++ unguarded rs))) ks D
          × (vs : List (Bound N)) × (ts : List (MlType N)) × (fs : Bindings N) × Bind D bs vs × FitEach D rs ts fs × AreApart (map binding_of vs ++ fs)
          × AreWithin D fs × HaveEach (plus D (of_values (bound_values fs))) rs ts
          × (m : Map (Value N)) × Closes C (vs ++ bounds false fs) m × AreGeneral ks m × (E ≡ of_values m)
      Declares C (type_dec p bs) E = (ts : Map (TyStr N)) × BindTypes C.env [] bs ts × (E ≡ of_types ts)
      Declares C (datatype_dec p ds) E = BindDatatypes C ds E
      Declares C (datatype_with p ds bs) E =
          (F : Env N) × (ts : Map (TyStr N)) × BindDatatypes C (map (dat_replaced bs) ds) F × BindTypes (extend C.env F) [] bs ts
          × (E ≡ extend F (of_types ts))
      Declares C (datatype_copy p x c) E =
          (s : TyStr N) × (type_at C.env c.id ≡ found s) × (E ≡ maps no_structure ((x.id, s) ∷ []) (constructor_values s.constructors))
      Declares C (exception_dec p bs) E = (m : Map (Value N)) × BindExceptions names C.env C.explicit [] bs m × (E ≡ of_values m)
      Declares C (local_dec p ds es) E = (F : Env N) × DeclareAll C empty ds F × DeclareAll (plus_names C F) empty es E
      Declares C (sequence_dec p ds) E = DeclareAll C empty ds E
      Declares C (open_dec p ss) E = Opens C.env empty ss E
      Declares C (fixity_dec p) E = E ≡ empty

      -- one after the other; F has what those before them bind
      pub DeclareAll : {P : Type 0} → Context N → Env N → Decs P → Env N → Type 0
      DeclareAll C F no_dec E = E ≡ F
      DeclareAll C F (and_dec d ds) E = (G : Env N) × Declares C d G × DeclareAll (plus_names C G) (extend F G) ds E

      -- bindings before `rec` (rule 25): what they bind, each with whether its right side is expansive
      pub Bind : {P : Type 0} → Context N → ValBinds P → List (Bound N) → Type 0
      Bind C no_bind vs = vs ≡ []
      Bind C (and_bind (bind q e) bs) vs =
          (t : MlType N) × (cs : Bindings N) × (rest : List (Bound N)) × Fits C false q t cs × Has C e t × Bind C bs rest
          × (vs ≡ bounds (is_expansive C.env e) cs ++ rest)

      -- the patterns after `rec` (rule 26), their types and what they bind
      pub FitEach : {P : Type 0} → Context N → ValBinds P → List (MlType N) → Bindings N → Type 0
      FitEach C no_bind ts bs = (ts ≡ []) × (bs ≡ [])
      FitEach C (and_bind (bind q e) rs) ts bs =
          (t : MlType N) × (us : List (MlType N)) × (cs : Bindings N) × (rest : Bindings N) × Fits C true q t cs × FitEach C rs us rest
          × (ts ≡ t ∷ us) × (bs ≡ cs ++ rest)

      -- the right sides after `rec`, which are functions
      pub HaveEach : {P : Type 0} → Context N → ValBinds P → List (MlType N) → Type 0
      HaveEach C no_bind ts = ts ≡ []
      HaveEach C (and_bind (bind q e) rs) ts =
          (t : MlType N) × (rest : List (MlType N)) × (is_function e ≡ true) × Has C e t × HaveEach C rs rest × (ts ≡ t ∷ rest)

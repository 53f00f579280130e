-- What holds of the type variables of a tree where it is made: V of those that occur unguarded, and R of those that its value
-- declarations list; and that each of these lists none that one round it scopes.
use Rattle.std.specs.Prelude.{List, [], ◌∷◌, ◌++◌, Option, Some, None}
use Rattle.sml_tree.specs.Trees.{Id}
use Rattle.sml_tree.specs.Types.{Ty, Tys, TyFields, ty_variable, ty_row, ty_tuple, ty_constructor, ty_misapplied, ty_arrow, ty_bracket, no_ty, and_ty, ty_field, no_ty_field, and_ty_field}
use Rattle.sml_tree.specs.Patterns.{Pat, Pats, PatFields, wildcard, pat_constant, pat_name, pat_row, pat_tuple, pat_bracket, pat_apply, pat_typed, pat_as, no_pat, and_pat, pat_field, no_pat_field, and_pat_field}
use Rattle.sml_tree.specs.Expressions.{Exp, Exps, Fields, Rules, Dec, Decs, ValBinds, ExnBind, constant, name, row, tuple, let_in, bracket, apply, typed, handle, raise, fn, no_exp, and_exp, field, no_field, and_field, rule, no_rule, and_rule, val_dec, type_dec, datatype_dec, datatype_with, datatype_copy, exception_dec, local_dec, sequence_dec, open_dec, fixity_dec, no_dec, and_dec, bind, no_bind, and_bind, new_exception, exception_copy}
use Rattle.sml_rules.specs.Every.{Every}
use Rattle.sml_rules.proofs.Within.{both}
use Rattle.sml_core_rules.specs.Closing.{ty_variables, tys_variables, ty_field_variables, optional_variables, pat_variables, pats_variables, pat_field_variables, exn_variables, exp_variables, exps_variables, field_variables, rules_variables, dec_variables, decs_variables, unguarded}
use Rattle.sml_tree_laws.specs.Scoped.{ids, exp_listed, exps_listed, fields_listed, rules_listed, dec_listed, decs_listed, binds_listed, ListsNone, ExpScoped, ExpsScoped, FieldsScoped, RulesScoped, DecScoped, DecsScoped, BindsScoped}

abbrev pub Any : Id → Type 0
Any x = Unit {0}

module _ (V : Id → Type 0) where
  abbrev mutual
    pub TySits : {P : Type 0} → Ty P → Type 0
    TySits (ty_variable p x) = V x
    TySits (ty_row p fs) = TyFieldsSit fs
    TySits (ty_tuple p ts) = TysSit ts
    TySits (ty_constructor p ts c) = TysSit ts
    TySits (ty_misapplied p ts c) = TysSit ts
    TySits (ty_arrow p t u) = TySits t × TySits u
    TySits (ty_bracket p t) = TySits t

    pub TysSit : {P : Type 0} → Tys P → Type 0
    TysSit no_ty = Unit {0}
    TysSit (and_ty t ts) = TySits t × TysSit ts

    pub TyFieldsSit : {P : Type 0} → TyFields P → Type 0
    TyFieldsSit no_ty_field = Unit {0}
    TyFieldsSit (and_ty_field (ty_field l t) fs) = TySits t × TyFieldsSit fs

  abbrev pub TySitsIfAny : {P : Type 0} → Option (Ty P) → Type 0
  TySitsIfAny None = Unit {0}
  TySitsIfAny (Some t) = TySits t

  abbrev mutual
    pub PatSits : {P : Type 0} → Pat P → Type 0
    PatSits (wildcard p) = Unit {0}
    PatSits (pat_constant p c) = Unit {0}
    PatSits (pat_name p x) = Unit {0}
    PatSits (pat_row p fs b) = PatFieldsSit fs
    PatSits (pat_tuple p qs) = PatsSit qs
    PatSits (pat_bracket p q) = PatSits q
    PatSits (pat_apply p x q) = PatSits q
    PatSits (pat_typed p q t) = PatSits q × TySits t
    PatSits (pat_as p x t q) = TySitsIfAny t × PatSits q

    pub PatsSit : {P : Type 0} → Pats P → Type 0
    PatsSit no_pat = Unit {0}
    PatsSit (and_pat q qs) = PatSits q × PatsSit qs

    pub PatFieldsSit : {P : Type 0} → PatFields P → Type 0
    PatFieldsSit no_pat_field = Unit {0}
    PatFieldsSit (and_pat_field (pat_field l q) fs) = PatSits q × PatFieldsSit fs

  abbrev pub ExnBindSits : {P : Type 0} → ExnBind P → Type 0
  ExnBindSits (new_exception b) = TySitsIfAny b.argument
  ExnBindSits (exception_copy x y) = Unit {0}

  abbrev pub ExnBindsSit : {P : Type 0} → List (ExnBind P) → Type 0
  ExnBindsSit [] = Unit {0}
  ExnBindsSit (b ∷ bs) = ExnBindSits b × ExnBindsSit bs

  mutual
    unfolding ty_variables

    ty_all : {P : Type 0} (t : Ty P) → TySits t → Every V (ty_variables t)
    ty_all (ty_variable p x) h = (h, tt)
    ty_all (ty_row p fs) h = ty_fields_all fs h
    ty_all (ty_tuple p ts) h = tys_all ts h
    ty_all (ty_constructor p ts c) h = tys_all ts h
    ty_all (ty_misapplied p ts c) h = tys_all ts h
    ty_all (ty_arrow p t u) h = both V (ty_variables t) (ty_variables u) (ty_all t h.0) (ty_all u h.1)
    ty_all (ty_bracket p t) h = ty_all t h

    tys_all : {P : Type 0} (ts : Tys P) → TysSit ts → Every V (tys_variables ts)
    tys_all no_ty h = tt
    tys_all (and_ty t ts) h = both V (ty_variables t) (tys_variables ts) (ty_all t h.0) (tys_all ts h.1)

    ty_fields_all : {P : Type 0} (fs : TyFields P) → TyFieldsSit fs → Every V (ty_field_variables fs)
    ty_fields_all no_ty_field h = tt
    ty_fields_all (and_ty_field (ty_field l t) fs) h = both V (ty_variables t) (ty_field_variables fs) (ty_all t h.0) (ty_fields_all fs h.1)

  optional_all : {P : Type 0} (t : Option (Ty P)) → TySitsIfAny t → Every V (optional_variables t)
  optional_all None h = tt
  optional_all (Some t) h = ty_all t h

  mutual
    unfolding pat_variables

    pat_all : {P : Type 0} (q : Pat P) → PatSits q → Every V (pat_variables q)
    pat_all (wildcard p) h = tt
    pat_all (pat_constant p c) h = tt
    pat_all (pat_name p x) h = tt
    pat_all (pat_row p fs b) h = pat_fields_all fs h
    pat_all (pat_tuple p qs) h = pats_all qs h
    pat_all (pat_bracket p q) h = pat_all q h
    pat_all (pat_apply p x q) h = pat_all q h
    pat_all (pat_typed p q t) h = both V (pat_variables q) (ty_variables t) (pat_all q h.0) (ty_all t h.1)
    pat_all (pat_as p x t q) h = both V (optional_variables t) (pat_variables q) (optional_all t h.0) (pat_all q h.1)

    pats_all : {P : Type 0} (qs : Pats P) → PatsSit qs → Every V (pats_variables qs)
    pats_all no_pat h = tt
    pats_all (and_pat q qs) h = both V (pat_variables q) (pats_variables qs) (pat_all q h.0) (pats_all qs h.1)

    pat_fields_all : {P : Type 0} (fs : PatFields P) → PatFieldsSit fs → Every V (pat_field_variables fs)
    pat_fields_all no_pat_field h = tt
    pat_fields_all (and_pat_field (pat_field l q) fs) h = both V (pat_variables q) (pat_field_variables fs) (pat_all q h.0) (pat_fields_all fs h.1)

  exns_all : {P : Type 0} (bs : List (ExnBind P)) → ExnBindsSit bs → Every V (exn_variables bs)
  exns_all [] h = tt
  exns_all (new_exception b ∷ bs) h = both V (optional_variables b.argument) (exn_variables bs) (optional_all b.argument h.0) (exns_all bs h.1)
  exns_all (exception_copy x y ∷ bs) h = exns_all bs h.1

module _ (R : Id → Type 0) where
  abbrev mutual
    pub ExpSits : {P : Type 0} → (Id → Type 0) → Exp P → Type 0
    ExpSits V (constant p c) = Unit {0}
    ExpSits V (name p x) = Unit {0}
    ExpSits V (row p fs) = FieldsSit V fs
    ExpSits V (tuple p es) = ExpsSit V es
    ExpSits V (let_in p ds e) = DecsSit V ds × ExpSits V e
    ExpSits V (bracket p e) = ExpSits V e
    ExpSits V (apply p f e) = ExpSits V f × ExpSits V e
    ExpSits V (typed p e t) = ExpSits V e × TySits V t
    ExpSits V (handle p e m) = ExpSits V e × RulesSit V m
    ExpSits V (raise p e) = ExpSits V e
    ExpSits V (fn p m) = RulesSit V m

    pub ExpsSit : {P : Type 0} → (Id → Type 0) → Exps P → Type 0
    ExpsSit V no_exp = Unit {0}
    ExpsSit V (and_exp e es) = ExpSits V e × ExpsSit V es

    pub FieldsSit : {P : Type 0} → (Id → Type 0) → Fields P → Type 0
    FieldsSit V no_field = Unit {0}
    FieldsSit V (and_field (field l e) fs) = ExpSits V e × FieldsSit V fs

    pub RulesSit : {P : Type 0} → (Id → Type 0) → Rules P → Type 0
    RulesSit V no_rule = Unit {0}
    RulesSit V (and_rule (rule p q e) m) = (PatSits V q × ExpSits V e) × RulesSit V m

    pub DecSits : {P : Type 0} → (Id → Type 0) → Dec P → Type 0
    DecSits V (val_dec p xs bs rs) = Every R (ids xs) × ListsNone xs bs rs × BindsSit Any bs × BindsSit Any rs
    DecSits V (type_dec p bs) = Unit {0}
    DecSits V (datatype_dec p bs) = Unit {0}
    DecSits V (datatype_with p bs ts) = Unit {0}
    DecSits V (datatype_copy p x c) = Unit {0}
    DecSits V (exception_dec p bs) = ExnBindsSit V bs
    DecSits V (local_dec p ds es) = DecsSit V ds × DecsSit V es
    DecSits V (sequence_dec p ds) = DecsSit V ds
    DecSits V (open_dec p xs) = Unit {0}
    DecSits V (fixity_dec p) = Unit {0}

    pub DecsSit : {P : Type 0} → (Id → Type 0) → Decs P → Type 0
    DecsSit V no_dec = Unit {0}
    DecsSit V (and_dec d ds) = DecSits V d × DecsSit V ds

    pub BindsSit : {P : Type 0} → (Id → Type 0) → ValBinds P → Type 0
    BindsSit V no_bind = Unit {0}
    BindsSit V (and_bind (bind q e) bs) = (PatSits V q × ExpSits V e) × BindsSit V bs

  mutual
    unfolding exp_variables

    exp_all : {P : Type 0} (V : Id → Type 0) (e : Exp P) → ExpSits V e → Every V (exp_variables e)
    exp_all V (constant p c) h = tt
    exp_all V (name p x) h = tt
    exp_all V (row p fs) h = fields_all V fs h
    exp_all V (tuple p es) h = exps_all V es h
    exp_all V (let_in p ds e) h = both V (decs_variables ds) (exp_variables e) (decs_all V ds h.0) (exp_all V e h.1)
    exp_all V (bracket p e) h = exp_all V e h
    exp_all V (apply p f e) h = both V (exp_variables f) (exp_variables e) (exp_all V f h.0) (exp_all V e h.1)
    exp_all V (typed p e t) h = both V (exp_variables e) (ty_variables t) (exp_all V e h.0) (ty_all V t h.1)
    exp_all V (handle p e m) h = both V (exp_variables e) (rules_variables m) (exp_all V e h.0) (rules_all V m h.1)
    exp_all V (raise p e) h = exp_all V e h
    exp_all V (fn p m) h = rules_all V m h

    exps_all : {P : Type 0} (V : Id → Type 0) (es : Exps P) → ExpsSit V es → Every V (exps_variables es)
    exps_all V no_exp h = tt
    exps_all V (and_exp e es) h = both V (exp_variables e) (exps_variables es) (exp_all V e h.0) (exps_all V es h.1)

    fields_all : {P : Type 0} (V : Id → Type 0) (fs : Fields P) → FieldsSit V fs → Every V (field_variables fs)
    fields_all V no_field h = tt
    fields_all V (and_field (field l e) fs) h = both V (exp_variables e) (field_variables fs) (exp_all V e h.0) (fields_all V fs h.1)

    rules_all : {P : Type 0} (V : Id → Type 0) (m : Rules P) → RulesSit V m → Every V (rules_variables m)
    rules_all V no_rule h = tt
    rules_all V (and_rule (rule p q e) m) h =
        both V (pat_variables q ++ exp_variables e) (rules_variables m) (both V (pat_variables q) (exp_variables e) (pat_all V q h.0.0) (exp_all V e h.0.1)) (rules_all V m h.1)

    dec_all : {P : Type 0} (V : Id → Type 0) (d : Dec P) → DecSits V d → Every V (dec_variables d)
    dec_all V (val_dec p xs bs rs) h = tt
    dec_all V (type_dec p bs) h = tt
    dec_all V (datatype_dec p bs) h = tt
    dec_all V (datatype_with p bs ts) h = tt
    dec_all V (datatype_copy p x c) h = tt
    dec_all V (exception_dec p bs) h = exns_all V bs h
    dec_all V (local_dec p ds es) h = both V (decs_variables ds) (decs_variables es) (decs_all V ds h.0) (decs_all V es h.1)
    dec_all V (sequence_dec p ds) h = decs_all V ds h
    dec_all V (open_dec p xs) h = tt
    dec_all V (fixity_dec p) h = tt

    decs_all : {P : Type 0} (V : Id → Type 0) (ds : Decs P) → DecsSit V ds → Every V (decs_variables ds)
    decs_all V no_dec h = tt
    decs_all V (and_dec d ds) h = both V (dec_variables d) (decs_variables ds) (dec_all V d h.0) (decs_all V ds h.1)

  pub binds_all : {P : Type 0} (V : Id → Type 0) (bs : ValBinds P) → BindsSit V bs → Every V (unguarded bs)
  unfolding unguarded
  binds_all V no_bind h = tt
  binds_all V (and_bind (bind q e) bs) h =
      both V (pat_variables q ++ exp_variables e) (unguarded bs) (both V (pat_variables q) (exp_variables e) (pat_all V q h.0.0) (exp_all V e h.0.1)) (binds_all V bs h.1)

  mutual
    exp_lists : {P : Type 0} (V : Id → Type 0) (e : Exp P) → ExpSits V e → Every R (exp_listed e)
    exp_lists V (constant p c) h = tt
    exp_lists V (name p x) h = tt
    exp_lists V (row p fs) h = fields_list V fs h
    exp_lists V (tuple p es) h = exps_list V es h
    exp_lists V (let_in p ds e) h = both R (decs_listed ds) (exp_listed e) (decs_list V ds h.0) (exp_lists V e h.1)
    exp_lists V (bracket p e) h = exp_lists V e h
    exp_lists V (apply p f e) h = both R (exp_listed f) (exp_listed e) (exp_lists V f h.0) (exp_lists V e h.1)
    exp_lists V (typed p e t) h = exp_lists V e h.0
    exp_lists V (handle p e m) h = both R (exp_listed e) (rules_listed m) (exp_lists V e h.0) (rules_list V m h.1)
    exp_lists V (raise p e) h = exp_lists V e h
    exp_lists V (fn p m) h = rules_list V m h

    exps_list : {P : Type 0} (V : Id → Type 0) (es : Exps P) → ExpsSit V es → Every R (exps_listed es)
    exps_list V no_exp h = tt
    exps_list V (and_exp e es) h = both R (exp_listed e) (exps_listed es) (exp_lists V e h.0) (exps_list V es h.1)

    fields_list : {P : Type 0} (V : Id → Type 0) (fs : Fields P) → FieldsSit V fs → Every R (fields_listed fs)
    fields_list V no_field h = tt
    fields_list V (and_field (field l e) fs) h = both R (exp_listed e) (fields_listed fs) (exp_lists V e h.0) (fields_list V fs h.1)

    rules_list : {P : Type 0} (V : Id → Type 0) (m : Rules P) → RulesSit V m → Every R (rules_listed m)
    rules_list V no_rule h = tt
    rules_list V (and_rule (rule p q e) m) h = both R (exp_listed e) (rules_listed m) (exp_lists V e h.0.1) (rules_list V m h.1)

    dec_lists : {P : Type 0} (V : Id → Type 0) (d : Dec P) → DecSits V d → Every R (dec_listed d)
    dec_lists V (val_dec p xs bs rs) h =
        both R (ids xs) (binds_listed bs ++ binds_listed rs) h.0 (both R (binds_listed bs) (binds_listed rs) (binds_list Any bs h.2) (binds_list Any rs h.3))
    dec_lists V (type_dec p bs) h = tt
    dec_lists V (datatype_dec p bs) h = tt
    dec_lists V (datatype_with p bs ts) h = tt
    dec_lists V (datatype_copy p x c) h = tt
    dec_lists V (exception_dec p bs) h = tt
    dec_lists V (local_dec p ds es) h = both R (decs_listed ds) (decs_listed es) (decs_list V ds h.0) (decs_list V es h.1)
    dec_lists V (sequence_dec p ds) h = decs_list V ds h
    dec_lists V (open_dec p xs) h = tt
    dec_lists V (fixity_dec p) h = tt

    decs_list : {P : Type 0} (V : Id → Type 0) (ds : Decs P) → DecsSit V ds → Every R (decs_listed ds)
    decs_list V no_dec h = tt
    decs_list V (and_dec d ds) h = both R (dec_listed d) (decs_listed ds) (dec_lists V d h.0) (decs_list V ds h.1)

    pub binds_list : {P : Type 0} (V : Id → Type 0) (bs : ValBinds P) → BindsSit V bs → Every R (binds_listed bs)
    binds_list V no_bind h = tt
    binds_list V (and_bind (bind q e) bs) h = both R (exp_listed e) (binds_listed bs) (exp_lists V e h.0.1) (binds_list V bs h.1)

  mutual
    exp_scoped : {P : Type 0} (V : Id → Type 0) (e : Exp P) → ExpSits V e → ExpScoped e
    exp_scoped V (constant p c) h = tt
    exp_scoped V (name p x) h = tt
    exp_scoped V (row p fs) h = fields_scoped V fs h
    exp_scoped V (tuple p es) h = exps_scoped V es h
    exp_scoped V (let_in p ds e) h = (decs_scoped V ds h.0, exp_scoped V e h.1)
    exp_scoped V (bracket p e) h = exp_scoped V e h
    exp_scoped V (apply p f e) h = (exp_scoped V f h.0, exp_scoped V e h.1)
    exp_scoped V (typed p e t) h = exp_scoped V e h.0
    exp_scoped V (handle p e m) h = (exp_scoped V e h.0, rules_scoped V m h.1)
    exp_scoped V (raise p e) h = exp_scoped V e h
    exp_scoped V (fn p m) h = rules_scoped V m h

    exps_scoped : {P : Type 0} (V : Id → Type 0) (es : Exps P) → ExpsSit V es → ExpsScoped es
    exps_scoped V no_exp h = tt
    exps_scoped V (and_exp e es) h = (exp_scoped V e h.0, exps_scoped V es h.1)

    fields_scoped : {P : Type 0} (V : Id → Type 0) (fs : Fields P) → FieldsSit V fs → FieldsScoped fs
    fields_scoped V no_field h = tt
    fields_scoped V (and_field (field l e) fs) h = (exp_scoped V e h.0, fields_scoped V fs h.1)

    rules_scoped : {P : Type 0} (V : Id → Type 0) (m : Rules P) → RulesSit V m → RulesScoped m
    rules_scoped V no_rule h = tt
    rules_scoped V (and_rule (rule p q e) m) h = (exp_scoped V e h.0.1, rules_scoped V m h.1)

    pub dec_scoped : {P : Type 0} (V : Id → Type 0) (d : Dec P) → DecSits V d → DecScoped d
    dec_scoped V (val_dec p xs bs rs) h = (h.1, binds_scoped Any bs h.2, binds_scoped Any rs h.3)
    dec_scoped V (type_dec p bs) h = tt
    dec_scoped V (datatype_dec p bs) h = tt
    dec_scoped V (datatype_with p bs ts) h = tt
    dec_scoped V (datatype_copy p x c) h = tt
    dec_scoped V (exception_dec p bs) h = tt
    dec_scoped V (local_dec p ds es) h = (decs_scoped V ds h.0, decs_scoped V es h.1)
    dec_scoped V (sequence_dec p ds) h = decs_scoped V ds h
    dec_scoped V (open_dec p xs) h = tt
    dec_scoped V (fixity_dec p) h = tt

    decs_scoped : {P : Type 0} (V : Id → Type 0) (ds : Decs P) → DecsSit V ds → DecsScoped ds
    decs_scoped V no_dec h = tt
    decs_scoped V (and_dec d ds) h = (dec_scoped V d h.0, decs_scoped V ds h.1)

    binds_scoped : {P : Type 0} (V : Id → Type 0) (bs : ValBinds P) → BindsSit V bs → BindsScoped bs
    binds_scoped V no_bind h = tt
    binds_scoped V (and_bind (bind q e) bs) h = (exp_scoped V e h.0.1, binds_scoped V bs h.1)

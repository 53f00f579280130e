-- A tree of which each place is such a one is a tree of such places, each with what makes it such.
use Rattle.std.specs.Prelude.{◌≡◌, List, [], ◌∷◌, map, Option, Some, None}
use Rattle.std.specs.List.{AllByRecursion}
use Rattle.std.specs.Option.{option_map}
use mathlib.Core.Path.{refl}
use Rattle.sml_tree.specs.Names.{Name, LongName}
use Rattle.sml_tree.specs.Types.{Ty, Tys, TyField, TyFields, ty_variable, ty_row, ty_tuple, ty_constructor, ty_misapplied, ty_arrow, ty_bracket, no_ty, and_ty, ty_field, no_ty_field, and_ty_field}
use Rattle.sml_tree.specs.Patterns.{Pat, Pats, PatField, PatFields, wildcard, pat_constant, pat_name, pat_row, pat_tuple, pat_bracket, pat_apply, pat_typed, pat_as, no_pat, and_pat, pat_field, no_pat_field, and_pat_field}
use Rattle.sml_tree.specs.Expressions.{TypBind, ConBind, DatBind, ExnBind, new_exception, exception_copy, Exp, Exps, Field, Fields, Rule, Rules, Dec, Decs, ValBind, ValBinds, constant, name, row, tuple, let_in, bracket, apply, typed, handle, raise, fn, no_exp, and_exp, field, no_field, and_field, rule, no_rule, and_rule, val_dec, type_dec, datatype_dec, datatype_with, datatype_copy, exception_dec, local_dec, sequence_dec, open_dec, fixity_dec, no_dec, and_dec, bind, no_bind, and_bind}
use Rattle.sml_tree.specs.Signatures.{WhereType, ValDesc, TypDesc, SigExp, Spec, Specs, StrDesc, StrDescs, sig_end, sig_name, where_type, val_spec, type_spec, eqtype_spec, datatype_spec, copy_spec, exception_spec, structure_spec, include_spec, sharing_types, sharing_structures, no_spec, and_spec, str_desc, no_str_desc, and_str_desc}
use Rattle.sml_tree.specs.Structures.{StrExp, StrDec, StrDecs, StrBind, StrBinds, SigBind, FunBind, TopDec, struct_end, str_name, ascribed, functor_apply, str_let, core_dec, structure_dec, str_local, no_str_dec, and_str_dec, str_bind, no_str_bind, and_str_bind, top_str, signature_dec, functor_dec}
use Rattle.sml_parse.specs.EachPlace.{EachInName, EachInLong, EachInNames, EachInLongs, EachInTy, EachInTys, EachInTyFields, EachInTyIfAny, EachInPat, EachInPats, EachInPatFields, EachInTypBind, EachInConBind, EachInDatBind, EachInExnBind, EachInExp, EachInExps, EachInFields, EachInRules, EachInDec, EachInDecs, EachInBinds, EachInWhere, EachInValDesc, EachInTypDesc, EachInSig, EachInSpec, EachInSpecs, EachInStrDescs, EachInStr, EachInStrDec, EachInStrDecs, EachInStrBinds, EachInSigBind, EachInFunBind, EachInTop}
use Rattle.sml_places.specs.Places.{place_name, place_long, place_names, place_ty, place_tys, place_ty_fields, place_optional, place_pat, place_pats, place_pat_fields, place_typ_bind, place_con_bind, place_dat_bind, place_exn_bind, place_exp, place_exps, place_fields, place_rules, place_dec, place_decs, place_binds, place_where, place_val_desc, place_typ_desc, place_sig, place_specs, place_spec, place_descs, place_str, place_str_dec, place_str_decs, place_str_binds, place_sig_bind, place_fun_bind, place_top}

module _ {P : Type 0} (F : P → Type 0) where
  abbrev pub Such : Type 0
  Such = (p : P) × F p

  abbrev pub bare : Such → P
  bare p = p.0

  lift-name : (x : Name P) → EachInName F x → (y : Name Such) × (place_name bare y ≡ x)
  lift-name x h = (record { place = (x.place, h); id = x.id }, refl)

  lift-long : (x : LongName P) → EachInLong F x → (y : LongName Such) × (place_long bare y ≡ x)
  lift-long x h = (record { place = (x.place, h); id = x.id }, refl)

  lift-all : {X Y : Type 0} (EachIn : X → Type 0) (place : Y → X) → ((x : X) → EachIn x → (y : Y) × (place y ≡ x)) → (xs : List X) → AllByRecursion EachIn xs
      → (ys : List Y) × (map place ys ≡ xs)
  lift-all EachIn place lift [] h = ([], refl)
  lift-all EachIn place lift (x ∷ xs) h =
      let a = lift x h.0 in
      let rest = lift-all EachIn place lift xs h.1 in (a.0 ∷ rest.0, λ i. a.1 i ∷ rest.1 i)

  lift-names : (xs : List (Name P)) → EachInNames F xs → (ys : List (Name Such)) × (place_names bare ys ≡ xs)
  lift-names xs h = lift-all (EachInName F) (place_name bare) lift-name xs h

  lift-longs : (xs : List (LongName P)) → EachInLongs F xs → (ys : List (LongName Such)) × (map (place_long bare) ys ≡ xs)
  lift-longs xs h = lift-all (EachInLong F) (place_long bare) lift-long xs h

  mutual
    unfolding place_ty place_tys place_ty_fields

    lift-ty : (t : Ty P) → EachInTy F t → (u : Ty Such) × (place_ty bare u ≡ t)
    lift-ty (ty_variable p v) h = (ty_variable (p, h) v, refl)
    lift-ty (ty_row p fs) h =
        let x0 = lift-ty-fields fs h.1 in (ty_row (p, h.0) x0.0, λ i. ty_row p (x0.1 i))
    lift-ty (ty_tuple p ts) h =
        let x0 = lift-tys ts h.1 in (ty_tuple (p, h.0) x0.0, λ i. ty_tuple p (x0.1 i))
    lift-ty (ty_constructor p ts c) h =
        let x0 = lift-tys ts h.1 in
        let x1 = lift-long c h.2 in (ty_constructor (p, h.0) x0.0 x1.0, λ i. ty_constructor p (x0.1 i) (x1.1 i))
    lift-ty (ty_misapplied p ts c) h =
        let x0 = lift-tys ts h.1 in
        let x1 = lift-long c h.2 in (ty_misapplied (p, h.0) x0.0 x1.0, λ i. ty_misapplied p (x0.1 i) (x1.1 i))
    lift-ty (ty_arrow p t u) h =
        let x0 = lift-ty t h.1 in
        let x1 = lift-ty u h.2 in (ty_arrow (p, h.0) x0.0 x1.0, λ i. ty_arrow p (x0.1 i) (x1.1 i))
    lift-ty (ty_bracket p t) h =
        let x0 = lift-ty t h.1 in (ty_bracket (p, h.0) x0.0, λ i. ty_bracket p (x0.1 i))

    lift-tys : (t : Tys P) → EachInTys F t → (u : Tys Such) × (place_tys bare u ≡ t)
    lift-tys no_ty h = (no_ty, refl)
    lift-tys (and_ty t ts) h =
        let x0 = lift-ty t h.0 in
        let x1 = lift-tys ts h.1 in (and_ty x0.0 x1.0, λ i. and_ty (x0.1 i) (x1.1 i))

    lift-ty-fields : (t : TyFields P) → EachInTyFields F t → (u : TyFields Such) × (place_ty_fields bare u ≡ t)
    lift-ty-fields no_ty_field h = (no_ty_field, refl)
    lift-ty-fields (and_ty_field (ty_field l t) fs) h =
        let x0 = lift-name l h.0.0 in
        let x1 = lift-ty t h.0.1 in
        let x2 = lift-ty-fields fs h.1 in (and_ty_field (ty_field x0.0 x1.0) x2.0, λ i. and_ty_field (ty_field (x0.1 i) (x1.1 i)) (x2.1 i))

  lift-ty-if-any : (t : Option (Ty P)) → EachInTyIfAny F t → (u : Option (Ty Such)) × (place_optional bare u ≡ t)
  lift-ty-if-any None h = (None, refl)
  lift-ty-if-any (Some t) h = let a = lift-ty t h in (Some a.0, λ i. Some (a.1 i))

  mutual
    unfolding place_pat place_pats place_pat_fields

    lift-pat : (t : Pat P) → EachInPat F t → (u : Pat Such) × (place_pat bare u ≡ t)
    lift-pat (wildcard p) h = (wildcard (p, h), refl)
    lift-pat (pat_constant p c) h = (pat_constant (p, h) c, refl)
    lift-pat (pat_name p c) h =
        let x0 = lift-long c h.1 in (pat_name (p, h.0) x0.0, λ i. pat_name p (x0.1 i))
    lift-pat (pat_row p fs dots) h =
        let x0 = lift-pat-fields fs h.1 in (pat_row (p, h.0) x0.0 dots, λ i. pat_row p (x0.1 i) dots)
    lift-pat (pat_tuple p qs) h =
        let x0 = lift-pats qs h.1 in (pat_tuple (p, h.0) x0.0, λ i. pat_tuple p (x0.1 i))
    lift-pat (pat_bracket p q) h =
        let x0 = lift-pat q h.1 in (pat_bracket (p, h.0) x0.0, λ i. pat_bracket p (x0.1 i))
    lift-pat (pat_apply p c q) h =
        let x0 = lift-long c h.1 in
        let x1 = lift-pat q h.2 in (pat_apply (p, h.0) x0.0 x1.0, λ i. pat_apply p (x0.1 i) (x1.1 i))
    lift-pat (pat_typed p q t) h =
        let x0 = lift-pat q h.1 in
        let x1 = lift-ty t h.2 in (pat_typed (p, h.0) x0.0 x1.0, λ i. pat_typed p (x0.1 i) (x1.1 i))
    lift-pat (pat_as p x t q) h =
        let x0 = lift-name x h.1 in
        let x1 = lift-ty-if-any t h.2 in
        let x2 = lift-pat q h.3 in (pat_as (p, h.0) x0.0 x1.0 x2.0, λ i. pat_as p (x0.1 i) (x1.1 i) (x2.1 i))

    lift-pats : (t : Pats P) → EachInPats F t → (u : Pats Such) × (place_pats bare u ≡ t)
    lift-pats no_pat h = (no_pat, refl)
    lift-pats (and_pat q qs) h =
        let x0 = lift-pat q h.0 in
        let x1 = lift-pats qs h.1 in (and_pat x0.0 x1.0, λ i. and_pat (x0.1 i) (x1.1 i))

    lift-pat-fields : (t : PatFields P) → EachInPatFields F t → (u : PatFields Such) × (place_pat_fields bare u ≡ t)
    lift-pat-fields no_pat_field h = (no_pat_field, refl)
    lift-pat-fields (and_pat_field (pat_field l q) qs) h =
        let x0 = lift-name l h.0.0 in
        let x1 = lift-pat q h.0.1 in
        let x2 = lift-pat-fields qs h.1 in (and_pat_field (pat_field x0.0 x1.0) x2.0, λ i. and_pat_field (pat_field (x0.1 i) (x1.1 i)) (x2.1 i))

  lift-typ-bind : (t : TypBind P) → EachInTypBind F t → (u : TypBind Such) × (place_typ_bind bare u ≡ t)
  lift-typ-bind b h =
      let x0 = lift-names b.variables h.0 in
      let x1 = lift-name b.name h.1 in
      let x2 = lift-ty b.ty h.2 in (record { variables = x0.0; name = x1.0; ty = x2.0 }, λ i. record { variables = x0.1 i; name = x1.1 i; ty = x2.1 i })

  lift-con-bind : (t : ConBind P) → EachInConBind F t → (u : ConBind Such) × (place_con_bind bare u ≡ t)
  lift-con-bind b h =
      let x0 = lift-name b.name h.0 in
      let x1 = lift-ty-if-any b.argument h.1 in (record { name = x0.0; argument = x1.0 }, λ i. record { name = x0.1 i; argument = x1.1 i })

  lift-dat-bind : (t : DatBind P) → EachInDatBind F t → (u : DatBind Such) × (place_dat_bind bare u ≡ t)
  lift-dat-bind b h =
      let x0 = lift-names b.variables h.0 in
      let x1 = lift-name b.name h.1 in
      let x2 = lift-all (EachInConBind F) (place_con_bind bare) lift-con-bind b.constructors h.2 in (record { variables = x0.0; name = x1.0; constructors = x2.0 }, λ i. record { variables = x0.1 i; name = x1.1 i; constructors = x2.1 i })

  lift-exn-bind : (t : ExnBind P) → EachInExnBind F t → (u : ExnBind Such) × (place_exn_bind bare u ≡ t)
  lift-exn-bind (new_exception b) h =
      let x0 = lift-con-bind b h in (new_exception x0.0, λ i. new_exception (x0.1 i))
  lift-exn-bind (exception_copy x c) h =
      let x0 = lift-name x h.0 in
      let x1 = lift-long c h.1 in (exception_copy x0.0 x1.0, λ i. exception_copy (x0.1 i) (x1.1 i))

  mutual
    unfolding place_exp place_exps place_fields place_rules place_dec place_decs place_binds

    lift-exp : (t : Exp P) → EachInExp F t → (u : Exp Such) × (place_exp bare u ≡ t)
    lift-exp (constant p c) h = (constant (p, h) c, refl)
    lift-exp (name p c) h =
        let x0 = lift-long c h.1 in (name (p, h.0) x0.0, λ i. name p (x0.1 i))
    lift-exp (row p fs) h =
        let x0 = lift-fields fs h.1 in (row (p, h.0) x0.0, λ i. row p (x0.1 i))
    lift-exp (tuple p es) h =
        let x0 = lift-exps es h.1 in (tuple (p, h.0) x0.0, λ i. tuple p (x0.1 i))
    lift-exp (let_in p ds e) h =
        let x0 = lift-decs ds h.1 in
        let x1 = lift-exp e h.2 in (let_in (p, h.0) x0.0 x1.0, λ i. let_in p (x0.1 i) (x1.1 i))
    lift-exp (bracket p e) h =
        let x0 = lift-exp e h.1 in (bracket (p, h.0) x0.0, λ i. bracket p (x0.1 i))
    lift-exp (apply p e g) h =
        let x0 = lift-exp e h.1 in
        let x1 = lift-exp g h.2 in (apply (p, h.0) x0.0 x1.0, λ i. apply p (x0.1 i) (x1.1 i))
    lift-exp (typed p e t) h =
        let x0 = lift-exp e h.1 in
        let x1 = lift-ty t h.2 in (typed (p, h.0) x0.0 x1.0, λ i. typed p (x0.1 i) (x1.1 i))
    lift-exp (handle p e m) h =
        let x0 = lift-exp e h.1 in
        let x1 = lift-rules m h.2 in (handle (p, h.0) x0.0 x1.0, λ i. handle p (x0.1 i) (x1.1 i))
    lift-exp (raise p e) h =
        let x0 = lift-exp e h.1 in (raise (p, h.0) x0.0, λ i. raise p (x0.1 i))
    lift-exp (fn p m) h =
        let x0 = lift-rules m h.1 in (fn (p, h.0) x0.0, λ i. fn p (x0.1 i))

    lift-exps : (t : Exps P) → EachInExps F t → (u : Exps Such) × (place_exps bare u ≡ t)
    lift-exps no_exp h = (no_exp, refl)
    lift-exps (and_exp e es) h =
        let x0 = lift-exp e h.0 in
        let x1 = lift-exps es h.1 in (and_exp x0.0 x1.0, λ i. and_exp (x0.1 i) (x1.1 i))

    lift-fields : (t : Fields P) → EachInFields F t → (u : Fields Such) × (place_fields bare u ≡ t)
    lift-fields no_field h = (no_field, refl)
    lift-fields (and_field (field l e) fs) h =
        let x0 = lift-name l h.0.0 in
        let x1 = lift-exp e h.0.1 in
        let x2 = lift-fields fs h.1 in (and_field (field x0.0 x1.0) x2.0, λ i. and_field (field (x0.1 i) (x1.1 i)) (x2.1 i))

    lift-rules : (t : Rules P) → EachInRules F t → (u : Rules Such) × (place_rules bare u ≡ t)
    lift-rules no_rule h = (no_rule, refl)
    lift-rules (and_rule (rule p q e) m) h =
        let x0 = lift-pat q h.0.1 in
        let x1 = lift-exp e h.0.2 in
        let x2 = lift-rules m h.1 in (and_rule (rule (p, h.0.0) x0.0 x1.0) x2.0, λ i. and_rule (rule p (x0.1 i) (x1.1 i)) (x2.1 i))

    lift-dec : (t : Dec P) → EachInDec F t → (u : Dec Such) × (place_dec bare u ≡ t)
    lift-dec (val_dec p xs bs rs) h =
        let x0 = lift-names xs h.1 in
        let x1 = lift-binds bs h.2 in
        let x2 = lift-binds rs h.3 in (val_dec (p, h.0) x0.0 x1.0 x2.0, λ i. val_dec p (x0.1 i) (x1.1 i) (x2.1 i))
    lift-dec (type_dec p bs) h =
        let x0 = lift-all (EachInTypBind F) (place_typ_bind bare) lift-typ-bind bs h.1 in (type_dec (p, h.0) x0.0, λ i. type_dec p (x0.1 i))
    lift-dec (datatype_dec p ds) h =
        let x0 = lift-all (EachInDatBind F) (place_dat_bind bare) lift-dat-bind ds h.1 in (datatype_dec (p, h.0) x0.0, λ i. datatype_dec p (x0.1 i))
    lift-dec (datatype_with p ds bs) h =
        let x0 = lift-all (EachInDatBind F) (place_dat_bind bare) lift-dat-bind ds h.1 in
        let x1 = lift-all (EachInTypBind F) (place_typ_bind bare) lift-typ-bind bs h.2 in (datatype_with (p, h.0) x0.0 x1.0, λ i. datatype_with p (x0.1 i) (x1.1 i))
    lift-dec (datatype_copy p x c) h =
        let x0 = lift-name x h.1 in
        let x1 = lift-long c h.2 in (datatype_copy (p, h.0) x0.0 x1.0, λ i. datatype_copy p (x0.1 i) (x1.1 i))
    lift-dec (exception_dec p bs) h =
        let x0 = lift-all (EachInExnBind F) (place_exn_bind bare) lift-exn-bind bs h.1 in (exception_dec (p, h.0) x0.0, λ i. exception_dec p (x0.1 i))
    lift-dec (local_dec p ds es) h =
        let x0 = lift-decs ds h.1 in
        let x1 = lift-decs es h.2 in (local_dec (p, h.0) x0.0 x1.0, λ i. local_dec p (x0.1 i) (x1.1 i))
    lift-dec (sequence_dec p ds) h =
        let x0 = lift-decs ds h.1 in (sequence_dec (p, h.0) x0.0, λ i. sequence_dec p (x0.1 i))
    lift-dec (open_dec p cs) h =
        let x0 = lift-longs cs h.1 in (open_dec (p, h.0) x0.0, λ i. open_dec p (x0.1 i))
    lift-dec (fixity_dec p) h = (fixity_dec (p, h), refl)

    lift-decs : (t : Decs P) → EachInDecs F t → (u : Decs Such) × (place_decs bare u ≡ t)
    lift-decs no_dec h = (no_dec, refl)
    lift-decs (and_dec d ds) h =
        let x0 = lift-dec d h.0 in
        let x1 = lift-decs ds h.1 in (and_dec x0.0 x1.0, λ i. and_dec (x0.1 i) (x1.1 i))

    lift-binds : (t : ValBinds P) → EachInBinds F t → (u : ValBinds Such) × (place_binds bare u ≡ t)
    lift-binds no_bind h = (no_bind, refl)
    lift-binds (and_bind (bind q e) bs) h =
        let x0 = lift-pat q h.0.0 in
        let x1 = lift-exp e h.0.1 in
        let x2 = lift-binds bs h.1 in (and_bind (bind x0.0 x1.0) x2.0, λ i. and_bind (bind (x0.1 i) (x1.1 i)) (x2.1 i))

  lift-where : (t : WhereType P) → EachInWhere F t → (u : WhereType Such) × (place_where bare u ≡ t)
  lift-where b h =
      let x0 = lift-names b.variables h.0 in
      let x1 = lift-long b.constructor h.1 in
      let x2 = lift-ty b.ty h.2 in (record { variables = x0.0; constructor = x1.0; ty = x2.0 }, λ i. record { variables = x0.1 i; constructor = x1.1 i; ty = x2.1 i })

  lift-val-desc : (t : ValDesc P) → EachInValDesc F t → (u : ValDesc Such) × (place_val_desc bare u ≡ t)
  lift-val-desc b h =
      let x0 = lift-name b.name h.0 in
      let x1 = lift-ty b.ty h.1 in (record { name = x0.0; ty = x1.0 }, λ i. record { name = x0.1 i; ty = x1.1 i })

  lift-typ-desc : (t : TypDesc P) → EachInTypDesc F t → (u : TypDesc Such) × (place_typ_desc bare u ≡ t)
  lift-typ-desc b h =
      let x0 = lift-names b.variables h.0 in
      let x1 = lift-name b.name h.1 in (record { variables = x0.0; name = x1.0 }, λ i. record { variables = x0.1 i; name = x1.1 i })

  mutual
    unfolding place_sig place_specs place_spec place_descs

    lift-sig : (t : SigExp P) → EachInSig F t → (u : SigExp Such) × (place_sig bare u ≡ t)
    lift-sig (sig_end p qs) h =
        let x0 = lift-specs qs h.1 in (sig_end (p, h.0) x0.0, λ i. sig_end p (x0.1 i))
    lift-sig (sig_name p x) h = (sig_name (p, h) x, refl)
    lift-sig (where_type p e w) h =
        let x0 = lift-sig e h.1 in
        let x1 = lift-where w h.2 in (where_type (p, h.0) x0.0 x1.0, λ i. where_type p (x0.1 i) (x1.1 i))

    lift-spec : (t : Spec P) → EachInSpec F t → (u : Spec Such) × (place_spec bare u ≡ t)
    lift-spec (val_spec p ds) h =
        let x0 = lift-all (EachInValDesc F) (place_val_desc bare) lift-val-desc ds h.1 in (val_spec (p, h.0) x0.0, λ i. val_spec p (x0.1 i))
    lift-spec (type_spec p ds) h =
        let x0 = lift-all (EachInTypDesc F) (place_typ_desc bare) lift-typ-desc ds h.1 in (type_spec (p, h.0) x0.0, λ i. type_spec p (x0.1 i))
    lift-spec (eqtype_spec p ds) h =
        let x0 = lift-all (EachInTypDesc F) (place_typ_desc bare) lift-typ-desc ds h.1 in (eqtype_spec (p, h.0) x0.0, λ i. eqtype_spec p (x0.1 i))
    lift-spec (datatype_spec p ds) h =
        let x0 = lift-all (EachInDatBind F) (place_dat_bind bare) lift-dat-bind ds h.1 in (datatype_spec (p, h.0) x0.0, λ i. datatype_spec p (x0.1 i))
    lift-spec (copy_spec p x c) h =
        let x0 = lift-name x h.1 in
        let x1 = lift-long c h.2 in (copy_spec (p, h.0) x0.0 x1.0, λ i. copy_spec p (x0.1 i) (x1.1 i))
    lift-spec (exception_spec p cs) h =
        let x0 = lift-all (EachInConBind F) (place_con_bind bare) lift-con-bind cs h.1 in (exception_spec (p, h.0) x0.0, λ i. exception_spec p (x0.1 i))
    lift-spec (structure_spec p ds) h =
        let x0 = lift-descs ds h.1 in (structure_spec (p, h.0) x0.0, λ i. structure_spec p (x0.1 i))
    lift-spec (include_spec p e) h =
        let x0 = lift-sig e h.1 in (include_spec (p, h.0) x0.0, λ i. include_spec p (x0.1 i))
    lift-spec (sharing_types p xs) h =
        let x0 = lift-longs xs h.1 in (sharing_types (p, h.0) x0.0, λ i. sharing_types p (x0.1 i))
    lift-spec (sharing_structures p xs) h =
        let x0 = lift-longs xs h.1 in (sharing_structures (p, h.0) x0.0, λ i. sharing_structures p (x0.1 i))

    lift-specs : (t : Specs P) → EachInSpecs F t → (u : Specs Such) × (place_specs bare u ≡ t)
    lift-specs no_spec h = (no_spec, refl)
    lift-specs (and_spec q qs) h =
        let x0 = lift-spec q h.0 in
        let x1 = lift-specs qs h.1 in (and_spec x0.0 x1.0, λ i. and_spec (x0.1 i) (x1.1 i))

    lift-descs : (t : StrDescs P) → EachInStrDescs F t → (u : StrDescs Such) × (place_descs bare u ≡ t)
    lift-descs no_str_desc h = (no_str_desc, refl)
    lift-descs (and_str_desc (str_desc x e) ds) h =
        let x0 = lift-name x h.0.0 in
        let x1 = lift-sig e h.0.1 in
        let x2 = lift-descs ds h.1 in (and_str_desc (str_desc x0.0 x1.0) x2.0, λ i. and_str_desc (str_desc (x0.1 i) (x1.1 i)) (x2.1 i))

  mutual
    unfolding place_str place_str_dec place_str_decs place_str_binds

    lift-str : (t : StrExp P) → EachInStr F t → (u : StrExp Such) × (place_str bare u ≡ t)
    lift-str (struct_end p ds) h =
        let x0 = lift-str-decs ds h.1 in (struct_end (p, h.0) x0.0, λ i. struct_end p (x0.1 i))
    lift-str (str_name x) h =
        let x0 = lift-long x h in (str_name x0.0, λ i. str_name (x0.1 i))
    lift-str (ascribed p e a s) h =
        let x0 = lift-str e h.1 in
        let x1 = lift-sig s h.2 in (ascribed (p, h.0) x0.0 a x1.0, λ i. ascribed p (x0.1 i) a (x1.1 i))
    lift-str (functor_apply x e) h =
        let x0 = lift-name x h.0 in
        let x1 = lift-str e h.1 in (functor_apply x0.0 x1.0, λ i. functor_apply (x0.1 i) (x1.1 i))
    lift-str (str_let p ds e) h =
        let x0 = lift-str-decs ds h.1 in
        let x1 = lift-str e h.2 in (str_let (p, h.0) x0.0 x1.0, λ i. str_let p (x0.1 i) (x1.1 i))

    lift-str-dec : (t : StrDec P) → EachInStrDec F t → (u : StrDec Such) × (place_str_dec bare u ≡ t)
    lift-str-dec (core_dec d) h =
        let x0 = lift-dec d h in (core_dec x0.0, λ i. core_dec (x0.1 i))
    lift-str-dec (structure_dec p bs) h =
        let x0 = lift-str-binds bs h.1 in (structure_dec (p, h.0) x0.0, λ i. structure_dec p (x0.1 i))
    lift-str-dec (str_local p ds es) h =
        let x0 = lift-str-decs ds h.1 in
        let x1 = lift-str-decs es h.2 in (str_local (p, h.0) x0.0 x1.0, λ i. str_local p (x0.1 i) (x1.1 i))

    lift-str-decs : (t : StrDecs P) → EachInStrDecs F t → (u : StrDecs Such) × (place_str_decs bare u ≡ t)
    lift-str-decs no_str_dec h = (no_str_dec, refl)
    lift-str-decs (and_str_dec d ds) h =
        let x0 = lift-str-dec d h.0 in
        let x1 = lift-str-decs ds h.1 in (and_str_dec x0.0 x1.0, λ i. and_str_dec (x0.1 i) (x1.1 i))

    lift-str-binds : (t : StrBinds P) → EachInStrBinds F t → (u : StrBinds Such) × (place_str_binds bare u ≡ t)
    lift-str-binds no_str_bind h = (no_str_bind, refl)
    lift-str-binds (and_str_bind (str_bind x e) bs) h =
        let x0 = lift-name x h.0.0 in
        let x1 = lift-str e h.0.1 in
        let x2 = lift-str-binds bs h.1 in (and_str_bind (str_bind x0.0 x1.0) x2.0, λ i. and_str_bind (str_bind (x0.1 i) (x1.1 i)) (x2.1 i))

  lift-sig-bind : (t : SigBind P) → EachInSigBind F t → (u : SigBind Such) × (place_sig_bind bare u ≡ t)
  lift-sig-bind b h =
      let x0 = lift-name b.name h.0 in
      let x1 = lift-sig b.signature h.1 in (record { name = x0.0; signature = x1.0 }, λ i. record { name = x0.1 i; signature = x1.1 i })

  lift-fun-bind : (t : FunBind P) → EachInFunBind F t → (u : FunBind Such) × (place_fun_bind bare u ≡ t)
  lift-fun-bind b h =
      let x0 = lift-name b.name h.0 in
      let x1 = lift-name b.argument h.1 in
      let x2 = lift-sig b.signature h.2 in
      let x3 = lift-str b.body h.3 in (record { name = x0.0; argument = x1.0; signature = x2.0; body = x3.0 }, λ i. record { name = x0.1 i; argument = x1.1 i; signature = x2.1 i; body = x3.1 i })

  pub lift-top : (t : TopDec P) → EachInTop F t → (u : TopDec Such) × (place_top bare u ≡ t)
  lift-top (top_str d) h =
      let x0 = lift-str-dec d h in (top_str x0.0, λ i. top_str (x0.1 i))
  lift-top (signature_dec p bs) h =
      let x0 = lift-all (EachInSigBind F) (place_sig_bind bare) lift-sig-bind bs h.1 in (signature_dec (p, h.0) x0.0, λ i. signature_dec p (x0.1 i))
  lift-top (functor_dec p bs) h =
      let x0 = lift-all (EachInFunBind F) (place_fun_bind bare) lift-fun-bind bs h.1 in (functor_dec (p, h.0) x0.0, λ i. functor_dec p (x0.1 i))

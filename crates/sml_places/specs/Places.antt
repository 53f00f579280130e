-- Trees with other places in the place of theirs.
use Rattle.std.specs.Prelude.{List, map, Option}
use Rattle.std.specs.Option.{option_map}
use Rattle.sml_tree.specs.Names.{Name, LongName}
use Rattle.sml_tree.specs.Types.{Ty, Tys, TyFields, ty_variable, ty_row, ty_tuple, ty_constructor, ty_misapplied, ty_arrow, ty_bracket, no_ty, and_ty, ty_field, no_ty_field, and_ty_field}
use Rattle.sml_tree.specs.Patterns.{Pat, Pats, PatFields, wildcard, pat_constant, pat_name, pat_row, pat_tuple, pat_bracket, pat_apply, pat_typed, pat_as, no_pat, and_pat, pat_field, no_pat_field, and_pat_field}
use Rattle.sml_tree.specs.Expressions.{Exp, Exps, Fields, Rules, Dec, Decs, ValBinds, TypBind, ConBind, DatBind, ExnBind, constant, name, row, tuple, let_in, bracket, apply, typed, handle, raise, fn, no_exp, and_exp, field, no_field, and_field, rule, no_rule, and_rule, val_dec, type_dec, datatype_dec, datatype_with, datatype_copy, exception_dec, local_dec, sequence_dec, open_dec, fixity_dec, no_dec, and_dec, bind, no_bind, and_bind, new_exception, exception_copy}
use Rattle.sml_tree.specs.Signatures.{WhereType, ValDesc, TypDesc, SigExp, Spec, Specs, StrDescs, sig_end, sig_name, where_type, val_spec, type_spec, eqtype_spec, datatype_spec, copy_spec, exception_spec, structure_spec, include_spec, sharing_types, sharing_structures, no_spec, and_spec, str_desc, no_str_desc, and_str_desc}
use Rattle.sml_tree.specs.Structures.{StrExp, StrDec, StrDecs, StrBinds, SigBind, FunBind, TopDec, struct_end, str_name, ascribed, functor_apply, str_let, core_dec, structure_dec, str_local, no_str_dec, and_str_dec, str_bind, no_str_bind, and_str_bind, top_str, signature_dec, functor_dec}

module _ {P Q : Type 0} (f : P → Q) where
  abbrev pub place_name : Name P → Name Q
  place_name x = record { place = f x.place; id = x.id }

  abbrev pub place_long : LongName P → LongName Q
  place_long x = record { place = f x.place; id = x.id }

  abbrev pub place_names : List (Name P) → List (Name Q)
  place_names xs = map place_name xs

  unfoldable mutual
    pub place_ty : Ty P → Ty Q
    place_ty (ty_variable p x) = ty_variable (f p) x
    place_ty (ty_row p fs) = ty_row (f p) (place_ty_fields fs)
    place_ty (ty_tuple p ts) = ty_tuple (f p) (place_tys ts)
    place_ty (ty_constructor p ts c) = ty_constructor (f p) (place_tys ts) (place_long c)
    place_ty (ty_misapplied p ts c) = ty_misapplied (f p) (place_tys ts) (place_long c)
    place_ty (ty_arrow p t u) = ty_arrow (f p) (place_ty t) (place_ty u)
    place_ty (ty_bracket p t) = ty_bracket (f p) (place_ty t)

    pub place_tys : Tys P → Tys Q
    place_tys no_ty = no_ty
    place_tys (and_ty t ts) = and_ty (place_ty t) (place_tys ts)

    pub place_ty_fields : TyFields P → TyFields Q
    place_ty_fields no_ty_field = no_ty_field
    place_ty_fields (and_ty_field (ty_field l t) fs) = and_ty_field (ty_field (place_name l) (place_ty t)) (place_ty_fields fs)

  abbrev pub place_optional : Option (Ty P) → Option (Ty Q)
  place_optional t = option_map place_ty t

  unfoldable mutual
    pub place_pat : Pat P → Pat Q
    place_pat (wildcard p) = wildcard (f p)
    place_pat (pat_constant p c) = pat_constant (f p) c
    place_pat (pat_name p x) = pat_name (f p) (place_long x)
    place_pat (pat_row p fs b) = pat_row (f p) (place_pat_fields fs) b
    place_pat (pat_tuple p qs) = pat_tuple (f p) (place_pats qs)
    place_pat (pat_bracket p q) = pat_bracket (f p) (place_pat q)
    place_pat (pat_apply p x q) = pat_apply (f p) (place_long x) (place_pat q)
    place_pat (pat_typed p q t) = pat_typed (f p) (place_pat q) (place_ty t)
    place_pat (pat_as p x t q) = pat_as (f p) (place_name x) (place_optional t) (place_pat q)

    pub place_pats : Pats P → Pats Q
    place_pats no_pat = no_pat
    place_pats (and_pat q qs) = and_pat (place_pat q) (place_pats qs)

    pub place_pat_fields : PatFields P → PatFields Q
    place_pat_fields no_pat_field = no_pat_field
    place_pat_fields (and_pat_field (pat_field l q) qs) = and_pat_field (pat_field (place_name l) (place_pat q)) (place_pat_fields qs)

  -- bindings of types, constructors, datatypes and exceptions

  abbrev pub place_typ_bind : TypBind P → TypBind Q
  place_typ_bind b = record { variables = place_names b.variables; name = place_name b.name; ty = place_ty b.ty }

  abbrev pub place_con_bind : ConBind P → ConBind Q
  place_con_bind c = record { name = place_name c.name; argument = place_optional c.argument }

  abbrev pub place_dat_bind : DatBind P → DatBind Q
  place_dat_bind d = record { variables = place_names d.variables; name = place_name d.name; constructors = map place_con_bind d.constructors }

  abbrev pub place_exn_bind : ExnBind P → ExnBind Q
  place_exn_bind (new_exception c) = new_exception (place_con_bind c)
  place_exn_bind (exception_copy x y) = exception_copy (place_name x) (place_long y)

  unfoldable mutual
    pub place_exp : Exp P → Exp Q
    place_exp (constant p c) = constant (f p) c
    place_exp (name p x) = name (f p) (place_long x)
    place_exp (row p fs) = row (f p) (place_fields fs)
    place_exp (tuple p es) = tuple (f p) (place_exps es)
    place_exp (let_in p ds e) = let_in (f p) (place_decs ds) (place_exp e)
    place_exp (bracket p e) = bracket (f p) (place_exp e)
    place_exp (apply p g e) = apply (f p) (place_exp g) (place_exp e)
    place_exp (typed p e t) = typed (f p) (place_exp e) (place_ty t)
    place_exp (handle p e m) = handle (f p) (place_exp e) (place_rules m)
    place_exp (raise p e) = raise (f p) (place_exp e)
    place_exp (fn p m) = fn (f p) (place_rules m)

    pub place_exps : Exps P → Exps Q
    place_exps no_exp = no_exp
    place_exps (and_exp e es) = and_exp (place_exp e) (place_exps es)

    pub place_fields : Fields P → Fields Q
    place_fields no_field = no_field
    place_fields (and_field (field l e) es) = and_field (field (place_name l) (place_exp e)) (place_fields es)

    pub place_rules : Rules P → Rules Q
    place_rules no_rule = no_rule
    place_rules (and_rule (rule p q e) m) = and_rule (rule (f p) (place_pat q) (place_exp e)) (place_rules m)

    pub place_dec : Dec P → Dec Q
    place_dec (val_dec p xs bs rs) = val_dec (f p) (place_names xs) (place_binds bs) (place_binds rs)
    place_dec (type_dec p bs) = type_dec (f p) (map place_typ_bind bs)
    place_dec (datatype_dec p ds) = datatype_dec (f p) (map place_dat_bind ds)
    place_dec (datatype_with p ds bs) = datatype_with (f p) (map place_dat_bind ds) (map place_typ_bind bs)
    place_dec (datatype_copy p x c) = datatype_copy (f p) (place_name x) (place_long c)
    place_dec (exception_dec p bs) = exception_dec (f p) (map place_exn_bind bs)
    place_dec (local_dec p ds es) = local_dec (f p) (place_decs ds) (place_decs es)
    place_dec (sequence_dec p ds) = sequence_dec (f p) (place_decs ds)
    place_dec (open_dec p ss) = open_dec (f p) (map place_long ss)
    place_dec (fixity_dec p) = fixity_dec (f p)

    pub place_decs : Decs P → Decs Q
    place_decs no_dec = no_dec
    place_decs (and_dec d ds) = and_dec (place_dec d) (place_decs ds)

    pub place_binds : ValBinds P → ValBinds Q
    place_binds no_bind = no_bind
    place_binds (and_bind (bind q e) bs) = and_bind (bind (place_pat q) (place_exp e)) (place_binds bs)

  -- what stands in signatures

  abbrev pub place_where : WhereType P → WhereType Q
  place_where w = record { variables = place_names w.variables; constructor = place_long w.constructor; ty = place_ty w.ty }

  abbrev pub place_val_desc : ValDesc P → ValDesc Q
  place_val_desc d = record { name = place_name d.name; ty = place_ty d.ty }

  abbrev pub place_typ_desc : TypDesc P → TypDesc Q
  place_typ_desc d = record { variables = place_names d.variables; name = place_name d.name }

  unfoldable mutual
    pub place_sig : SigExp P → SigExp Q
    place_sig (sig_end p qs) = sig_end (f p) (place_specs qs)
    place_sig (sig_name p x) = sig_name (f p) x
    place_sig (where_type p e w) = where_type (f p) (place_sig e) (place_where w)

    pub place_specs : Specs P → Specs Q
    place_specs no_spec = no_spec
    place_specs (and_spec q qs) = and_spec (place_spec q) (place_specs qs)

    pub place_spec : Spec P → Spec Q
    place_spec (val_spec p ds) = val_spec (f p) (map place_val_desc ds)
    place_spec (type_spec p ds) = type_spec (f p) (map place_typ_desc ds)
    place_spec (eqtype_spec p ds) = eqtype_spec (f p) (map place_typ_desc ds)
    place_spec (datatype_spec p ds) = datatype_spec (f p) (map place_dat_bind ds)
    place_spec (copy_spec p x c) = copy_spec (f p) (place_name x) (place_long c)
    place_spec (exception_spec p cs) = exception_spec (f p) (map place_con_bind cs)
    place_spec (structure_spec p ds) = structure_spec (f p) (place_descs ds)
    place_spec (include_spec p e) = include_spec (f p) (place_sig e)
    place_spec (sharing_types p xs) = sharing_types (f p) (map place_long xs)
    place_spec (sharing_structures p xs) = sharing_structures (f p) (map place_long xs)

    pub place_descs : StrDescs P → StrDescs Q
    place_descs no_str_desc = no_str_desc
    place_descs (and_str_desc (str_desc x e) ds) = and_str_desc (str_desc (place_name x) (place_sig e)) (place_descs ds)

  unfoldable mutual
    pub place_str : StrExp P → StrExp Q
    place_str (struct_end p ds) = struct_end (f p) (place_str_decs ds)
    place_str (str_name x) = str_name (place_long x)
    place_str (ascribed p e a s) = ascribed (f p) (place_str e) a (place_sig s)
    place_str (functor_apply x e) = functor_apply (place_name x) (place_str e)
    place_str (str_let p ds e) = str_let (f p) (place_str_decs ds) (place_str e)

    pub place_str_dec : StrDec P → StrDec Q
    place_str_dec (core_dec d) = core_dec (place_dec d)
    place_str_dec (structure_dec p bs) = structure_dec (f p) (place_str_binds bs)
    place_str_dec (str_local p ds es) = str_local (f p) (place_str_decs ds) (place_str_decs es)

    pub place_str_decs : StrDecs P → StrDecs Q
    place_str_decs no_str_dec = no_str_dec
    place_str_decs (and_str_dec d ds) = and_str_dec (place_str_dec d) (place_str_decs ds)

    pub place_str_binds : StrBinds P → StrBinds Q
    place_str_binds no_str_bind = no_str_bind
    place_str_binds (and_str_bind (str_bind x e) bs) = and_str_bind (str_bind (place_name x) (place_str e)) (place_str_binds bs)

  abbrev pub place_sig_bind : SigBind P → SigBind Q
  place_sig_bind b = record { name = place_name b.name; signature = place_sig b.signature }

  abbrev pub place_fun_bind : FunBind P → FunBind Q
  place_fun_bind b = record { name = place_name b.name; argument = place_name b.argument; signature = place_sig b.signature; body = place_str b.body }

  abbrev pub place_top : TopDec P → TopDec Q
  place_top (top_str d) = top_str (place_str_dec d)
  place_top (signature_dec p bs) = signature_dec (f p) (map place_sig_bind bs)
  place_top (functor_dec p bs) = functor_dec (f p) (map place_fun_bind bs)

-- trees without places
abbrev pub forget_top : {P : Type 0} → TopDec P → TopDec (Unit {0})
forget_top d = place_top (λ p. tt) d

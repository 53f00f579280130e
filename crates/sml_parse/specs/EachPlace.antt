-- Each place that stands in a tree is such a one.
use Rattle.std.specs.Prelude.{List, Option, Some, None}
use Rattle.std.specs.List.{AllByRecursion}
use Rattle.sml_tree.specs.Names.{Name, LongName}
use Rattle.sml_tree.specs.Types.{Ty, Tys, TyField, TyFields, ty_variable, ty_row, ty_tuple, ty_constructor, ty_misapplied, ty_arrow, ty_bracket, no_ty, and_ty, ty_field, no_ty_field, and_ty_field}
use Rattle.sml_tree.specs.Patterns.{Pat, Pats, PatField, PatFields, wildcard, pat_constant, pat_name, pat_row, pat_tuple, pat_bracket, pat_apply, pat_typed, pat_as, no_pat, and_pat, pat_field, no_pat_field, and_pat_field}
use Rattle.sml_tree.specs.Expressions.{TypBind, ConBind, DatBind, ExnBind, new_exception, exception_copy, Exp, Exps, Field, Fields, Rule, Rules, Dec, Decs, ValBind, ValBinds, constant, name, row, tuple, let_in, bracket, apply, typed, handle, raise, fn, no_exp, and_exp, field, no_field, and_field, rule, no_rule, and_rule, val_dec, type_dec, datatype_dec, datatype_with, datatype_copy, exception_dec, local_dec, sequence_dec, open_dec, fixity_dec, no_dec, and_dec, bind, no_bind, and_bind}
use Rattle.sml_tree.specs.Signatures.{WhereType, ValDesc, TypDesc, SigExp, Spec, Specs, StrDesc, StrDescs, sig_end, sig_name, where_type, val_spec, type_spec, eqtype_spec, datatype_spec, copy_spec, exception_spec, structure_spec, include_spec, sharing_types, sharing_structures, no_spec, and_spec, str_desc, no_str_desc, and_str_desc}
use Rattle.sml_tree.specs.Structures.{StrExp, StrDec, StrDecs, StrBind, StrBinds, SigBind, FunBind, TopDec, struct_end, str_name, ascribed, functor_apply, str_let, core_dec, structure_dec, str_local, no_str_dec, and_str_dec, str_bind, no_str_bind, and_str_bind, top_str, signature_dec, functor_dec}

abbrev pub EachInName : {P : Type 0} → (P → Type 0) → Name P → Type 0
EachInName Q x = Q x.place

abbrev pub EachInLong : {P : Type 0} → (P → Type 0) → LongName P → Type 0
EachInLong Q c = Q c.place

abbrev pub EachInNames : {P : Type 0} → (P → Type 0) → List (Name P) → Type 0
EachInNames Q xs = AllByRecursion (EachInName Q) xs

abbrev pub EachInLongs : {P : Type 0} → (P → Type 0) → List (LongName P) → Type 0
EachInLongs Q cs = AllByRecursion (EachInLong Q) cs

abbrev mutual
  pub EachInTy : {P : Type 0} → (P → Type 0) → Ty P → Type 0
  EachInTy Q (ty_variable p v) = Q p
  EachInTy Q (ty_row p fs) = Q p × EachInTyFields Q fs
  EachInTy Q (ty_tuple p ts) = Q p × EachInTys Q ts
  EachInTy Q (ty_constructor p ts c) = Q p × EachInTys Q ts × EachInLong Q c
  EachInTy Q (ty_misapplied p ts c) = Q p × EachInTys Q ts × EachInLong Q c
  EachInTy Q (ty_arrow p t u) = Q p × EachInTy Q t × EachInTy Q u
  EachInTy Q (ty_bracket p t) = Q p × EachInTy Q t

  pub EachInTys : {P : Type 0} → (P → Type 0) → Tys P → Type 0
  EachInTys Q no_ty = Unit {0}
  EachInTys Q (and_ty t ts) = EachInTy Q t × EachInTys Q ts

  pub EachInTyField : {P : Type 0} → (P → Type 0) → TyField P → Type 0
  EachInTyField Q (ty_field l t) = EachInName Q l × EachInTy Q t

  pub EachInTyFields : {P : Type 0} → (P → Type 0) → TyFields P → Type 0
  EachInTyFields Q no_ty_field = Unit {0}
  EachInTyFields Q (and_ty_field f fs) = EachInTyField Q f × EachInTyFields Q fs

abbrev pub EachInTyIfAny : {P : Type 0} → (P → Type 0) → Option (Ty P) → Type 0
EachInTyIfAny Q None = Unit {0}
EachInTyIfAny Q (Some t) = EachInTy Q t

abbrev mutual
  pub EachInPat : {P : Type 0} → (P → Type 0) → Pat P → Type 0
  EachInPat Q (wildcard p) = Q p
  EachInPat Q (pat_constant p c) = Q p
  EachInPat Q (pat_name p c) = Q p × EachInLong Q c
  EachInPat Q (pat_row p fs dots) = Q p × EachInPatFields Q fs
  EachInPat Q (pat_tuple p qs) = Q p × EachInPats Q qs
  EachInPat Q (pat_bracket p q) = Q p × EachInPat Q q
  EachInPat Q (pat_apply p c q) = Q p × EachInLong Q c × EachInPat Q q
  EachInPat Q (pat_typed p q t) = Q p × EachInPat Q q × EachInTy Q t
  EachInPat Q (pat_as p x t q) = Q p × EachInName Q x × EachInTyIfAny Q t × EachInPat Q q

  pub EachInPats : {P : Type 0} → (P → Type 0) → Pats P → Type 0
  EachInPats Q no_pat = Unit {0}
  EachInPats Q (and_pat q qs) = EachInPat Q q × EachInPats Q qs

  pub EachInPatField : {P : Type 0} → (P → Type 0) → PatField P → Type 0
  EachInPatField Q (pat_field l q) = EachInName Q l × EachInPat Q q

  pub EachInPatFields : {P : Type 0} → (P → Type 0) → PatFields P → Type 0
  EachInPatFields Q no_pat_field = Unit {0}
  EachInPatFields Q (and_pat_field f fs) = EachInPatField Q f × EachInPatFields Q fs

abbrev pub EachInTypBind : {P : Type 0} → (P → Type 0) → TypBind P → Type 0
EachInTypBind Q b = EachInNames Q b.variables × EachInName Q b.name × EachInTy Q b.ty

abbrev pub EachInConBind : {P : Type 0} → (P → Type 0) → ConBind P → Type 0
EachInConBind Q b = EachInName Q b.name × EachInTyIfAny Q b.argument

abbrev pub EachInDatBind : {P : Type 0} → (P → Type 0) → DatBind P → Type 0
EachInDatBind Q b = EachInNames Q b.variables × EachInName Q b.name × AllByRecursion (EachInConBind Q) b.constructors

abbrev pub EachInExnBind : {P : Type 0} → (P → Type 0) → ExnBind P → Type 0
EachInExnBind Q (new_exception b) = EachInConBind Q b
EachInExnBind Q (exception_copy x c) = EachInName Q x × EachInLong Q c

abbrev mutual
  pub EachInExp : {P : Type 0} → (P → Type 0) → Exp P → Type 0
  EachInExp Q (constant p c) = Q p
  EachInExp Q (name p c) = Q p × EachInLong Q c
  EachInExp Q (row p fs) = Q p × EachInFields Q fs
  EachInExp Q (tuple p es) = Q p × EachInExps Q es
  EachInExp Q (let_in p ds e) = Q p × EachInDecs Q ds × EachInExp Q e
  EachInExp Q (bracket p e) = Q p × EachInExp Q e
  EachInExp Q (apply p e f) = Q p × EachInExp Q e × EachInExp Q f
  EachInExp Q (typed p e t) = Q p × EachInExp Q e × EachInTy Q t
  EachInExp Q (handle p e rs) = Q p × EachInExp Q e × EachInRules Q rs
  EachInExp Q (raise p e) = Q p × EachInExp Q e
  EachInExp Q (fn p rs) = Q p × EachInRules Q rs

  pub EachInExps : {P : Type 0} → (P → Type 0) → Exps P → Type 0
  EachInExps Q no_exp = Unit {0}
  EachInExps Q (and_exp e es) = EachInExp Q e × EachInExps Q es

  pub EachInField : {P : Type 0} → (P → Type 0) → Field P → Type 0
  EachInField Q (field l e) = EachInName Q l × EachInExp Q e

  pub EachInFields : {P : Type 0} → (P → Type 0) → Fields P → Type 0
  EachInFields Q no_field = Unit {0}
  EachInFields Q (and_field f fs) = EachInField Q f × EachInFields Q fs

  pub EachInRule : {P : Type 0} → (P → Type 0) → Rule P → Type 0
  EachInRule Q (rule p q e) = Q p × EachInPat Q q × EachInExp Q e

  pub EachInRules : {P : Type 0} → (P → Type 0) → Rules P → Type 0
  EachInRules Q no_rule = Unit {0}
  EachInRules Q (and_rule r rs) = EachInRule Q r × EachInRules Q rs

  pub EachInDec : {P : Type 0} → (P → Type 0) → Dec P → Type 0
  EachInDec Q (val_dec p vs bs rs) = Q p × EachInNames Q vs × EachInBinds Q bs × EachInBinds Q rs
  EachInDec Q (type_dec p bs) = Q p × AllByRecursion (EachInTypBind Q) bs
  EachInDec Q (datatype_dec p bs) = Q p × AllByRecursion (EachInDatBind Q) bs
  EachInDec Q (datatype_with p bs ts) = Q p × AllByRecursion (EachInDatBind Q) bs × AllByRecursion (EachInTypBind Q) ts
  EachInDec Q (datatype_copy p x c) = Q p × EachInName Q x × EachInLong Q c
  EachInDec Q (exception_dec p bs) = Q p × AllByRecursion (EachInExnBind Q) bs
  EachInDec Q (local_dec p ds es) = Q p × EachInDecs Q ds × EachInDecs Q es
  EachInDec Q (sequence_dec p ds) = Q p × EachInDecs Q ds
  EachInDec Q (open_dec p cs) = Q p × EachInLongs Q cs
  EachInDec Q (fixity_dec p) = Q p

  pub EachInDecs : {P : Type 0} → (P → Type 0) → Decs P → Type 0
  EachInDecs Q no_dec = Unit {0}
  EachInDecs Q (and_dec d ds) = EachInDec Q d × EachInDecs Q ds

  pub EachInBind : {P : Type 0} → (P → Type 0) → ValBind P → Type 0
  EachInBind Q (bind q e) = EachInPat Q q × EachInExp Q e

  pub EachInBinds : {P : Type 0} → (P → Type 0) → ValBinds P → Type 0
  EachInBinds Q no_bind = Unit {0}
  EachInBinds Q (and_bind b bs) = EachInBind Q b × EachInBinds Q bs

abbrev pub EachInWhere : {P : Type 0} → (P → Type 0) → WhereType P → Type 0
EachInWhere Q w = EachInNames Q w.variables × EachInLong Q w.constructor × EachInTy Q w.ty

abbrev pub EachInValDesc : {P : Type 0} → (P → Type 0) → ValDesc P → Type 0
EachInValDesc Q d = EachInName Q d.name × EachInTy Q d.ty

abbrev pub EachInTypDesc : {P : Type 0} → (P → Type 0) → TypDesc P → Type 0
EachInTypDesc Q d = EachInNames Q d.variables × EachInName Q d.name

abbrev mutual
  pub EachInSig : {P : Type 0} → (P → Type 0) → SigExp P → Type 0
  EachInSig Q (sig_end p ss) = Q p × EachInSpecs Q ss
  EachInSig Q (sig_name p x) = Q p
  EachInSig Q (where_type p s w) = Q p × EachInSig Q s × EachInWhere Q w

  pub EachInSpec : {P : Type 0} → (P → Type 0) → Spec P → Type 0
  EachInSpec Q (val_spec p ds) = Q p × AllByRecursion (EachInValDesc Q) ds
  EachInSpec Q (type_spec p ds) = Q p × AllByRecursion (EachInTypDesc Q) ds
  EachInSpec Q (eqtype_spec p ds) = Q p × AllByRecursion (EachInTypDesc Q) ds
  EachInSpec Q (datatype_spec p bs) = Q p × AllByRecursion (EachInDatBind Q) bs
  EachInSpec Q (copy_spec p x c) = Q p × EachInName Q x × EachInLong Q c
  EachInSpec Q (exception_spec p bs) = Q p × AllByRecursion (EachInConBind Q) bs
  EachInSpec Q (structure_spec p ds) = Q p × EachInStrDescs Q ds
  EachInSpec Q (include_spec p s) = Q p × EachInSig Q s
  EachInSpec Q (sharing_types p cs) = Q p × EachInLongs Q cs
  EachInSpec Q (sharing_structures p cs) = Q p × EachInLongs Q cs

  pub EachInSpecs : {P : Type 0} → (P → Type 0) → Specs P → Type 0
  EachInSpecs Q no_spec = Unit {0}
  EachInSpecs Q (and_spec s ss) = EachInSpec Q s × EachInSpecs Q ss

  pub EachInStrDesc : {P : Type 0} → (P → Type 0) → StrDesc P → Type 0
  EachInStrDesc Q (str_desc x s) = EachInName Q x × EachInSig Q s

  pub EachInStrDescs : {P : Type 0} → (P → Type 0) → StrDescs P → Type 0
  EachInStrDescs Q no_str_desc = Unit {0}
  EachInStrDescs Q (and_str_desc d ds) = EachInStrDesc Q d × EachInStrDescs Q ds

abbrev mutual
  pub EachInStr : {P : Type 0} → (P → Type 0) → StrExp P → Type 0
  EachInStr Q (struct_end p ds) = Q p × EachInStrDecs Q ds
  EachInStr Q (str_name c) = EachInLong Q c
  EachInStr Q (ascribed p e a s) = Q p × EachInStr Q e × EachInSig Q s
  EachInStr Q (functor_apply x e) = EachInName Q x × EachInStr Q e
  EachInStr Q (str_let p ds e) = Q p × EachInStrDecs Q ds × EachInStr Q e

  pub EachInStrDec : {P : Type 0} → (P → Type 0) → StrDec P → Type 0
  EachInStrDec Q (core_dec d) = EachInDec Q d
  EachInStrDec Q (structure_dec p bs) = Q p × EachInStrBinds Q bs
  EachInStrDec Q (str_local p ds es) = Q p × EachInStrDecs Q ds × EachInStrDecs Q es

  pub EachInStrDecs : {P : Type 0} → (P → Type 0) → StrDecs P → Type 0
  EachInStrDecs Q no_str_dec = Unit {0}
  EachInStrDecs Q (and_str_dec d ds) = EachInStrDec Q d × EachInStrDecs Q ds

  pub EachInStrBind : {P : Type 0} → (P → Type 0) → StrBind P → Type 0
  EachInStrBind Q (str_bind x e) = EachInName Q x × EachInStr Q e

  pub EachInStrBinds : {P : Type 0} → (P → Type 0) → StrBinds P → Type 0
  EachInStrBinds Q no_str_bind = Unit {0}
  EachInStrBinds Q (and_str_bind b bs) = EachInStrBind Q b × EachInStrBinds Q bs

abbrev pub EachInSigBind : {P : Type 0} → (P → Type 0) → SigBind P → Type 0
EachInSigBind Q b = EachInName Q b.name × EachInSig Q b.signature

abbrev pub EachInFunBind : {P : Type 0} → (P → Type 0) → FunBind P → Type 0
EachInFunBind Q b = EachInName Q b.name × EachInName Q b.argument × EachInSig Q b.signature × EachInStr Q b.body

abbrev pub EachInTop : {P : Type 0} → (P → Type 0) → TopDec P → Type 0
EachInTop Q (top_str d) = EachInStrDec Q d
EachInTop Q (signature_dec p bs) = Q p × AllByRecursion (EachInSigBind Q) bs
EachInTop Q (functor_dec p bs) = Q p × AllByRecursion (EachInFunBind Q) bs

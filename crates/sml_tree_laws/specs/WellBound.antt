-- What a tree binds well (the Definition, sections 2.9 and 3.5): nothing is bound twice in one group, the labels of a row
-- differ, constructors, exceptions and specified values have names that may be bound, and no pattern has a real constant.
use Rattle.std.specs.Prelude.{◌≡◌, ℕ, List, [], ◌∷◌, ◌++◌, Option, Some, None, false, map}
use Rattle.std.specs.List.{All}
use Rattle.sml_lex.specs.declared.fault.Place.{Place}
use Rattle.sml_lex.specs.declared.token.End.{End}
use Rattle.sml_lex.specs.declared.token.Token.{Token}
use Rattle.sml_lex.specs.Faults.{Fault}
use Rattle.sml_tree.specs.Trees as Piece
use Rattle.sml_tree.specs.Trees.{Id}
use Rattle.sml_tree.specs.Types.{Ty, Tys, TyFields, ty_variable, ty_row, ty_tuple, ty_constructor, ty_misapplied, ty_arrow, ty_bracket, no_ty, and_ty, ty_field, no_ty_field, and_ty_field}
use Rattle.sml_tree.specs.declared.patterns.ConstantKind.TheVariants.{Real}
use Rattle.sml_tree.specs.Patterns.{Pat, Pats, PatFields, wildcard, pat_constant, pat_name, pat_row, pat_tuple, pat_bracket, pat_apply, pat_typed, pat_as, no_pat, and_pat, pat_field, no_pat_field, and_pat_field}
use Rattle.sml_tree.specs.Expressions.{TypBind, ConBind, DatBind, Exp, Exps, Fields, Rules, Dec, Decs, ValBinds, ExnBind, constant, name, row, tuple, let_in, bracket, apply, typed, handle, raise, fn, no_exp, and_exp, field, no_field, and_field, rule, no_rule, and_rule, val_dec, type_dec, datatype_dec, datatype_with, datatype_copy, exception_dec, local_dec, sequence_dec, open_dec, fixity_dec, no_dec, and_dec, bind, no_bind, and_bind, new_exception, exception_copy}
use Rattle.sml_tree.specs.Signatures.{WhereType, ValDesc, TypDesc, SigExp, Spec, Specs, StrDescs, sig_end, sig_name, where_type, val_spec, type_spec, eqtype_spec, datatype_spec, copy_spec, exception_spec, structure_spec, include_spec, sharing_types, sharing_structures, no_spec, and_spec, str_desc, no_str_desc, and_str_desc}
use Rattle.sml_tree.specs.Structures.{StrExp, StrDec, StrDecs, StrBinds, SigBind, FunBind, TopDec, struct_end, str_name, ascribed, functor_apply, str_let, core_dec, structure_dec, str_local, no_str_dec, and_str_dec, str_bind, no_str_bind, and_str_bind, top_str, signature_dec, functor_dec}
use Rattle.sml_objects.specs.Appearance.{Stands}
use Rattle.sml_rules.specs.Every.{Every}
use Rattle.sml_flaws.specs.Flaws.{is_reserved, is_it}
use Rattle.sml_parse.specs.Trees.{AreTrees}
use Rattle.sml_tree_laws.specs.Scoped.{ids}

-- no identifier stands twice
abbrev pub AreDistinct : List Id → Type 0
AreDistinct [] = Unit {0}
AreDistinct (x ∷ xs) = (Stands x xs → ⊥) × AreDistinct xs

-- not `true`, `false`, `nil`, `::` or `ref`
abbrev pub MayBeValue : Id → Type 0
MayBeValue x = is_reserved x ≡ false

-- nor `it`
abbrev pub MayBeConstructor : Id → Type 0
MayBeConstructor x = (is_reserved x ≡ false) × (is_it x ≡ false)

-- types

abbrev pub ty_labels : {P : Type 0} → TyFields P → List Id
ty_labels no_ty_field = []
ty_labels (and_ty_field (ty_field l t) fs) = l.id ∷ ty_labels fs

abbrev mutual
  pub TyBound : {P : Type 0} → Ty P → Type 0
  TyBound (ty_variable p x) = Unit {0}
  TyBound (ty_row p fs) = AreDistinct (ty_labels fs) × TyFieldsBound fs
  TyBound (ty_tuple p ts) = TysBound ts
  TyBound (ty_constructor p ts c) = TysBound ts
  TyBound (ty_misapplied p ts c) = TysBound ts
  TyBound (ty_arrow p t u) = TyBound t × TyBound u
  TyBound (ty_bracket p t) = TyBound t

  pub TysBound : {P : Type 0} → Tys P → Type 0
  TysBound no_ty = Unit {0}
  TysBound (and_ty t ts) = TyBound t × TysBound ts

  pub TyFieldsBound : {P : Type 0} → TyFields P → Type 0
  TyFieldsBound no_ty_field = Unit {0}
  TyFieldsBound (and_ty_field (ty_field l t) fs) = TyBound t × TyFieldsBound fs

abbrev pub TyBoundIfAny : {P : Type 0} → Option (Ty P) → Type 0
TyBoundIfAny None = Unit {0}
TyBoundIfAny (Some t) = TyBound t

-- patterns

abbrev pub pat_labels : {P : Type 0} → PatFields P → List Id
pat_labels no_pat_field = []
pat_labels (and_pat_field (pat_field l q) fs) = l.id ∷ pat_labels fs

abbrev mutual
  pub PatBound : {P : Type 0} → Pat P → Type 0
  PatBound (wildcard p) = Unit {0}
  PatBound (pat_constant p c) = c.kind ≡ Real → ⊥
  PatBound (pat_name p x) = Unit {0}
  PatBound (pat_row p fs b) = AreDistinct (pat_labels fs) × PatFieldsBound fs
  PatBound (pat_tuple p qs) = PatsBound qs
  PatBound (pat_bracket p q) = PatBound q
  PatBound (pat_apply p x q) = PatBound q
  PatBound (pat_typed p q t) = PatBound q × TyBound t
  PatBound (pat_as p x t q) = TyBoundIfAny t × PatBound q

  pub PatsBound : {P : Type 0} → Pats P → Type 0
  PatsBound no_pat = Unit {0}
  PatsBound (and_pat q qs) = PatBound q × PatsBound qs

  pub PatFieldsBound : {P : Type 0} → PatFields P → Type 0
  PatFieldsBound no_pat_field = Unit {0}
  PatFieldsBound (and_pat_field (pat_field l q) fs) = PatBound q × PatFieldsBound fs

-- bindings of types, datatypes and exceptions

abbrev pub type_names : {P : Type 0} → List (TypBind P) → List Id
type_names bs = map (λ b. b.name.id) bs

abbrev pub TypBindsBound : {P : Type 0} → List (TypBind P) → Type 0
TypBindsBound [] = Unit {0}
TypBindsBound (b ∷ bs) = (AreDistinct (ids b.variables) × TyBound b.ty) × TypBindsBound bs

abbrev pub con_names : {P : Type 0} → List (ConBind P) → List Id
con_names cs = map (λ c. c.name.id) cs

abbrev pub ConBindsBound : {P : Type 0} → List (ConBind P) → Type 0
ConBindsBound [] = Unit {0}
ConBindsBound (c ∷ cs) = TyBoundIfAny c.argument × ConBindsBound cs

abbrev pub datatype_names : {P : Type 0} → List (DatBind P) → List Id
datatype_names ds = map (λ d. d.name.id) ds

-- the constructors of all of them
abbrev pub all_con_names : {P : Type 0} → List (DatBind P) → List Id
all_con_names [] = []
all_con_names (d ∷ ds) = con_names d.constructors ++ all_con_names ds

abbrev pub DatBindsBound : {P : Type 0} → List (DatBind P) → Type 0
DatBindsBound [] = Unit {0}
DatBindsBound (d ∷ ds) = (AreDistinct (ids d.variables) × ConBindsBound d.constructors) × DatBindsBound ds

-- datatypes that are bound together
abbrev pub DatatypesBound : {P : Type 0} → List (DatBind P) → Type 0
DatatypesBound ds = AreDistinct (datatype_names ds) × AreDistinct (all_con_names ds) × Every MayBeConstructor (all_con_names ds) × DatBindsBound ds

abbrev pub exn_name : {P : Type 0} → ExnBind P → Id
exn_name (new_exception b) = b.name.id
exn_name (exception_copy x y) = x.id

abbrev pub exn_names : {P : Type 0} → List (ExnBind P) → List Id
exn_names bs = map exn_name bs

abbrev pub ExnBindBound : {P : Type 0} → ExnBind P → Type 0
ExnBindBound (new_exception b) = TyBoundIfAny b.argument
ExnBindBound (exception_copy x y) = Unit {0}

abbrev pub ExnBindsBound : {P : Type 0} → List (ExnBind P) → Type 0
ExnBindsBound [] = Unit {0}
ExnBindsBound (b ∷ bs) = ExnBindBound b × ExnBindsBound bs

-- expressions and declarations

abbrev pub labels : {P : Type 0} → Fields P → List Id
labels no_field = []
labels (and_field (field l e) fs) = l.id ∷ labels fs

abbrev mutual
  pub ExpBound : {P : Type 0} → Exp P → Type 0
  ExpBound (constant p c) = Unit {0}
  ExpBound (name p x) = Unit {0}
  ExpBound (row p fs) = AreDistinct (labels fs) × FieldsBound fs
  ExpBound (tuple p es) = ExpsBound es
  ExpBound (let_in p ds e) = DecsBound ds × ExpBound e
  ExpBound (bracket p e) = ExpBound e
  ExpBound (apply p f e) = ExpBound f × ExpBound e
  ExpBound (typed p e t) = ExpBound e × TyBound t
  ExpBound (handle p e m) = ExpBound e × RulesBound m
  ExpBound (raise p e) = ExpBound e
  ExpBound (fn p m) = RulesBound m

  pub ExpsBound : {P : Type 0} → Exps P → Type 0
  ExpsBound no_exp = Unit {0}
  ExpsBound (and_exp e es) = ExpBound e × ExpsBound es

  pub FieldsBound : {P : Type 0} → Fields P → Type 0
  FieldsBound no_field = Unit {0}
  FieldsBound (and_field (field l e) fs) = ExpBound e × FieldsBound fs

  pub RulesBound : {P : Type 0} → Rules P → Type 0
  RulesBound no_rule = Unit {0}
  RulesBound (and_rule (rule p q e) m) = (PatBound q × ExpBound e) × RulesBound m

  pub DecBound : {P : Type 0} → Dec P → Type 0
  DecBound (val_dec p xs bs rs) = AreDistinct (ids xs) × BindsBound bs × BindsBound rs
  DecBound (type_dec p bs) = AreDistinct (type_names bs) × TypBindsBound bs
  DecBound (datatype_dec p ds) = DatatypesBound ds
  DecBound (datatype_with p ds bs) = DatatypesBound ds × AreDistinct (type_names bs) × TypBindsBound bs
  DecBound (datatype_copy p x c) = Unit {0}
  DecBound (exception_dec p bs) = AreDistinct (exn_names bs) × Every MayBeConstructor (exn_names bs) × ExnBindsBound bs
  DecBound (local_dec p ds es) = DecsBound ds × DecsBound es
  DecBound (sequence_dec p ds) = DecsBound ds
  DecBound (open_dec p xs) = Unit {0}
  DecBound (fixity_dec p) = Unit {0}

  pub DecsBound : {P : Type 0} → Decs P → Type 0
  DecsBound no_dec = Unit {0}
  DecsBound (and_dec d ds) = DecBound d × DecsBound ds

  pub BindsBound : {P : Type 0} → ValBinds P → Type 0
  BindsBound no_bind = Unit {0}
  BindsBound (and_bind (bind q e) bs) = (PatBound q × ExpBound e) × BindsBound bs

-- signatures and specifications

abbrev pub value_names : {P : Type 0} → List (ValDesc P) → List Id
value_names ds = map (λ d. d.name.id) ds

abbrev pub ValDescsBound : {P : Type 0} → List (ValDesc P) → Type 0
ValDescsBound [] = Unit {0}
ValDescsBound (d ∷ ds) = TyBound d.ty × ValDescsBound ds

abbrev pub described : {P : Type 0} → List (TypDesc P) → List Id
described ds = map (λ d. d.name.id) ds

abbrev pub TypDescsBound : {P : Type 0} → List (TypDesc P) → Type 0
TypDescsBound [] = Unit {0}
TypDescsBound (d ∷ ds) = AreDistinct (ids d.variables) × TypDescsBound ds

abbrev pub WhereBound : {P : Type 0} → WhereType P → Type 0
WhereBound w = AreDistinct (ids w.variables) × TyBound w.ty

abbrev pub str_desc_names : {P : Type 0} → StrDescs P → List Id
str_desc_names no_str_desc = []
str_desc_names (and_str_desc (str_desc x s) ds) = x.id ∷ str_desc_names ds

abbrev mutual
  pub SigBound : {P : Type 0} → SigExp P → Type 0
  SigBound (sig_end p ss) = SpecsBound ss
  SigBound (sig_name p x) = Unit {0}
  SigBound (where_type p s w) = SigBound s × WhereBound w

  pub SpecBound : {P : Type 0} → Spec P → Type 0
  SpecBound (val_spec p ds) = AreDistinct (value_names ds) × Every MayBeValue (value_names ds) × ValDescsBound ds
  SpecBound (type_spec p ds) = AreDistinct (described ds) × TypDescsBound ds
  SpecBound (eqtype_spec p ds) = AreDistinct (described ds) × TypDescsBound ds
  SpecBound (datatype_spec p ds) = DatatypesBound ds
  SpecBound (copy_spec p x c) = Unit {0}
  SpecBound (exception_spec p cs) = AreDistinct (con_names cs) × Every MayBeConstructor (con_names cs) × ConBindsBound cs
  SpecBound (structure_spec p ds) = AreDistinct (str_desc_names ds) × StrDescsBound ds
  SpecBound (include_spec p s) = SigBound s
  SpecBound (sharing_types p cs) = Unit {0}
  SpecBound (sharing_structures p cs) = Unit {0}

  pub SpecsBound : {P : Type 0} → Specs P → Type 0
  SpecsBound no_spec = Unit {0}
  SpecsBound (and_spec s ss) = SpecBound s × SpecsBound ss

  pub StrDescsBound : {P : Type 0} → StrDescs P → Type 0
  StrDescsBound no_str_desc = Unit {0}
  StrDescsBound (and_str_desc (str_desc x s) ds) = SigBound s × StrDescsBound ds

-- structures and top-level declarations

abbrev pub str_names : {P : Type 0} → StrBinds P → List Id
str_names no_str_bind = []
str_names (and_str_bind (str_bind x e) bs) = x.id ∷ str_names bs

abbrev mutual
  pub StrBound : {P : Type 0} → StrExp P → Type 0
  StrBound (struct_end p ds) = StrDecsBound ds
  StrBound (str_name x) = Unit {0}
  StrBound (ascribed p e a s) = StrBound e × SigBound s
  StrBound (functor_apply f e) = StrBound e
  StrBound (str_let p ds e) = StrDecsBound ds × StrBound e

  pub StrDecBound : {P : Type 0} → StrDec P → Type 0
  StrDecBound (core_dec d) = DecBound d
  StrDecBound (structure_dec p bs) = AreDistinct (str_names bs) × StrBindsBound bs
  StrDecBound (str_local p ds es) = StrDecsBound ds × StrDecsBound es

  pub StrDecsBound : {P : Type 0} → StrDecs P → Type 0
  StrDecsBound no_str_dec = Unit {0}
  StrDecsBound (and_str_dec d ds) = StrDecBound d × StrDecsBound ds

  pub StrBindsBound : {P : Type 0} → StrBinds P → Type 0
  StrBindsBound no_str_bind = Unit {0}
  StrBindsBound (and_str_bind (str_bind x e) bs) = StrBound e × StrBindsBound bs

abbrev pub signature_names : {P : Type 0} → List (SigBind P) → List Id
signature_names bs = map (λ b. b.name.id) bs

abbrev pub SigBindsBound : {P : Type 0} → List (SigBind P) → Type 0
SigBindsBound [] = Unit {0}
SigBindsBound (b ∷ bs) = SigBound b.signature × SigBindsBound bs

abbrev pub functor_names : {P : Type 0} → List (FunBind P) → List Id
functor_names bs = map (λ b. b.name.id) bs

abbrev pub FunBindsBound : {P : Type 0} → List (FunBind P) → Type 0
FunBindsBound [] = Unit {0}
FunBindsBound (b ∷ bs) = (SigBound b.signature × StrBound b.body) × FunBindsBound bs

abbrev pub TopBound : {P : Type 0} → TopDec P → Type 0
TopBound (top_str d) = StrDecBound d
TopBound (signature_dec p bs) = AreDistinct (signature_names bs) × SigBindsBound bs
TopBound (functor_dec p bs) = AreDistinct (functor_names bs) × FunBindsBound bs

-- Of all declarations that bytes spell.
abbrev pub TreesAreWellBound : Type 0
TreesAreWellBound =
    (unit : List ℕ) (tokens : List Token) (end : End) (tops : List (TopDec Place)) (decs : List (Piece.Dec Place)) (fault : Option (Fault Place))
    → AreTrees unit tokens end tops decs fault → All TopBound tops

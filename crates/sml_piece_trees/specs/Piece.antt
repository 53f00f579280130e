-- Which whole declarations are of the first piece of the language, and what they are as trees of that:
--   val VID = exp;  structure ID = struct decs end :> sig specs end
--   specs: type ID, val VID : ty;  decs: type ID = ty, val VID = exp
--   exp: an integer, VID, a long identifier, ( ), ( exp ), ( exp , .. , exp ), fn VID => exp
--   ty: ID, a long identifier, ( ty ), ty * .. * ty, ty -> ty
-- Nothing else is known of how they are written: derived forms are of the piece where their bare forms are.
use Rattle.std.specs.Prelude.{ℕ, List, [], ◌∷◌, Bool, true, false, if◌then◌else◌, not, codes, Option, Some, None}
use Rattle.std.specs.List.{list_any}
use Rattle.std.specs.Option.{option_map}
use Rattle.std.specs.Str.{bytes_eq}
use Rattle.sml_lex.specs.declared.fault.Place.{Place}
use Rattle.sml_lex.specs.Bytes.{is_letter}
use Rattle.sml_lex.specs.Faults.{first_place}
use Rattle.sml_tree.specs.declared.patterns.ConstantKind.{ConstantKind}
use Rattle.sml_tree.specs.declared.patterns.ConstantKind.TheVariants.{Integer}
use Rattle.sml_tree.specs.declared.structures.Ascription.{Ascription}
use Rattle.sml_tree.specs.declared.structures.Ascription.TheVariants.{Opaque}
use Rattle.sml_tree.specs.Trees.{Id, LongId, Exp, Exps, Ty, Tys, Spec, CoreDec, Dec, number, name, tuple, bracket, function, no_exp, and_exp, constructor, product, arrow_to, bracket_ty, no_ty, and_ty, type_spec, val_spec, val_dec, type_dec, core, sealed, other}
use Rattle.sml_tree.specs.Names.{LongName}
use Rattle.sml_tree.specs.Types as T
use Rattle.sml_tree.specs.Patterns as P
use Rattle.sml_tree.specs.Expressions as E
use Rattle.sml_tree.specs.Signatures as S
use Rattle.sml_tree.specs.Structures as M

-- what two things make, where both are there
abbrev pub both : {A B C : Type 0} → (A → B → C) → Option A → Option B → Option C
both f None b = None
both f (Some a) None = None
both f (Some a) (Some b) = Some (f a b)

-- The alphanumeric value identifiers of the initial basis (the Definition, appendices C and D): those that have a fixity
-- or can't be bound (section 2.9), the exceptions, and the others.
abbrev pub reserved_names : List (List ℕ)
reserved_names = codes "before" ∷ codes "div" ∷ codes "false" ∷ codes "mod" ∷ codes "nil" ∷ codes "o" ∷ codes "ref" ∷ codes "true" ∷ []

abbrev pub exception_names : List (List ℕ)
exception_names = codes "Bind" ∷ codes "Div" ∷ codes "Fail" ∷ codes "Match" ∷ codes "Overflow" ∷ codes "Subscript" ∷ []

abbrev pub function_names : List (List ℕ)
function_names = codes "abs" ∷ codes "chr" ∷ codes "floor" ∷ codes "ignore" ∷ codes "length" ∷ codes "map" ∷ codes "not" ∷ []

abbrev pub further_function_names : List (List ℕ)
further_function_names = codes "ord" ∷ codes "print" ∷ codes "real" ∷ codes "rev" ∷ codes "size" ∷ codes "str" ∷ []

abbrev pub begins_with_letter : List ℕ → Bool
begins_with_letter [] = false
begins_with_letter (c ∷ text) = is_letter c

-- alphanumeric, and none of them
abbrev pub is_value_name : List ℕ → Bool
is_value_name text =
    if not (begins_with_letter text) then false
    else if list_any (bytes_eq text) reserved_names then false
    else if list_any (bytes_eq text) exception_names then false
    else if list_any (bytes_eq text) function_names then false
    else not (list_any (bytes_eq text) further_function_names)

-- an identifier that is bound has no path
abbrev pub bound_in : List Id → Id → Option Id
bound_in [] x = if is_value_name x then Some x else None
bound_in (s ∷ path) x = None

abbrev pub is_used_in : List Id → Id → Bool
is_used_in [] x = is_value_name x
is_used_in (s ∷ path) x = true

-- types

abbrev pub constructor_piece : {Q : Type 0} → T.Tys Q → LongName Q → Option (Ty Q)
constructor_piece T.no_ty c = Some (constructor c.place c.id)
constructor_piece (T.and_ty t ts) c = None

unfoldable mutual
  pub ty_piece : {Q : Type 0} → T.Ty Q → Option (Ty Q)
  ty_piece (T.ty_variable p v) = None
  ty_piece (T.ty_row p fs) = None
  ty_piece (T.ty_tuple p ts) = option_map product (tys_piece ts)
  ty_piece (T.ty_constructor p ts c) = constructor_piece ts c
  ty_piece (T.ty_misapplied p ts c) = None
  ty_piece (T.ty_arrow p t u) = both arrow_to (ty_piece t) (ty_piece u)
  ty_piece (T.ty_bracket p t) = option_map bracket_ty (ty_piece t)

  pub tys_piece : {Q : Type 0} → T.Tys Q → Option (Tys Q)
  tys_piece T.no_ty = Some no_ty
  tys_piece (T.and_ty t ts) = both and_ty (ty_piece t) (tys_piece ts)

-- expressions

abbrev pub constant_piece : {Q : Type 0} → ConstantKind → Option (Exp Q)
constant_piece Integer = Some number
constant_piece _ = None

abbrev pub name_piece : {Q : Type 0} → LongName Q → Option (Exp Q)
name_piece c = if is_used_in c.id.path c.id.last then Some (name c.place c.id) else None

-- the variable that a pattern is
abbrev pub variable_of : {Q : Type 0} → P.Pat Q → Option Id
variable_of (P.pat_name p c) = bound_in c.id.path c.id.last
variable_of _ = None

unfoldable mutual
  pub exp_piece : {Q : Type 0} → E.Exp Q → Option (Exp Q)
  exp_piece (E.constant p c) = constant_piece c.kind
  exp_piece (E.name p c) = name_piece c
  exp_piece (E.row p fs) = None
  exp_piece (E.tuple p es) = option_map tuple (exps_piece es)
  exp_piece (E.let_in p ds e) = None
  exp_piece (E.bracket p e) = option_map bracket (exp_piece e)
  exp_piece (E.apply p f e) = None
  exp_piece (E.typed p e t) = None
  exp_piece (E.handle p e rs) = None
  exp_piece (E.raise p e) = None
  exp_piece (E.fn p rs) = rules_piece rs

  pub exps_piece : {Q : Type 0} → E.Exps Q → Option (Exps Q)
  exps_piece E.no_exp = Some no_exp
  exps_piece (E.and_exp e es) = both and_exp (exp_piece e) (exps_piece es)

  -- a match of one rule
  pub rules_piece : {Q : Type 0} → E.Rules Q → Option (Exp Q)
  rules_piece E.no_rule = None
  rules_piece (E.and_rule r E.no_rule) = rule_piece r
  rules_piece (E.and_rule r (E.and_rule s rs)) = None

  pub rule_piece : {Q : Type 0} → E.Rule Q → Option (Exp Q)
  rule_piece (E.rule p q e) = both function (variable_of q) (exp_piece e)

-- declarations

abbrev pub bind_piece : {Q : Type 0} → Q → E.ValBind Q → Option (CoreDec Q)
bind_piece p (E.bind q e) = both (val_dec p) (variable_of q) (exp_piece e)

abbrev pub binds_piece : {Q : Type 0} → Q → E.ValBinds Q → Option (CoreDec Q)
binds_piece p (E.and_bind b E.no_bind) = bind_piece p b
binds_piece p bs = None

-- without type variables, and with no binding after `rec`
abbrev pub val_piece : {A Q : Type 0} → Q → List A → E.ValBinds Q → E.ValBinds Q → Option (CoreDec Q)
val_piece p [] bs E.no_bind = binds_piece p bs
val_piece p [] bs (E.and_bind r rs) = None
val_piece p (v ∷ vs) bs rs = None

abbrev pub typ_bind_piece : {Q : Type 0} → Q → E.TypBind Q → Option (CoreDec Q)
typ_bind_piece p b = elim b.variables [ [] ↦ option_map (type_dec p b.name.id) (ty_piece b.ty) | v ∷ vs ↦ None ]

abbrev pub type_piece : {Q : Type 0} → Q → List (E.TypBind Q) → Option (CoreDec Q)
type_piece p (b ∷ []) = typ_bind_piece p b
type_piece p bs = None

abbrev pub core_piece : {Q : Type 0} → E.Dec Q → Option (CoreDec Q)
core_piece (E.val_dec p vs bs rs) = val_piece p vs bs rs
core_piece (E.type_dec p bs) = type_piece p bs
core_piece _ = None

abbrev pub str_dec_piece : {Q : Type 0} → M.StrDec Q → Option (CoreDec Q)
str_dec_piece (M.core_dec d) = core_piece d
str_dec_piece _ = None

abbrev pub str_decs_piece : {Q : Type 0} → M.StrDecs Q → Option (List (CoreDec Q))
str_decs_piece M.no_str_dec = Some []
str_decs_piece (M.and_str_dec d ds) = both ◌∷◌ (str_dec_piece d) (str_decs_piece ds)

-- specifications

abbrev pub val_desc_piece : {Q : Type 0} → Q → S.ValDesc Q → Option (Spec Q)
val_desc_piece p d = option_map (val_spec p d.name.id) (ty_piece d.ty)

abbrev pub val_descs_piece : {Q : Type 0} → Q → List (S.ValDesc Q) → Option (Spec Q)
val_descs_piece p (d ∷ []) = val_desc_piece p d
val_descs_piece p ds = None

abbrev pub typ_desc_piece : {Q : Type 0} → Q → S.TypDesc Q → Option (Spec Q)
typ_desc_piece p d = elim d.variables [ [] ↦ Some (type_spec p d.name.id) | v ∷ vs ↦ None ]

abbrev pub typ_descs_piece : {Q : Type 0} → Q → List (S.TypDesc Q) → Option (Spec Q)
typ_descs_piece p (d ∷ []) = typ_desc_piece p d
typ_descs_piece p ds = None

abbrev pub spec_piece : {Q : Type 0} → S.Spec Q → Option (Spec Q)
spec_piece (S.val_spec p ds) = val_descs_piece p ds
spec_piece (S.type_spec p ds) = typ_descs_piece p ds
spec_piece _ = None

abbrev pub specs_piece : {Q : Type 0} → S.Specs Q → Option (List (Spec Q))
specs_piece S.no_spec = Some []
specs_piece (S.and_spec s ss) = both ◌∷◌ (spec_piece s) (specs_piece ss)

-- structures

-- the declarations of `struct .. end`
abbrev pub body_piece : {Q : Type 0} → M.StrExp Q → Option (List (CoreDec Q))
body_piece (M.struct_end p ds) = str_decs_piece ds
body_piece _ = None

abbrev pub sealed_piece : {Q : Type 0} → Id → M.StrExp Q → S.SigExp Q → Option (Dec Q)
sealed_piece x e (S.sig_end p ss) = both (sealed x p) (specs_piece ss) (body_piece e)
sealed_piece x e _ = None

abbrev pub ascribed_piece : {Q : Type 0} → Id → Ascription → M.StrExp Q → S.SigExp Q → Option (Dec Q)
ascribed_piece x Opaque e s = sealed_piece x e s
ascribed_piece x _ e s = None

abbrev pub str_piece : {Q : Type 0} → Id → M.StrExp Q → Option (Dec Q)
str_piece x (M.ascribed p e a s) = ascribed_piece x a e s
str_piece x _ = None

abbrev pub str_bind_piece : {Q : Type 0} → M.StrBind Q → Option (Dec Q)
str_bind_piece (M.str_bind x e) = str_piece x.id e

abbrev pub str_binds_piece : {Q : Type 0} → M.StrBinds Q → Option (Dec Q)
str_binds_piece (M.and_str_bind b M.no_str_bind) = str_bind_piece b
str_binds_piece bs = None

-- a type isn't declared at the top
abbrev pub val_dec_piece : {Q : Type 0} → E.Dec Q → Option (Dec Q)
val_dec_piece (E.val_dec p vs bs rs) = option_map core (val_piece p vs bs rs)
val_dec_piece _ = None

abbrev pub str_top_piece : {Q : Type 0} → M.StrDec Q → Option (Dec Q)
str_top_piece (M.core_dec d) = val_dec_piece d
str_top_piece (M.structure_dec p bs) = str_binds_piece bs
str_top_piece (M.str_local p ds es) = None

abbrev pub top_piece : {Q : Type 0} → M.TopDec Q → Option (Dec Q)
top_piece (M.top_str d) = str_top_piece d
top_piece _ = None

abbrev pub or_other : Option (Dec Place) → Dec Place
or_other None = other first_place
or_other (Some d) = d

-- what a whole declaration is as a tree of the piece: outside it, a declaration at 1.1 of which nothing more is said
abbrev pub piece_of : M.TopDec Place → Dec Place
piece_of d = or_other (top_piece d)

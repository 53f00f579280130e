-- The places of a declaration of the first piece are among those of the whole one.
use Rattle.std.proofs.Common.{List, [], ◌∷◌, ◌++◌, Bool, true, false, Option, Some, None}
use Rattle.std.specs.Prelude.{IfSome, if◌then◌else◌}
use Rattle.std.specs.List.{All, AllByRecursion}
use Rattle.std.specs.Option.{option_map}
use Rattle.std.proofs.lemmas.List.Elements.{All-from_recursion}
use Rattle.sml_lex.specs.declared.fault.Place.{Place}
use Rattle.sml_lex.specs.Faults.{first_place}
use Rattle.sml_tree.specs.Trees.{Id, Exp, Exps, Ty, Tys, Spec, CoreDec, Dec, name, tuple, bracket, function, and_exp, product, arrow_to, bracket_ty, and_ty, type_spec, val_spec, val_dec, type_dec, core, sealed}
use Rattle.sml_tree.specs.Places.{exp_places, exps_places, ty_places, tys_places, spec_places, specs_places, core_places, cores_places, dec_places}
use Rattle.sml_tree.specs.Names.{Name, LongName}
use Rattle.sml_tree.specs.declared.patterns.ConstantKind.{ConstantKind}
use Rattle.sml_tree.specs.declared.patterns.ConstantKind.TheVariants.{Integer}
use Rattle.sml_tree.specs.declared.structures.Ascription.{Ascription}
use Rattle.sml_tree.specs.declared.structures.Ascription.TheVariants.{Opaque}
use Rattle.sml_tree.specs.Types as T
use Rattle.sml_tree.specs.Expressions as E
use Rattle.sml_tree.specs.Signatures as S
use Rattle.sml_tree.specs.Structures as M
use Rattle.sml_piece_trees.specs.Piece.{both, is_used_in, ty_piece, tys_piece, constructor_piece, constant_piece, name_piece, variable_of, exp_piece, exps_piece, rules_piece, rule_piece, bind_piece, binds_piece, val_piece, typ_bind_piece, type_piece, core_piece, str_dec_piece, str_decs_piece, val_desc_piece, val_descs_piece, typ_desc_piece, typ_descs_piece, spec_piece, specs_piece, body_piece, sealed_piece, ascribed_piece, str_piece, str_bind_piece, str_binds_piece, val_dec_piece, str_top_piece, top_piece, or_other, piece_of}
use Rattle.sml_parse.specs.EachPlace.{EachInLong, EachInTy, EachInTys, EachInExp, EachInExps, EachInRules, EachInRule, EachInBind, EachInBinds, EachInTypBind, EachInDec, EachInStrDec, EachInStrDecs, EachInStr, EachInStrBind, EachInStrBinds, EachInSig, EachInSpec, EachInSpecs, EachInValDesc, EachInTypDesc, EachInTop}

any : {A : Type 0} (o : Option A) → IfSome o (λ x. Unit {0})
any None = tt
any (Some x) = tt

module _ {A B C : Type 0} (P : A → Type 0) (R : B → Type 0) (S : C → Type 0) where
  both_each : (f : A → B → C) → ((a : A) (b : B) → P a → R b → S (f a b)) → (o : Option A) (p : Option B) → IfSome o P → IfSome p R → IfSome (both f o p) S
  both_each f g None p h k = tt
  both_each f g (Some a) None h k = tt
  both_each f g (Some a) (Some b) h k = g a b h k

map_each : {A B : Type 0} (P : A → Type 0) (R : B → Type 0) (f : A → B) → ((a : A) → P a → R (f a)) → (o : Option A) → IfSome o P → IfSome (option_map f o) R
map_each P R f g None h = tt
map_each P R f g (Some a) h = g a h

module _ (Q : Place → Type 0) where
  abbrev Each : List Place → Type 0
  Each ps = AllByRecursion Q ps

  each_append : (ps qs : List Place) → Each ps → Each qs → Each (ps ++ qs)
  each_append [] qs h k = k
  each_append (p ∷ ps) qs h k = (h.0, each_append ps qs h.1 k)

  abbrev OfTy : Ty Place → Type 0
  OfTy t = Each (ty_places t)

  abbrev OfTys : Tys Place → Type 0
  OfTys ts = Each (tys_places ts)

  abbrev OfExp : Exp Place → Type 0
  OfExp e = Each (exp_places e)

  abbrev OfExps : Exps Place → Type 0
  OfExps es = Each (exps_places es)

  abbrev OfCore : CoreDec Place → Type 0
  OfCore d = Each (core_places d)

  abbrev OfCores : List (CoreDec Place) → Type 0
  OfCores ds = Each (cores_places ds)

  abbrev OfSpec : Spec Place → Type 0
  OfSpec s = Each (spec_places s)

  abbrev OfSpecs : List (Spec Place) → Type 0
  OfSpecs ss = Each (specs_places ss)

  abbrev OfDec : Dec Place → Type 0
  OfDec d = Each (dec_places d)

  abbrev Free : Id → Type 0
  Free x = Unit {0}

  -- types

  constructor_each : (ts : T.Tys Place) (c : LongName Place) → Q c.place → IfSome (constructor_piece ts c) OfTy
  constructor_each T.no_ty c h = (h, tt)
  constructor_each (T.and_ty t ts) c h = tt

  mutual
    unfolding ty_piece tys_piece

    ty_each : (t : T.Ty Place) → EachInTy Q t → IfSome (ty_piece t) OfTy
    ty_each (T.ty_variable p v) h = tt
    ty_each (T.ty_row p fs) h = tt
    ty_each (T.ty_tuple p ts) h = map_each OfTys OfTy product (λ a k. k) (tys_piece ts) (tys_each ts h.1)
    ty_each (T.ty_constructor p ts c) h = constructor_each ts c h.2
    ty_each (T.ty_misapplied p ts c) h = tt
    ty_each (T.ty_arrow p t u) h = both_each OfTy OfTy OfTy arrow_to (λ a b k l. each_append (ty_places a) (ty_places b) k l) (ty_piece t) (ty_piece u) (ty_each t h.1) (ty_each u h.2)
    ty_each (T.ty_bracket p t) h = map_each OfTy OfTy bracket_ty (λ a k. k) (ty_piece t) (ty_each t h.1)

    tys_each : (ts : T.Tys Place) → EachInTys Q ts → IfSome (tys_piece ts) OfTys
    tys_each T.no_ty h = tt
    tys_each (T.and_ty t ts) h = both_each OfTy OfTys OfTys and_ty (λ a b k l. each_append (ty_places a) (tys_places b) k l) (ty_piece t) (tys_piece ts) (ty_each t h.0) (tys_each ts h.1)

  -- expressions

  constant_each : (k : ConstantKind) → IfSome (constant_piece k) OfExp
  constant_each Integer = tt
  constant_each _ = tt

  name_each : (c : LongName Place) → Q c.place → IfSome (name_piece c) OfExp
  name_each c h = by_test (is_used_in c.id.path c.id.last)
    where
      by_test : (b : Bool) → IfSome (if b then Some (name c.place c.id) else None) OfExp
      by_test true = (h, tt)
      by_test false = tt

  mutual
    unfolding exp_piece exps_piece rules_piece rule_piece

    exp_each : (e : E.Exp Place) → EachInExp Q e → IfSome (exp_piece e) OfExp
    exp_each (E.constant p c) h = constant_each c.kind
    exp_each (E.name p c) h = name_each c h.1
    exp_each (E.row p fs) h = tt
    exp_each (E.tuple p es) h = map_each OfExps OfExp tuple (λ a k. k) (exps_piece es) (exps_each es h.1)
    exp_each (E.let_in p ds e) h = tt
    exp_each (E.bracket p e) h = map_each OfExp OfExp bracket (λ a k. k) (exp_piece e) (exp_each e h.1)
    exp_each (E.apply p f e) h = tt
    exp_each (E.typed p e t) h = tt
    exp_each (E.handle p e rs) h = tt
    exp_each (E.raise p e) h = tt
    exp_each (E.fn p rs) h = rules_each rs h.1

    exps_each : (es : E.Exps Place) → EachInExps Q es → IfSome (exps_piece es) OfExps
    exps_each E.no_exp h = tt
    exps_each (E.and_exp e es) h = both_each OfExp OfExps OfExps and_exp (λ a b k l. each_append (exp_places a) (exps_places b) k l) (exp_piece e) (exps_piece es) (exp_each e h.0) (exps_each es h.1)

    rules_each : (rs : E.Rules Place) → EachInRules Q rs → IfSome (rules_piece rs) OfExp
    rules_each E.no_rule h = tt
    rules_each (E.and_rule r E.no_rule) h = rule_each r h.0
    rules_each (E.and_rule r (E.and_rule s rs)) h = tt

    rule_each : (r : E.Rule Place) → EachInRule Q r → IfSome (rule_piece r) OfExp
    rule_each (E.rule p q e) h = both_each Free OfExp OfExp function (λ a b k l. l) (variable_of q) (exp_piece e) (any (variable_of q)) (exp_each e h.2)

  -- declarations

  bind_each : (p : Place) (b : E.ValBind Place) → Q p → EachInBind Q b → IfSome (bind_piece p b) OfCore
  bind_each p (E.bind q e) o h = both_each Free OfExp OfCore (val_dec p) (λ a b k l. (o, l)) (variable_of q) (exp_piece e) (any (variable_of q)) (exp_each e h.1)

  binds_each : (p : Place) (bs : E.ValBinds Place) → Q p → EachInBinds Q bs → IfSome (binds_piece p bs) OfCore
  binds_each p E.no_bind o h = tt
  binds_each p (E.and_bind b E.no_bind) o h = bind_each p b o h.0
  binds_each p (E.and_bind b (E.and_bind c bs)) o h = tt

  val_each : {A : Type 0} (p : Place) (vs : List A) (bs rs : E.ValBinds Place) → Q p → EachInBinds Q bs → IfSome (val_piece p vs bs rs) OfCore
  val_each p [] bs E.no_bind o h = binds_each p bs o h
  val_each p [] bs (E.and_bind r rs) o h = tt
  val_each p (v ∷ vs) bs rs o h = tt

  typ_bind_each : (p : Place) (b : E.TypBind Place) → Q p → EachInTypBind Q b → IfSome (typ_bind_piece p b) OfCore
  typ_bind_each p b o h = by_list b.variables
    where
      by_list : (vs : List (Name Place)) → IfSome (elim vs [ [] ↦ option_map (type_dec p b.name.id) (ty_piece b.ty) | v ∷ us ↦ None ]) OfCore
      by_list [] = map_each OfTy OfCore (type_dec p b.name.id) (λ a k. (o, k)) (ty_piece b.ty) (ty_each b.ty h.2)
      by_list (v ∷ vs) = tt

  type_each : (p : Place) (bs : List (E.TypBind Place)) → Q p → AllByRecursion (EachInTypBind Q) bs → IfSome (type_piece p bs) OfCore
  type_each p [] o h = tt
  type_each p (b ∷ []) o h = typ_bind_each p b o h.0
  type_each p (b ∷ c ∷ bs) o h = tt

  core_each : (d : E.Dec Place) → EachInDec Q d → IfSome (core_piece d) OfCore
  core_each (E.val_dec p vs bs rs) h = val_each p vs bs rs h.0 h.2
  core_each (E.type_dec p bs) h = type_each p bs h.0 h.1
  core_each _ h = tt

  str_dec_each : (d : M.StrDec Place) → EachInStrDec Q d → IfSome (str_dec_piece d) OfCore
  str_dec_each (M.core_dec d) h = core_each d h
  str_dec_each _ h = tt

  str_decs_each : (ds : M.StrDecs Place) → EachInStrDecs Q ds → IfSome (str_decs_piece ds) OfCores
  str_decs_each M.no_str_dec h = tt
  str_decs_each (M.and_str_dec d ds) h =
      both_each OfCore OfCores OfCores ◌∷◌ (λ a b k l. each_append (core_places a) (cores_places b) k l) (str_dec_piece d) (str_decs_piece ds) (str_dec_each d h.0) (str_decs_each ds h.1)

  -- specifications

  val_desc_each : (p : Place) (d : S.ValDesc Place) → Q p → EachInValDesc Q d → IfSome (val_desc_piece p d) OfSpec
  val_desc_each p d o h = map_each OfTy OfSpec (val_spec p d.name.id) (λ a k. (o, k)) (ty_piece d.ty) (ty_each d.ty h.1)

  val_descs_each : (p : Place) (ds : List (S.ValDesc Place)) → Q p → AllByRecursion (EachInValDesc Q) ds → IfSome (val_descs_piece p ds) OfSpec
  val_descs_each p [] o h = tt
  val_descs_each p (d ∷ []) o h = val_desc_each p d o h.0
  val_descs_each p (d ∷ e ∷ ds) o h = tt

  typ_desc_each : (p : Place) (d : S.TypDesc Place) → Q p → IfSome (typ_desc_piece p d) OfSpec
  typ_desc_each p d o = by_list d.variables
    where
      by_list : (vs : List (Name Place)) → IfSome (elim vs [ [] ↦ Some (type_spec p d.name.id) | v ∷ us ↦ None ]) OfSpec
      by_list [] = (o, tt)
      by_list (v ∷ vs) = tt

  typ_descs_each : (p : Place) (ds : List (S.TypDesc Place)) → Q p → IfSome (typ_descs_piece p ds) OfSpec
  typ_descs_each p [] o = tt
  typ_descs_each p (d ∷ []) o = typ_desc_each p d o
  typ_descs_each p (d ∷ e ∷ ds) o = tt

  spec_each : (s : S.Spec Place) → EachInSpec Q s → IfSome (spec_piece s) OfSpec
  spec_each (S.val_spec p ds) h = val_descs_each p ds h.0 h.1
  spec_each (S.type_spec p ds) h = typ_descs_each p ds h.0
  spec_each _ h = tt

  specs_each : (ss : S.Specs Place) → EachInSpecs Q ss → IfSome (specs_piece ss) OfSpecs
  specs_each S.no_spec h = tt
  specs_each (S.and_spec s ss) h =
      both_each OfSpec OfSpecs OfSpecs ◌∷◌ (λ a b k l. each_append (spec_places a) (specs_places b) k l) (spec_piece s) (specs_piece ss) (spec_each s h.0) (specs_each ss h.1)

  -- structures

  body_each : (e : M.StrExp Place) → EachInStr Q e → IfSome (body_piece e) OfCores
  body_each (M.struct_end p ds) h = str_decs_each ds h.1
  body_each _ h = tt

  sealed_each : (x : Id) (e : M.StrExp Place) (s : S.SigExp Place) → EachInStr Q e → EachInSig Q s → IfSome (sealed_piece x e s) OfDec
  sealed_each x e (S.sig_end p ss) h k =
      both_each OfSpecs OfCores OfDec (sealed x p) (λ a b l m. (k.0, each_append (specs_places a) (cores_places b) l m)) (specs_piece ss) (body_piece e) (specs_each ss k.1) (body_each e h)
  sealed_each x e _ h k = tt

  ascribed_each : (x : Id) (a : Ascription) (e : M.StrExp Place) (s : S.SigExp Place) → EachInStr Q e → EachInSig Q s → IfSome (ascribed_piece x a e s) OfDec
  ascribed_each x Opaque e s h k = sealed_each x e s h k
  ascribed_each x _ e s h k = tt

  str_each : (x : Id) (e : M.StrExp Place) → EachInStr Q e → IfSome (str_piece x e) OfDec
  str_each x (M.ascribed p e a s) h = ascribed_each x a e s h.1 h.2
  str_each x _ h = tt

  str_bind_each : (b : M.StrBind Place) → EachInStrBind Q b → IfSome (str_bind_piece b) OfDec
  str_bind_each (M.str_bind x e) h = str_each x.id e h.1

  str_binds_each : (bs : M.StrBinds Place) → EachInStrBinds Q bs → IfSome (str_binds_piece bs) OfDec
  str_binds_each M.no_str_bind h = tt
  str_binds_each (M.and_str_bind b M.no_str_bind) h = str_bind_each b h.0
  str_binds_each (M.and_str_bind b (M.and_str_bind c bs)) h = tt

  val_dec_each : (d : E.Dec Place) → EachInDec Q d → IfSome (val_dec_piece d) OfDec
  val_dec_each (E.val_dec p vs bs rs) h = map_each OfCore OfDec core (λ a k. k) (val_piece p vs bs rs) (val_each p vs bs rs h.0 h.2)
  val_dec_each _ h = tt

  top_each : (d : M.TopDec Place) → EachInTop Q d → IfSome (top_piece d) OfDec
  top_each (M.top_str (M.core_dec d)) h = val_dec_each d h
  top_each (M.top_str (M.structure_dec p bs)) h = str_binds_each bs h.1
  top_each (M.top_str (M.str_local p ds es)) h = tt
  top_each _ h = tt

  or_other_each : Q first_place → (o : Option (Dec Place)) → IfSome o OfDec → OfDec (or_other o)
  or_other_each o None h = (o, tt)
  or_other_each o (Some d) h = h

  pub piece_each : (d : M.TopDec Place) → Q first_place → EachInTop Q d → All Q (first_place ∷ dec_places (piece_of d))
  piece_each d o h = All-from_recursion Q (first_place ∷ dec_places (piece_of d)) (o, or_other_each o (top_piece d) (top_each d h))

-- Which type variables the value declarations of a tree scope (the Definition, sections 2.9 and 4.6): those that they list,
-- and those that occur unguarded in them, unless a larger one has them. None scopes a variable that one round it scopes.
use Rattle.std.specs.Prelude.{ℕ, List, [], ◌∷◌, ◌++◌, Option, map}
use Rattle.std.specs.List.{All}
use Rattle.sml_lex.specs.declared.fault.Place.{Place}
use Rattle.sml_lex.specs.declared.token.End.{End}
use Rattle.sml_lex.specs.declared.token.Token.{Token}
use Rattle.sml_lex.specs.Faults.{Fault}
use Rattle.sml_tree.specs.Trees as Piece
use Rattle.sml_tree.specs.Trees.{Id}
use Rattle.sml_tree.specs.Names.{Name}
use Rattle.sml_tree.specs.Expressions.{Exp, Exps, Fields, Rules, Dec, Decs, ValBinds, constant, name, row, tuple, let_in, bracket, apply, typed, handle, raise, fn, no_exp, and_exp, field, no_field, and_field, rule, no_rule, and_rule, val_dec, type_dec, datatype_dec, datatype_with, datatype_copy, exception_dec, local_dec, sequence_dec, open_dec, fixity_dec, no_dec, and_dec, bind, no_bind, and_bind}
use Rattle.sml_tree.specs.Structures.{StrExp, StrDec, StrDecs, StrBinds, FunBind, TopDec, struct_end, str_name, ascribed, functor_apply, str_let, core_dec, structure_dec, str_local, no_str_dec, and_str_dec, str_bind, no_str_bind, and_str_bind, top_str, signature_dec, functor_dec}
use Rattle.sml_objects.specs.Appearance.{Stands}
use Rattle.sml_core_rules.specs.Closing.{unguarded}
use Rattle.sml_parse.specs.Trees.{AreTrees}

abbrev pub ids : {P : Type 0} → List (Name P) → List Id
ids xs = map (λ x. x.id) xs

-- the type variables that the value declarations in a phrase list
abbrev mutual
  pub exp_listed : {P : Type 0} → Exp P → List Id
  exp_listed (constant p c) = []
  exp_listed (name p x) = []
  exp_listed (row p fs) = fields_listed fs
  exp_listed (tuple p es) = exps_listed es
  exp_listed (let_in p ds e) = decs_listed ds ++ exp_listed e
  exp_listed (bracket p e) = exp_listed e
  exp_listed (apply p f e) = exp_listed f ++ exp_listed e
  exp_listed (typed p e t) = exp_listed e
  exp_listed (handle p e m) = exp_listed e ++ rules_listed m
  exp_listed (raise p e) = exp_listed e
  exp_listed (fn p m) = rules_listed m

  pub exps_listed : {P : Type 0} → Exps P → List Id
  exps_listed no_exp = []
  exps_listed (and_exp e es) = exp_listed e ++ exps_listed es

  pub fields_listed : {P : Type 0} → Fields P → List Id
  fields_listed no_field = []
  fields_listed (and_field (field l e) fs) = exp_listed e ++ fields_listed fs

  pub rules_listed : {P : Type 0} → Rules P → List Id
  rules_listed no_rule = []
  rules_listed (and_rule (rule p q e) m) = exp_listed e ++ rules_listed m

  pub dec_listed : {P : Type 0} → Dec P → List Id
  dec_listed (val_dec p xs bs rs) = ids xs ++ (binds_listed bs ++ binds_listed rs)
  dec_listed (type_dec p bs) = []
  dec_listed (datatype_dec p bs) = []
  dec_listed (datatype_with p bs ts) = []
  dec_listed (datatype_copy p x c) = []
  dec_listed (exception_dec p bs) = []
  dec_listed (local_dec p ds es) = decs_listed ds ++ decs_listed es
  dec_listed (sequence_dec p ds) = decs_listed ds
  dec_listed (open_dec p xs) = []
  dec_listed (fixity_dec p) = []

  pub decs_listed : {P : Type 0} → Decs P → List Id
  decs_listed no_dec = []
  decs_listed (and_dec d ds) = dec_listed d ++ decs_listed ds

  pub binds_listed : {P : Type 0} → ValBinds P → List Id
  binds_listed no_bind = []
  binds_listed (and_bind (bind q e) bs) = exp_listed e ++ binds_listed bs

-- no identifier stands in both lists
abbrev pub AreApart : List Id → List Id → Type 0
AreApart xs ys = (x : Id) → Stands x xs → Stands x ys → ⊥

-- what a value declaration and those round it scope is listed by none inside it
abbrev pub ListsNone : {P : Type 0} → List (Name P) → ValBinds P → ValBinds P → Type 0
ListsNone xs bs rs = AreApart (binds_listed bs ++ binds_listed rs) (ids xs ++ (unguarded bs ++ unguarded rs))

-- Of all value declarations in a phrase.
abbrev mutual
  pub ExpScoped : {P : Type 0} → Exp P → Type 0
  ExpScoped (constant p c) = Unit {0}
  ExpScoped (name p x) = Unit {0}
  ExpScoped (row p fs) = FieldsScoped fs
  ExpScoped (tuple p es) = ExpsScoped es
  ExpScoped (let_in p ds e) = DecsScoped ds × ExpScoped e
  ExpScoped (bracket p e) = ExpScoped e
  ExpScoped (apply p f e) = ExpScoped f × ExpScoped e
  ExpScoped (typed p e t) = ExpScoped e
  ExpScoped (handle p e m) = ExpScoped e × RulesScoped m
  ExpScoped (raise p e) = ExpScoped e
  ExpScoped (fn p m) = RulesScoped m

  pub ExpsScoped : {P : Type 0} → Exps P → Type 0
  ExpsScoped no_exp = Unit {0}
  ExpsScoped (and_exp e es) = ExpScoped e × ExpsScoped es

  pub FieldsScoped : {P : Type 0} → Fields P → Type 0
  FieldsScoped no_field = Unit {0}
  FieldsScoped (and_field (field l e) fs) = ExpScoped e × FieldsScoped fs

  pub RulesScoped : {P : Type 0} → Rules P → Type 0
  RulesScoped no_rule = Unit {0}
  RulesScoped (and_rule (rule p q e) m) = ExpScoped e × RulesScoped m

  pub DecScoped : {P : Type 0} → Dec P → Type 0
  DecScoped (val_dec p xs bs rs) = ListsNone xs bs rs × BindsScoped bs × BindsScoped rs
  DecScoped (type_dec p bs) = Unit {0}
  DecScoped (datatype_dec p bs) = Unit {0}
  DecScoped (datatype_with p bs ts) = Unit {0}
  DecScoped (datatype_copy p x c) = Unit {0}
  DecScoped (exception_dec p bs) = Unit {0}
  DecScoped (local_dec p ds es) = DecsScoped ds × DecsScoped es
  DecScoped (sequence_dec p ds) = DecsScoped ds
  DecScoped (open_dec p xs) = Unit {0}
  DecScoped (fixity_dec p) = Unit {0}

  pub DecsScoped : {P : Type 0} → Decs P → Type 0
  DecsScoped no_dec = Unit {0}
  DecsScoped (and_dec d ds) = DecScoped d × DecsScoped ds

  pub BindsScoped : {P : Type 0} → ValBinds P → Type 0
  BindsScoped no_bind = Unit {0}
  BindsScoped (and_bind (bind q e) bs) = ExpScoped e × BindsScoped bs

abbrev mutual
  pub StrScoped : {P : Type 0} → StrExp P → Type 0
  StrScoped (struct_end p ds) = StrDecsScoped ds
  StrScoped (str_name x) = Unit {0}
  StrScoped (ascribed p e a s) = StrScoped e
  StrScoped (functor_apply f e) = StrScoped e
  StrScoped (str_let p ds e) = StrDecsScoped ds × StrScoped e

  pub StrDecScoped : {P : Type 0} → StrDec P → Type 0
  StrDecScoped (core_dec d) = DecScoped d
  StrDecScoped (structure_dec p bs) = StrBindsScoped bs
  StrDecScoped (str_local p ds es) = StrDecsScoped ds × StrDecsScoped es

  pub StrDecsScoped : {P : Type 0} → StrDecs P → Type 0
  StrDecsScoped no_str_dec = Unit {0}
  StrDecsScoped (and_str_dec d ds) = StrDecScoped d × StrDecsScoped ds

  pub StrBindsScoped : {P : Type 0} → StrBinds P → Type 0
  StrBindsScoped no_str_bind = Unit {0}
  StrBindsScoped (and_str_bind (str_bind x e) bs) = StrScoped e × StrBindsScoped bs

abbrev pub FunBindsScoped : {P : Type 0} → List (FunBind P) → Type 0
FunBindsScoped [] = Unit {0}
FunBindsScoped (b ∷ bs) = StrScoped b.body × FunBindsScoped bs

abbrev pub TopScoped : {P : Type 0} → TopDec P → Type 0
TopScoped (top_str d) = StrDecScoped d
TopScoped (signature_dec p bs) = Unit {0}
TopScoped (functor_dec p bs) = FunBindsScoped bs

-- Of all declarations that bytes spell.
abbrev pub VariablesAreScopedOnce : Type 0
VariablesAreScopedOnce =
    (unit : List ℕ) (tokens : List Token) (end : End) (tops : List (TopDec Place)) (decs : List (Piece.Dec Place)) (fault : Option (Fault Place))
    → AreTrees unit tokens end tops decs fault → All TopScoped tops

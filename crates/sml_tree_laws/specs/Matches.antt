-- Matches, after `fn` and `handle` (the Definition, section 2.8 and appendix B): each has a rule at least. The grammar has none
-- without, and a derived form that makes a match writes its rules (appendix A).
use Rattle.std.specs.Prelude.{ℕ, List, [], ◌∷◌, Option}
use Rattle.std.specs.List.{All}
use Rattle.sml_lex.specs.declared.fault.Place.{Place}
use Rattle.sml_lex.specs.declared.token.End.{End}
use Rattle.sml_lex.specs.declared.token.Token.{Token}
use Rattle.sml_lex.specs.Faults.{Fault}
use Rattle.sml_tree.specs.Trees as Piece
use Rattle.sml_tree.specs.Expressions.{Exp, Exps, Fields, Rules, Dec, Decs, ValBinds, constant, name, row, tuple, let_in, bracket, apply, typed, handle, raise, fn, no_exp, and_exp, field, no_field, and_field, rule, no_rule, and_rule, val_dec, type_dec, datatype_dec, datatype_with, datatype_copy, exception_dec, local_dec, sequence_dec, open_dec, fixity_dec, no_dec, and_dec, bind, no_bind, and_bind}
use Rattle.sml_tree.specs.Structures.{StrExp, StrDec, StrDecs, StrBinds, FunBind, TopDec, struct_end, str_name, ascribed, functor_apply, str_let, core_dec, structure_dec, str_local, no_str_dec, and_str_dec, str_bind, no_str_bind, and_str_bind, top_str, signature_dec, functor_dec}
use Rattle.sml_parse.specs.Trees.{AreTrees}

-- one rule at least
abbrev pub HasRule : {P : Type 0} → Rules P → Type 0
HasRule no_rule = ⊥
HasRule (and_rule r m) = Unit {0}

-- Of all matches in a phrase.
abbrev mutual
  pub ExpRuled : {P : Type 0} → Exp P → Type 0
  ExpRuled (constant p c) = Unit {0}
  ExpRuled (name p x) = Unit {0}
  ExpRuled (row p fs) = FieldsRuled fs
  ExpRuled (tuple p es) = ExpsRuled es
  ExpRuled (let_in p ds e) = DecsRuled ds × ExpRuled e
  ExpRuled (bracket p e) = ExpRuled e
  ExpRuled (apply p f e) = ExpRuled f × ExpRuled e
  ExpRuled (typed p e t) = ExpRuled e
  ExpRuled (handle p e m) = ExpRuled e × HasRule m × RulesRuled m
  ExpRuled (raise p e) = ExpRuled e
  ExpRuled (fn p m) = HasRule m × RulesRuled m

  pub ExpsRuled : {P : Type 0} → Exps P → Type 0
  ExpsRuled no_exp = Unit {0}
  ExpsRuled (and_exp e es) = ExpRuled e × ExpsRuled es

  pub FieldsRuled : {P : Type 0} → Fields P → Type 0
  FieldsRuled no_field = Unit {0}
  FieldsRuled (and_field (field l e) fs) = ExpRuled e × FieldsRuled fs

  pub RulesRuled : {P : Type 0} → Rules P → Type 0
  RulesRuled no_rule = Unit {0}
  RulesRuled (and_rule (rule p q e) m) = ExpRuled e × RulesRuled m

  pub DecRuled : {P : Type 0} → Dec P → Type 0
  DecRuled (val_dec p xs bs rs) = BindsRuled bs × BindsRuled rs
  DecRuled (type_dec p bs) = Unit {0}
  DecRuled (datatype_dec p bs) = Unit {0}
  DecRuled (datatype_with p bs ts) = Unit {0}
  DecRuled (datatype_copy p x c) = Unit {0}
  DecRuled (exception_dec p bs) = Unit {0}
  DecRuled (local_dec p ds es) = DecsRuled ds × DecsRuled es
  DecRuled (sequence_dec p ds) = DecsRuled ds
  DecRuled (open_dec p xs) = Unit {0}
  DecRuled (fixity_dec p) = Unit {0}

  pub DecsRuled : {P : Type 0} → Decs P → Type 0
  DecsRuled no_dec = Unit {0}
  DecsRuled (and_dec d ds) = DecRuled d × DecsRuled ds

  pub BindsRuled : {P : Type 0} → ValBinds P → Type 0
  BindsRuled no_bind = Unit {0}
  BindsRuled (and_bind (bind q e) bs) = ExpRuled e × BindsRuled bs

abbrev mutual
  pub StrRuled : {P : Type 0} → StrExp P → Type 0
  StrRuled (struct_end p ds) = StrDecsRuled ds
  StrRuled (str_name x) = Unit {0}
  StrRuled (ascribed p e a s) = StrRuled e
  StrRuled (functor_apply f e) = StrRuled e
  StrRuled (str_let p ds e) = StrDecsRuled ds × StrRuled e

  pub StrDecRuled : {P : Type 0} → StrDec P → Type 0
  StrDecRuled (core_dec d) = DecRuled d
  StrDecRuled (structure_dec p bs) = StrBindsRuled bs
  StrDecRuled (str_local p ds es) = StrDecsRuled ds × StrDecsRuled es

  pub StrDecsRuled : {P : Type 0} → StrDecs P → Type 0
  StrDecsRuled no_str_dec = Unit {0}
  StrDecsRuled (and_str_dec d ds) = StrDecRuled d × StrDecsRuled ds

  pub StrBindsRuled : {P : Type 0} → StrBinds P → Type 0
  StrBindsRuled no_str_bind = Unit {0}
  StrBindsRuled (and_str_bind (str_bind x e) bs) = StrRuled e × StrBindsRuled bs

abbrev pub FunBindsRuled : {P : Type 0} → List (FunBind P) → Type 0
FunBindsRuled [] = Unit {0}
FunBindsRuled (b ∷ bs) = StrRuled b.body × FunBindsRuled bs

abbrev pub TopRuled : {P : Type 0} → TopDec P → Type 0
TopRuled (top_str d) = StrDecRuled d
TopRuled (signature_dec p bs) = Unit {0}
TopRuled (functor_dec p bs) = FunBindsRuled bs

-- Of all declarations that bytes spell.
abbrev pub MatchesHaveRules : Type 0
MatchesHaveRules =
    (unit : List ℕ) (tokens : List Token) (end : End) (tops : List (TopDec Place)) (decs : List (Piece.Dec Place)) (fault : Option (Fault Place)) → AreTrees unit tokens end tops decs fault
    → All TopRuled tops

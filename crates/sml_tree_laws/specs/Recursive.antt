-- What value declarations bind after `rec`, and functions (the Definition, section 2.9): no name that stands by itself is
-- `true`, `false`, `::` or `ref`, and none before `as` is one of these or `nil`. Where a name stands by itself `nil` is also
-- what `[]` stands for.
use Rattle.std.specs.Prelude.{◌≡◌, ◌⊎◌, ℕ, List, [], ◌∷◌, Option, false}
use Rattle.std.specs.List.{All}
use Rattle.sml_lex.specs.declared.fault.Place.{Place}
use Rattle.sml_lex.specs.declared.token.End.{End}
use Rattle.sml_lex.specs.declared.token.Token.{Token}
use Rattle.sml_lex.specs.Faults.{Fault}
use Rattle.sml_lex.specs.Pieces.{Spells}
use Rattle.sml_tree.specs.Trees as Piece
use Rattle.sml_tree.specs.Trees.{Id}
use Rattle.sml_tree.specs.Patterns.{Pat, Pats, PatFields, wildcard, pat_constant, pat_name, pat_row, pat_tuple, pat_bracket, pat_apply, pat_typed, pat_as, no_pat, and_pat, pat_field, no_pat_field, and_pat_field}
use Rattle.sml_tree.specs.Expressions.{Exp, Exps, Fields, Rules, Dec, Decs, ValBind, ValBinds, constant, name, row, tuple, let_in, bracket, apply, typed, handle, raise, fn, no_exp, and_exp, field, no_field, and_field, rule, no_rule, and_rule, val_dec, type_dec, datatype_dec, datatype_with, datatype_copy, exception_dec, local_dec, sequence_dec, open_dec, fixity_dec, no_dec, and_dec, bind, no_bind, and_bind}
use Rattle.sml_tree.specs.Structures.{StrExp, StrDec, StrDecs, StrBinds, FunBind, TopDec, struct_end, str_name, ascribed, functor_apply, str_let, core_dec, structure_dec, str_local, no_str_dec, and_str_dec, str_bind, no_str_bind, and_str_bind, top_str, signature_dec, functor_dec}
use Rattle.sml_derived.specs.Words.{nil_id}
use Rattle.sml_flaws.specs.Flaws.{is_reserved}
use Rattle.sml_parse.specs.Trees.{AreTrees}

-- not `true`, `false`, `::` or `ref`
abbrev pub MayBeRecursive : Id → Type 0
MayBeRecursive x = (is_reserved x ≡ false) ⊎ (x ≡ nil_id)

-- Each short name that stands in a pattern by itself, and is no constructor before its argument, is such a one; one before `as`
-- isn't `nil` either.
abbrev mutual
  pub RecPat : {P : Type 0} → Pat P → Type 0
  RecPat (wildcard p) = Unit {0}
  RecPat (pat_constant p c) = Unit {0}
  RecPat (pat_name p x) = x.id.path ≡ [] → MayBeRecursive x.id.last
  RecPat (pat_row p fs b) = RecPatFields fs
  RecPat (pat_tuple p qs) = RecPats qs
  RecPat (pat_bracket p q) = RecPat q
  RecPat (pat_apply p x q) = RecPat q
  RecPat (pat_typed p q t) = RecPat q
  RecPat (pat_as p x t q) = (is_reserved x.id ≡ false) × RecPat q

  pub RecPats : {P : Type 0} → Pats P → Type 0
  RecPats no_pat = Unit {0}
  RecPats (and_pat q qs) = RecPat q × RecPats qs

  pub RecPatFields : {P : Type 0} → PatFields P → Type 0
  RecPatFields no_pat_field = Unit {0}
  RecPatFields (and_pat_field (pat_field l q) fs) = RecPat q × RecPatFields fs

-- a binding after `rec`, as which a function with its clauses is written too
abbrev pub RecBind : {P : Type 0} → ValBind P → Type 0
RecBind (bind q e) = RecPat q

abbrev pub RecBinds : {P : Type 0} → ValBinds P → Type 0
RecBinds no_bind = Unit {0}
RecBinds (and_bind b bs) = RecBind b × RecBinds bs

-- Of all value declarations in a phrase.
abbrev mutual
  pub ExpRec : {P : Type 0} → Exp P → Type 0
  ExpRec (constant p c) = Unit {0}
  ExpRec (name p x) = Unit {0}
  ExpRec (row p fs) = FieldsRec fs
  ExpRec (tuple p es) = ExpsRec es
  ExpRec (let_in p ds e) = DecsRec ds × ExpRec e
  ExpRec (bracket p e) = ExpRec e
  ExpRec (apply p f e) = ExpRec f × ExpRec e
  ExpRec (typed p e t) = ExpRec e
  ExpRec (handle p e m) = ExpRec e × RulesRec m
  ExpRec (raise p e) = ExpRec e
  ExpRec (fn p m) = RulesRec m

  pub ExpsRec : {P : Type 0} → Exps P → Type 0
  ExpsRec no_exp = Unit {0}
  ExpsRec (and_exp e es) = ExpRec e × ExpsRec es

  pub FieldsRec : {P : Type 0} → Fields P → Type 0
  FieldsRec no_field = Unit {0}
  FieldsRec (and_field (field l e) fs) = ExpRec e × FieldsRec fs

  pub RulesRec : {P : Type 0} → Rules P → Type 0
  RulesRec no_rule = Unit {0}
  RulesRec (and_rule (rule p q e) m) = ExpRec e × RulesRec m

  pub DecRec : {P : Type 0} → Dec P → Type 0
  DecRec (val_dec p xs bs rs) = RecBinds rs × BindsRec bs × BindsRec rs
  DecRec (type_dec p bs) = Unit {0}
  DecRec (datatype_dec p bs) = Unit {0}
  DecRec (datatype_with p bs ts) = Unit {0}
  DecRec (datatype_copy p x c) = Unit {0}
  DecRec (exception_dec p bs) = Unit {0}
  DecRec (local_dec p ds es) = DecsRec ds × DecsRec es
  DecRec (sequence_dec p ds) = DecsRec ds
  DecRec (open_dec p xs) = Unit {0}
  DecRec (fixity_dec p) = Unit {0}

  pub DecsRec : {P : Type 0} → Decs P → Type 0
  DecsRec no_dec = Unit {0}
  DecsRec (and_dec d ds) = DecRec d × DecsRec ds

  pub BindsRec : {P : Type 0} → ValBinds P → Type 0
  BindsRec no_bind = Unit {0}
  BindsRec (and_bind (bind q e) bs) = ExpRec e × BindsRec bs

abbrev mutual
  pub StrRec : {P : Type 0} → StrExp P → Type 0
  StrRec (struct_end p ds) = StrDecsRec ds
  StrRec (str_name x) = Unit {0}
  StrRec (ascribed p e a s) = StrRec e
  StrRec (functor_apply f e) = StrRec e
  StrRec (str_let p ds e) = StrDecsRec ds × StrRec e

  pub StrDecRec : {P : Type 0} → StrDec P → Type 0
  StrDecRec (core_dec d) = DecRec d
  StrDecRec (structure_dec p bs) = StrBindsRec bs
  StrDecRec (str_local p ds es) = StrDecsRec ds × StrDecsRec es

  pub StrDecsRec : {P : Type 0} → StrDecs P → Type 0
  StrDecsRec no_str_dec = Unit {0}
  StrDecsRec (and_str_dec d ds) = StrDecRec d × StrDecsRec ds

  pub StrBindsRec : {P : Type 0} → StrBinds P → Type 0
  StrBindsRec no_str_bind = Unit {0}
  StrBindsRec (and_str_bind (str_bind x e) bs) = StrRec e × StrBindsRec bs

abbrev pub FunBindsRec : {P : Type 0} → List (FunBind P) → Type 0
FunBindsRec [] = Unit {0}
FunBindsRec (b ∷ bs) = StrRec b.body × FunBindsRec bs

abbrev pub TopRec : {P : Type 0} → TopDec P → Type 0
TopRec (top_str d) = StrDecRec d
TopRec (signature_dec p bs) = Unit {0}
TopRec (functor_dec p bs) = FunBindsRec bs

-- Of all declarations that bytes spell.
abbrev pub RecursiveNamesMayBeBound : Type 0
RecursiveNamesMayBeBound =
    (unit : List ℕ) (tokens : List Token) (end : End) (tops : List (TopDec Place)) (decs : List (Piece.Dec Place)) (fault : Option (Fault Place))
    → Spells unit tokens end → AreTrees unit tokens end tops decs fault → All TopRec tops

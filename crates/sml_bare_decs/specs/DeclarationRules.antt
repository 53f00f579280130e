-- What the rules of declarations make of their parts (the Definition, section 2.8): one line a rule, with the place of the
-- phrase and all phrases from its first part on. Any other rule's phrase is its first part.
use Rattle.std.specs.Prelude.{List, [], ◌∷◌, Option, Some, None}
use Rattle.sml_lex.specs.declared.fault.Place.{Place}
use Rattle.sml_tree.specs.Names.{Name, LongName}
use Rattle.sml_tree.specs.Types.{Ty, Tys, no_ty}
use Rattle.sml_tree.specs.Patterns.{Pat, Pats, no_pat, and_pat}
use Rattle.sml_tree.specs.Expressions.{TypBind, ConBind, DatBind, ExnBind, new_exception, exception_copy, Exp, Dec, ValBinds, val_dec, type_dec, datatype_dec, datatype_with, datatype_copy, exception_dec, local_dec, open_dec, fixity_dec, bind, no_bind, and_bind}
use Rattle.sml_read.specs.declared.grammar.DeclarationRule.{DeclarationRule}
use Rattle.sml_read.specs.declared.grammar.DeclarationRule.TheVariants.{DecLocal, CoreDecVal, CoreDecFun, CoreDecType, CoreDecDatatype, CoreDecException, CoreDecOpen, CoreDecInfix, CoreDecInfixr, CoreDecNonfix, OpenMoreNone, OpenMoreLongStrId, FixityNone, FixityLevel, VidMoreNone, VidMoreVid, ValDecTypeVariable, ValDecOpenRound, ValDecRec, ValDecBarePat, ValRoundTypeVariable, ValRoundPatRound, ValBindRec, ValBindPat, ValMoreNone, ValMoreAnd, FunDecTypeVariable, FunDecOpenRound, FunDecBareAtPat, FunRoundTypeVariable, FunRoundPatRound, ClausesAtPat, ClausesMoreNone, ClausesMoreAnd, ClauseAtPats, ClauseMoreNone, ClauseMoreBar, AtPatsNone, AtPatsAtPat, TypedNone, TypedColon, TypBindTvs, TypBindMoreNone, TypBindMoreAnd, DatDecSomeTvs, DatDecTyCon, DatRestDatatype, DatRestConBinds, DatBindMoreNone, DatBindMoreAnd, DatBindMoreWithtype, ConBindsMaybeOp, ConBindsMoreNone, ConBindsMoreBar, MaybeOpNone, MaybeOpOp, ExnBindMaybeOp, ExnBindMoreNone, ExnBindMoreAnd, ExnRestNone, ExnRestOf, ExnRestEquals}
use Rattle.sml_bare_decs.specs.FunctionRules.{right_side_in, clause_from, function_from, round_rest, round_functions}
use Rattle.sml_phrases.specs.Phrases.{Phrase, nothing, of_long, of_longs, of_pats, of_atoms, of_dec, of_binds, of_values, of_round_values, of_functions, of_typ_bind, of_typ_binds, of_con_bind, of_con_binds, of_datatypes, of_constructors, of_copy, of_exn_binds, at, name_in, long_in, names_in, longs_in, ty_in, pat_in, pats_in, exp_in, decs_in, bind_in, binds_in, typ_binds_in, con_binds_in, exn_binds_in, ty_if_any, of_bind, of_clauses, of_right_side, clauses_in}
use Rattle.sml_pat_sequences.specs.RoundPatterns.{round_pat}
use Rattle.sml_pat_sequences.specs.PatternSequences.{pat_place, round_sequence}
use Rattle.sml_fixity.specs.Shapes.{Shape}

-- explicit type variables, the bindings before the first `rec`, and those after it
pub record Values : Type 0 where
  pub variables : List (Name Place)
  pub plain : ValBinds Place
  pub recursive : ValBinds Place

abbrev pub values_in : Phrase → Values
values_in (of_values vs bs recs) = record { variables = vs; plain = bs; recursive = recs }
values_in _ = record { variables = []; plain = no_bind; recursive = no_bind }

-- explicit type variables, and functions
pub record Functions : Type 0 where
  pub variables : List (Name Place)
  pub binds : ValBinds Place

abbrev pub functions_in : Phrase → Functions
functions_in (of_functions vs bs) = record { variables = vs; binds = bs }
functions_in _ = record { variables = []; binds = no_bind }

-- atomic patterns, and the types after colons that follow them
pub record Atoms : Type 0 where
  pub pats : Pats Place
  pub tys : Tys Place

abbrev pub atoms_in : Phrase → Atoms
atoms_in (of_atoms qs ts) = record { pats = qs; tys = ts }
atoms_in _ = record { pats = no_pat; tys = no_ty }

-- datatype bindings, and the type bindings after `withtype`
pub record Datatypes : Type 0 where
  pub datatypes : List (DatBind Place)
  pub types : List (TypBind Place)

abbrev pub datatypes_in : Phrase → Datatypes
datatypes_in (of_datatypes ds ts) = record { datatypes = ds; types = ts }
datatypes_in _ = record { datatypes = []; types = [] }

abbrev pub typ_bind_in : Phrase → TypBind Place
typ_bind_in (of_typ_bind vs x t) = record { variables = vs; name = x; ty = t }
typ_bind_in _ = record { variables = []; name = name_in nothing; ty = ty_in nothing }

abbrev pub exn_bind_in : Phrase → ExnBind Place
exn_bind_in (of_con_bind x t) = new_exception (record { name = x; argument = t })
exn_bind_in (of_copy x c) = exception_copy x c
exn_bind_in _ = new_exception (record { name = name_in nothing; argument = None })

-- bindings, and others after them
abbrev pub joined : ValBinds Place → ValBinds Place → ValBinds Place
joined no_bind recs = recs
joined (and_bind b bs) recs = and_bind b (joined bs recs)

-- a datatype declaration
abbrev pub datatypes_dec : Place → List (DatBind Place) → List (TypBind Place) → Dec Place
datatypes_dec p ds [] = datatype_dec p ds
datatypes_dec p ds (t ∷ ts) = datatype_with p ds (t ∷ ts)

abbrev pub datatype_of : Place → Phrase → Dec Place
datatype_of p (of_datatypes ds ts) = datatypes_dec p ds ts
datatype_of p (of_copy x c) = datatype_copy p x c
datatype_of p _ = datatype_dec p []

-- the constructors of a datatype, and the datatype and type bindings that follow it
pub record Constructors : Type 0 where
  pub constructors : List (ConBind Place)
  pub datatypes : List (DatBind Place)
  pub types : List (TypBind Place)

abbrev pub constructors_if_any : Phrase → Option Constructors
constructors_if_any (of_constructors cs ds ts) = Some (record { constructors = cs; datatypes = ds; types = ts })
constructors_if_any _ = None

abbrev pub long_if_any : Phrase → Option (LongName Place)
long_if_any (of_long c) = Some c
long_if_any _ = None

-- a type constructor without type variables: the one that it copies, if any, and otherwise its constructors, if any
abbrev pub datatype_from : Name Place → Option (LongName Place) → Option Constructors → Phrase
datatype_from x (Some c) w = of_copy x c
datatype_from x None (Some w) = of_datatypes (record { variables = []; name = x; constructors = w.constructors } ∷ w.datatypes) w.types
datatype_from x None None = nothing

-- a type constructor without type variables, and what stands after its `=`
abbrev pub datatype_rest : Name Place → Phrase → Phrase
datatype_rest x v = datatype_from x (long_if_any v) (constructors_if_any v)

-- an exception: the one that it copies, if any, and otherwise the type of its argument, if any
abbrev pub exception_of : Name Place → Option (LongName Place) → Option (Ty Place) → Phrase
exception_of x (Some c) t = of_copy x c
exception_of x None t = of_con_bind x t

-- an exception, and what stands after it
abbrev pub exn_rest : Name Place → Phrase → Phrase
exn_rest x v = exception_of x (long_if_any v) (ty_if_any v)

-- `val ..` after `val`, with these explicit type variables
abbrev pub with_variables : List (Name Place) → Values → Phrase
with_variables vs w = of_values vs w.plain w.recursive

-- a pattern, its right side, and further bindings
abbrev pub and_value : Pat Place → Exp Place → Values → Phrase
and_value q e w = of_values [] (and_bind (bind q e) w.plain) w.recursive

-- `rec ..`
abbrev pub all_recursive : Values → Phrase
all_recursive w = of_values [] no_bind (joined w.plain w.recursive)

-- `datatype ..`, one binding before others
abbrev pub and_datatype : DatBind Place → Datatypes → Phrase
and_datatype d w = of_datatypes (d ∷ w.datatypes) w.types

abbrev pub round_values : Pats Place → Atoms → Exp Place → Values → Phrase
round_values rs a e w = of_round_values rs a.pats a.tys e w.plain w.recursive

-- `val (..` where it is a pattern, from what stands after the bracket
abbrev pub round_value : Option Shape → Place → Phrase → Phrase
round_value shape p (of_round_values rs qs ts e bs recs) = of_values [] (and_bind (bind (round_sequence shape (round_pat p rs) qs ts) e) bs) recs
round_value shape p v = v

abbrev pub value_dec : Place → Values → Phrase
value_dec p w = of_dec (val_dec p w.variables w.plain w.recursive)

abbrev pub function_dec : Place → Functions → Phrase
function_dec p w = of_dec (val_dec p w.variables no_bind w.binds)

abbrev pub constructors : List (ConBind Place) → Datatypes → Phrase
constructors cs w = of_constructors cs w.datatypes w.types

abbrev pub declaration_phrase : DeclarationRule → Place → Option Shape → List Phrase → Phrase
declaration_phrase DecLocal p shape vs = of_dec (local_dec p (decs_in (at vs 1)) (decs_in (at vs 3)))
declaration_phrase CoreDecVal p shape vs = value_dec p (values_in (at vs 1))
declaration_phrase CoreDecFun p shape vs = function_dec p (functions_in (at vs 1))
declaration_phrase CoreDecType p shape vs = of_dec (type_dec p (typ_bind_in (at vs 1) ∷ typ_binds_in (at vs 2)))
declaration_phrase CoreDecDatatype p shape vs = of_dec (datatype_of p (at vs 1))
declaration_phrase CoreDecException p shape vs = of_dec (exception_dec p (exn_bind_in (at vs 1) ∷ exn_binds_in (at vs 2)))
declaration_phrase CoreDecOpen p shape vs = of_dec (open_dec p (long_in (at vs 1) ∷ longs_in (at vs 2)))
declaration_phrase CoreDecInfix p shape vs = of_dec (fixity_dec p)
declaration_phrase CoreDecInfixr p shape vs = of_dec (fixity_dec p)
declaration_phrase CoreDecNonfix p shape vs = of_dec (fixity_dec p)
declaration_phrase OpenMoreNone p shape vs = of_longs []
declaration_phrase OpenMoreLongStrId p shape vs = of_longs (long_in (at vs 0) ∷ longs_in (at vs 1))
declaration_phrase FixityNone p shape vs = nothing
declaration_phrase FixityLevel p shape vs = nothing
declaration_phrase VidMoreNone p shape vs = nothing
declaration_phrase VidMoreVid p shape vs = nothing
declaration_phrase ValDecTypeVariable p shape vs = with_variables (name_in (at vs 0) ∷ []) (values_in (at vs 1))
declaration_phrase ValDecOpenRound p shape vs = round_value shape p (at vs 1)
declaration_phrase ValDecRec p shape vs = all_recursive (values_in (at vs 1))
declaration_phrase ValDecBarePat p shape vs = and_value (pat_in (at vs 0)) (exp_in (at vs 2)) (values_in (at vs 3))
declaration_phrase ValRoundTypeVariable p shape vs = with_variables (name_in (at vs 0) ∷ names_in (at vs 1)) (values_in (at vs 3))
declaration_phrase ValRoundPatRound p shape vs = round_values (pats_in (at vs 0)) (atoms_in (at vs 1)) (exp_in (at vs 3)) (values_in (at vs 4))
declaration_phrase ValBindRec p shape vs = all_recursive (values_in (at vs 1))
declaration_phrase ValBindPat p shape vs = and_value (pat_in (at vs 0)) (exp_in (at vs 2)) (values_in (at vs 3))
declaration_phrase ValMoreNone p shape vs = of_values [] no_bind no_bind
declaration_phrase ValMoreAnd p shape vs = at vs 1
declaration_phrase FunDecTypeVariable p shape vs = of_functions (name_in (at vs 0) ∷ []) (and_bind (bind_in (at vs 1)) (binds_in (at vs 2)))
declaration_phrase FunDecOpenRound p shape vs = round_functions shape p (at vs 1)
declaration_phrase FunDecBareAtPat p shape vs = of_functions [] (and_bind (function_from shape (pat_place (pat_in (at vs 0))) (pat_in (at vs 0)) (right_side_in (at vs 1)) (clauses_in (at vs 2))) (binds_in (at vs 3)))
declaration_phrase FunRoundTypeVariable p shape vs = of_functions (name_in (at vs 0) ∷ names_in (at vs 1)) (and_bind (bind_in (at vs 3)) (binds_in (at vs 4)))
declaration_phrase FunRoundPatRound p shape vs = round_rest (pats_in (at vs 0)) (right_side_in (at vs 1)) (clauses_in (at vs 2)) (binds_in (at vs 3))
declaration_phrase ClausesAtPat p shape vs = of_bind (function_from shape (pat_place (pat_in (at vs 0))) (pat_in (at vs 0)) (right_side_in (at vs 1)) (clauses_in (at vs 2)))
declaration_phrase ClausesMoreNone p shape vs = of_binds no_bind
declaration_phrase ClausesMoreAnd p shape vs = of_binds (and_bind (bind_in (at vs 1)) (binds_in (at vs 2)))
declaration_phrase ClauseAtPats p shape vs = of_right_side (pats_in (at vs 0)) (ty_if_any (at vs 1)) (exp_in (at vs 3))
declaration_phrase ClauseMoreNone p shape vs = of_clauses []
declaration_phrase ClauseMoreBar p shape vs = of_clauses (clause_from shape (pat_in (at vs 1)) (right_side_in (at vs 2)) ∷ clauses_in (at vs 3))
declaration_phrase AtPatsNone p shape vs = of_pats no_pat
declaration_phrase AtPatsAtPat p shape vs = of_pats (and_pat (pat_in (at vs 0)) (pats_in (at vs 1)))
declaration_phrase TypedNone p shape vs = nothing
declaration_phrase TypedColon p shape vs = at vs 1
declaration_phrase TypBindTvs p shape vs = of_typ_bind (names_in (at vs 0)) (name_in (at vs 1)) (ty_in (at vs 3))
declaration_phrase TypBindMoreNone p shape vs = of_typ_binds []
declaration_phrase TypBindMoreAnd p shape vs = of_typ_binds (typ_bind_in (at vs 1) ∷ typ_binds_in (at vs 2))
declaration_phrase DatDecSomeTvs p shape vs = and_datatype (record { variables = names_in (at vs 0); name = name_in (at vs 1); constructors = con_binds_in (at vs 3) }) (datatypes_in (at vs 4))
declaration_phrase DatDecTyCon p shape vs = datatype_rest (name_in (at vs 0)) (at vs 2)
declaration_phrase DatRestDatatype p shape vs = at vs 1
declaration_phrase DatRestConBinds p shape vs = constructors (con_binds_in (at vs 0)) (datatypes_in (at vs 1))
declaration_phrase DatBindMoreNone p shape vs = of_datatypes [] []
declaration_phrase DatBindMoreAnd p shape vs = and_datatype (record { variables = names_in (at vs 1); name = name_in (at vs 2); constructors = con_binds_in (at vs 4) }) (datatypes_in (at vs 5))
declaration_phrase DatBindMoreWithtype p shape vs = of_datatypes [] (typ_bind_in (at vs 1) ∷ typ_binds_in (at vs 2))
declaration_phrase ConBindsMaybeOp p shape vs = of_con_binds (record { name = name_in (at vs 1); argument = ty_if_any (at vs 2) } ∷ con_binds_in (at vs 3))
declaration_phrase ConBindsMoreNone p shape vs = of_con_binds []
declaration_phrase ConBindsMoreBar p shape vs = at vs 1
declaration_phrase MaybeOpNone p shape vs = nothing
declaration_phrase MaybeOpOp p shape vs = nothing
declaration_phrase ExnBindMaybeOp p shape vs = exn_rest (name_in (at vs 1)) (at vs 2)
declaration_phrase ExnBindMoreNone p shape vs = of_exn_binds []
declaration_phrase ExnBindMoreAnd p shape vs = of_exn_binds (exn_bind_in (at vs 1) ∷ exn_binds_in (at vs 2))
declaration_phrase ExnRestNone p shape vs = nothing
declaration_phrase ExnRestOf p shape vs = at vs 1
declaration_phrase ExnRestEquals p shape vs = at vs 2
declaration_phrase _ p shape vs = at vs 0

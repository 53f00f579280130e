-- Each place in what the rules of declarations of the core make of their parts.
use Rattle.std.specs.Prelude.{◌≡◌, ℕ, List, [], ◌∷◌, false, Option}
use Rattle.std.specs.List.{AllByRecursion}
use Rattle.std.proofs.Common.{refl}
use Rattle.sml_lex.specs.declared.fault.Place.{Place}
use Rattle.sml_lex.specs.Faults.{first_place}
use Rattle.sml_tree.specs.Names.{Name}
use Rattle.sml_tree.specs.Expressions.{TypBind, DatBind, ValBinds, no_bind, and_bind}
use Rattle.sml_fixity.specs.Shapes.{Shape}
use Rattle.sml_read.specs.Grammar.{right_side}
use Rattle.sml_read.specs.Spelling.{all_empty}
use Rattle.sml_read.specs.declared.grammar.Rule.TheVariants as G
use Rattle.sml_read.specs.declared.grammar.DeclarationRule.{DeclarationRule}
use Rattle.sml_read.specs.declared.grammar.DeclarationRule.TheVariants.{DecLocal, CoreDecVal, CoreDecFun, CoreDecType, CoreDecDatatype, CoreDecException, CoreDecOpen, CoreDecInfix, CoreDecInfixr, CoreDecNonfix, OpenMoreNone, OpenMoreLongStrId, FixityNone, FixityLevel, VidMoreNone, VidMoreVid, ValDecTypeVariable, ValDecOpenRound, ValDecRec, ValDecBarePat, ValRoundTypeVariable, ValRoundPatRound, ValBindRec, ValBindPat, ValMoreNone, ValMoreAnd, FunDecTypeVariable, FunDecOpenRound, FunDecBareAtPat, FunRoundTypeVariable, FunRoundPatRound, ClausesAtPat, ClausesMoreNone, ClausesMoreAnd, ClauseAtPats, ClauseMoreNone, ClauseMoreBar, AtPatsNone, AtPatsAtPat, TypedNone, TypedColon, TypBindTvs, TypBindMoreNone, TypBindMoreAnd, DatDecSomeTvs, DatDecTyCon, DatRestDatatype, DatRestConBinds, DatBindMoreNone, DatBindMoreAnd, DatBindMoreWithtype, ConBindsMaybeOp, ConBindsMoreNone, ConBindsMoreBar, MaybeOpNone, MaybeOpOp, ExnBindMaybeOp, ExnBindMoreNone, ExnBindMoreAnd, ExnRestNone, ExnRestOf, ExnRestEquals}
use Rattle.sml_phrases.specs.Phrases.{Phrase, of_long, of_ty, of_atoms, of_values, of_round_values, of_functions, of_typ_bind, of_con_bind, of_datatypes, of_constructors, of_copy, at, name_in, pat_in, clauses_in}
use Rattle.sml_pat_sequences.specs.PatternSequences.{pat_place}
use Rattle.sml_pat_sequences.specs.RoundPatterns.{round_pat}
use Rattle.sml_bare_decs.specs.FunctionRules.{right_side_in}
use Rattle.sml_bare_decs.specs.DeclarationRules.{Values, Functions, Atoms, Datatypes, values_in, functions_in, atoms_in, datatypes_in, typ_bind_in, exn_bind_in, joined, datatypes_dec, datatype_of, datatype_rest, exn_rest, round_value, declaration_phrase}
use Rattle.sml_parse.specs.EachPlace.{EachInName, EachInNames, EachInTys, EachInPats, EachInTypBind, EachInDatBind, EachInExnBind, EachInDec, EachInBinds}
use Rattle.sml_parse.proofs.EachPhrase.{EachInPhrase, EachInPhrases, at_each, name_in_each, names_in_each, long_in_each, longs_in_each, ty_in_each, ty_if_any_each, pat_in_each, pats_in_each, exp_in_each, decs_in_each, bind_in_each, binds_in_each, clauses_in_each, typ_binds_in_each, con_binds_in_each, exn_binds_in_each}
use Rattle.sml_parse.proofs.EachPattern.{pat_place_each, round_pat_each, round_sequence_each}
use Rattle.sml_parse.proofs.EachFunction.{right_side_in_each, clause_each, function_each, round_functions_each}

module _ (Q : Place → Type 0) (origin : Q first_place) where
  -- what was made of several kinds at once
  abbrev EachInValues : Values → Type 0
  EachInValues w = EachInNames Q w.variables × EachInBinds Q w.plain × EachInBinds Q w.recursive

  values_in_each : (v : Phrase) → EachInPhrase Q v → EachInValues (values_in v)
  values_in_each (of_values xs bs rs) h = h
  values_in_each _ h = (tt, tt, tt)

  abbrev EachInFunctions : Functions → Type 0
  EachInFunctions w = EachInNames Q w.variables × EachInBinds Q w.binds

  functions_in_each : (v : Phrase) → EachInPhrase Q v → EachInFunctions (functions_in v)
  functions_in_each (of_functions xs bs) h = h
  functions_in_each _ h = (tt, tt)

  abbrev EachInAtoms : Atoms → Type 0
  EachInAtoms a = EachInPats Q a.pats × EachInTys Q a.tys

  atoms_in_each : (v : Phrase) → EachInPhrase Q v → EachInAtoms (atoms_in v)
  atoms_in_each (of_atoms qs ts) h = h
  atoms_in_each _ h = (tt, tt)

  abbrev EachInDatatypes : Datatypes → Type 0
  EachInDatatypes w = AllByRecursion (EachInDatBind Q) w.datatypes × AllByRecursion (EachInTypBind Q) w.types

  datatypes_in_each : (v : Phrase) → EachInPhrase Q v → EachInDatatypes (datatypes_in v)
  datatypes_in_each (of_datatypes ds ts) h = h
  datatypes_in_each _ h = (tt, tt)

  typ_bind_in_each : (v : Phrase) → EachInPhrase Q v → EachInTypBind Q (typ_bind_in v)
  typ_bind_in_each (of_typ_bind xs x t) h = h
  typ_bind_in_each _ h = (tt, origin, (origin, tt))

  exn_bind_in_each : (v : Phrase) → EachInPhrase Q v → EachInExnBind Q (exn_bind_in v)
  exn_bind_in_each (of_con_bind x t) h = h
  exn_bind_in_each (of_copy x c) h = h
  exn_bind_in_each _ h = (origin, tt)

  -- values
  joined_each : (bs rs : ValBinds Place) → EachInBinds Q bs → EachInBinds Q rs → EachInBinds Q (joined bs rs)
  joined_each no_bind rs h k = k
  joined_each (and_bind b bs) rs h k = (h.0, joined_each bs rs h.1 k)

  round_value_each : (s : Option Shape) (p : Place) (v : Phrase) → Q p → EachInPhrase Q v → EachInPhrase Q (round_value s p v)
  round_value_each s p (of_round_values ps qs ts e bs rs) o h = (tt, ((round_sequence_each Q origin s (round_pat p ps) qs ts (round_pat_each Q origin p ps o h.0) h.1 h.2, h.3), h.4), h.5)
  round_value_each s p _ o h = h

  -- datatypes and exceptions
  datatypes_dec_each : (p : Place) (ds : List (DatBind Place)) (ts : List (TypBind Place)) → Q p → AllByRecursion (EachInDatBind Q) ds → AllByRecursion (EachInTypBind Q) ts → EachInDec Q (datatypes_dec p ds ts)
  datatypes_dec_each p ds [] o h k = (o, h)
  datatypes_dec_each p ds (t ∷ ts) o h k = (o, h, k)

  datatype_of_each : (p : Place) (v : Phrase) → Q p → EachInPhrase Q v → EachInDec Q (datatype_of p v)
  datatype_of_each p (of_datatypes ds ts) o h = datatypes_dec_each p ds ts o h.0 h.1
  datatype_of_each p (of_copy x c) o h = (o, h.0, h.1)
  datatype_of_each p _ o h = (o, tt)

  datatype_rest_each : (x : Name Place) (v : Phrase) → EachInName Q x → EachInPhrase Q v → EachInPhrase Q (datatype_rest x v)
  datatype_rest_each x (of_long c) n h = (n, h)
  datatype_rest_each x (of_constructors cs ds ts) n h = (((tt, n, h.0), h.1), h.2)
  datatype_rest_each x _ n h = tt

  exn_rest_each : (x : Name Place) (v : Phrase) → EachInName Q x → EachInPhrase Q v → EachInPhrase Q (exn_rest x v)
  exn_rest_each x (of_long c) n h = (n, h)
  exn_rest_each x (of_ty t) n h = (n, h)
  exn_rest_each x _ n h = (n, tt)

  -- the rules
  of_parts : (rule : DeclarationRule) (p : Place) (s : Option Shape) (vs : List Phrase) → (all_empty (right_side (G.Declarations rule)) ≡ false → Q p) → ((k : ℕ) → EachInPhrase Q (at vs k)) → EachInPhrase Q (declaration_phrase rule p s vs)
  of_parts DecLocal p s vs o h = (o refl, decs_in_each Q origin (at vs 1) (h 1), decs_in_each Q origin (at vs 3) (h 3))
  of_parts CoreDecVal p s vs o h = let w = values_in_each (at vs 1) (h 1) in (o refl, w.0, w.1, w.2)
  of_parts CoreDecFun p s vs o h = let w = functions_in_each (at vs 1) (h 1) in (o refl, w.0, tt, w.1)
  of_parts CoreDecType p s vs o h = (o refl, (typ_bind_in_each (at vs 1) (h 1), typ_binds_in_each Q origin (at vs 2) (h 2)))
  of_parts CoreDecDatatype p s vs o h = datatype_of_each p (at vs 1) (o refl) (h 1)
  of_parts CoreDecException p s vs o h = (o refl, (exn_bind_in_each (at vs 1) (h 1), exn_binds_in_each Q origin (at vs 2) (h 2)))
  of_parts CoreDecOpen p s vs o h = (o refl, (long_in_each Q origin (at vs 1) (h 1), longs_in_each Q origin (at vs 2) (h 2)))
  of_parts CoreDecInfix p s vs o h = o refl
  of_parts CoreDecInfixr p s vs o h = o refl
  of_parts CoreDecNonfix p s vs o h = o refl
  of_parts OpenMoreNone p s vs o h = tt
  of_parts OpenMoreLongStrId p s vs o h = (long_in_each Q origin (at vs 0) (h 0), longs_in_each Q origin (at vs 1) (h 1))
  of_parts FixityNone p s vs o h = tt
  of_parts FixityLevel p s vs o h = tt
  of_parts VidMoreNone p s vs o h = tt
  of_parts VidMoreVid p s vs o h = tt
  of_parts ValDecTypeVariable p s vs o h = let w = values_in_each (at vs 1) (h 1) in ((name_in_each Q origin (at vs 0) (h 0), tt), w.1, w.2)
  of_parts ValDecOpenRound p s vs o h = round_value_each s p (at vs 1) (o refl) (h 1)
  of_parts ValDecRec p s vs o h = let w = values_in_each (at vs 1) (h 1) in (tt, tt, joined_each (values_in (at vs 1)).plain (values_in (at vs 1)).recursive w.1 w.2)
  of_parts ValDecBarePat p s vs o h =
      let w = values_in_each (at vs 3) (h 3) in
      (tt, ((pat_in_each Q origin (at vs 0) (h 0), exp_in_each Q origin (at vs 2) (h 2)), w.1), w.2)
  of_parts ValRoundTypeVariable p s vs o h = let w = values_in_each (at vs 3) (h 3) in ((name_in_each Q origin (at vs 0) (h 0), names_in_each Q origin (at vs 1) (h 1)), w.1, w.2)
  of_parts ValRoundPatRound p s vs o h =
      let a = atoms_in_each (at vs 1) (h 1) in
      let w = values_in_each (at vs 4) (h 4) in
      (pats_in_each Q origin (at vs 0) (h 0), a.0, a.1, exp_in_each Q origin (at vs 3) (h 3), w.1, w.2)
  of_parts ValBindRec p s vs o h = let w = values_in_each (at vs 1) (h 1) in (tt, tt, joined_each (values_in (at vs 1)).plain (values_in (at vs 1)).recursive w.1 w.2)
  of_parts ValBindPat p s vs o h =
      let w = values_in_each (at vs 3) (h 3) in
      (tt, ((pat_in_each Q origin (at vs 0) (h 0), exp_in_each Q origin (at vs 2) (h 2)), w.1), w.2)
  of_parts ValMoreNone p s vs o h = (tt, tt, tt)
  of_parts ValMoreAnd p s vs o h = h 1
  of_parts FunDecTypeVariable p s vs o h = ((name_in_each Q origin (at vs 0) (h 0), tt), (bind_in_each Q origin (at vs 1) (h 1), binds_in_each Q origin (at vs 2) (h 2)))
  of_parts FunDecOpenRound p s vs o h = round_functions_each Q origin s p (at vs 1) (o refl) (h 1)
  of_parts FunDecBareAtPat p s vs o h =
      let q = pat_in_each Q origin (at vs 0) (h 0) in (
        tt,
        (
          function_each Q origin s (pat_place (pat_in (at vs 0))) (pat_in (at vs 0)) (right_side_in (at vs 1)) (clauses_in (at vs 2)) (pat_place_each Q origin (pat_in (at vs 0)) q) q (right_side_in_each Q origin (at vs 1) (h 1)) (clauses_in_each Q origin (at vs 2) (h 2)),
          binds_in_each Q origin (at vs 3) (h 3),
        ),
      )
  of_parts FunRoundTypeVariable p s vs o h = (
    (name_in_each Q origin (at vs 0) (h 0), names_in_each Q origin (at vs 1) (h 1)),
    (bind_in_each Q origin (at vs 3) (h 3), binds_in_each Q origin (at vs 4) (h 4)),
  )
  of_parts FunRoundPatRound p s vs o h =
      let r = right_side_in_each Q origin (at vs 1) (h 1) in
      (pats_in_each Q origin (at vs 0) (h 0), r.0, r.1, r.2, clauses_in_each Q origin (at vs 2) (h 2), binds_in_each Q origin (at vs 3) (h 3))
  of_parts ClausesAtPat p s vs o h =
      let q = pat_in_each Q origin (at vs 0) (h 0) in
      function_each Q origin s (pat_place (pat_in (at vs 0))) (pat_in (at vs 0)) (right_side_in (at vs 1)) (clauses_in (at vs 2))
      (pat_place_each Q origin (pat_in (at vs 0)) q) q (right_side_in_each Q origin (at vs 1) (h 1)) (clauses_in_each Q origin (at vs 2) (h 2))
  of_parts ClausesMoreNone p s vs o h = tt
  of_parts ClausesMoreAnd p s vs o h = (bind_in_each Q origin (at vs 1) (h 1), binds_in_each Q origin (at vs 2) (h 2))
  of_parts ClauseAtPats p s vs o h = (pats_in_each Q origin (at vs 0) (h 0), ty_if_any_each Q origin (at vs 1) (h 1), exp_in_each Q origin (at vs 3) (h 3))
  of_parts ClauseMoreNone p s vs o h = tt
  of_parts ClauseMoreBar p s vs o h =
      let q = pat_in_each Q origin (at vs 1) (h 1) in (
        clause_each Q origin s (pat_place (pat_in (at vs 1))) (pat_in (at vs 1)) (right_side_in (at vs 2)) (pat_place_each Q origin (pat_in (at vs 1)) q) q (right_side_in_each Q origin (at vs 2) (h 2)),
        clauses_in_each Q origin (at vs 3) (h 3),
      )
  of_parts AtPatsNone p s vs o h = tt
  of_parts AtPatsAtPat p s vs o h = (pat_in_each Q origin (at vs 0) (h 0), pats_in_each Q origin (at vs 1) (h 1))
  of_parts TypedNone p s vs o h = tt
  of_parts TypedColon p s vs o h = h 1
  of_parts TypBindTvs p s vs o h = (names_in_each Q origin (at vs 0) (h 0), name_in_each Q origin (at vs 1) (h 1), ty_in_each Q origin (at vs 3) (h 3))
  of_parts TypBindMoreNone p s vs o h = tt
  of_parts TypBindMoreAnd p s vs o h = (typ_bind_in_each (at vs 1) (h 1), typ_binds_in_each Q origin (at vs 2) (h 2))
  of_parts DatDecSomeTvs p s vs o h =
      let w = datatypes_in_each (at vs 4) (h 4) in
      (((names_in_each Q origin (at vs 0) (h 0), name_in_each Q origin (at vs 1) (h 1), con_binds_in_each Q origin (at vs 3) (h 3)), w.0), w.1)
  of_parts DatDecTyCon p s vs o h = datatype_rest_each (name_in (at vs 0)) (at vs 2) (name_in_each Q origin (at vs 0) (h 0)) (h 2)
  of_parts DatRestDatatype p s vs o h = h 1
  of_parts DatRestConBinds p s vs o h = let w = datatypes_in_each (at vs 1) (h 1) in (con_binds_in_each Q origin (at vs 0) (h 0), w.0, w.1)
  of_parts DatBindMoreNone p s vs o h = (tt, tt)
  of_parts DatBindMoreAnd p s vs o h =
      let w = datatypes_in_each (at vs 5) (h 5) in
      (((names_in_each Q origin (at vs 1) (h 1), name_in_each Q origin (at vs 2) (h 2), con_binds_in_each Q origin (at vs 4) (h 4)), w.0), w.1)
  of_parts DatBindMoreWithtype p s vs o h = (tt, (typ_bind_in_each (at vs 1) (h 1), typ_binds_in_each Q origin (at vs 2) (h 2)))
  of_parts ConBindsMaybeOp p s vs o h = ((name_in_each Q origin (at vs 1) (h 1), ty_if_any_each Q origin (at vs 2) (h 2)), con_binds_in_each Q origin (at vs 3) (h 3))
  of_parts ConBindsMoreNone p s vs o h = tt
  of_parts ConBindsMoreBar p s vs o h = h 1
  of_parts MaybeOpNone p s vs o h = tt
  of_parts MaybeOpOp p s vs o h = tt
  of_parts ExnBindMaybeOp p s vs o h = exn_rest_each (name_in (at vs 1)) (at vs 2) (name_in_each Q origin (at vs 1) (h 1)) (h 2)
  of_parts ExnBindMoreNone p s vs o h = tt
  of_parts ExnBindMoreAnd p s vs o h = (exn_bind_in_each (at vs 1) (h 1), exn_binds_in_each Q origin (at vs 2) (h 2))
  of_parts ExnRestNone p s vs o h = tt
  of_parts ExnRestOf p s vs o h = h 1
  of_parts ExnRestEquals p s vs o h = h 2
  of_parts _ p s vs o h = h 0

  pub declaration_each : (rule : DeclarationRule) (p : Place) (s : Option Shape) (vs : List Phrase) → (all_empty (right_side (G.Declarations rule)) ≡ false → Q p) → EachInPhrases Q vs → EachInPhrase Q (declaration_phrase rule p s vs)
  declaration_each rule p s vs o h = of_parts rule p s vs o (λ k. at_each Q origin vs k h)

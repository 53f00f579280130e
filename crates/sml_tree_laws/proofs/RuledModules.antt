-- The matches in units and structures.
use Rattle.std.specs.Prelude.{List, [], ◌∷◌}
use Rattle.std.proofs.Common.{refl}
use Rattle.sml_tree.specs.Names.{Name}
use Rattle.sml_tree.specs.Structures.{StrExp, ascribed}
use Rattle.sml_tree.specs.Clauses.{Constraint}
use Rattle.sml_read.specs.declared.grammar.UnitRule.{UnitRule}
use Rattle.sml_read.specs.declared.grammar.UnitRule.TheVariants as U
use Rattle.sml_read.specs.declared.grammar.StructureRule.{StructureRule}
use Rattle.sml_read.specs.declared.grammar.StructureRule.TheVariants as S
use Rattle.sml_phrases.specs.Phrases.{of_specs, of_str, of_str_decs, of_begun_str_bind, of_functor_argument, of_begun_fun_bind, of_begun_functor, str_constraints_in, fun_constraints_in}
use Rattle.sml_bare_mods.specs.StructureRules.{str_place, constrained, own_constrained, str_binds, fun_binds, begun_fun_bind, applied, structure_phrase}
use Rattle.sml_bare_mods.specs.UnitRules.{unit_phrase}
use Rattle.sml_lex.specs.declared.fault.Place.{Place}
use Rattle.sml_read.specs.declared.grammar.Rule.TheVariants as G
use Rattle.sml_phrases.specs.Phrases.{Phrase, at, name_in, str_in, constraints_in}
use Rattle.sml_tree_laws.specs.Matches.{StrRuled, StrBindsRuled, FunBindsRuled}
use Rattle.sml_tree_laws.proofs.RuledPhrases.{PhraseRuled, dec_ruled, decs_ruled, str_ruled, str_dec_ruled, str_decs_ruled, str_binds_ruled, fun_binds_ruled}
use Rattle.sml_tree_laws.proofs.RuledExpressions.{PartsRuled}

constrained_ruled : (e : StrExp Place) (cs : List (Constraint Place)) → StrRuled e → StrRuled (constrained e cs)
constrained_ruled e [] h = h
constrained_ruled e (c ∷ cs) h = constrained_ruled (ascribed (str_place e) e c.ascription c.signature) cs h

own_ruled : (p : Place) (cs : List (Constraint Place)) (e : StrExp Place) → StrRuled e → StrRuled (own_constrained p cs e)
own_ruled p [] e h = h
own_ruled p (c ∷ cs) e h = h

all_str_binds_ruled : (v more : Phrase) → PhraseRuled v → PhraseRuled more → StrBindsRuled (str_binds v more)
all_str_binds_ruled (of_begun_str_bind x own e) more h k =
    (own_ruled x.place own (constrained e (str_constraints_in more)) (constrained_ruled e (str_constraints_in more) h), str_binds_ruled more k)
all_str_binds_ruled _ more h k = str_binds_ruled more k

all_fun_binds_ruled : (v more : Phrase) → PhraseRuled v → PhraseRuled more → FunBindsRuled (fun_binds v more)
all_fun_binds_ruled (of_begun_fun_bind f x s own e) more h k =
    (own_ruled f.place own (constrained e (fun_constraints_in more)) (constrained_ruled e (fun_constraints_in more) h), fun_binds_ruled more k)
all_fun_binds_ruled (of_begun_functor f ss own e) more h k =
    (((tt, tt), own_ruled f.place own (constrained e (fun_constraints_in more)) (constrained_ruled e (fun_constraints_in more) h)), fun_binds_ruled more k)
all_fun_binds_ruled _ more h k = fun_binds_ruled more k

begun_fun_bind_ruled : (f : Name Place) (v : Phrase) (own : List (Constraint Place)) (e : StrExp Place) → StrRuled e → PhraseRuled (begun_fun_bind f v own e)
begun_fun_bind_ruled f (of_functor_argument x s) own e h = h
begun_fun_bind_ruled f (of_specs ss) own e h = h
begun_fun_bind_ruled f _ own e h = tt

applied_ruled : (f : Name Place) (v : Phrase) → PhraseRuled v → StrRuled (applied f v)
applied_ruled f (of_str e) h = h
applied_ruled f (of_str_decs ds) h = h
applied_ruled f _ h = tt

pub structure_ruled : (rule : StructureRule) (p : Place) (vs : List Phrase) → PartsRuled (G.Structures rule) vs → PhraseRuled (structure_phrase rule p vs)
structure_ruled S.StrBindAlphanumeric p vs h = (str_ruled (at vs 3) (h 3 refl))
structure_ruled S.SealNone p vs h = tt
structure_ruled S.SealColon p vs h = tt
structure_ruled S.SealSeals p vs h = tt
structure_ruled S.StrBindMoreNone p vs h = tt
structure_ruled S.AscriptionColon p vs h = tt
structure_ruled S.AscriptionSeals p vs h = tt
structure_ruled S.StrBindSigNone p vs h = tt
structure_ruled S.StrBindWhereNone p vs h = tt
structure_ruled S.FunArgAlphanumeric p vs h = tt
structure_ruled S.FunBindMoreNone p vs h = tt
structure_ruled S.FunBindSigNone p vs h = tt
structure_ruled S.FunBindWhereNone p vs h = tt
structure_ruled S.StrExpMoreNone p vs h = tt
structure_ruled S.StrExpMoreAscription p vs h = tt
structure_ruled S.StrExpSigNone p vs h = tt
structure_ruled S.StrExpSigWhere p vs h = tt
structure_ruled S.StrExpSigAscription p vs h = tt
structure_ruled S.StrExpWhereNone p vs h = tt
structure_ruled S.StrExpWhereWhere p vs h = tt
structure_ruled S.StrExpWhereAscription p vs h = tt
structure_ruled S.StrExpWhereAnd p vs h = tt
structure_ruled S.StrBindMoreAscription p vs h = str_binds_ruled (at vs 1) (h 1 refl)
structure_ruled S.StrBindSigAscription p vs h = str_binds_ruled (at vs 1) (h 1 refl)
structure_ruled S.StrBindWhereAscription p vs h = str_binds_ruled (at vs 1) (h 1 refl)
structure_ruled S.StrBindAndWhere p vs h = str_binds_ruled (at vs 1) (h 1 refl)
structure_ruled S.StrBindSigWhere p vs h = str_binds_ruled (at vs 2) (h 2 refl)
structure_ruled S.StrBindWhereWhere p vs h = str_binds_ruled (at vs 2) (h 2 refl)
structure_ruled S.StrBindMoreAnd p vs h = all_str_binds_ruled (at vs 1) (at vs 2) (h 1 refl) (h 2 refl)
structure_ruled S.StrBindSigAnd p vs h = all_str_binds_ruled (at vs 1) (at vs 2) (h 1 refl) (h 2 refl)
structure_ruled S.StrBindAndStrBind p vs h = all_str_binds_ruled (at vs 0) (at vs 1) (h 0 refl) (h 1 refl)
structure_ruled S.StrBindWhereAnd p vs h = (h 1 refl)
structure_ruled S.FunBindWhereAnd p vs h = (h 1 refl)
structure_ruled S.FunBindAlphanumeric p vs h = begun_fun_bind_ruled (name_in (at vs 0)) (at vs 2) (constraints_in (at vs 4)) (str_in (at vs 6)) (str_ruled (at vs 6) (h 6 refl))
structure_ruled S.FunBindMoreAscription p vs h = fun_binds_ruled (at vs 1) (h 1 refl)
structure_ruled S.FunBindSigAscription p vs h = fun_binds_ruled (at vs 1) (h 1 refl)
structure_ruled S.FunBindWhereAscription p vs h = fun_binds_ruled (at vs 1) (h 1 refl)
structure_ruled S.FunBindAndWhere p vs h = fun_binds_ruled (at vs 1) (h 1 refl)
structure_ruled S.FunBindSigWhere p vs h = fun_binds_ruled (at vs 2) (h 2 refl)
structure_ruled S.FunBindWhereWhere p vs h = fun_binds_ruled (at vs 2) (h 2 refl)
structure_ruled S.FunBindMoreAnd p vs h = all_fun_binds_ruled (at vs 1) (at vs 2) (h 1 refl) (h 2 refl)
structure_ruled S.FunBindSigAnd p vs h = all_fun_binds_ruled (at vs 1) (at vs 2) (h 1 refl) (h 2 refl)
structure_ruled S.FunBindAndFunBind p vs h = all_fun_binds_ruled (at vs 0) (at vs 1) (h 0 refl) (h 1 refl)
structure_ruled S.StrExpStrAtom p vs h = constrained_ruled (str_in (at vs 0)) (constraints_in (at vs 1)) (str_ruled (at vs 0) (h 0 refl))
structure_ruled S.StrAtomStruct p vs h = (str_decs_ruled (at vs 1) (h 1 refl))
structure_ruled S.StrAtomLongAlphanumeric p vs h = tt
structure_ruled S.StrAtomAlphanumeric p vs h = applied_ruled (name_in (at vs 0)) (at vs 1) (h 1 refl)
structure_ruled S.StrAtomLet p vs h = ((str_decs_ruled (at vs 1) (h 1 refl)), (str_ruled (at vs 3) (h 3 refl)))
structure_ruled S.ActualNone p vs h = tt
structure_ruled S.ActualOpenRound p vs h = (h 1 refl)
structure_ruled _ p vs h = (h 0 refl)

pub unit_ruled : (rule : UnitRule) (p : Place) (vs : List Phrase) → PartsRuled (G.Units rule) vs → PhraseRuled (unit_phrase rule p vs)
unit_ruled U.TopStr p vs h = (str_dec_ruled (at vs 0) (h 0 refl))
unit_ruled U.TopSignature p vs h = tt
unit_ruled U.TopFunctor p vs h = all_fun_binds_ruled (at vs 1) (at vs 2) (h 1 refl) (h 2 refl)
unit_ruled U.StrStructure p vs h = all_str_binds_ruled (at vs 1) (at vs 2) (h 1 refl) (h 2 refl)
unit_ruled U.StrCoreDec p vs h = dec_ruled (at vs 0) (h 0 refl)
unit_ruled U.StrLocal p vs h = ((str_decs_ruled (at vs 1) (h 1 refl)), (str_decs_ruled (at vs 3) (h 3 refl)))
unit_ruled U.StrsNone p vs h = tt
unit_ruled U.StrsSemicolon p vs h = (h 1 refl)
unit_ruled U.StrsStr p vs h = ((str_dec_ruled (at vs 0) (h 0 refl)), (str_decs_ruled (at vs 1) (h 1 refl)))
unit_ruled U.DecsNone p vs h = tt
unit_ruled U.DecsSemicolon p vs h = (h 1 refl)
unit_ruled U.DecsDec p vs h = ((dec_ruled (at vs 0) (h 0 refl)), (decs_ruled (at vs 1) (h 1 refl)))
unit_ruled U.SpecsNone p vs h = tt
unit_ruled U.SpecsSemicolon p vs h = (h 1 refl)
unit_ruled U.SpecsSpec p vs h = tt
unit_ruled _ p vs h = tt

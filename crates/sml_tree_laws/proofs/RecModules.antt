-- What stands after `rec` in units and structures.
use Rattle.std.specs.Prelude.{List, [], ◌∷◌}
use Rattle.std.proofs.Common.{refl}
use Rattle.sml_tree.specs.Names.{Name}
use Rattle.sml_tree.specs.Structures.{StrExp, ascribed}
use Rattle.sml_tree.specs.Clauses.{Constraint}
use Rattle.sml_read.specs.declared.grammar.UnitRule.{UnitRule}
use Rattle.sml_read.specs.declared.grammar.UnitRule.TheVariants as U
use Rattle.sml_read.specs.declared.grammar.StructureRule.{StructureRule}
use Rattle.sml_read.specs.declared.grammar.StructureRule.TheVariants as S
use Rattle.sml_phrases.specs.Phrases.{of_specs, of_str, of_str_decs, of_begun_str_bind, of_functor_argument, of_begun_fun_bind, of_begun_functor, str_constraints_in, fun_constraints_in}
use Rattle.sml_bare_mods.specs.StructureRules.{str_place, constrained, own_constrained, str_binds, fun_binds, begun_fun_bind, applied, structure_phrase}
use Rattle.sml_bare_mods.specs.UnitRules.{unit_phrase}
use Rattle.sml_lex.specs.declared.fault.Place.{Place}
use Rattle.sml_read.specs.declared.grammar.Rule.TheVariants as G
use Rattle.sml_phrases.specs.Phrases.{Phrase, at, name_in, str_in, constraints_in}
use Rattle.sml_tree_laws.specs.Recursive.{StrRec, StrBindsRec, FunBindsRec}
use Rattle.sml_tree_laws.proofs.RecPhrases.{PhraseRec, dec_rec, decs_rec, str_rec, str_dec_rec, str_decs_rec, str_binds_rec, fun_binds_rec}
use Rattle.sml_tree_laws.proofs.RecExpressions.{PartsRec}

constrained_rec : (e : StrExp Place) (cs : List (Constraint Place)) → StrRec e → StrRec (constrained e cs)
constrained_rec e [] h = h
constrained_rec e (c ∷ cs) h = constrained_rec (ascribed (str_place e) e c.ascription c.signature) cs h

own_rec : (p : Place) (cs : List (Constraint Place)) (e : StrExp Place) → StrRec e → StrRec (own_constrained p cs e)
own_rec p [] e h = h
own_rec p (c ∷ cs) e h = h

all_str_binds_rec : (v more : Phrase) → PhraseRec v → PhraseRec more → StrBindsRec (str_binds v more)
all_str_binds_rec (of_begun_str_bind x own e) more h k =
    (own_rec x.place own (constrained e (str_constraints_in more)) (constrained_rec e (str_constraints_in more) h), str_binds_rec more k)
all_str_binds_rec _ more h k = str_binds_rec more k

all_fun_binds_rec : (v more : Phrase) → PhraseRec v → PhraseRec more → FunBindsRec (fun_binds v more)
all_fun_binds_rec (of_begun_fun_bind f x s own e) more h k =
    (own_rec f.place own (constrained e (fun_constraints_in more)) (constrained_rec e (fun_constraints_in more) h), fun_binds_rec more k)
all_fun_binds_rec (of_begun_functor f ss own e) more h k =
    (((tt, tt), own_rec f.place own (constrained e (fun_constraints_in more)) (constrained_rec e (fun_constraints_in more) h)), fun_binds_rec more k)
all_fun_binds_rec _ more h k = fun_binds_rec more k

begun_fun_bind_rec : (f : Name Place) (v : Phrase) (own : List (Constraint Place)) (e : StrExp Place) → StrRec e → PhraseRec (begun_fun_bind f v own e)
begun_fun_bind_rec f (of_functor_argument x s) own e h = h
begun_fun_bind_rec f (of_specs ss) own e h = h
begun_fun_bind_rec f _ own e h = tt

applied_rec : (f : Name Place) (v : Phrase) → PhraseRec v → StrRec (applied f v)
applied_rec f (of_str e) h = h
applied_rec f (of_str_decs ds) h = h
applied_rec f _ h = tt

pub structure_rec : (rule : StructureRule) (p : Place) (vs : List Phrase) → PartsRec (G.Structures rule) vs → PhraseRec (structure_phrase rule p vs)
structure_rec S.StrBindAlphanumeric p vs h = (str_rec (at vs 3) (h 3 refl))
structure_rec S.SealNone p vs h = tt
structure_rec S.SealColon p vs h = tt
structure_rec S.SealSeals p vs h = tt
structure_rec S.StrBindMoreNone p vs h = tt
structure_rec S.AscriptionColon p vs h = tt
structure_rec S.AscriptionSeals p vs h = tt
structure_rec S.StrBindSigNone p vs h = tt
structure_rec S.StrBindWhereNone p vs h = tt
structure_rec S.FunArgAlphanumeric p vs h = tt
structure_rec S.FunBindMoreNone p vs h = tt
structure_rec S.FunBindSigNone p vs h = tt
structure_rec S.FunBindWhereNone p vs h = tt
structure_rec S.StrExpMoreNone p vs h = tt
structure_rec S.StrExpMoreAscription p vs h = tt
structure_rec S.StrExpSigNone p vs h = tt
structure_rec S.StrExpSigWhere p vs h = tt
structure_rec S.StrExpSigAscription p vs h = tt
structure_rec S.StrExpWhereNone p vs h = tt
structure_rec S.StrExpWhereWhere p vs h = tt
structure_rec S.StrExpWhereAscription p vs h = tt
structure_rec S.StrExpWhereAnd p vs h = tt
structure_rec S.StrBindMoreAscription p vs h = str_binds_rec (at vs 1) (h 1 refl)
structure_rec S.StrBindSigAscription p vs h = str_binds_rec (at vs 1) (h 1 refl)
structure_rec S.StrBindWhereAscription p vs h = str_binds_rec (at vs 1) (h 1 refl)
structure_rec S.StrBindAndWhere p vs h = str_binds_rec (at vs 1) (h 1 refl)
structure_rec S.StrBindSigWhere p vs h = str_binds_rec (at vs 2) (h 2 refl)
structure_rec S.StrBindWhereWhere p vs h = str_binds_rec (at vs 2) (h 2 refl)
structure_rec S.StrBindMoreAnd p vs h = all_str_binds_rec (at vs 1) (at vs 2) (h 1 refl) (h 2 refl)
structure_rec S.StrBindSigAnd p vs h = all_str_binds_rec (at vs 1) (at vs 2) (h 1 refl) (h 2 refl)
structure_rec S.StrBindAndStrBind p vs h = all_str_binds_rec (at vs 0) (at vs 1) (h 0 refl) (h 1 refl)
structure_rec S.StrBindWhereAnd p vs h = (h 1 refl)
structure_rec S.FunBindWhereAnd p vs h = (h 1 refl)
structure_rec S.FunBindAlphanumeric p vs h = begun_fun_bind_rec (name_in (at vs 0)) (at vs 2) (constraints_in (at vs 4)) (str_in (at vs 6)) (str_rec (at vs 6) (h 6 refl))
structure_rec S.FunBindMoreAscription p vs h = fun_binds_rec (at vs 1) (h 1 refl)
structure_rec S.FunBindSigAscription p vs h = fun_binds_rec (at vs 1) (h 1 refl)
structure_rec S.FunBindWhereAscription p vs h = fun_binds_rec (at vs 1) (h 1 refl)
structure_rec S.FunBindAndWhere p vs h = fun_binds_rec (at vs 1) (h 1 refl)
structure_rec S.FunBindSigWhere p vs h = fun_binds_rec (at vs 2) (h 2 refl)
structure_rec S.FunBindWhereWhere p vs h = fun_binds_rec (at vs 2) (h 2 refl)
structure_rec S.FunBindMoreAnd p vs h = all_fun_binds_rec (at vs 1) (at vs 2) (h 1 refl) (h 2 refl)
structure_rec S.FunBindSigAnd p vs h = all_fun_binds_rec (at vs 1) (at vs 2) (h 1 refl) (h 2 refl)
structure_rec S.FunBindAndFunBind p vs h = all_fun_binds_rec (at vs 0) (at vs 1) (h 0 refl) (h 1 refl)
structure_rec S.StrExpStrAtom p vs h = constrained_rec (str_in (at vs 0)) (constraints_in (at vs 1)) (str_rec (at vs 0) (h 0 refl))
structure_rec S.StrAtomStruct p vs h = (str_decs_rec (at vs 1) (h 1 refl))
structure_rec S.StrAtomLongAlphanumeric p vs h = tt
structure_rec S.StrAtomAlphanumeric p vs h = applied_rec (name_in (at vs 0)) (at vs 1) (h 1 refl)
structure_rec S.StrAtomLet p vs h = ((str_decs_rec (at vs 1) (h 1 refl)), (str_rec (at vs 3) (h 3 refl)))
structure_rec S.ActualNone p vs h = tt
structure_rec S.ActualOpenRound p vs h = (h 1 refl)
structure_rec _ p vs h = (h 0 refl)

pub unit_rec : (rule : UnitRule) (p : Place) (vs : List Phrase) → PartsRec (G.Units rule) vs → PhraseRec (unit_phrase rule p vs)
unit_rec U.TopStr p vs h = (str_dec_rec (at vs 0) (h 0 refl))
unit_rec U.TopSignature p vs h = tt
unit_rec U.TopFunctor p vs h = all_fun_binds_rec (at vs 1) (at vs 2) (h 1 refl) (h 2 refl)
unit_rec U.StrStructure p vs h = all_str_binds_rec (at vs 1) (at vs 2) (h 1 refl) (h 2 refl)
unit_rec U.StrCoreDec p vs h = dec_rec (at vs 0) (h 0 refl)
unit_rec U.StrLocal p vs h = ((str_decs_rec (at vs 1) (h 1 refl)), (str_decs_rec (at vs 3) (h 3 refl)))
unit_rec U.StrsNone p vs h = tt
unit_rec U.StrsSemicolon p vs h = (h 1 refl)
unit_rec U.StrsStr p vs h = ((str_dec_rec (at vs 0) (h 0 refl)), (str_decs_rec (at vs 1) (h 1 refl)))
unit_rec U.DecsNone p vs h = tt
unit_rec U.DecsSemicolon p vs h = (h 1 refl)
unit_rec U.DecsDec p vs h = ((dec_rec (at vs 0) (h 0 refl)), (decs_rec (at vs 1) (h 1 refl)))
unit_rec U.SpecsNone p vs h = tt
unit_rec U.SpecsSemicolon p vs h = (h 1 refl)
unit_rec U.SpecsSpec p vs h = tt
unit_rec _ p vs h = tt

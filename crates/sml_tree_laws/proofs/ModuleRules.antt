-- The rules of units, structures, signatures and specifications.
use Rattle.std.specs.Prelude.{◌≡◌, List, [], ◌∷◌, Bool, true, false}
use Rattle.std.proofs.Common.{refl}
use Rattle.sml_tree.specs.Names.{Name}
use Rattle.sml_tree.specs.Structures.{StrExp, ascribed}
use Rattle.sml_tree.specs.Clauses.{Constraint}
use Rattle.sml_read.specs.declared.grammar.UnitRule.{UnitRule}
use Rattle.sml_read.specs.declared.grammar.UnitRule.TheVariants as U
use Rattle.sml_read.specs.declared.grammar.StructureRule.{StructureRule}
use Rattle.sml_read.specs.declared.grammar.StructureRule.TheVariants as S
use Rattle.sml_read.specs.declared.grammar.SignatureRule.{SignatureRule}
use Rattle.sml_read.specs.declared.grammar.SignatureRule.TheVariants as N
use Rattle.sml_read.specs.declared.grammar.SpecificationRule.{SpecificationRule}
use Rattle.sml_read.specs.declared.grammar.SpecificationRule.TheVariants as C
use Rattle.sml_phrases.specs.Phrases.{of_longs, of_long, of_typ_binds, of_typ_descs, of_datatypes, of_constructors, of_sig, of_wheres, of_specs, of_type_rest, of_shared_types, of_str, of_str_decs, of_begun_str_bind, of_functor_argument, of_begun_fun_bind, of_begun_functor, str_constraints_in, fun_constraints_in, dec_in}
use Rattle.sml_bare_mods.specs.SignatureRules.{signature_phrase}
use Rattle.sml_bare_mods.specs.SpecificationRules.{types, type_rest, datatypes, datatype_rest, included, included_name, shared, specification_phrase}
use Rattle.sml_bare_mods.specs.StructureRules.{str_place, constrained, own_constrained, str_binds, fun_binds, begun_fun_bind, applied, structure_phrase}
use Rattle.sml_bare_mods.specs.UnitRules.{unit_phrase}
use Rattle.sml_tree_laws.specs.Scoped.{StrScoped, StrBindsScoped, FunBindsScoped}
use Rattle.sml_tree_laws.proofs.Sits.{dec_scoped}
use Rattle.sml_lex.specs.declared.fault.Place.{Place}
use Rattle.sml_tree.specs.Trees.{Id}
use Rattle.sml_read.specs.declared.grammar.Rule.TheVariants as G
use Rattle.sml_phrases.specs.Phrases.{Phrase, of_names, of_copy, at, name_in, names_in, str_in, constraints_in}
use Rattle.sml_tree_laws.proofs.Phrases.{PhraseSits, names_sit, ty_sits_if_any, dec_sits, decs_sit, str_sits, str_dec_sits, str_decs_sit, str_binds_sit, fun_binds_sit}
use Rattle.sml_tree_laws.proofs.Parts.{PartsSit}

-- the rules of a list of signature identifiers
abbrev pub includes_names : SpecificationRule → Bool
includes_names C.IncludeAlphanumeric = true
includes_names C.IncludeMoreAlphanumeric = true
includes_names C.IncludeIdsAlphanumeric = true
includes_names _ = false

module _ (L V R : Id → Type 0) where
  -- specifications and signatures: nothing in them is a value declaration

  types_sit : (p : Place) (v : Phrase) → PhraseSits L V R (types p v)
  types_sit p (of_typ_binds []) = tt
  types_sit p (of_typ_binds (b ∷ bs)) = tt
  types_sit p (of_typ_descs ds) = tt
  types_sit p _ = tt

  type_rest_sits : (xs : List (Name Place)) (x : Name Place) (v : Phrase) → PhraseSits L V R (type_rest xs x v)
  type_rest_sits xs x (of_type_rest t bs) = tt
  type_rest_sits xs x (of_typ_descs ds) = tt
  type_rest_sits xs x _ = tt

  datatypes_sit : (p : Place) (v : Phrase) → PhraseSits L V R (datatypes p v)
  datatypes_sit p (of_datatypes ds ts) = tt
  datatypes_sit p (of_copy x c) = tt
  datatypes_sit p _ = tt

  datatype_rest_sits : (x : Name Place) (v : Phrase) → PhraseSits L V R (datatype_rest x v)
  datatype_rest_sits x (of_constructors cs ds ts) = tt
  datatype_rest_sits x (of_long c) = tt
  datatype_rest_sits x _ = tt

  included_sits : (p : Place) (v : Phrase) → PhraseSits L V R (included p v)
  included_sits p (of_sig s) = tt
  included_sits p (of_names xs) = tt
  included_sits p _ = tt

  included_name_sits : (p : Place) (x : Name Place) (v : Phrase) → L x.id → PhraseSits L V R v → PhraseSits L V R (included_name p x v)
  included_name_sits p x (of_wheres ws) h k = tt
  included_name_sits p x (of_names xs) h k = (h, k)
  included_name_sits p x _ h k = tt

  shared_sits : (p : Place) (v : Phrase) → PhraseSits L V R (shared p v)
  shared_sits p (of_shared_types cs) = tt
  shared_sits p (of_longs cs) = tt
  shared_sits p _ = tt

  pub signature_sits : (rule : SignatureRule) (p : Place) (vs : List Phrase) → PartsSit L V R (G.Signatures rule) vs → PhraseSits L V R (signature_phrase rule p vs)
  signature_sits N.SigSigAtom p vs h = tt
  signature_sits N.SigAtomSig p vs h = tt
  signature_sits N.SigAtomAlphanumeric p vs h = tt
  signature_sits N.SigMoreNone p vs h = tt
  signature_sits N.SigMoreWhere p vs h = tt
  signature_sits N.SigWhereNone p vs h = tt
  signature_sits N.SigWhereWhere p vs h = tt
  signature_sits N.SigWhereAnd p vs h = tt
  signature_sits N.WhereType p vs h = tt
  signature_sits N.SigBindAlphanumeric p vs h = tt
  signature_sits N.SigBindMoreNone p vs h = tt
  signature_sits N.SigBindMoreWhere p vs h = tt
  signature_sits N.SigBindMoreAnd p vs h = tt
  signature_sits N.SigBindWhereNone p vs h = tt
  signature_sits N.SigBindWhereWhere p vs h = tt
  signature_sits N.SigBindAndWhere p vs h = tt
  signature_sits N.SigBindAndSigBind p vs h = tt
  signature_sits N.SigBindWhereAnd p vs h = (h 1 refl).0

  pub specification_sits : (rule : SpecificationRule) (p : Place) (vs : List Phrase) → (includes_names rule ≡ true → (x : Id) → L x) → PartsSit L V R (G.Specifications rule) vs
      → PhraseSits L V R (specification_phrase rule p vs)
  specification_sits C.SpecVal p vs l h = tt
  specification_sits C.SpecEqtype p vs l h = tt
  specification_sits C.SpecException p vs l h = tt
  specification_sits C.SpecStructure p vs l h = tt
  specification_sits C.ValSpecVid p vs l h = tt
  specification_sits C.ValSpecMoreNone p vs l h = tt
  specification_sits C.ValSpecMoreAnd p vs l h = tt
  specification_sits C.TypeSpecRestEquals p vs l h = tt
  specification_sits C.TypeSpecMoreNone p vs l h = tt
  specification_sits C.TypeSpecMoreAnd p vs l h = tt
  specification_sits C.DatSpecSomeTvs p vs l h = tt
  specification_sits C.DatSpecRestConSpecs p vs l h = tt
  specification_sits C.DatSpecMoreNone p vs l h = tt
  specification_sits C.DatSpecMoreAnd p vs l h = tt
  specification_sits C.ConSpecsVid p vs l h = tt
  specification_sits C.ConSpecsMoreNone p vs l h = tt
  specification_sits C.ExnSpecMoreNone p vs l h = tt
  specification_sits C.ExnSpecMoreAnd p vs l h = tt
  specification_sits C.StrSpecAlphanumeric p vs l h = tt
  specification_sits C.StrSpecMoreNone p vs l h = tt
  specification_sits C.StrSpecMoreWhere p vs l h = tt
  specification_sits C.StrSpecMoreAnd p vs l h = tt
  specification_sits C.StrSpecWhereNone p vs l h = tt
  specification_sits C.StrSpecWhereWhere p vs l h = tt
  specification_sits C.StrSpecAndWhere p vs l h = tt
  specification_sits C.StrSpecAndStrSpec p vs l h = tt
  specification_sits C.IncludeSig p vs l h = tt
  specification_sits C.OfTyNone p vs l h = tt
  specification_sits C.SharingType p vs l h = tt
  specification_sits C.SharingLongStrId p vs l h = tt
  specification_sits C.TypeShareMoreNone p vs l h = tt
  specification_sits C.TypeShareMoreEquals p vs l h = tt
  specification_sits C.StrShareMoreNone p vs l h = tt
  specification_sits C.StrShareMoreEquals p vs l h = tt
  specification_sits C.SpecType p vs l h = types_sit p (at vs 1)
  specification_sits C.SpecDatatype p vs l h = datatypes_sit p (at vs 1)
  specification_sits C.SpecInclude p vs l h = included_sits p (at vs 1)
  specification_sits C.SpecSharing p vs l h = shared_sits p (at vs 1)
  specification_sits C.TypeSpecTvs p vs l h = type_rest_sits (names_in (at vs 0)) (name_in (at vs 1)) (at vs 2)
  specification_sits C.DatSpecTyCon p vs l h = datatype_rest_sits (name_in (at vs 0)) (at vs 2)
  specification_sits C.DatSpecRestDatatype p vs l h = (h 1 refl).0
  specification_sits C.ConSpecsMoreBar p vs l h = (h 1 refl).0
  specification_sits C.OfTyOf p vs l h = (h 1 refl).0
  specification_sits C.StrSpecWhereAnd p vs l h = (h 1 refl).0
  specification_sits C.ExnSpecVid p vs l h = (ty_sits_if_any L V R (at vs 1) (h 1 refl).0)
  specification_sits C.IncludeAlphanumeric p vs l h = included_name_sits p (name_in (at vs 0)) (at vs 1) (l refl (name_in (at vs 0)).id) (h 1 refl).0
  specification_sits C.IncludeMoreAlphanumeric p vs l h = (l refl (name_in (at vs 0)).id, (names_sit L V R (at vs 1) (h 1 refl).0))
  specification_sits C.IncludeIdsAlphanumeric p vs l h = (l refl (name_in (at vs 0)).id, (names_sit L V R (at vs 1) (h 1 refl).0))
  specification_sits C.IncludeIdsNone p vs l h = tt
  specification_sits _ p vs l h = (h 0 refl).0

  -- structures

  constrained_sits : (e : StrExp Place) (cs : List (Constraint Place)) → StrScoped e → StrScoped (constrained e cs)
  constrained_sits e [] h = h
  constrained_sits e (c ∷ cs) h = constrained_sits (ascribed (str_place e) e c.ascription c.signature) cs h

  own_sits : (p : Place) (cs : List (Constraint Place)) (e : StrExp Place) → StrScoped e → StrScoped (own_constrained p cs e)
  own_sits p [] e h = h
  own_sits p (c ∷ cs) e h = h

  str_binds_scoped : (v more : Phrase) → PhraseSits L V R v → PhraseSits L V R more → StrBindsScoped (str_binds v more)
  str_binds_scoped (of_begun_str_bind x own e) more h k =
      (own_sits x.place own (constrained e (str_constraints_in more)) (constrained_sits e (str_constraints_in more) h), str_binds_sit L V R more k)
  str_binds_scoped _ more h k = str_binds_sit L V R more k

  fun_binds_scoped : (v more : Phrase) → PhraseSits L V R v → PhraseSits L V R more → FunBindsScoped (fun_binds v more)
  fun_binds_scoped (of_begun_fun_bind f x s own e) more h k =
      (own_sits f.place own (constrained e (fun_constraints_in more)) (constrained_sits e (fun_constraints_in more) h), fun_binds_sit L V R more k)
  fun_binds_scoped (of_begun_functor f ss own e) more h k =
      (((tt, tt), own_sits f.place own (constrained e (fun_constraints_in more)) (constrained_sits e (fun_constraints_in more) h)), fun_binds_sit L V R more k)
  fun_binds_scoped _ more h k = fun_binds_sit L V R more k

  begun_fun_bind_sits : (f : Name Place) (v : Phrase) (own : List (Constraint Place)) (e : StrExp Place) → StrScoped e → PhraseSits L V R (begun_fun_bind f v own e)
  begun_fun_bind_sits f (of_functor_argument x s) own e h = h
  begun_fun_bind_sits f (of_specs ss) own e h = h
  begun_fun_bind_sits f _ own e h = tt

  applied_sits : (f : Name Place) (v : Phrase) → PhraseSits L V R v → StrScoped (applied f v)
  applied_sits f (of_str e) h = h
  applied_sits f (of_str_decs ds) h = h
  applied_sits f _ h = tt

  pub structure_sits : (rule : StructureRule) (p : Place) (vs : List Phrase) → PartsSit L V R (G.Structures rule) vs → PhraseSits L V R (structure_phrase rule p vs)
  structure_sits S.StrBindAlphanumeric p vs h = (str_sits L V R (at vs 3) (h 3 refl).0)
  structure_sits S.SealNone p vs h = tt
  structure_sits S.SealColon p vs h = tt
  structure_sits S.SealSeals p vs h = tt
  structure_sits S.StrBindMoreNone p vs h = tt
  structure_sits S.AscriptionColon p vs h = tt
  structure_sits S.AscriptionSeals p vs h = tt
  structure_sits S.StrBindSigNone p vs h = tt
  structure_sits S.StrBindWhereNone p vs h = tt
  structure_sits S.FunArgAlphanumeric p vs h = tt
  structure_sits S.FunBindMoreNone p vs h = tt
  structure_sits S.FunBindSigNone p vs h = tt
  structure_sits S.FunBindWhereNone p vs h = tt
  structure_sits S.StrExpMoreNone p vs h = tt
  structure_sits S.StrExpMoreAscription p vs h = tt
  structure_sits S.StrExpSigNone p vs h = tt
  structure_sits S.StrExpSigWhere p vs h = tt
  structure_sits S.StrExpSigAscription p vs h = tt
  structure_sits S.StrExpWhereNone p vs h = tt
  structure_sits S.StrExpWhereWhere p vs h = tt
  structure_sits S.StrExpWhereAscription p vs h = tt
  structure_sits S.StrExpWhereAnd p vs h = tt
  structure_sits S.StrBindMoreAscription p vs h = str_binds_sit L V R (at vs 1) (h 1 refl).0
  structure_sits S.StrBindSigAscription p vs h = str_binds_sit L V R (at vs 1) (h 1 refl).0
  structure_sits S.StrBindWhereAscription p vs h = str_binds_sit L V R (at vs 1) (h 1 refl).0
  structure_sits S.StrBindAndWhere p vs h = str_binds_sit L V R (at vs 1) (h 1 refl).0
  structure_sits S.StrBindSigWhere p vs h = str_binds_sit L V R (at vs 2) (h 2 refl).0
  structure_sits S.StrBindWhereWhere p vs h = str_binds_sit L V R (at vs 2) (h 2 refl).0
  structure_sits S.StrBindMoreAnd p vs h = str_binds_scoped (at vs 1) (at vs 2) (h 1 refl).0 (h 2 refl).0
  structure_sits S.StrBindSigAnd p vs h = str_binds_scoped (at vs 1) (at vs 2) (h 1 refl).0 (h 2 refl).0
  structure_sits S.StrBindAndStrBind p vs h = str_binds_scoped (at vs 0) (at vs 1) (h 0 refl).0 (h 1 refl).0
  structure_sits S.StrBindWhereAnd p vs h = (h 1 refl).0
  structure_sits S.FunBindWhereAnd p vs h = (h 1 refl).0
  structure_sits S.FunBindAlphanumeric p vs h = begun_fun_bind_sits (name_in (at vs 0)) (at vs 2) (constraints_in (at vs 4)) (str_in (at vs 6)) (str_sits L V R (at vs 6) (h 6 refl).0)
  structure_sits S.FunBindMoreAscription p vs h = fun_binds_sit L V R (at vs 1) (h 1 refl).0
  structure_sits S.FunBindSigAscription p vs h = fun_binds_sit L V R (at vs 1) (h 1 refl).0
  structure_sits S.FunBindWhereAscription p vs h = fun_binds_sit L V R (at vs 1) (h 1 refl).0
  structure_sits S.FunBindAndWhere p vs h = fun_binds_sit L V R (at vs 1) (h 1 refl).0
  structure_sits S.FunBindSigWhere p vs h = fun_binds_sit L V R (at vs 2) (h 2 refl).0
  structure_sits S.FunBindWhereWhere p vs h = fun_binds_sit L V R (at vs 2) (h 2 refl).0
  structure_sits S.FunBindMoreAnd p vs h = fun_binds_scoped (at vs 1) (at vs 2) (h 1 refl).0 (h 2 refl).0
  structure_sits S.FunBindSigAnd p vs h = fun_binds_scoped (at vs 1) (at vs 2) (h 1 refl).0 (h 2 refl).0
  structure_sits S.FunBindAndFunBind p vs h = fun_binds_scoped (at vs 0) (at vs 1) (h 0 refl).0 (h 1 refl).0
  structure_sits S.StrExpStrAtom p vs h = constrained_sits (str_in (at vs 0)) (constraints_in (at vs 1)) (str_sits L V R (at vs 0) (h 0 refl).0)
  structure_sits S.StrAtomStruct p vs h = (str_decs_sit L V R (at vs 1) (h 1 refl).0)
  structure_sits S.StrAtomLongAlphanumeric p vs h = tt
  structure_sits S.StrAtomAlphanumeric p vs h = applied_sits (name_in (at vs 0)) (at vs 1) (h 1 refl).0
  structure_sits S.StrAtomLet p vs h = ((str_decs_sit L V R (at vs 1) (h 1 refl).0), (str_sits L V R (at vs 3) (h 3 refl).0))
  structure_sits S.ActualNone p vs h = tt
  structure_sits S.ActualOpenRound p vs h = (h 1 refl).0
  structure_sits _ p vs h = (h 0 refl).0

  pub unit_sits : (rule : UnitRule) (p : Place) (vs : List Phrase) → PartsSit L V R (G.Units rule) vs → PhraseSits L V R (unit_phrase rule p vs)
  unit_sits U.TopStr p vs h = (str_dec_sits L V R (at vs 0) (h 0 refl).0)
  unit_sits U.TopSignature p vs h = tt
  unit_sits U.TopFunctor p vs h = fun_binds_scoped (at vs 1) (at vs 2) (h 1 refl).0 (h 2 refl).0
  unit_sits U.StrStructure p vs h = str_binds_scoped (at vs 1) (at vs 2) (h 1 refl).0 (h 2 refl).0
  unit_sits U.StrCoreDec p vs h = dec_scoped R V (dec_in (at vs 0)) (dec_sits L V R (at vs 0) (h 0 refl).0)
  unit_sits U.StrLocal p vs h = ((str_decs_sit L V R (at vs 1) (h 1 refl).0), (str_decs_sit L V R (at vs 3) (h 3 refl).0))
  unit_sits U.StrsNone p vs h = tt
  unit_sits U.StrsSemicolon p vs h = (h 1 refl).0
  unit_sits U.StrsStr p vs h = ((str_dec_sits L V R (at vs 0) (h 0 refl).0), (str_decs_sit L V R (at vs 1) (h 1 refl).0))
  unit_sits U.DecsNone p vs h = tt
  unit_sits U.DecsSemicolon p vs h = (h 1 refl).0
  unit_sits U.DecsDec p vs h = ((dec_sits L V R (at vs 0) (h 0 refl).0), (decs_sit L V R (at vs 1) (h 1 refl).0))
  unit_sits U.SpecsNone p vs h = tt
  unit_sits U.SpecsSemicolon p vs h = (h 1 refl).0
  unit_sits U.SpecsSpec p vs h = tt
  unit_sits _ p vs h = tt

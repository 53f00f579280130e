-- Each place in what the rules of signatures, of specifications, of structures and of units make of their parts.
use Rattle.std.specs.Prelude.{◌≡◌, ℕ, List, [], ◌∷◌, false}
use Rattle.std.specs.List.{AllByRecursion}
use Rattle.std.proofs.Common.{refl}
use Rattle.sml_lex.specs.declared.fault.Place.{Place}
use Rattle.sml_lex.specs.Faults.{first_place}
use Rattle.sml_tree.specs.Names.{Name}
use Rattle.sml_tree.specs.Expressions.{TypBind, DatBind}
use Rattle.sml_tree.specs.Signatures.{SigExp, WhereType, Specs, sig_end, sig_name, where_type, no_spec, and_spec}
use Rattle.sml_tree.specs.Structures.{StrExp, struct_end, str_name, ascribed, functor_apply, str_let}
use Rattle.sml_tree.specs.Clauses.{Constraint}
use Rattle.sml_derived.specs.Derived.{where_types, type_spec_of, other_type_specs, type_specs, includes}
use Rattle.sml_read.specs.Grammar.{right_side}
use Rattle.sml_read.specs.Spelling.{all_empty}
use Rattle.sml_read.specs.declared.grammar.Rule.TheVariants as G
use Rattle.sml_read.specs.declared.grammar.SignatureRule.{SignatureRule}
use Rattle.sml_read.specs.declared.grammar.SignatureRule.TheVariants.{SigSigAtom, SigAtomSig, SigAtomAlphanumeric, SigMoreNone, SigMoreWhere, SigWhereNone, SigWhereWhere, SigWhereAnd, WhereType as WhereRule, SigBindAlphanumeric, SigBindMoreNone, SigBindMoreWhere, SigBindMoreAnd, SigBindWhereNone, SigBindWhereWhere, SigBindWhereAnd, SigBindAndWhere, SigBindAndSigBind}
use Rattle.sml_read.specs.declared.grammar.SpecificationRule.{SpecificationRule}
use Rattle.sml_read.specs.declared.grammar.SpecificationRule.TheVariants.{SpecVal, SpecType, SpecEqtype, SpecDatatype, SpecException, SpecStructure, SpecInclude, SpecSharing, ValSpecVid, ValSpecMoreNone, ValSpecMoreAnd, TypeSpecTvs, TypeSpecRestEquals, TypeSpecMoreNone, TypeSpecMoreAnd, DatSpecSomeTvs, DatSpecTyCon, DatSpecRestDatatype, DatSpecRestConSpecs, DatSpecMoreNone, DatSpecMoreAnd, ConSpecsVid, ConSpecsMoreNone, ConSpecsMoreBar, OfTyNone, OfTyOf, ExnSpecVid, ExnSpecMoreNone, ExnSpecMoreAnd, StrSpecAlphanumeric, StrSpecMoreNone, StrSpecMoreWhere, StrSpecMoreAnd, StrSpecWhereNone, StrSpecWhereWhere, StrSpecWhereAnd, StrSpecAndWhere, StrSpecAndStrSpec, IncludeSig, IncludeAlphanumeric, IncludeMoreAlphanumeric, IncludeIdsNone, IncludeIdsAlphanumeric, SharingType, SharingLongStrId, TypeShareMoreNone, TypeShareMoreEquals, StrShareMoreNone, StrShareMoreEquals}
use Rattle.sml_read.specs.declared.grammar.StructureRule.{StructureRule}
use Rattle.sml_read.specs.declared.grammar.StructureRule.TheVariants.{StrBindAlphanumeric, SealNone, SealColon, SealSeals, StrBindMoreNone, StrBindMoreAscription, StrBindMoreAnd, AscriptionColon, AscriptionSeals, StrBindSigNone, StrBindSigWhere, StrBindSigAscription, StrBindSigAnd, StrBindWhereNone, StrBindWhereWhere, StrBindWhereAscription, StrBindWhereAnd, StrBindAndWhere, StrBindAndStrBind, FunBindAlphanumeric, FunArgAlphanumeric, FunBindMoreNone, FunBindMoreAscription, FunBindMoreAnd, FunBindSigNone, FunBindSigWhere, FunBindSigAscription, FunBindSigAnd, FunBindWhereNone, FunBindWhereWhere, FunBindWhereAscription, FunBindWhereAnd, FunBindAndWhere, FunBindAndFunBind, StrExpStrAtom, StrExpMoreNone, StrExpMoreAscription, StrExpSigNone, StrExpSigWhere, StrExpSigAscription, StrExpWhereNone, StrExpWhereWhere, StrExpWhereAscription, StrExpWhereAnd, StrAtomStruct, StrAtomLongAlphanumeric, StrAtomAlphanumeric, StrAtomLet, ActualNone, ActualOpenRound}
use Rattle.sml_read.specs.declared.grammar.UnitRule.{UnitRule}
use Rattle.sml_read.specs.declared.grammar.UnitRule.TheVariants.{TopStr, TopSignature, TopFunctor, StrCoreDec, StrStructure, StrLocal, StrsNone, StrsSemicolon, StrsStr, DecsNone, DecsSemicolon, DecsDec, SpecsNone, SpecsSemicolon, SpecsSpec}
use Rattle.sml_phrases.specs.Phrases.{Phrase, of_long, of_names, of_longs, of_typ_binds, of_typ_descs, of_datatypes, of_constructors, of_copy, of_sig, of_wheres, of_specs, of_begun_sig_bind, of_type_rest, of_begun_str_desc, of_shared_types, of_str, of_str_decs, of_begun_str_bind, of_functor_argument, of_begun_fun_bind, of_begun_functor, at, name_in, names_in, dat_binds_in, sig_in, wheres_in, specs_in, sig_wheres_in, desc_wheres_in, str_in, constraint_wheres_in, constraints_in, str_wheres_in, str_constraints_in, fun_wheres_in, fun_constraints_in}
use Rattle.sml_bare_mods.specs.SignatureRules.{sig_place, with_wheres, sig_binds, signature_phrase}
use Rattle.sml_bare_mods.specs.SpecificationRules.{types, type_rest, datatypes, datatype, datatype_rest, str_descs, where_str_desc, included, included_name, shared, specification_phrase}
use Rattle.sml_bare_mods.specs.StructureRules.{str_place, constrained, and_constraint, own_constrained, str_binds, fun_binds, begun_fun_bind, applied, after_str, after_str_bind, after_fun_bind, where_str, where_str_bind, where_fun_bind, structure_phrase}
use Rattle.sml_bare_mods.specs.UnitRules.{and_specs, unit_phrase}
use Rattle.sml_parse.specs.EachPlace.{EachInName, EachInNames, EachInTypBind, EachInDatBind, EachInWhere, EachInSig, EachInSpec, EachInSpecs, EachInStrDescs, EachInStr, EachInStrBinds, EachInSigBind, EachInFunBind}
use Rattle.sml_parse.proofs.EachPhrase.{EachInConstraint, EachInPhrase, EachInPhrases, at_each, name_in_each, names_in_each, long_in_each, longs_in_each, ty_in_each, ty_if_any_each, dec_in_each, decs_in_each, typ_binds_in_each, con_bind_in_each, con_binds_in_each, dat_binds_in_each, sig_in_each, where_in_each, wheres_in_each, specs_in_each, val_desc_in_each, val_descs_in_each, typ_descs_in_each, sig_wheres_in_each, sig_binds_in_each, desc_wheres_in_each, str_descs_in_each, str_in_each, str_dec_in_each, str_decs_in_each, constraint_wheres_in_each, constraints_in_each, str_wheres_in_each, str_constraints_in_each, str_binds_in_each, fun_wheres_in_each, fun_constraints_in_each, fun_binds_in_each}

module _ (Q : Place → Type 0) (origin : Q first_place) where
  -- what belongs to a signature expression
  sig_place_each : (s : SigExp Place) → EachInSig Q s → Q (sig_place s)
  sig_place_each (sig_end p ss) h = h.0
  sig_place_each (sig_name p x) h = h
  sig_place_each (where_type p s w) h = h.0

  where_types_each : (p : Place) (s : SigExp Place) (ws : List (WhereType Place)) → Q p → EachInSig Q s → AllByRecursion (EachInWhere Q) ws → EachInSig Q (where_types p s ws)
  where_types_each p s [] o h k = h
  where_types_each p s (w ∷ ws) o h k = where_types_each p (where_type p s w) ws o (o, h, k.0) k.1

  with_wheres_each : (s : SigExp Place) (ws : List (WhereType Place)) → EachInSig Q s → AllByRecursion (EachInWhere Q) ws → EachInSig Q (with_wheres s ws)
  with_wheres_each s ws h k = where_types_each (sig_place s) s ws (sig_place_each s h) h k

  sig_binds_each : (v more : Phrase) → EachInPhrase Q v → EachInPhrase Q more → AllByRecursion (EachInSigBind Q) (sig_binds v more)
  sig_binds_each (of_begun_sig_bind x s) more h k = ((h.0, with_wheres_each s (sig_wheres_in more) h.1 (sig_wheres_in_each Q origin more k)), sig_binds_in_each Q origin more k)
  sig_binds_each _ more h k = sig_binds_in_each Q origin more k

  -- specifications
  type_spec_each : (p : Place) (b : TypBind Place) → Q p → EachInTypBind Q b → EachInSpec Q (type_spec_of p b)
  type_spec_each p b o h = (o, (o, (o, ((o, ((h.0, h.1), tt)), tt)), (h.0, h.1, h.2)))

  other_type_specs_each : (p : Place) (bs : List (TypBind Place)) → Q p → AllByRecursion (EachInTypBind Q) bs → EachInSpecs Q (other_type_specs p bs)
  other_type_specs_each p [] o h = tt
  other_type_specs_each p (b ∷ bs) o h = (type_spec_each p b o h.0, other_type_specs_each p bs o h.1)

  type_specs_each : (p : Place) (b : TypBind Place) (bs : List (TypBind Place)) → Q p → EachInTypBind Q b → AllByRecursion (EachInTypBind Q) bs → EachInSpecs Q (type_specs p b bs)
  type_specs_each p b bs o h k = (type_spec_each p b o h, other_type_specs_each p bs o k)

  types_each : (p : Place) (v : Phrase) → Q p → EachInPhrase Q v → EachInPhrase Q (types p v)
  types_each p (of_typ_binds []) o h = tt
  types_each p (of_typ_binds (b ∷ bs)) o h = type_specs_each p b bs o h.0 h.1
  types_each p (of_typ_descs ds) o h = ((o, h), tt)
  types_each p _ o h = tt

  type_rest_each : (xs : List (Name Place)) (x : Name Place) (v : Phrase) → EachInNames Q xs → EachInName Q x → EachInPhrase Q v → EachInPhrase Q (type_rest xs x v)
  type_rest_each xs x (of_type_rest t bs) n m h = ((n, m, h.0), h.1)
  type_rest_each xs x (of_typ_descs ds) n m h = ((n, m), h)
  type_rest_each xs x _ n m h = tt

  datatypes_each : (p : Place) (v : Phrase) → Q p → EachInPhrase Q v → EachInPhrase Q (datatypes p v)
  datatypes_each p (of_datatypes ds ts) o h = ((o, h.0), tt)
  datatypes_each p (of_copy x c) o h = ((o, h.0, h.1), tt)
  datatypes_each p _ o h = tt

  datatype_each : (xs : List (Name Place)) (x : Name Place) (v : Phrase) (ds : List (DatBind Place)) → EachInNames Q xs → EachInName Q x → EachInPhrase Q v → AllByRecursion (EachInDatBind Q) ds
      → EachInPhrase Q (datatype xs x v ds)
  datatype_each xs x v ds n m h k = (((n, m, con_binds_in_each Q origin v h), k), tt)

  datatype_rest_each : (x : Name Place) (v : Phrase) → EachInName Q x → EachInPhrase Q v → EachInPhrase Q (datatype_rest x v)
  datatype_rest_each x (of_constructors cs ds ts) n h = (((tt, n, h.0), h.1), tt)
  datatype_rest_each x (of_long c) n h = (n, h)
  datatype_rest_each x _ n h = tt

  str_descs_each : (v more : Phrase) → EachInPhrase Q v → EachInPhrase Q more → EachInStrDescs Q (str_descs v more)
  str_descs_each (of_begun_str_desc x s) more h k = ((h.0, with_wheres_each s (desc_wheres_in more) h.1 (desc_wheres_in_each Q origin more k)), str_descs_in_each Q origin more k)
  str_descs_each _ more h k = str_descs_in_each Q origin more k

  where_str_desc_each : (w more : Phrase) → EachInPhrase Q w → EachInPhrase Q more → EachInPhrase Q (where_str_desc w more)
  where_str_desc_each w more h k = ((where_in_each Q origin w h, desc_wheres_in_each Q origin more k), str_descs_in_each Q origin more k)

  includes_each : (p : Place) (xs : List (Name Place)) → Q p → EachInNames Q xs → EachInSpecs Q (includes p xs)
  includes_each p [] o h = tt
  includes_each p (x ∷ xs) o h = ((o, h.0), includes_each p xs o h.1)

  included_each : (p : Place) (v : Phrase) → Q p → EachInPhrase Q v → EachInPhrase Q (included p v)
  included_each p (of_sig s) o h = ((o, h), tt)
  included_each p (of_names xs) o h = includes_each p xs o h
  included_each p _ o h = tt

  included_name_each : (p : Place) (x : Name Place) (v : Phrase) → Q p → EachInName Q x → EachInPhrase Q v → EachInPhrase Q (included_name p x v)
  included_name_each p x (of_wheres ws) o n h = where_types_each p (sig_name p x.id) ws o o h
  included_name_each p x (of_names xs) o n h = (n, h)
  included_name_each p x _ o n h = tt

  shared_each : (p : Place) (v : Phrase) → Q p → EachInPhrase Q v → EachInPhrase Q (shared p v)
  shared_each p (of_shared_types cs) o h = ((o, h), tt)
  shared_each p (of_longs cs) o h = ((o, h), tt)
  shared_each p _ o h = tt

  -- structures with their constraints
  str_place_each : (e : StrExp Place) → EachInStr Q e → Q (str_place e)
  str_place_each (struct_end p ds) h = h.0
  str_place_each (str_name c) h = h
  str_place_each (ascribed p e a s) h = h.0
  str_place_each (functor_apply f e) h = h.0
  str_place_each (str_let p ds e) h = h.0

  constrained_each : (e : StrExp Place) (cs : List (Constraint Place)) → EachInStr Q e → AllByRecursion (EachInConstraint Q) cs → EachInStr Q (constrained e cs)
  constrained_each e [] h k = h
  constrained_each e (c ∷ cs) h k = constrained_each (ascribed (str_place e) e c.ascription c.signature) cs (str_place_each e h, h, k.0) k.1

  own_each : (p : Place) (own : List (Constraint Place)) (e : StrExp Place) → Q p → AllByRecursion (EachInConstraint Q) own → EachInStr Q e → EachInStr Q (own_constrained p own e)
  own_each p [] e o h k = k
  own_each p (c ∷ cs) e o h k = (o, k, h.0)

  and_constraint_each : (own : List (Constraint Place)) (ws : List (WhereType Place)) (cs : List (Constraint Place)) → AllByRecursion (EachInConstraint Q) own → AllByRecursion (EachInWhere Q) ws → AllByRecursion (EachInConstraint Q) cs
      → AllByRecursion (EachInConstraint Q) (and_constraint own ws cs)
  and_constraint_each [] ws cs h k l = l
  and_constraint_each (c ∷ own) ws cs h k l = (with_wheres_each c.signature ws h.0 k, l)

  -- bindings of structures and functors
  str_binds_each : (v more : Phrase) → EachInPhrase Q v → EachInPhrase Q more → EachInStrBinds Q (str_binds v more)
  str_binds_each (of_begun_str_bind x own e) more h k = (
    (h.0, own_each x.place own (constrained e (str_constraints_in more)) h.0 h.1 (constrained_each e (str_constraints_in more) h.2 (str_constraints_in_each Q origin more k))),
    str_binds_in_each Q origin more k,
  )
  str_binds_each _ more h k = str_binds_in_each Q origin more k

  fun_binds_each : (v more : Phrase) → EachInPhrase Q v → EachInPhrase Q more → AllByRecursion (EachInFunBind Q) (fun_binds v more)
  fun_binds_each (of_begun_fun_bind f x s own e) more h k = (
    (h.0, h.1, h.2, own_each f.place own (constrained e (fun_constraints_in more)) h.0 h.3 (constrained_each e (fun_constraints_in more) h.4 (fun_constraints_in_each Q origin more k))),
    fun_binds_in_each Q origin more k,
  )
  fun_binds_each (of_begun_functor f ss own e) more h k =
      let o = h.0 in (
        (
          o,
          o,
          (o, h.1),
          (o, ((o, (o, tt)), tt), own_each f.place own (constrained e (fun_constraints_in more)) o h.2 (constrained_each e (fun_constraints_in more) h.3 (fun_constraints_in_each Q origin more k))),
        ),
        fun_binds_in_each Q origin more k,
      )
  fun_binds_each _ more h k = fun_binds_in_each Q origin more k

  begun_fun_bind_each : (f : Name Place) (v : Phrase) (own : List (Constraint Place)) (e : StrExp Place) → EachInName Q f → EachInPhrase Q v → AllByRecursion (EachInConstraint Q) own → EachInStr Q e
      → EachInPhrase Q (begun_fun_bind f v own e)
  begun_fun_bind_each f (of_functor_argument x s) own e n h k l = (n, h.0, h.1, k, l)
  begun_fun_bind_each f (of_specs ss) own e n h k l = (n, h, k, l)
  begun_fun_bind_each f _ own e n h k l = tt

  applied_each : (f : Name Place) (v : Phrase) → EachInName Q f → EachInPhrase Q v → EachInStr Q (applied f v)
  applied_each f (of_str e) n h = (n, h)
  applied_each f (of_str_decs ds) n h = (n, (n, h))
  applied_each f _ n h = n

  -- what stands after a structure expression
  after_str_each : (c more : Phrase) → EachInPhrase Q c → EachInPhrase Q more → EachInPhrase Q (after_str c more)
  after_str_each c more h k = (
    tt,
    and_constraint_each (constraints_in c) (constraint_wheres_in more) (constraints_in more) (constraints_in_each Q origin c h) (constraint_wheres_in_each Q origin more k) (constraints_in_each Q origin more k),
  )

  after_str_bind_each : (c more : Phrase) → EachInPhrase Q c → EachInPhrase Q more → EachInPhrase Q (after_str_bind c more)
  after_str_bind_each c more h k = (
    tt,
    and_constraint_each (constraints_in c) (str_wheres_in more) (str_constraints_in more) (constraints_in_each Q origin c h) (str_wheres_in_each Q origin more k) (str_constraints_in_each Q origin more k),
    str_binds_in_each Q origin more k,
  )

  after_fun_bind_each : (c more : Phrase) → EachInPhrase Q c → EachInPhrase Q more → EachInPhrase Q (after_fun_bind c more)
  after_fun_bind_each c more h k = (
    tt,
    and_constraint_each (constraints_in c) (fun_wheres_in more) (fun_constraints_in more) (constraints_in_each Q origin c h) (fun_wheres_in_each Q origin more k) (fun_constraints_in_each Q origin more k),
    fun_binds_in_each Q origin more k,
  )

  where_str_each : (w more : Phrase) → EachInPhrase Q w → EachInPhrase Q more → EachInPhrase Q (where_str w more)
  where_str_each w more h k = ((where_in_each Q origin w h, constraint_wheres_in_each Q origin more k), constraints_in_each Q origin more k)

  where_str_bind_each : (w more : Phrase) → EachInPhrase Q w → EachInPhrase Q more → EachInPhrase Q (where_str_bind w more)
  where_str_bind_each w more h k = ((where_in_each Q origin w h, str_wheres_in_each Q origin more k), str_constraints_in_each Q origin more k, str_binds_in_each Q origin more k)

  where_fun_bind_each : (w more : Phrase) → EachInPhrase Q w → EachInPhrase Q more → EachInPhrase Q (where_fun_bind w more)
  where_fun_bind_each w more h k = ((where_in_each Q origin w h, fun_wheres_in_each Q origin more k), fun_constraints_in_each Q origin more k, fun_binds_in_each Q origin more k)

  and_specs_each : (ss rest : Specs Place) → EachInSpecs Q ss → EachInSpecs Q rest → EachInSpecs Q (and_specs ss rest)
  and_specs_each no_spec rest h k = k
  and_specs_each (and_spec s ss) rest h k = (h.0, and_specs_each ss rest h.1 k)

  -- the rules of signatures
  signature_of_parts : (rule : SignatureRule) (p : Place) (vs : List Phrase) → (all_empty (right_side (G.Signatures rule)) ≡ false → Q p) → ((k : ℕ) → EachInPhrase Q (at vs k)) → EachInPhrase Q (signature_phrase rule p vs)
  signature_of_parts SigSigAtom p vs o h = with_wheres_each (sig_in (at vs 0)) (wheres_in (at vs 1)) (sig_in_each Q origin (at vs 0) (h 0)) (wheres_in_each Q origin (at vs 1) (h 1))
  signature_of_parts SigAtomSig p vs o h = (o refl, specs_in_each Q origin (at vs 1) (h 1))
  signature_of_parts SigAtomAlphanumeric p vs o h = o refl
  signature_of_parts SigMoreNone p vs o h = tt
  signature_of_parts SigMoreWhere p vs o h = (where_in_each Q origin (at vs 1) (h 1), wheres_in_each Q origin (at vs 2) (h 2))
  signature_of_parts SigWhereNone p vs o h = tt
  signature_of_parts SigWhereWhere p vs o h = (where_in_each Q origin (at vs 1) (h 1), wheres_in_each Q origin (at vs 2) (h 2))
  signature_of_parts SigWhereAnd p vs o h = (where_in_each Q origin (at vs 1) (h 1), wheres_in_each Q origin (at vs 2) (h 2))
  signature_of_parts WhereRule p vs o h = (names_in_each Q origin (at vs 1) (h 1), long_in_each Q origin (at vs 2) (h 2), ty_in_each Q origin (at vs 4) (h 4))
  signature_of_parts SigBindAlphanumeric p vs o h = (name_in_each Q origin (at vs 0) (h 0), sig_in_each Q origin (at vs 2) (h 2))
  signature_of_parts SigBindMoreNone p vs o h = (tt, tt)
  signature_of_parts SigBindMoreWhere p vs o h = ((where_in_each Q origin (at vs 1) (h 1), sig_wheres_in_each Q origin (at vs 2) (h 2)), sig_binds_in_each Q origin (at vs 2) (h 2))
  signature_of_parts SigBindMoreAnd p vs o h = (tt, sig_binds_each (at vs 1) (at vs 2) (h 1) (h 2))
  signature_of_parts SigBindWhereNone p vs o h = (tt, tt)
  signature_of_parts SigBindWhereWhere p vs o h = ((where_in_each Q origin (at vs 1) (h 1), sig_wheres_in_each Q origin (at vs 2) (h 2)), sig_binds_in_each Q origin (at vs 2) (h 2))
  signature_of_parts SigBindWhereAnd p vs o h = h 1
  signature_of_parts SigBindAndWhere p vs o h = ((where_in_each Q origin (at vs 0) (h 0), sig_wheres_in_each Q origin (at vs 1) (h 1)), sig_binds_in_each Q origin (at vs 1) (h 1))
  signature_of_parts SigBindAndSigBind p vs o h = (tt, sig_binds_each (at vs 0) (at vs 1) (h 0) (h 1))

  pub signature_each : (rule : SignatureRule) (p : Place) (vs : List Phrase) → (all_empty (right_side (G.Signatures rule)) ≡ false → Q p) → EachInPhrases Q vs → EachInPhrase Q (signature_phrase rule p vs)
  signature_each rule p vs o h = signature_of_parts rule p vs o (λ k. at_each Q origin vs k h)

  -- of specifications
  specification_of_parts : (rule : SpecificationRule) (p : Place) (vs : List Phrase) → (all_empty (right_side (G.Specifications rule)) ≡ false → Q p) → ((k : ℕ) → EachInPhrase Q (at vs k)) → EachInPhrase Q (specification_phrase rule p vs)
  specification_of_parts SpecVal p vs o h = ((o refl, (val_desc_in_each Q origin (at vs 1) (h 1), val_descs_in_each Q origin (at vs 2) (h 2))), tt)
  specification_of_parts SpecType p vs o h = types_each p (at vs 1) (o refl) (h 1)
  specification_of_parts SpecEqtype p vs o h = ((o refl, ((names_in_each Q origin (at vs 1) (h 1), name_in_each Q origin (at vs 2) (h 2)), typ_descs_in_each Q origin (at vs 3) (h 3))), tt)
  specification_of_parts SpecDatatype p vs o h = datatypes_each p (at vs 1) (o refl) (h 1)
  specification_of_parts SpecException p vs o h = ((o refl, (con_bind_in_each Q origin (at vs 1) (h 1), con_binds_in_each Q origin (at vs 2) (h 2))), tt)
  specification_of_parts SpecStructure p vs o h = ((o refl, str_descs_each (at vs 1) (at vs 2) (h 1) (h 2)), tt)
  specification_of_parts SpecInclude p vs o h = included_each p (at vs 1) (o refl) (h 1)
  specification_of_parts SpecSharing p vs o h = shared_each p (at vs 1) (o refl) (h 1)
  specification_of_parts ValSpecVid p vs o h = (name_in_each Q origin (at vs 0) (h 0), ty_in_each Q origin (at vs 2) (h 2))
  specification_of_parts ValSpecMoreNone p vs o h = tt
  specification_of_parts ValSpecMoreAnd p vs o h = (val_desc_in_each Q origin (at vs 1) (h 1), val_descs_in_each Q origin (at vs 2) (h 2))
  specification_of_parts TypeSpecTvs p vs o h = type_rest_each (names_in (at vs 0)) (name_in (at vs 1)) (at vs 2) (names_in_each Q origin (at vs 0) (h 0)) (name_in_each Q origin (at vs 1) (h 1)) (h 2)
  specification_of_parts TypeSpecRestEquals p vs o h = (ty_in_each Q origin (at vs 1) (h 1), typ_binds_in_each Q origin (at vs 2) (h 2))
  specification_of_parts TypeSpecMoreNone p vs o h = tt
  specification_of_parts TypeSpecMoreAnd p vs o h = ((names_in_each Q origin (at vs 1) (h 1), name_in_each Q origin (at vs 2) (h 2)), typ_descs_in_each Q origin (at vs 3) (h 3))
  specification_of_parts DatSpecSomeTvs p vs o h =
      datatype_each (names_in (at vs 0)) (name_in (at vs 1)) (at vs 3) (dat_binds_in (at vs 4))
      (names_in_each Q origin (at vs 0) (h 0)) (name_in_each Q origin (at vs 1) (h 1)) (h 3) (dat_binds_in_each Q origin (at vs 4) (h 4))
  specification_of_parts DatSpecTyCon p vs o h = datatype_rest_each (name_in (at vs 0)) (at vs 2) (name_in_each Q origin (at vs 0) (h 0)) (h 2)
  specification_of_parts DatSpecRestDatatype p vs o h = h 1
  specification_of_parts DatSpecRestConSpecs p vs o h = (con_binds_in_each Q origin (at vs 0) (h 0), dat_binds_in_each Q origin (at vs 1) (h 1), tt)
  specification_of_parts DatSpecMoreNone p vs o h = (tt, tt)
  specification_of_parts DatSpecMoreAnd p vs o h =
      datatype_each (names_in (at vs 1)) (name_in (at vs 2)) (at vs 4) (dat_binds_in (at vs 5))
      (names_in_each Q origin (at vs 1) (h 1)) (name_in_each Q origin (at vs 2) (h 2)) (h 4) (dat_binds_in_each Q origin (at vs 5) (h 5))
  specification_of_parts ConSpecsVid p vs o h = ((name_in_each Q origin (at vs 0) (h 0), ty_if_any_each Q origin (at vs 1) (h 1)), con_binds_in_each Q origin (at vs 2) (h 2))
  specification_of_parts ConSpecsMoreNone p vs o h = tt
  specification_of_parts ConSpecsMoreBar p vs o h = h 1
  specification_of_parts OfTyNone p vs o h = tt
  specification_of_parts OfTyOf p vs o h = h 1
  specification_of_parts ExnSpecVid p vs o h = (name_in_each Q origin (at vs 0) (h 0), ty_if_any_each Q origin (at vs 1) (h 1))
  specification_of_parts ExnSpecMoreNone p vs o h = tt
  specification_of_parts ExnSpecMoreAnd p vs o h = (con_bind_in_each Q origin (at vs 1) (h 1), con_binds_in_each Q origin (at vs 2) (h 2))
  specification_of_parts StrSpecAlphanumeric p vs o h = (name_in_each Q origin (at vs 0) (h 0), sig_in_each Q origin (at vs 2) (h 2))
  specification_of_parts StrSpecMoreNone p vs o h = (tt, tt)
  specification_of_parts StrSpecMoreWhere p vs o h = where_str_desc_each (at vs 1) (at vs 2) (h 1) (h 2)
  specification_of_parts StrSpecMoreAnd p vs o h = (tt, str_descs_each (at vs 1) (at vs 2) (h 1) (h 2))
  specification_of_parts StrSpecWhereNone p vs o h = (tt, tt)
  specification_of_parts StrSpecWhereWhere p vs o h = where_str_desc_each (at vs 1) (at vs 2) (h 1) (h 2)
  specification_of_parts StrSpecWhereAnd p vs o h = h 1
  specification_of_parts StrSpecAndWhere p vs o h = where_str_desc_each (at vs 0) (at vs 1) (h 0) (h 1)
  specification_of_parts StrSpecAndStrSpec p vs o h = (tt, str_descs_each (at vs 0) (at vs 1) (h 0) (h 1))
  specification_of_parts IncludeSig p vs o h = where_types_each p (sig_end p (specs_in (at vs 1))) (wheres_in (at vs 3)) (o refl) (o refl, specs_in_each Q origin (at vs 1) (h 1)) (wheres_in_each Q origin (at vs 3) (h 3))
  specification_of_parts IncludeAlphanumeric p vs o h = included_name_each p (name_in (at vs 0)) (at vs 1) (o refl) (name_in_each Q origin (at vs 0) (h 0)) (h 1)
  specification_of_parts IncludeMoreAlphanumeric p vs o h = (name_in_each Q origin (at vs 0) (h 0), names_in_each Q origin (at vs 1) (h 1))
  specification_of_parts IncludeIdsNone p vs o h = tt
  specification_of_parts IncludeIdsAlphanumeric p vs o h = (name_in_each Q origin (at vs 0) (h 0), names_in_each Q origin (at vs 1) (h 1))
  specification_of_parts SharingType p vs o h = (long_in_each Q origin (at vs 1) (h 1), (long_in_each Q origin (at vs 3) (h 3), longs_in_each Q origin (at vs 4) (h 4)))
  specification_of_parts SharingLongStrId p vs o h = (long_in_each Q origin (at vs 0) (h 0), (long_in_each Q origin (at vs 2) (h 2), longs_in_each Q origin (at vs 3) (h 3)))
  specification_of_parts TypeShareMoreNone p vs o h = tt
  specification_of_parts TypeShareMoreEquals p vs o h = (long_in_each Q origin (at vs 1) (h 1), longs_in_each Q origin (at vs 2) (h 2))
  specification_of_parts StrShareMoreNone p vs o h = tt
  specification_of_parts StrShareMoreEquals p vs o h = (long_in_each Q origin (at vs 1) (h 1), longs_in_each Q origin (at vs 2) (h 2))
  specification_of_parts _ p vs o h = h 0

  pub specification_each : (rule : SpecificationRule) (p : Place) (vs : List Phrase) → (all_empty (right_side (G.Specifications rule)) ≡ false → Q p) → EachInPhrases Q vs → EachInPhrase Q (specification_phrase rule p vs)
  specification_each rule p vs o h = specification_of_parts rule p vs o (λ k. at_each Q origin vs k h)

  -- of structures
  structure_of_parts : (rule : StructureRule) (p : Place) (vs : List Phrase) → (all_empty (right_side (G.Structures rule)) ≡ false → Q p) → ((k : ℕ) → EachInPhrase Q (at vs k)) → EachInPhrase Q (structure_phrase rule p vs)
  structure_of_parts StrBindAlphanumeric p vs o h = (name_in_each Q origin (at vs 0) (h 0), constraints_in_each Q origin (at vs 1) (h 1), str_in_each Q origin (at vs 3) (h 3))
  structure_of_parts SealNone p vs o h = (tt, tt)
  structure_of_parts SealColon p vs o h = (tt, (sig_in_each Q origin (at vs 1) (h 1), tt))
  structure_of_parts SealSeals p vs o h = (tt, (sig_in_each Q origin (at vs 1) (h 1), tt))
  structure_of_parts StrBindMoreNone p vs o h = (tt, tt, tt)
  structure_of_parts StrBindMoreAscription p vs o h = after_str_bind_each (at vs 0) (at vs 1) (h 0) (h 1)
  structure_of_parts StrBindMoreAnd p vs o h = (tt, tt, str_binds_each (at vs 1) (at vs 2) (h 1) (h 2))
  structure_of_parts AscriptionColon p vs o h = (tt, (sig_in_each Q origin (at vs 1) (h 1), tt))
  structure_of_parts AscriptionSeals p vs o h = (tt, (sig_in_each Q origin (at vs 1) (h 1), tt))
  structure_of_parts StrBindSigNone p vs o h = (tt, tt, tt)
  structure_of_parts StrBindSigWhere p vs o h = where_str_bind_each (at vs 1) (at vs 2) (h 1) (h 2)
  structure_of_parts StrBindSigAscription p vs o h = after_str_bind_each (at vs 0) (at vs 1) (h 0) (h 1)
  structure_of_parts StrBindSigAnd p vs o h = (tt, tt, str_binds_each (at vs 1) (at vs 2) (h 1) (h 2))
  structure_of_parts StrBindWhereNone p vs o h = (tt, tt, tt)
  structure_of_parts StrBindWhereWhere p vs o h = where_str_bind_each (at vs 1) (at vs 2) (h 1) (h 2)
  structure_of_parts StrBindWhereAscription p vs o h = after_str_bind_each (at vs 0) (at vs 1) (h 0) (h 1)
  structure_of_parts StrBindWhereAnd p vs o h = h 1
  structure_of_parts StrBindAndWhere p vs o h = where_str_bind_each (at vs 0) (at vs 1) (h 0) (h 1)
  structure_of_parts StrBindAndStrBind p vs o h = (tt, tt, str_binds_each (at vs 0) (at vs 1) (h 0) (h 1))
  structure_of_parts FunBindAlphanumeric p vs o h =
      begun_fun_bind_each (name_in (at vs 0)) (at vs 2) (constraints_in (at vs 4)) (str_in (at vs 6))
      (name_in_each Q origin (at vs 0) (h 0)) (h 2) (constraints_in_each Q origin (at vs 4) (h 4)) (str_in_each Q origin (at vs 6) (h 6))
  structure_of_parts FunArgAlphanumeric p vs o h = (name_in_each Q origin (at vs 0) (h 0), sig_in_each Q origin (at vs 2) (h 2))
  structure_of_parts FunBindMoreNone p vs o h = (tt, tt, tt)
  structure_of_parts FunBindMoreAscription p vs o h = after_fun_bind_each (at vs 0) (at vs 1) (h 0) (h 1)
  structure_of_parts FunBindMoreAnd p vs o h = (tt, tt, fun_binds_each (at vs 1) (at vs 2) (h 1) (h 2))
  structure_of_parts FunBindSigNone p vs o h = (tt, tt, tt)
  structure_of_parts FunBindSigWhere p vs o h = where_fun_bind_each (at vs 1) (at vs 2) (h 1) (h 2)
  structure_of_parts FunBindSigAscription p vs o h = after_fun_bind_each (at vs 0) (at vs 1) (h 0) (h 1)
  structure_of_parts FunBindSigAnd p vs o h = (tt, tt, fun_binds_each (at vs 1) (at vs 2) (h 1) (h 2))
  structure_of_parts FunBindWhereNone p vs o h = (tt, tt, tt)
  structure_of_parts FunBindWhereWhere p vs o h = where_fun_bind_each (at vs 1) (at vs 2) (h 1) (h 2)
  structure_of_parts FunBindWhereAscription p vs o h = after_fun_bind_each (at vs 0) (at vs 1) (h 0) (h 1)
  structure_of_parts FunBindWhereAnd p vs o h = h 1
  structure_of_parts FunBindAndWhere p vs o h = where_fun_bind_each (at vs 0) (at vs 1) (h 0) (h 1)
  structure_of_parts FunBindAndFunBind p vs o h = (tt, tt, fun_binds_each (at vs 0) (at vs 1) (h 0) (h 1))
  structure_of_parts StrExpStrAtom p vs o h = constrained_each (str_in (at vs 0)) (constraints_in (at vs 1)) (str_in_each Q origin (at vs 0) (h 0)) (constraints_in_each Q origin (at vs 1) (h 1))
  structure_of_parts StrExpMoreNone p vs o h = (tt, tt)
  structure_of_parts StrExpMoreAscription p vs o h = after_str_each (at vs 0) (at vs 1) (h 0) (h 1)
  structure_of_parts StrExpSigNone p vs o h = (tt, tt)
  structure_of_parts StrExpSigWhere p vs o h = where_str_each (at vs 1) (at vs 2) (h 1) (h 2)
  structure_of_parts StrExpSigAscription p vs o h = after_str_each (at vs 0) (at vs 1) (h 0) (h 1)
  structure_of_parts StrExpWhereNone p vs o h = (tt, tt)
  structure_of_parts StrExpWhereWhere p vs o h = where_str_each (at vs 1) (at vs 2) (h 1) (h 2)
  structure_of_parts StrExpWhereAscription p vs o h = after_str_each (at vs 0) (at vs 1) (h 0) (h 1)
  structure_of_parts StrExpWhereAnd p vs o h = where_str_each (at vs 1) (at vs 2) (h 1) (h 2)
  structure_of_parts StrAtomStruct p vs o h = (o refl, str_decs_in_each Q origin (at vs 1) (h 1))
  structure_of_parts StrAtomLongAlphanumeric p vs o h = long_in_each Q origin (at vs 0) (h 0)
  structure_of_parts StrAtomAlphanumeric p vs o h = applied_each (name_in (at vs 0)) (at vs 1) (name_in_each Q origin (at vs 0) (h 0)) (h 1)
  structure_of_parts StrAtomLet p vs o h = (o refl, str_decs_in_each Q origin (at vs 1) (h 1), str_in_each Q origin (at vs 3) (h 3))
  structure_of_parts ActualNone p vs o h = tt
  structure_of_parts ActualOpenRound p vs o h = h 1
  structure_of_parts _ p vs o h = h 0

  pub structure_each : (rule : StructureRule) (p : Place) (vs : List Phrase) → (all_empty (right_side (G.Structures rule)) ≡ false → Q p) → EachInPhrases Q vs → EachInPhrase Q (structure_phrase rule p vs)
  structure_each rule p vs o h = structure_of_parts rule p vs o (λ k. at_each Q origin vs k h)

  -- of units
  unit_of_parts : (rule : UnitRule) (p : Place) (vs : List Phrase) → (all_empty (right_side (G.Units rule)) ≡ false → Q p) → ((k : ℕ) → EachInPhrase Q (at vs k)) → EachInPhrase Q (unit_phrase rule p vs)
  unit_of_parts TopStr p vs o h = str_dec_in_each Q origin (at vs 0) (h 0)
  unit_of_parts TopSignature p vs o h = (o refl, sig_binds_each (at vs 1) (at vs 2) (h 1) (h 2))
  unit_of_parts TopFunctor p vs o h = (o refl, fun_binds_each (at vs 1) (at vs 2) (h 1) (h 2))
  unit_of_parts StrStructure p vs o h = (o refl, str_binds_each (at vs 1) (at vs 2) (h 1) (h 2))
  unit_of_parts StrCoreDec p vs o h = dec_in_each Q origin (at vs 0) (h 0)
  unit_of_parts StrLocal p vs o h = (o refl, str_decs_in_each Q origin (at vs 1) (h 1), str_decs_in_each Q origin (at vs 3) (h 3))
  unit_of_parts StrsNone p vs o h = tt
  unit_of_parts StrsSemicolon p vs o h = h 1
  unit_of_parts StrsStr p vs o h = (str_dec_in_each Q origin (at vs 0) (h 0), str_decs_in_each Q origin (at vs 1) (h 1))
  unit_of_parts DecsNone p vs o h = tt
  unit_of_parts DecsSemicolon p vs o h = h 1
  unit_of_parts DecsDec p vs o h = (dec_in_each Q origin (at vs 0) (h 0), decs_in_each Q origin (at vs 1) (h 1))
  unit_of_parts SpecsNone p vs o h = tt
  unit_of_parts SpecsSemicolon p vs o h = h 1
  unit_of_parts SpecsSpec p vs o h = and_specs_each (specs_in (at vs 0)) (specs_in (at vs 1)) (specs_in_each Q origin (at vs 0) (h 0)) (specs_in_each Q origin (at vs 1) (h 1))
  unit_of_parts _ p vs o h = tt

  pub unit_each : (rule : UnitRule) (p : Place) (vs : List Phrase) → (all_empty (right_side (G.Units rule)) ≡ false → Q p) → EachInPhrases Q vs → EachInPhrase Q (unit_phrase rule p vs)
  unit_each rule p vs o h = unit_of_parts rule p vs o (λ k. at_each Q origin vs k h)

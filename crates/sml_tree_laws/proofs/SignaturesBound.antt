-- The rules of signatures and specifications.
use Rattle.sml_read.specs.Grammar.{right_side}
use Rattle.sml_read.specs.Parts.{part_of}
use Rattle.sml_read.specs.declared.grammar.Symbol.TheVariants.{Of}
use Rattle.std.specs.Prelude.{◌≡◌, ℕ, suc, ◌≤◌, ◌<◌, length, List, [], ◌∷◌, ◌++◌}
use Rattle.std.proofs.Common.{refl, arith, inr, ◌⊎◌}
use Rattle.sml_lex.specs.declared.fault.Place.{Place}
use Rattle.sml_tree.specs.Trees.{Id}
use Rattle.sml_tree.specs.Names.{Name}
use Rattle.sml_read.specs.declared.grammar.Rule.TheVariants as G
use Rattle.sml_phrases.specs.Phrases.{Phrase, of_names, of_longs, of_long, of_typ_binds, of_con_bind, of_datatypes, of_constructors, of_copy, of_sig, of_wheres, of_begun_sig_bind, of_val_desc, of_typ_descs, of_type_rest, of_begun_str_desc, of_shared_types, at, name_in, names_in, typ_binds_in, con_binds_in, con_bind_in, val_desc_in, val_descs_in, typ_descs_in, dat_binds_in, sig_in, specs_in, wheres_in, sig_wheres_in, sig_binds_in, desc_wheres_in, str_descs_in}
use Rattle.sml_flaws.specs.declared.role.Space.{Space}
use Rattle.sml_flaws.specs.declared.role.Space.TheVariants as S
use Rattle.sml_tree_laws.specs.Scoped.{ids}
use Rattle.sml_tree_laws.specs.WellBound.{AreDistinct, MayBeValue, MayBeConstructor, TyBound, TyBoundIfAny, type_names, TypBindsBound, con_names, datatype_names, all_con_names, value_names, described, str_desc_names, SigBound, SpecsBound, StrDescsBound, signature_names, SigBindsBound}
use Rattle.sml_tree_laws.proofs.Named.{Named, distinct, each_named}
use Rattle.sml_tree_laws.proofs.PhrasesBound.{plain, exceptions, exn_desc, val_desc, identifiers, class_of, Fits, WheresBound, PhraseBound}
use Rattle.sml_tree_laws.proofs.AccessorsBound.{ty_bound, ty_bound_if_any, sig_bound, specs_bound, wheres_bound, where_bound, typ_binds_bound, con_binds_bound, val_descs_bound, typ_descs_bound, dat_binds_bound, sig_wheres_bound, sig_binds_bound, desc_wheres_bound, str_descs_bound, names_bound}
use Rattle.sml_tree_laws.proofs.PartsBound.{PartsBound, one, two, pass}
use Rattle.sml_tree.specs.Signatures.{SigExp, WhereType, sig_end, sig_name, where_type}
use Rattle.sml_tree.specs.Expressions.{TypBind}
use Rattle.sml_derived.specs.Derived.{where_types, other_type_specs, type_specs, includes}
use Rattle.sml_read.specs.declared.grammar.SignatureRule.{SignatureRule}
use Rattle.sml_read.specs.declared.grammar.SignatureRule.TheVariants.{SigSigAtom, SigAtomSig, SigAtomAlphanumeric, SigMoreNone, SigMoreWhere, SigWhereNone, SigWhereWhere, SigWhereAnd, WhereType as WhereRule, SigBindAlphanumeric, SigBindMoreNone, SigBindMoreWhere, SigBindMoreAnd, SigBindWhereNone, SigBindWhereWhere, SigBindWhereAnd, SigBindAndWhere, SigBindAndSigBind}
use Rattle.sml_read.specs.declared.grammar.SpecificationRule.{SpecificationRule}
use Rattle.sml_read.specs.declared.grammar.SpecificationRule.TheVariants.{SpecVal, SpecType, SpecEqtype, SpecDatatype, SpecException, SpecStructure, SpecInclude, SpecSharing, ValSpecVid, ValSpecMoreNone, TypeSpecMoreNone, ConSpecsMoreNone, ExnSpecMoreNone, ValSpecMoreAnd, TypeSpecTvs, TypeSpecRestEquals, TypeSpecRestTypeSpecMore, TypeSpecMoreAnd, DatSpecSomeTvs, DatSpecTyCon, DatSpecRestDatatype, ConSpecsMoreBar, OfTyOf, StrSpecWhereAnd, DatSpecRestConSpecs, DatSpecMoreNone, DatSpecMoreAnd, ConSpecsVid, OfTyNone, ExnSpecVid, ExnSpecMoreAnd, StrSpecAlphanumeric, StrSpecMoreNone, StrSpecWhereNone, StrSpecMoreWhere, StrSpecWhereWhere, StrSpecMoreAnd, StrSpecAndWhere, StrSpecAndStrSpec, IncludeSig, IncludeAlphanumeric, IncludeMoreSigMore, IncludeMoreAlphanumeric, IncludeIdsNone, IncludeIdsAlphanumeric, SharingType, SharingLongStrId, TypeShareMoreNone, TypeShareMoreEquals, StrShareMoreNone, StrShareMoreEquals}
use Rattle.sml_bare_mods.specs.SignatureRules.{sig_place, with_wheres, sig_binds, signature_phrase}
use Rattle.sml_bare_mods.specs.SpecificationRules.{types, type_rest, datatypes, datatype_rest, str_descs, included, included_name, shared, specification_phrase}
use Rattle.sml_tree_laws.proofs.ExpressionsBound.{alone}
use Rattle.sml_tree_laws.proofs.DeclarationsBound.{all_bound}

wheres_on : (p : Place) (s : SigExp Place) (ws : List (WhereType Place)) → SigBound s → WheresBound ws → SigBound (where_types p s ws)
wheres_on p s [] h k = h
wheres_on p s (w ∷ ws) h k = wheres_on p (where_type p s w) ws (h, k.0) k.1

pub with_wheres_bound : (s : SigExp Place) (ws : List (WhereType Place)) → SigBound s → WheresBound ws → SigBound (with_wheres s ws)
with_wheres_bound s ws h k = wheres_on (sig_place s) s ws h k

other_specs_bound : (p : Place) (bs : List (TypBind Place)) → TypBindsBound bs → SpecsBound (other_type_specs p bs)
other_specs_bound p [] h = tt
other_specs_bound p (b ∷ bs) h = ((((alone b.name.id, (h.0.0, tt)), tt), h.0), other_specs_bound p bs h.1)

type_specs_bound : (p : Place) (b : TypBind Place) (bs : List (TypBind Place)) → TypBindsBound (b ∷ bs) → SpecsBound (type_specs p b bs)
type_specs_bound p b bs h = ((((alone b.name.id, (h.0.0, tt)), tt), h.0), other_specs_bound p bs h.1)

includes_bound : (p : Place) (xs : List (Name Place)) → SpecsBound (includes p xs)
includes_bound p [] = tt
includes_bound p (x ∷ xs) = (tt, includes_bound p xs)

module _ (B : Space → ℕ → ℕ → Id → Type 0) (apart : (sp : Space) (g t u : ℕ) (x : Id) → t < u → B sp g t x → B sp g u x → ⊥)
    (may_be : (sp : Space) (g t : ℕ) (x : Id) → (sp ≡ S.Constructors) ⊎ (sp ≡ S.Exceptions) → B sp g t x → MayBeConstructor x) (may_value : (g t : ℕ) (x : Id) → B S.Values g t x → MayBeValue x) where
  types_bound : (g lo hi lo' hi' : ℕ) (p : Place) (v : Phrase) → PhraseBound B plain g lo hi v → PhraseBound B plain g lo' hi' (types p v)
  types_bound g lo hi lo' hi' p (of_typ_binds []) h = tt
  types_bound g lo hi lo' hi' p (of_typ_binds (b ∷ bs)) h = type_specs_bound p b bs h.1
  types_bound g lo hi lo' hi' p (of_typ_descs ds) h = ((distinct B apart S.Types g lo hi (described ds) h.0, h.1), tt)
  types_bound g lo hi lo' hi' p _ h = tt

  datatypes_spec_bound : (g lo hi lo' hi' : ℕ) (p : Place) (v : Phrase) → PhraseBound B plain g lo hi v → PhraseBound B plain g lo' hi' (datatypes p v)
  datatypes_spec_bound g lo hi lo' hi' p (of_datatypes ds ts) h = (all_bound B apart may_be g lo hi ds h.0 h.1 h.2, tt)
  datatypes_spec_bound g lo hi lo' hi' p (of_copy x c) h = (tt, tt)
  datatypes_spec_bound g lo hi lo' hi' p _ h = tt

  included_bound : (g lo hi lo' hi' : ℕ) (p : Place) (v : Phrase) → PhraseBound B identifiers g lo hi v → PhraseBound B plain g lo' hi' (included p v)
  included_bound g lo hi lo' hi' p (of_sig s) h = (h, tt)
  included_bound g lo hi lo' hi' p (of_names xs) h = includes_bound p xs
  included_bound g lo hi lo' hi' p _ h = tt

  included_name_bound : (g lo hi lo' hi' : ℕ) (p : Place) (x : Name Place) (v : Phrase) → PhraseBound B identifiers g lo hi v → PhraseBound B identifiers g lo' hi' (included_name p x v)
  included_name_bound g lo hi lo' hi' p x (of_wheres ws) h = wheres_on p (sig_name p x.id) ws tt h
  included_name_bound g lo hi lo' hi' p x (of_names xs) h = tt
  included_name_bound g lo hi lo' hi' p x _ h = tt

  shared_bound : (g lo hi : ℕ) (p : Place) (v : Phrase) → PhraseBound B plain g lo hi (shared p v)
  shared_bound g lo hi p (of_shared_types cs) = (tt, tt)
  shared_bound g lo hi p (of_longs cs) = (tt, tt)
  shared_bound g lo hi p _ = tt

  as_identifiers : (g lo hi : ℕ) (v : Phrase) → PhraseBound B plain g lo hi v → PhraseBound B identifiers g lo hi v
  as_identifiers g lo hi (of_names xs) h = tt
  as_identifiers g lo hi (of_copy x c) h = tt
  as_identifiers g lo hi _ h = h

  val_desc_bound : (g lo hi : ℕ) (v : Phrase) → Fits val_desc v → PhraseBound B val_desc g lo hi v → TyBound (val_desc_in v).ty × Named B S.Values g lo hi ((val_desc_in v).name.id ∷ [])
  val_desc_bound g lo hi (of_val_desc x t) f h = (h.1, h.0)
  val_desc_bound g lo hi _ f h = absurd f

  con_bind_bound : (g lo hi : ℕ) (v : Phrase) → Fits exn_desc v → PhraseBound B exn_desc g lo hi v → TyBoundIfAny (con_bind_in v).argument × Named B S.Exceptions g lo hi ((con_bind_in v).name.id ∷ [])
  con_bind_bound g lo hi (of_con_bind x t) f h = (h.1, h.0)
  con_bind_bound g lo hi _ f h = absurd f

  module _ (g : ℕ) (t : ℕ → ℕ) (mono : (k : ℕ) → t k ≤ t (suc k)) where
    -- a binding or a description before others, from their parts
    pub and_sig_bind : (a b n : ℕ) (v more : Phrase) → suc a ≤ b → suc b ≤ n → PhraseBound B plain g (t a) (t (suc a)) v → PhraseBound B plain g (t b) (t (suc b)) more
        → Named B S.Signatures g (t 0) (t n) (signature_names (sig_binds v more)) × SigBindsBound (sig_binds v more)
    and_sig_bind a b n (of_begun_sig_bind x s) more i l h k =
        let m = sig_binds_bound B plain g (t b) (t (suc b)) more k in (
          two B g t mono S.Signatures a b n (x.id ∷ []) (signature_names (sig_binds_in more)) i l h.0 m.0,
          (with_wheres_bound s (sig_wheres_in more) h.1 (sig_wheres_bound B plain g (t b) (t (suc b)) more k), m.1),
        )
    and_sig_bind a b n _ more i l h k =
        let m = sig_binds_bound B plain g (t b) (t (suc b)) more k in
        (one B g t mono S.Signatures b n (signature_names (sig_binds_in more)) l m.0, m.1)

    and_structure : (a b n : ℕ) (v more : Phrase) → suc a ≤ b → suc b ≤ n → PhraseBound B plain g (t a) (t (suc a)) v → PhraseBound B plain g (t b) (t (suc b)) more
        → Named B S.Structures g (t 0) (t n) (str_desc_names (str_descs v more)) × StrDescsBound (str_descs v more)
    and_structure a b n (of_begun_str_desc x s) more i l h k =
        let m = str_descs_bound B plain g (t b) (t (suc b)) more k in (
          two B g t mono S.Structures a b n (x.id ∷ []) (str_desc_names (str_descs_in more)) i l h.0 m.0,
          (with_wheres_bound s (desc_wheres_in more) h.1 (desc_wheres_bound B plain g (t b) (t (suc b)) more k), m.1),
        )
    and_structure a b n _ more i l h k =
        let m = str_descs_bound B plain g (t b) (t (suc b)) more k in
        (one B g t mono S.Structures b n (str_desc_names (str_descs_in more)) l m.0, m.1)

    type_rest_bound : (xs : List (Name Place)) (x : Name Place) (v : Phrase) → AreDistinct (ids xs) → Named B S.Types g (t 1) (t 2) (x.id ∷ []) → PhraseBound B plain g (t 2) (t 3) v
        → PhraseBound B plain g (t 0) (t 3) (type_rest xs x v)
    type_rest_bound xs x (of_type_rest u bs) d n h = (two B g t mono S.Types 1 2 3 (x.id ∷ []) (type_names bs) (omega arith) (omega arith) n h.1, ((d, h.0), h.2))
    type_rest_bound xs x (of_typ_descs ds) d n h = (two B g t mono S.Types 1 2 3 (x.id ∷ []) (described ds) (omega arith) (omega arith) n h.0, (d, h.1))
    type_rest_bound xs x _ d n h = tt

    datatype_spec_bound : (x : Name Place) (v : Phrase) → Named B S.Types g (t 0) (t 1) (x.id ∷ []) → PhraseBound B plain g (t 2) (t 3) v → PhraseBound B plain g (t 0) (t 3) (datatype_rest x v)
    datatype_spec_bound x (of_constructors cs ds ts) n h = (
      two B g t mono S.Types 0 2 3 (x.id ∷ []) (datatype_names ds) (omega arith) (omega arith) n h.0,
      one B g t mono S.Constructors 2 3 (con_names cs ++ all_con_names ds) (omega arith) h.1,
      ((tt, h.2), h.3),
      tt,
      tt,
    )
    datatype_spec_bound x (of_long c) n h = tt
    datatype_spec_bound x _ n h = tt

    pub signature_bound : (rule : SignatureRule) (p : Place) (vs : List Phrase) → PartsBound B g t (G.Signatures rule) vs
        → PhraseBound B (class_of (Of (part_of (G.Signatures rule)))) g (t 0) (t (length (right_side (G.Signatures rule)))) (signature_phrase rule p vs)
    signature_bound SigSigAtom p vs h =
        wheres_on (sig_place (sig_in (at vs 0))) (sig_in (at vs 0)) (wheres_in (at vs 1))
        (sig_bound B plain g (t 0) (t 1) (at vs 0) (h 0 refl).0) (wheres_bound B plain g (t 1) (t 2) (at vs 1) (h 1 refl).0)
    signature_bound SigAtomSig p vs h = (specs_bound B plain g (t 1) (t 2) (at vs 1) (h 1 refl).0)
    signature_bound SigAtomAlphanumeric p vs h = tt
    signature_bound SigMoreNone p vs h = tt
    signature_bound SigWhereNone p vs h = tt
    signature_bound SigMoreWhere p vs h = ((where_bound B plain g (t 1) (t 2) (at vs 1) (h 1 refl).0), (wheres_bound B plain g (t 2) (t 3) (at vs 2) (h 2 refl).0))
    signature_bound SigWhereWhere p vs h = ((where_bound B plain g (t 1) (t 2) (at vs 1) (h 1 refl).0), (wheres_bound B plain g (t 2) (t 3) (at vs 2) (h 2 refl).0))
    signature_bound SigWhereAnd p vs h = ((where_bound B plain g (t 1) (t 2) (at vs 1) (h 1 refl).0), (wheres_bound B plain g (t 2) (t 3) (at vs 2) (h 2 refl).0))
    signature_bound WhereRule p vs h = ((names_bound B g (t 1) (t 2) (at vs 1) (h 1 refl).0), (ty_bound B plain g (t 4) (t 5) (at vs 4) (h 4 refl).0))
    signature_bound SigBindAlphanumeric p vs h = (
      one B g t mono S.Signatures 0 3 ((name_in (at vs 0)).id ∷ []) (omega arith) (h 0 refl).1,
      (sig_bound B plain g (t 2) (t 3) (at vs 2) (h 2 refl).0),
    )
    signature_bound SigBindMoreNone p vs h = (tt, tt, tt)
    signature_bound SigBindWhereNone p vs h = (tt, tt, tt)
    signature_bound SigBindMoreWhere p vs h = (
      ((where_bound B plain g (t 1) (t 2) (at vs 1) (h 1 refl).0), (sig_wheres_bound B plain g (t 2) (t 3) (at vs 2) (h 2 refl).0)),
      one B g t mono S.Signatures 2 3 (signature_names (sig_binds_in (at vs 2))) (omega arith) (sig_binds_bound B plain g (t 2) (t 3) (at vs 2) (h 2 refl).0).0,
      (sig_binds_bound B plain g (t 2) (t 3) (at vs 2) (h 2 refl).0).1,
    )
    signature_bound SigBindWhereWhere p vs h = (
      ((where_bound B plain g (t 1) (t 2) (at vs 1) (h 1 refl).0), (sig_wheres_bound B plain g (t 2) (t 3) (at vs 2) (h 2 refl).0)),
      one B g t mono S.Signatures 2 3 (signature_names (sig_binds_in (at vs 2))) (omega arith) (sig_binds_bound B plain g (t 2) (t 3) (at vs 2) (h 2 refl).0).0,
      (sig_binds_bound B plain g (t 2) (t 3) (at vs 2) (h 2 refl).0).1,
    )
    signature_bound SigBindMoreAnd p vs h = (let x = and_sig_bind 1 2 3 (at vs 1) (at vs 2) (omega arith) (omega arith) (h 1 refl).0 (h 2 refl).0 in (tt, x.0, x.1))
    signature_bound SigBindWhereAnd p vs h = (pass B g t mono 1 2 (at vs 1) (omega arith) (h 1 refl).0)
    signature_bound SigBindAndWhere p vs h = (
      ((where_bound B plain g (t 0) (t 1) (at vs 0) (h 0 refl).0), (sig_wheres_bound B plain g (t 1) (t 2) (at vs 1) (h 1 refl).0)),
      one B g t mono S.Signatures 1 2 (signature_names (sig_binds_in (at vs 1))) (omega arith) (sig_binds_bound B plain g (t 1) (t 2) (at vs 1) (h 1 refl).0).0,
      (sig_binds_bound B plain g (t 1) (t 2) (at vs 1) (h 1 refl).0).1,
    )
    signature_bound SigBindAndSigBind p vs h = (let x = and_sig_bind 0 1 2 (at vs 0) (at vs 1) (omega arith) (omega arith) (h 0 refl).0 (h 1 refl).0 in (tt, x.0, x.1))

    pub specification_bound : (rule : SpecificationRule) (p : Place) (vs : List Phrase) → PartsBound B g t (G.Specifications rule) vs
        → PhraseBound B (class_of (Of (part_of (G.Specifications rule)))) g (t 0) (t (length (right_side (G.Specifications rule)))) (specification_phrase rule p vs)
    specification_bound SpecVal p vs h =
        let n = two B g t mono S.Values 1 2 3 ((val_desc_in (at vs 1)).name.id ∷ []) (value_names (val_descs_in (at vs 2))) (omega arith) (omega arith) (val_desc_bound g (t 1) (t 2) (at vs 1) (h 1 refl).2 (h 1 refl).0).1 (val_descs_bound B plain g (t 2) (t 3) (at vs 2) (h 2 refl).0).0 in (
          (
            distinct B apart S.Values g (t 0) (t 3) ((val_desc_in (at vs 1)).name.id ∷ value_names (val_descs_in (at vs 2))) n,
            each_named B MayBeValue S.Values may_value g (t 0) (t 3) ((val_desc_in (at vs 1)).name.id ∷ value_names (val_descs_in (at vs 2))) n,
            ((val_desc_bound g (t 1) (t 2) (at vs 1) (h 1 refl).2 (h 1 refl).0).0, (val_descs_bound B plain g (t 2) (t 3) (at vs 2) (h 2 refl).0).1),
          ),
          tt,
        )
    specification_bound SpecType p vs h = types_bound g (t 1) (t 2) (t 0) (t 2) p (at vs 1) (h 1 refl).0
    specification_bound SpecEqtype p vs h = (
      (
        distinct B apart S.Types g (t 0) (t 4) ((name_in (at vs 2)).id ∷ described (typ_descs_in (at vs 3)))
            (two B g t mono S.Types 2 3 4 ((name_in (at vs 2)).id ∷ []) (described (typ_descs_in (at vs 3))) (omega arith) (omega arith) (h 2 refl).1 (typ_descs_bound B plain g (t 3) (t 4) (at vs 3) (h 3 refl).0).0),
        ((names_bound B g (t 1) (t 2) (at vs 1) (h 1 refl).0), (typ_descs_bound B plain g (t 3) (t 4) (at vs 3) (h 3 refl).0).1),
      ),
      tt,
    )
    specification_bound SpecDatatype p vs h = datatypes_spec_bound g (t 1) (t 2) (t 0) (t 2) p (at vs 1) (h 1 refl).0
    specification_bound SpecException p vs h =
        let n = two B g t mono S.Exceptions 1 2 3 ((con_bind_in (at vs 1)).name.id ∷ []) (con_names (con_binds_in (at vs 2))) (omega arith) (omega arith) (con_bind_bound g (t 1) (t 2) (at vs 1) (h 1 refl).2 (h 1 refl).0).1 (con_binds_bound B exceptions g (t 2) (t 3) (at vs 2) (h 2 refl).0).0 in (
          (
            distinct B apart S.Exceptions g (t 0) (t 3) ((con_bind_in (at vs 1)).name.id ∷ con_names (con_binds_in (at vs 2))) n,
            each_named B MayBeConstructor S.Exceptions (λ g t x b. may_be S.Exceptions g t x (inr refl) b) g (t 0)
                (t 3) ((con_bind_in (at vs 1)).name.id ∷ con_names (con_binds_in (at vs 2))) n,
            (
              (con_bind_bound g (t 1) (t 2) (at vs 1) (h 1 refl).2 (h 1 refl).0).0,
              (con_binds_bound B exceptions g (t 2) (t 3) (at vs 2) (h 2 refl).0).1,
            ),
          ),
          tt,
        )
    specification_bound SpecStructure p vs h =
        let x = and_structure 1 2 3 (at vs 1) (at vs 2) (omega arith) (omega arith) (h 1 refl).0 (h 2 refl).0 in
        ((distinct B apart S.Structures g (t 0) (t 3) (str_desc_names (str_descs (at vs 1) (at vs 2))) x.0, x.1), tt)
    specification_bound SpecInclude p vs h = included_bound g (t 1) (t 2) (t 0) (t 2) p (at vs 1) (h 1 refl).0
    specification_bound SpecSharing p vs h = shared_bound g (t 0) (t 2) p (at vs 1)
    specification_bound ValSpecVid p vs h = (one B g t mono S.Values 0 3 ((name_in (at vs 0)).id ∷ []) (omega arith) (h 0 refl).1, (ty_bound B plain g (t 2) (t 3) (at vs 2) (h 2 refl).0))
    specification_bound ValSpecMoreNone p vs h = (tt, tt)
    specification_bound TypeSpecMoreNone p vs h = (tt, tt)
    specification_bound ConSpecsMoreNone p vs h = (tt, tt)
    specification_bound ExnSpecMoreNone p vs h = (tt, tt)
    specification_bound ValSpecMoreAnd p vs h = (
      two B g t mono S.Values 1 2 3 ((val_desc_in (at vs 1)).name.id ∷ []) (value_names (val_descs_in (at vs 2)))
          (omega arith) (omega arith) (val_desc_bound g (t 1) (t 2) (at vs 1) (h 1 refl).2 (h 1 refl).0).1
          (val_descs_bound B plain g (t 2) (t 3) (at vs 2) (h 2 refl).0).0,
      ((val_desc_bound g (t 1) (t 2) (at vs 1) (h 1 refl).2 (h 1 refl).0).0, (val_descs_bound B plain g (t 2) (t 3) (at vs 2) (h 2 refl).0).1),
    )
    specification_bound TypeSpecTvs p vs h = type_rest_bound (names_in (at vs 0)) (name_in (at vs 1)) (at vs 2) (names_bound B g (t 0) (t 1) (at vs 0) (h 0 refl).0) (h 1 refl).1 (h 2 refl).0
    specification_bound TypeSpecRestEquals p vs h = (
      (ty_bound B plain g (t 1) (t 2) (at vs 1) (h 1 refl).0),
      one B g t mono S.Types 2 3 (type_names (typ_binds_in (at vs 2))) (omega arith) (typ_binds_bound B plain g (t 2) (t 3) (at vs 2) (h 2 refl).0).0,
      (typ_binds_bound B plain g (t 2) (t 3) (at vs 2) (h 2 refl).0).1,
    )
    specification_bound TypeSpecRestTypeSpecMore p vs h = (pass B g t mono 0 1 (at vs 0) (omega arith) (h 0 refl).0)
    specification_bound TypeSpecMoreAnd p vs h = (
      two B g t mono S.Types 2 3 4 ((name_in (at vs 2)).id ∷ []) (described (typ_descs_in (at vs 3))) (omega arith)
          (omega arith) (h 2 refl).1 (typ_descs_bound B plain g (t 3) (t 4) (at vs 3) (h 3 refl).0).0,
      ((names_bound B g (t 1) (t 2) (at vs 1) (h 1 refl).0), (typ_descs_bound B plain g (t 3) (t 4) (at vs 3) (h 3 refl).0).1),
    )
    specification_bound DatSpecSomeTvs p vs h = (
      two B g t mono S.Types 1 4 5 ((name_in (at vs 1)).id ∷ []) (datatype_names (dat_binds_in (at vs 4)))
          (omega arith) (omega arith) (h 1 refl).1 (dat_binds_bound B plain g (t 4) (t 5) (at vs 4) (h 4 refl).0).0,
      two B g t mono S.Constructors 3 4 5 (con_names (con_binds_in (at vs 3))) (all_con_names (dat_binds_in (at vs 4)))
          (omega arith) (omega arith) (con_binds_bound B plain g (t 3) (t 4) (at vs 3) (h 3 refl).0).0
          (dat_binds_bound B plain g (t 4) (t 5) (at vs 4) (h 4 refl).0).1,
      (
        ((names_bound B g (t 0) (t 1) (at vs 0) (h 0 refl).0), (con_binds_bound B plain g (t 3) (t 4) (at vs 3) (h 3 refl).0).1),
        (dat_binds_bound B plain g (t 4) (t 5) (at vs 4) (h 4 refl).0).2,
      ),
      tt,
      tt,
    )
    specification_bound DatSpecTyCon p vs h = datatype_spec_bound (name_in (at vs 0)) (at vs 2) (h 0 refl).1 (h 2 refl).0
    specification_bound DatSpecRestDatatype p vs h = (pass B g t mono 1 2 (at vs 1) (omega arith) (h 1 refl).0)
    specification_bound ConSpecsMoreBar p vs h = (pass B g t mono 1 2 (at vs 1) (omega arith) (h 1 refl).0)
    specification_bound OfTyOf p vs h = (pass B g t mono 1 2 (at vs 1) (omega arith) (h 1 refl).0)
    specification_bound StrSpecWhereAnd p vs h = (pass B g t mono 1 2 (at vs 1) (omega arith) (h 1 refl).0)
    specification_bound DatSpecRestConSpecs p vs h = (
      one B g t mono S.Types 1 2 (datatype_names (dat_binds_in (at vs 1))) (omega arith) (dat_binds_bound B plain g (t 1) (t 2) (at vs 1) (h 1 refl).0).0,
      two B g t mono S.Constructors 0 1 2 (con_names (con_binds_in (at vs 0))) (all_con_names (dat_binds_in (at vs 1)))
          (omega arith) (omega arith) (con_binds_bound B plain g (t 0) (t 1) (at vs 0) (h 0 refl).0).0
          (dat_binds_bound B plain g (t 1) (t 2) (at vs 1) (h 1 refl).0).1,
      (con_binds_bound B plain g (t 0) (t 1) (at vs 0) (h 0 refl).0).1,
      (dat_binds_bound B plain g (t 1) (t 2) (at vs 1) (h 1 refl).0).2,
      tt,
      tt,
    )
    specification_bound DatSpecMoreNone p vs h = (tt, tt, tt, tt, tt)
    specification_bound DatSpecMoreAnd p vs h = (
      two B g t mono S.Types 2 5 6 ((name_in (at vs 2)).id ∷ []) (datatype_names (dat_binds_in (at vs 5)))
          (omega arith) (omega arith) (h 2 refl).1 (dat_binds_bound B plain g (t 5) (t 6) (at vs 5) (h 5 refl).0).0,
      two B g t mono S.Constructors 4 5 6 (con_names (con_binds_in (at vs 4))) (all_con_names (dat_binds_in (at vs 5)))
          (omega arith) (omega arith) (con_binds_bound B plain g (t 4) (t 5) (at vs 4) (h 4 refl).0).0
          (dat_binds_bound B plain g (t 5) (t 6) (at vs 5) (h 5 refl).0).1,
      (
        ((names_bound B g (t 1) (t 2) (at vs 1) (h 1 refl).0), (con_binds_bound B plain g (t 4) (t 5) (at vs 4) (h 4 refl).0).1),
        (dat_binds_bound B plain g (t 5) (t 6) (at vs 5) (h 5 refl).0).2,
      ),
      tt,
      tt,
    )
    specification_bound ConSpecsVid p vs h = (
      two B g t mono S.Constructors 0 2 3 ((name_in (at vs 0)).id ∷ []) (con_names (con_binds_in (at vs 2)))
          (omega arith) (omega arith) (h 0 refl).1 (con_binds_bound B plain g (t 2) (t 3) (at vs 2) (h 2 refl).0).0,
      ((ty_bound_if_any B plain g (t 1) (t 2) (at vs 1) (h 1 refl).0), (con_binds_bound B plain g (t 2) (t 3) (at vs 2) (h 2 refl).0).1),
    )
    specification_bound OfTyNone p vs h = tt
    specification_bound ExnSpecVid p vs h = (
      one B g t mono S.Exceptions 0 2 ((name_in (at vs 0)).id ∷ []) (omega arith) (h 0 refl).1,
      (ty_bound_if_any B plain g (t 1) (t 2) (at vs 1) (h 1 refl).0),
    )
    specification_bound ExnSpecMoreAnd p vs h = (
      two B g t mono S.Exceptions 1 2 3 ((con_bind_in (at vs 1)).name.id ∷ []) (con_names (con_binds_in (at vs 2)))
          (omega arith) (omega arith) (con_bind_bound g (t 1) (t 2) (at vs 1) (h 1 refl).2 (h 1 refl).0).1
          (con_binds_bound B exceptions g (t 2) (t 3) (at vs 2) (h 2 refl).0).0,
      ((con_bind_bound g (t 1) (t 2) (at vs 1) (h 1 refl).2 (h 1 refl).0).0, (con_binds_bound B exceptions g (t 2) (t 3) (at vs 2) (h 2 refl).0).1),
    )
    specification_bound StrSpecAlphanumeric p vs h = (
      one B g t mono S.Structures 0 3 ((name_in (at vs 0)).id ∷ []) (omega arith) (h 0 refl).1,
      (sig_bound B plain g (t 2) (t 3) (at vs 2) (h 2 refl).0),
    )
    specification_bound StrSpecMoreNone p vs h = (tt, tt, tt)
    specification_bound StrSpecWhereNone p vs h = (tt, tt, tt)
    specification_bound StrSpecMoreWhere p vs h = (
      ((where_bound B plain g (t 1) (t 2) (at vs 1) (h 1 refl).0), (desc_wheres_bound B plain g (t 2) (t 3) (at vs 2) (h 2 refl).0)),
      one B g t mono S.Structures 2 3 (str_desc_names (str_descs_in (at vs 2))) (omega arith) (str_descs_bound B plain g (t 2) (t 3) (at vs 2) (h 2 refl).0).0,
      (str_descs_bound B plain g (t 2) (t 3) (at vs 2) (h 2 refl).0).1,
    )
    specification_bound StrSpecWhereWhere p vs h = (
      ((where_bound B plain g (t 1) (t 2) (at vs 1) (h 1 refl).0), (desc_wheres_bound B plain g (t 2) (t 3) (at vs 2) (h 2 refl).0)),
      one B g t mono S.Structures 2 3 (str_desc_names (str_descs_in (at vs 2))) (omega arith) (str_descs_bound B plain g (t 2) (t 3) (at vs 2) (h 2 refl).0).0,
      (str_descs_bound B plain g (t 2) (t 3) (at vs 2) (h 2 refl).0).1,
    )
    specification_bound StrSpecMoreAnd p vs h = (let x = and_structure 1 2 3 (at vs 1) (at vs 2) (omega arith) (omega arith) (h 1 refl).0 (h 2 refl).0 in (tt, x.0, x.1))
    specification_bound StrSpecAndWhere p vs h = (
      ((where_bound B plain g (t 0) (t 1) (at vs 0) (h 0 refl).0), (desc_wheres_bound B plain g (t 1) (t 2) (at vs 1) (h 1 refl).0)),
      one B g t mono S.Structures 1 2 (str_desc_names (str_descs_in (at vs 1))) (omega arith) (str_descs_bound B plain g (t 1) (t 2) (at vs 1) (h 1 refl).0).0,
      (str_descs_bound B plain g (t 1) (t 2) (at vs 1) (h 1 refl).0).1,
    )
    specification_bound StrSpecAndStrSpec p vs h = (let x = and_structure 0 1 2 (at vs 0) (at vs 1) (omega arith) (omega arith) (h 0 refl).0 (h 1 refl).0 in (tt, x.0, x.1))
    specification_bound IncludeSig p vs h =
        wheres_on p (sig_end p (specs_in (at vs 1))) (wheres_in (at vs 3))
        (specs_bound B plain g (t 1) (t 2) (at vs 1) (h 1 refl).0) (wheres_bound B plain g (t 3) (t 4) (at vs 3) (h 3 refl).0)
    specification_bound IncludeAlphanumeric p vs h = included_name_bound g (t 1) (t 2) (t 0) (t 2) p (name_in (at vs 0)) (at vs 1) (h 1 refl).0
    specification_bound IncludeMoreSigMore p vs h = as_identifiers g (t 0) (t 1) (at vs 0) (pass B g t mono 0 1 (at vs 0) (omega arith) (h 0 refl).0)
    specification_bound IncludeMoreAlphanumeric p vs h = tt
    specification_bound IncludeIdsNone p vs h = tt
    specification_bound IncludeIdsAlphanumeric p vs h = tt
    specification_bound SharingType p vs h = tt
    specification_bound SharingLongStrId p vs h = tt
    specification_bound TypeShareMoreNone p vs h = tt
    specification_bound TypeShareMoreEquals p vs h = tt
    specification_bound StrShareMoreNone p vs h = tt
    specification_bound StrShareMoreEquals p vs h = tt

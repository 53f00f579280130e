-- Signatures, structures and the parts of top-level declarations with other places have the same answers, but for places.
use Rattle.std.specs.Prelude.{◌≡◌, true, false, List, [], ◌∷◌, ◌++◌, map, Option, Some, None}
use mathlib.Core.Path.{refl, sym, subst}
use Rattle.sml_lex.specs.declared.fault.Code.TheVariants.{E2, E3, E7, Q1}
use Rattle.sml_tree.specs.Names.{Name}
use Rattle.sml_tree.specs.Signatures.{SigExp, Spec, Specs, StrDescs, sig_end, sig_name, where_type, val_spec, type_spec, eqtype_spec, datatype_spec, copy_spec, exception_spec, structure_spec, include_spec, sharing_types, sharing_structures, no_spec, and_spec, str_desc, no_str_desc, and_str_desc}
use Rattle.sml_tree.specs.Structures.{StrExp, StrDec, StrDecs, StrBinds, SigBind, FunBind, struct_end, str_name, ascribed, functor_apply, str_let, core_dec, structure_dec, str_local, no_str_dec, and_str_dec, str_bind, no_str_bind, and_str_bind}
use Rattle.sml_tree.specs.declared.structures.Ascription.{Ascription}
use Rattle.sml_objects.specs.Maps.{Map, lookup, put}
use Rattle.sml_rules.specs.Answers.{fault, fault_at}
use Rattle.sml_core_rules.specs.Objects.{Env, Sig, FunSig, Basis, maps, no_structure, structures, empty, extend, of_values, put_structure}
use Rattle.sml_core_rules.specs.Lookups.{type_at, structure_at}
use Rattle.sml_core_rules.specs.Datatypes.{constructor_values}
use Rattle.sml_core_rules.specs.States.{Scope}
use Rattle.sml_module_rules.specs.Matching.{ascribe}
use Rattle.sml_module_rules.specs.Signatures.{no_names, read_sig, read_specs, read_spec, read_descs}
use Rattle.sml_module_rules.specs.Structures.{signature_place, one_structure, of_body, of_functor, functor_named, read_str, read_strs, read_strdec, read_str_binds, read_signatures, read_structure, read_functor, read_inside}
use Rattle.sml_places.specs.Places.{place_name, place_sig, place_specs, place_spec, place_descs, place_str, place_str_dec, place_str_decs, place_str_binds, place_sig_bind, place_fun_bind}
use Rattle.sml_places.proofs.Scripts.{AreSame, alike-then, alike-give, alike-refuse}
use Rattle.sml_places.proofs.Steps.{itself, same-look, same-need, same-test, same-anew}
use Rattle.sml_places.proofs.Expressions.{same-dec}
use Rattle.sml_places.proofs.Matching.{same-ascribed, same-functor}
use Rattle.sml_places.proofs.Sharing.{equal-values, equal-exceptions, same-share-types, same-share-structures, same-where-type, same-described, same-datatypes, same-added, same-signature-named}

module _ {P Q N : Type 0} (scope : Scope N) (f : P → Q) where
  module _ (G : Map (Sig N)) where
    mutual
      unfolding read_sig read_specs read_spec read_descs place_sig place_specs place_spec place_descs

      pub same-sig : (C : Env N) (e : SigExp P) → AreSame scope f (read_sig scope G C e) (read_sig scope G C (place_sig f e))
      same-sig C (sig_end p qs) = same-specs C (no_names empty) qs
      same-sig C (sig_name p x) = same-signature-named scope f p x (lookup x G)
      same-sig C (where_type p e w) = alike-then (same-sig C e) (λ S. same-where-type scope f C S w)

      same-specs : (C : Env N) (S : Sig N) (qs : Specs P) → AreSame scope f (read_specs scope G C S qs) (read_specs scope G C S (place_specs f qs))
      same-specs C S no_spec = alike-give S
      same-specs C S (and_spec q qs) = alike-then (same-spec C S q) (λ R. same-specs C R qs)

      same-spec : (C : Env N) (S : Sig N) (q : Spec P) → AreSame scope f (read_spec scope G C S q) (read_spec scope G C S (place_spec f q))
      same-spec C S (val_spec p ds) =
          alike-then (same-look (equal-values f (extend C S.body) [] ds)) (λ m. alike-then (same-test itself (fault E7 p)) (λ a. same-added scope f p S (no_names (of_values m))))
      same-spec C S (type_spec p ds) = alike-then (same-described scope f p false ds) (λ R. same-added scope f p S R)
      same-spec C S (eqtype_spec p ds) = alike-then (same-described scope f p true ds) (λ R. same-added scope f p S R)
      same-spec C S (datatype_spec p ds) = alike-then (same-datatypes scope f p (extend C S.body) ds) (λ R. same-added scope f p S R)
      same-spec C S (copy_spec p x c) =
          alike-then (same-need E2 c.place c.id (type_at (extend C S.body) c.id)) (λ t.
          same-added scope f p S (no_names (maps no_structure ((x.id, t) ∷ []) (constructor_values t.constructors))))
      same-spec C S (exception_spec p cs) =
          alike-then (same-look (equal-exceptions f scope (extend C S.body) [] cs)) (λ m. alike-then (same-test itself (fault E7 p)) (λ a.
          same-added scope f p S (no_names (of_values m))))
      same-spec C S (structure_spec p ds) = alike-then (same-descs (extend C S.body) (no_names empty) ds) (λ R. same-added scope f p S R)
      same-spec C S (include_spec p e) = alike-then (same-sig (extend C S.body) e) (λ R. same-added scope f p S R)
      same-spec C S (sharing_types p xs) = same-share-types scope f S xs
      same-spec C S (sharing_structures p xs) = same-share-structures scope f S xs

      same-descs : (C : Env N) (S : Sig N) (ds : StrDescs P) → AreSame scope f (read_descs scope G C S ds) (read_descs scope G C S (place_descs f ds))
      same-descs C S no_str_desc = alike-give S
      same-descs C S (and_str_desc (str_desc x e) ds) =
          alike-then (same-sig C e) (λ R. same-descs C (record { names = S.names ++ R.names; body = maps (put_structure x.id R.body (structures S.body)) [] [] }) ds)

  signature-placed : (s : SigExp P) → signature_place (place_sig f s) ≡ f (signature_place s)
  unfolding place_sig
  signature-placed (sig_end p qs) = refl
  signature-placed (sig_name p x) = refl
  signature-placed (where_type p e w) = refl

  ascribed-at : (s : SigExp P) (E : Env N) (a : Ascription) (S : Sig N) → AreSame scope f (ascribe scope (signature_place s) E a S) (ascribe scope (signature_place (place_sig f s)) E a S)
  ascribed-at s E a S =
      subst (λ p. AreSame scope f (ascribe scope (signature_place s) E a S) (ascribe scope p E a S)) (sym (signature-placed s)) (same-ascribed scope f (signature_place s) E a S)

  same-functor-named : (x : Name P) (F : Option (FunSig N)) → AreSame scope f (functor_named scope x F) (functor_named scope (place_name f x) F)
  same-functor-named x None = alike-refuse (fault_at Q1 x.place (x.id ∷ []))
  same-functor-named x (Some F) = alike-give F

  module _ (B : Basis N) where
    mutual
      unfolding read_str read_strs read_strdec read_str_binds place_str place_str_dec place_str_decs place_str_binds

      pub same-str : (C : Env N) (e : StrExp P) → AreSame scope f (read_str scope B C e) (read_str scope B C (place_str f e))
      same-str C (struct_end p ds) = same-strs C empty ds
      same-str C (str_name x) = same-need E3 x.place x.id (structure_at C x.id)
      same-str C (ascribed p e a s) = alike-then (same-str C e) (λ E. alike-then (same-sig B.signatures C s) (λ S. ascribed-at s E a S))
      same-str C (functor_apply x e) =
          alike-then (same-functor-named x (lookup x.id B.functors)) (λ F. alike-then (same-str C e) (λ E. same-functor scope f x.place F E))
      same-str C (str_let p ds e) = alike-then (same-strs C empty ds) (λ E. same-str (extend C E) e)

      same-strs : (C F : Env N) (ds : StrDecs P) → AreSame scope f (read_strs scope B C F ds) (read_strs scope B C F (place_str_decs f ds))
      same-strs C F no_str_dec = alike-give F
      same-strs C F (and_str_dec d ds) = alike-then (same-strdec C d) (λ E. same-strs (extend C E) (extend F E) ds)

      same-strdec : (C : Env N) (d : StrDec P) → AreSame scope f (read_strdec scope B C d) (read_strdec scope B C (place_str_dec f d))
      same-strdec C (core_dec d) = alike-then same-anew (λ a. same-dec scope f C [] d)
      same-strdec C (structure_dec p bs) = same-str-binds C empty bs
      same-strdec C (str_local p ds es) = alike-then (same-strs C empty ds) (λ E. same-strs (extend C E) empty es)

      same-str-binds : (C F : Env N) (bs : StrBinds P) → AreSame scope f (read_str_binds scope B C F bs) (read_str_binds scope B C F (place_str_binds f bs))
      same-str-binds C F no_str_bind = alike-give F
      same-str-binds C F (and_str_bind (str_bind x e) bs) = alike-then (same-str C e) (λ E. same-str-binds C (extend F (one_structure x.id E)) bs)

    pub same-signatures : (m : Map (Sig N)) (bs : List (SigBind P)) → AreSame scope f (read_signatures scope B m bs) (read_signatures scope B m (map (place_sig_bind f) bs))
    unfolding read_signatures
    same-signatures m [] = alike-give m
    same-signatures m (b ∷ bs) = alike-then (same-sig B.signatures B.body b.signature) (λ S. same-signatures (put b.name.id S m) bs)

    pub same-structure : (x : Name P) (e : StrExp P) → AreSame scope f (read_structure scope B x e) (read_structure scope B (place_name f x) (place_str f e))
    same-structure x e = alike-then (same-str B.body e) (λ E. alike-give (of_body (one_structure x.id E)))

    pub same-functor-bound : (b : FunBind P) → AreSame scope f (read_functor scope B b) (read_functor scope B (place_fun_bind f b))
    same-functor-bound b =
        alike-then (same-sig B.signatures B.body b.signature) (λ S. alike-then (same-str (extend B.body (one_structure b.argument.id S.body)) b.body) (λ E.
        alike-give (of_functor b.name.id (record { argument = S; result = record { names = []; body = E } }))))

    pub same-inside : (d : StrDec P) → AreSame scope f (read_inside scope B d) (read_inside scope B (place_str_dec f d))
    same-inside d = alike-then (same-strdec B.body d) (λ E. alike-give (of_body E))

-- Signature expressions: with which codes they are refused.
use Rattle.std.specs.Prelude.{◌≡◌, Bool, true, false, List, [], ◌∷◌, ◌++◌, Option, Some, None, is_some}
use mathlib.Core.Path.{refl}
use Rattle.sml_lex.specs.declared.fault.Code.{Code}
use Rattle.sml_lex.specs.declared.fault.Code.TheVariants.{E2, E3, E4, E7, N1, N2, N3, N4, N5, N6, N7}
use Rattle.sml_tree.specs.Trees.{Id, LongId}
use Rattle.sml_tree.specs.Names.{LongName}
use Rattle.sml_tree.specs.Expressions.{ConBind, DatBind}
use Rattle.sml_tree.specs.Signatures.{WhereType, ValDesc, TypDesc, SigExp, Spec, Specs, StrDescs, sig_end, sig_name, where_type, val_spec, type_spec, eqtype_spec, datatype_spec, copy_spec, exception_spec, structure_spec, include_spec, sharing_types, sharing_structures, no_spec, and_spec, str_desc, no_str_desc, and_str_desc}
use Rattle.sml_objects.specs.Maps.{Map, lookup}
use Rattle.sml_rules.specs.Matching.{Realisation}
use Rattle.sml_core_rules.specs.Objects.{Env, Value, Sig, empty, extend, maps, no_structure, of_values, put_structure, structures}
use Rattle.sml_core_rules.specs.Datatypes.{constructor_values}
use Rattle.sml_core_rules.specs.Lookups.{type_at, structure_at}
use Rattle.sml_core_rules.specs.States.{Scope}
use Rattle.sml_module_rules.specs.Bound.{inside as inside_path, function_at, name_at, common_paths, bound_name}
use Rattle.sml_module_rules.specs.Matching.{renewed_signature}
use Rattle.sml_module_rules.specs.Realising.{is_same_name}
use Rattle.sml_module_rules.specs.Signatures.{need_name, join, share_named, share, need_names, share_others, share_types, need_structures, share_paths, share_with, share_pairs, share_structures, realise_name, read_where, read_values, read_exceptions, read_types, read_datatypes, add, named, no_names, read_sig, read_specs, read_spec, read_descs}
use Rattle.sml_refusals.specs.Codes.{type_code, size_code, binding_code, specification_code, signature_code}
use Rattle.sml_refusals.proofs.Refusing.{or-right, CodeOf, code-then, RefusesBy, refuses-then, refuses-look, refuses-cond}
use Rattle.sml_refusals.proofs.CodesOfTypes.{code-need, codes-ty, codes-argument, codes-datatypes}

-- new names are never refused
pub codes-renewed : (D : Code → Bool) (P : Type 0) {N : Type 0} (scope : Scope N) (S : Sig N) → RefusesBy D (renewed_signature {P = P} scope S)
unfolding RefusesBy
codes-renewed D P scope S = refuses-then D _ _ (λ ns. tt) (λ ns. tt)

module _ (D : Code → Bool) (inside : (c : Code) → signature_code c ≡ true → D c ≡ true) where
  type-in : (c : Code) → type_code c ≡ true → D c ≡ true
  type-in c h = inside c (or-right (specification_code c) _ (or-right (size_code c) _ h))

  module _ {P N : Type 0} where
    module _ (scope : Scope N) where
      codes-name : (p : P) (o : Option N) → RefusesBy D (need_name scope p o)
      unfolding RefusesBy
      codes-name p (Some n) = tt
      codes-name p None = inside N3 refl

      codes-join : (p : P) (S : Sig N) (n m : N) → RefusesBy D (join scope p S n m)
      unfolding RefusesBy
      codes-join p S n m = refuses-cond D (is_same_name scope.names n m) _ _ tt
          (refuses-then D _ _ (inside N6 refl, tt) (λ a. refuses-then D _ _ (λ ks. tt) (λ ks. refuses-then D _ _ (inside N7 refl, tt) (λ b. tt))))

      codes-share-named : (p : P) (S : Sig N) (x y : LongId) (o q : Option N) → RefusesBy D (share_named scope p S x y o q)
      unfolding RefusesBy
      codes-share-named p S x y (Some n) (Some m) = codes-join p S n m
      codes-share-named p S x y (Some n) None = refuses-then D _ _ (inside N3 refl, tt) (λ a. tt)
      codes-share-named p S x y None m = refuses-then D _ _ (inside N3 refl, tt) (λ a. tt)

      codes-share : (p : P) (S : Sig N) (x y : LongId) → RefusesBy D (share scope p S x y)
      codes-share p S x y = codes-share-named p S x y (name_at scope S x) (name_at scope S y)

      codes-need-names : (S : Sig N) (xs : List (LongName P)) → RefusesBy D (need_names scope S xs)
      unfolding need_names RefusesBy
      codes-need-names S [] = tt
      codes-need-names S (x ∷ xs) =
          refuses-then D _ _ (refuses-look D N _ (code-need D E2 x.place x.id (type_at S.body x.id) (inside E2 refl) (inside E3 refl))) (λ t. refuses-then D _ _ (codes-name x.place (bound_name scope S.names t.function)) (λ n. codes-need-names S xs))

      codes-share-others : (S : Sig N) (x : LongId) (ys : List (LongName P)) → RefusesBy D (share_others scope S x ys)
      unfolding share_others RefusesBy
      codes-share-others S x [] = tt
      codes-share-others S x (y ∷ ys) = refuses-then D _ _ (codes-share y.place S x y.id) (λ R. codes-share-others R x ys)

      codes-share-types : (S : Sig N) (xs : List (LongName P)) → RefusesBy D (share_types scope S xs)
      unfolding RefusesBy
      codes-share-types S [] = tt
      codes-share-types S (x ∷ xs) = refuses-then D _ _ (codes-need-names S (x ∷ xs)) (λ a. codes-share-others S x.id xs)

      codes-need-structures : (S : Sig N) (xs : List (LongName P)) → RefusesBy D (need_structures scope S xs)
      unfolding need_structures RefusesBy
      codes-need-structures S [] = tt
      codes-need-structures S (x ∷ xs) =
          refuses-then D _ _ (refuses-look D N _ (code-need D E3 x.place x.id (structure_at S.body x.id) (inside E3 refl) (inside E3 refl))) (λ E. codes-need-structures S xs)

      codes-share-paths : (p : P) (S : Sig N) (x y : LongId) (qs : Map LongId) → RefusesBy D (share_paths scope p S x y qs)
      unfolding share_paths RefusesBy
      codes-share-paths p S x y [] = tt
      codes-share-paths p S x y (q ∷ qs) =
          refuses-cond D (is_some (function_at S (inside_path y q.1))) _ _ (refuses-then D _ _ (codes-share p S (inside_path x q.1) (inside_path y q.1)) (λ R. codes-share-paths p R x y qs)) (codes-share-paths p S x y qs)

      codes-share-with : (S : Sig N) (x : LongId) (ys : List (LongName P)) → RefusesBy D (share_with scope S x ys)
      unfolding share_with RefusesBy
      codes-share-with S x [] = tt
      codes-share-with S x (y ∷ ys) = refuses-then D _ _ (codes-share-paths y.place S x y.id (common_paths (structure_at S.body x))) (λ R. codes-share-with R x ys)

      codes-share-pairs : (S : Sig N) (xs : List (LongName P)) → RefusesBy D (share_pairs scope S xs)
      unfolding share_pairs RefusesBy
      codes-share-pairs S [] = tt
      codes-share-pairs S (x ∷ xs) = refuses-then D _ _ (codes-share-with S x.id xs) (λ R. codes-share-pairs R xs)

      codes-share-structures : (S : Sig N) (xs : List (LongName P)) → RefusesBy D (share_structures scope S xs)
      codes-share-structures S xs = refuses-then D _ _ (codes-need-structures S xs) (λ a. codes-share-pairs S xs)

      codes-realise : (C : Env N) (S : Sig N) (w : WhereType P) (n : N) (φ : Realisation N) → RefusesBy D (realise_name scope C S w n φ)
      unfolding RefusesBy
      codes-realise C S w n φ = refuses-then D _ _ (inside N5 refl, tt) (λ a. refuses-then D _ _ (inside E7 refl, tt) (λ b. tt))

      codes-where : (C : Env N) (S : Sig N) (w : WhereType P) → RefusesBy D (read_where scope C S w)
      unfolding RefusesBy
      codes-where C S w =
          refuses-then D _ _ (refuses-look D N _ (code-need D E2 w.constructor.place w.constructor.id (type_at S.body w.constructor.id) (inside E2 refl) (inside E3 refl))) (λ t.
          refuses-then D _ _ (refuses-look D N _ (codes-ty D type-in C _ w.ty)) (λ u. refuses-then D _ _ (inside E4 refl, tt) (λ a.
          refuses-then D _ _ (codes-name w.constructor.place (bound_name scope S.names t.function)) (λ n. refuses-then D _ _ (inside N4 refl, tt) (λ b. codes-realise C S w n _)))))

      -- values and exceptions
      codes-values : (C : Env N) (ds : List (ValDesc P)) (m : Map (Value N)) → CodeOf D (read_values C m ds)
      unfolding read_values
      codes-values C [] m = tt
      codes-values C (d ∷ ds) m = code-then D _ _ (codes-ty D type-in C _ d.ty) (λ t. codes-values C ds _)

      codes-exceptions : (C : Env N) (cs : List (ConBind P)) (m : Map (Value N)) → CodeOf D (read_exceptions scope C m cs)
      unfolding read_exceptions
      codes-exceptions C [] m = tt
      codes-exceptions C (c ∷ cs) m = code-then D _ _ (codes-argument D type-in C [] c.argument) (λ a. codes-exceptions C cs _)

      codes-types : (p : P) (e : Bool) (ds : List (TypDesc P)) → RefusesBy D (read_types scope p e ds)
      unfolding RefusesBy
      codes-types p e ds = refuses-then D _ _ (λ ns. tt) (λ ns. refuses-then D _ _ (inside E7 refl, tt) (λ a. tt))

      codes-made : (p : P) (C : Env N) (ds : List (DatBind P)) → RefusesBy D (read_datatypes scope p C ds)
      unfolding RefusesBy
      codes-made p C ds = ((λ ns. codes-datatypes D type-in C ds ns), λ ns gs. refuses-then D _ _ (inside E7 refl, tt) (λ a. tt))

      codes-add : (p : P) (S R : Sig N) → RefusesBy D (add scope p S R)
      unfolding RefusesBy
      codes-add p S R = refuses-then D _ _ (inside N2 refl, tt) (λ a. tt)

      codes-named : (p : P) (x : Id) (o : Option (Sig N)) → RefusesBy D (named scope p x o)
      unfolding RefusesBy
      codes-named p x None = inside N1 refl
      codes-named p x (Some S) = codes-renewed D P scope S

      module _ (G : Map (Sig N)) where
        mutual
          unfolding read_sig RefusesBy

          pub codes-sig : (C : Env N) (e : SigExp P) → RefusesBy D (read_sig scope G C e)
          codes-sig C (sig_end p qs) = codes-specs C (no_names empty) qs
          codes-sig C (sig_name p x) = codes-named p x (lookup x G)
          codes-sig C (where_type p e w) = refuses-then D _ _ (codes-sig C e) (λ S. codes-where C S w)

          codes-specs : (C : Env N) (S : Sig N) (qs : Specs P) → RefusesBy D (read_specs scope G C S qs)
          codes-specs C S no_spec = tt
          codes-specs C S (and_spec q qs) = refuses-then D _ _ (codes-spec C S q) (λ R. codes-specs C R qs)

          codes-spec : (C : Env N) (S : Sig N) (q : Spec P) → RefusesBy D (read_spec scope G C S q)
          codes-spec C S (val_spec p ds) =
              refuses-then D _ _ (refuses-look D N _ (codes-values (extend C S.body) ds [])) (λ m. refuses-then D _ _ (inside E7 refl, tt) (λ a. codes-add p S (no_names (of_values m))))
          codes-spec C S (type_spec p ds) = refuses-then D _ _ (codes-types p false ds) (λ R. codes-add p S R)
          codes-spec C S (eqtype_spec p ds) = refuses-then D _ _ (codes-types p true ds) (λ R. codes-add p S R)
          codes-spec C S (datatype_spec p ds) = refuses-then D _ _ (codes-made p (extend C S.body) ds) (λ R. codes-add p S R)
          codes-spec C S (copy_spec p x c) =
              refuses-then D _ _ (refuses-look D N _ (code-need D E2 c.place c.id (type_at (extend C S.body) c.id) (inside E2 refl) (inside E3 refl))) (λ t. codes-add p S (no_names (maps no_structure ((x.id, t) ∷ []) (constructor_values t.constructors))))
          codes-spec C S (exception_spec p cs) =
              refuses-then D _ _ (refuses-look D N _ (codes-exceptions (extend C S.body) cs [])) (λ m. refuses-then D _ _ (inside E7 refl, tt) (λ a. codes-add p S (no_names (of_values m))))
          codes-spec C S (structure_spec p ds) = refuses-then D _ _ (codes-descs (extend C S.body) (no_names empty) ds) (λ R. codes-add p S R)
          codes-spec C S (include_spec p e) = refuses-then D _ _ (codes-sig (extend C S.body) e) (λ R. codes-add p S R)
          codes-spec C S (sharing_types p xs) = codes-share-types S xs
          codes-spec C S (sharing_structures p xs) = codes-share-structures S xs

          codes-descs : (C : Env N) (S : Sig N) (ds : StrDescs P) → RefusesBy D (read_descs scope G C S ds)
          codes-descs C S no_str_desc = tt
          codes-descs C S (and_str_desc (str_desc x e) ds) = refuses-then D _ _ (codes-sig C e) (λ R. codes-descs C (record { names = S.names ++ R.names; body = maps (put_structure x.id R.body (structures S.body)) [] [] }) ds)

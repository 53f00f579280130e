-- Signature expressions ask nothing of unknown types.
use Rattle.std.specs.Prelude.{Bool, true, false, cond, List, [], ◌∷◌, ◌++◌, Option, Some, None, is_some}
use Rattle.sml_tree.specs.Trees.{Id, LongId}
use Rattle.sml_tree.specs.Names.{LongName}
use Rattle.sml_tree.specs.Expressions.{DatBind}
use Rattle.sml_tree.specs.Signatures.{WhereType, TypDesc, SigExp, Spec, Specs, StrDescs, sig_end, sig_name, where_type, val_spec, type_spec, eqtype_spec, datatype_spec, copy_spec, exception_spec, structure_spec, include_spec, sharing_types, sharing_structures, no_spec, and_spec, str_desc, no_str_desc, and_str_desc}
use Rattle.sml_objects.specs.Maps.{Map, lookup}
use Rattle.sml_rules.specs.Answers.{Answer, refused, accepted}
use Rattle.sml_core_rules.specs.Objects.{Env, Sig, empty, extend, maps, no_structure, of_values, put_structure, structures}
use Rattle.sml_core_rules.specs.Datatypes.{constructor_values}
use Rattle.sml_core_rules.specs.Lookups.{structure_at}
use Rattle.sml_core_rules.specs.States.{Scope}
use Rattle.sml_core_rules.specs.Scripts.{Script, look}
use Rattle.sml_core_rules.proofs.Plain.{IsPlain, plain-bind}
use Rattle.sml_module_rules.specs.Bound.{inside, function_at, name_at, common_paths, bound_name}
use Rattle.sml_module_rules.specs.Matching.{renewed_signature}
use Rattle.sml_module_rules.specs.Realising.{is_same_name}
use Rattle.sml_module_rules.specs.Signatures.{need_name, join, share_named, share, need_names, share_others, share_types, need_structures, share_paths, share_with, share_pairs, share_structures, realise_name, read_where, read_types, read_datatypes, add, named, no_names, read_sig, read_specs, read_spec, read_descs}

pub plain-look : {P X : Type 0} (N : Type 0) (a : Answer P X) → IsPlain (look {N = N} a)
unfolding IsPlain
plain-look N (refused f) = tt
plain-look N (accepted x) = tt

pub plain-renewed : (P : Type 0) {N : Type 0} (scope : Scope N) (S : Sig N) → IsPlain (renewed_signature {P = P} scope S)
unfolding IsPlain
plain-renewed P scope S = plain-bind _ _ (λ ns. tt) (λ ns. tt)

module _ {P N : Type 0} where
  plain-cond : {X : Type 0} (b : Bool) (k j : Script P N X) → IsPlain k → IsPlain j → IsPlain (cond b k j)
  plain-cond true k j h g = h
  plain-cond false k j h g = g

  module _ (scope : Scope N) where
    plain-name : (p : P) (o : Option N) → IsPlain (need_name scope p o)
    unfolding IsPlain
    plain-name p (Some n) = tt
    plain-name p None = tt

    plain-join : (p : P) (S : Sig N) (n m : N) → IsPlain (join scope p S n m)
    unfolding IsPlain
    plain-join p S n m = plain-cond (is_same_name scope.names n m) _ _ tt (plain-bind _ _ tt (λ a. plain-bind _ _ (λ ks. tt) (λ ks. plain-bind _ _ tt (λ b. tt))))

    plain-share-named : (p : P) (S : Sig N) (x y : LongId) (o q : Option N) → IsPlain (share_named scope p S x y o q)
    unfolding IsPlain
    plain-share-named p S x y (Some n) (Some m) = plain-join p S n m
    plain-share-named p S x y (Some n) None = plain-bind _ _ tt (λ a. tt)
    plain-share-named p S x y None m = plain-bind _ _ tt (λ a. tt)

    plain-share : (p : P) (S : Sig N) (x y : LongId) → IsPlain (share scope p S x y)
    plain-share p S x y = plain-share-named p S x y (name_at scope S x) (name_at scope S y)

    plain-need-names : (S : Sig N) (xs : List (LongName P)) → IsPlain (need_names scope S xs)
    unfolding need_names IsPlain
    plain-need-names S [] = tt
    plain-need-names S (x ∷ xs) = plain-bind _ _ (plain-look N _) (λ t. plain-bind _ _ (plain-name x.place (bound_name scope S.names t.function)) (λ n. plain-need-names S xs))

    plain-share-others : (S : Sig N) (x : LongId) (ys : List (LongName P)) → IsPlain (share_others scope S x ys)
    unfolding share_others IsPlain
    plain-share-others S x [] = tt
    plain-share-others S x (y ∷ ys) = plain-bind _ _ (plain-share y.place S x y.id) (λ R. plain-share-others R x ys)

    plain-share-types : (S : Sig N) (xs : List (LongName P)) → IsPlain (share_types scope S xs)
    unfolding IsPlain
    plain-share-types S [] = tt
    plain-share-types S (x ∷ xs) = plain-bind _ _ (plain-need-names S (x ∷ xs)) (λ a. plain-share-others S x.id xs)

    plain-need-structures : (S : Sig N) (xs : List (LongName P)) → IsPlain (need_structures scope S xs)
    unfolding need_structures IsPlain
    plain-need-structures S [] = tt
    plain-need-structures S (x ∷ xs) = plain-bind _ _ (plain-look N _) (λ E. plain-need-structures S xs)

    plain-share-paths : (p : P) (S : Sig N) (x y : LongId) (qs : Map LongId) → IsPlain (share_paths scope p S x y qs)
    unfolding share_paths IsPlain
    plain-share-paths p S x y [] = tt
    plain-share-paths p S x y (q ∷ qs) =
        plain-cond (is_some (function_at S (inside y q.1))) _ _ (plain-bind _ _ (plain-share p S (inside x q.1) (inside y q.1)) (λ R. plain-share-paths p R x y qs)) (plain-share-paths p S x y qs)

    plain-share-with : (S : Sig N) (x : LongId) (ys : List (LongName P)) → IsPlain (share_with scope S x ys)
    unfolding share_with IsPlain
    plain-share-with S x [] = tt
    plain-share-with S x (y ∷ ys) = plain-bind _ _ (plain-share-paths y.place S x y.id (common_paths (structure_at S.body x))) (λ R. plain-share-with R x ys)

    plain-share-pairs : (S : Sig N) (xs : List (LongName P)) → IsPlain (share_pairs scope S xs)
    unfolding share_pairs IsPlain
    plain-share-pairs S [] = tt
    plain-share-pairs S (x ∷ xs) = plain-bind _ _ (plain-share-with S x.id xs) (λ R. plain-share-pairs R xs)

    plain-share-structures : (S : Sig N) (xs : List (LongName P)) → IsPlain (share_structures scope S xs)
    plain-share-structures S xs = plain-bind _ _ (plain-need-structures S xs) (λ a. plain-share-pairs S xs)

    plain-realise : (C : Env N) (S : Sig N) (w : WhereType P) (n : N) (φ : _) → IsPlain (realise_name scope C S w n φ)
    unfolding IsPlain
    plain-realise C S w n φ = plain-bind _ _ tt (λ a. plain-bind _ _ tt (λ b. tt))

    plain-where : (C : Env N) (S : Sig N) (w : WhereType P) → IsPlain (read_where scope C S w)
    unfolding IsPlain
    plain-where C S w =
        plain-bind _ _ (plain-look N _) (λ t. plain-bind _ _ (plain-look N _) (λ u. plain-bind _ _ tt (λ a.
        plain-bind _ _ (plain-name w.constructor.place (bound_name scope S.names t.function)) (λ n. plain-bind _ _ tt (λ b. plain-realise C S w n _)))))

    plain-types : (p : P) (e : Bool) (ds : List (TypDesc P)) → IsPlain (read_types scope p e ds)
    unfolding IsPlain
    plain-types p e ds = plain-bind _ _ (λ ns. tt) (λ ns. plain-bind _ _ tt (λ a. tt))

    plain-datatypes : (p : P) (C : Env N) (ds : List (DatBind P)) → IsPlain (read_datatypes scope p C ds)
    unfolding IsPlain
    plain-datatypes p C ds = λ ns gs. plain-bind _ _ tt (λ a. tt)

    plain-add : (p : P) (S R : Sig N) → IsPlain (add scope p S R)
    unfolding IsPlain
    plain-add p S R = plain-bind _ _ tt (λ a. tt)

    plain-named : (p : P) (x : Id) (o : Option (Sig N)) → IsPlain (named scope p x o)
    unfolding IsPlain
    plain-named p x None = tt
    plain-named p x (Some S) = plain-renewed P scope S

    module _ (G : Map (Sig N)) where
      mutual
        unfolding read_sig IsPlain

        pub plain-sig : (C : Env N) (e : SigExp P) → IsPlain (read_sig scope G C e)
        plain-sig C (sig_end p qs) = plain-specs C (no_names empty) qs
        plain-sig C (sig_name p x) = plain-named p x (lookup x G)
        plain-sig C (where_type p e w) = plain-bind _ _ (plain-sig C e) (λ S. plain-where C S w)

        plain-specs : (C : Env N) (S : Sig N) (qs : Specs P) → IsPlain (read_specs scope G C S qs)
        plain-specs C S no_spec = tt
        plain-specs C S (and_spec q qs) = plain-bind _ _ (plain-spec C S q) (λ R. plain-specs C R qs)

        plain-spec : (C : Env N) (S : Sig N) (q : Spec P) → IsPlain (read_spec scope G C S q)
        plain-spec C S (val_spec p ds) = plain-bind _ _ (plain-look N _) (λ m. plain-bind _ _ tt (λ a. plain-add p S (no_names (of_values m))))
        plain-spec C S (type_spec p ds) = plain-bind _ _ (plain-types p false ds) (λ R. plain-add p S R)
        plain-spec C S (eqtype_spec p ds) = plain-bind _ _ (plain-types p true ds) (λ R. plain-add p S R)
        plain-spec C S (datatype_spec p ds) = plain-bind _ _ (plain-datatypes p (extend C S.body) ds) (λ R. plain-add p S R)
        plain-spec C S (copy_spec p x c) = plain-bind _ _ (plain-look N _) (λ t. plain-add p S (no_names (maps no_structure ((x.id, t) ∷ []) (constructor_values t.constructors))))
        plain-spec C S (exception_spec p cs) = plain-bind _ _ (plain-look N _) (λ m. plain-bind _ _ tt (λ a. plain-add p S (no_names (of_values m))))
        plain-spec C S (structure_spec p ds) = plain-bind _ _ (plain-descs (extend C S.body) (no_names empty) ds) (λ R. plain-add p S R)
        plain-spec C S (include_spec p e) = plain-bind _ _ (plain-sig (extend C S.body) e) (λ R. plain-add p S R)
        plain-spec C S (sharing_types p xs) = plain-share-types S xs
        plain-spec C S (sharing_structures p xs) = plain-share-structures S xs

        plain-descs : (C : Env N) (S : Sig N) (ds : StrDescs P) → IsPlain (read_descs scope G C S ds)
        plain-descs C S no_str_desc = tt
        plain-descs C S (and_str_desc (str_desc x e) ds) = plain-bind _ _ (plain-sig C e) (λ R. plain-descs C (record { names = S.names ++ R.names; body = maps (put_structure x.id R.body (structures S.body)) [] [] }) ds)

-- The names that appear in the lines of a basis stand in it.
use Rattle.std.proofs.Common.{◌⊎◌, List, [], ◌∷◌, ◌++◌, map, codes, subst, inl, inr}
use Rattle.std.proofs.lemmas.List.{map-append}
use Rattle.std.specs.List.{flat_map}
use Rattle.sml_tree.specs.Trees.{Id}
use Rattle.sml_objects.specs.Appearance.{Stands, appear_type}
use Rattle.sml_objects.specs.Maps.{Map}
use Rattle.sml_objects.proofs.Standing.{left, right, either}
use Rattle.sml_objects.proofs.StandingObjects.{type-stands}
use Rattle.sml_core_rules.specs.Objects.{Env, Structures, Value, TyStr, Sig, FunSig, Basis, maps, no_structure, and_structure, names_map, names_in, names_structures, names_scheme, names_ty_str, names_env, names_sig, names_fun_sig, names_basis}
use Rattle.sml_module_rules.specs.Lines.{Line, type_lines, value_lines, lines, structure_lines}
use Rattle.sml_text_rules.specs.BasisLines.{BasisLine, of_env, signature_lines, functor_lines, appear_line, appear_basis}

module _ {N : Type 0} (n : N) where
  abbrev pub Within : List N → List N → Type 0
  Within ms ns = Stands n ms → Stands n ns

  -- one of two
  in-both : (a b c d : List N) → Within a c → Within b d → Within (a ++ b) (c ++ d)
  in-both a b c d f g h = go (either n a b h)
    where
      go : Stands n a ⊎ Stands n b → Stands n (c ++ d)
      go (inl k) = left n c d (f k)
      go (inr k) = right n c d (g k)

  map-stands : {X : Type 0} (shown names : X → List N) → ((x : X) → Within (shown x) (names x)) → (m : Map X) → Within (names_map shown m) (names_map names m)
  map-stands shown names f [] h = h
  map-stands shown names f (e ∷ m) h = in-both (shown e.1) (names_map shown m) (names e.1) (names_map names m) (f e.1) (map-stands shown names f m) h

  abbrev pub appear_in : List (BasisLine N) → List N
  appear_in ls = flat_map appear_line ls

  -- two lists of lines
  split : (xs ys : List (BasisLine N)) (c d : List N) → Within (appear_in xs) c → Within (appear_in ys) d → Within (appear_in (xs ++ ys)) (c ++ d)
  split [] ys c d f g h = right n c d (g h)
  split (x ∷ xs) ys c d f g h =
      go (split xs ys c d (λ s. f (right n (appear_line x) (appear_in xs) s)) g) (either n (appear_line x) (appear_in (xs ++ ys)) h)
    where
      go : Within (appear_in (xs ++ ys)) (c ++ d) → Stands n (appear_line x) ⊎ Stands n (appear_in (xs ++ ys)) → Stands n (c ++ d)
      go next (inl k) = left n c d (f (left n (appear_line x) (appear_in xs) k))
      go next (inr k) = next k

  split-env : (xs ys : List (Line (TyStr N) (Value N))) (c d : List N) → Within (appear_in (map of_env xs)) c → Within (appear_in (map of_env ys)) d
      → Within (appear_in (map of_env (xs ++ ys))) (c ++ d)
  split-env xs ys c d f g h = split (map of_env xs) (map of_env ys) c d f g (subst (λ ls. Stands n (appear_in ls)) (map-append of_env xs ys) h)

  types-stand : (p : List Id) (ts : Map (TyStr N)) → Within (appear_in (map of_env (type_lines p ts))) (names_map names_ty_str ts)
  types-stand p [] h = h
  types-stand p (e ∷ ts) h =
      let shown : List N = names_map (λ σ. appear_type σ.body) e.1.constructors in
      in-both (appear_type e.1.function.body ++ shown) (appear_in (map of_env (type_lines p ts))) (names_ty_str e.1) (names_map names_ty_str ts)
      (in-both (appear_type e.1.function.body) shown (names_scheme e.1.function) (names_map names_scheme e.1.constructors)
      (type-stands n e.1.function.body) (map-stands (λ σ. appear_type σ.body) names_scheme (λ σ. type-stands n σ.body) e.1.constructors))
      (types-stand p ts) h

  values-stand : (p : List Id) (vs : Map (Value N)) → Within (appear_in (map of_env (value_lines p vs))) (names_map (λ v. names_scheme v.scheme) vs)
  values-stand p [] h = h
  values-stand p (e ∷ vs) h =
      in-both (appear_type e.1.scheme.body) (appear_in (map of_env (value_lines p vs))) (names_scheme e.1.scheme) (names_map (λ v. names_scheme v.scheme) vs)
      (type-stands n e.1.scheme.body) (values-stand p vs) h

  mutual
    unfolding lines structure_lines names_in names_structures

    env-stands : (p : List Id) (E : Env N) → Within (appear_in (map of_env (lines p E))) (names_env E)
    env-stands p (maps ss ts vs) h =
        split-env (structure_lines p ss) (type_lines p ts ++ value_lines p vs) (names_structures names_ty_str (λ v. names_scheme v.scheme) ss)
        (names_map names_ty_str ts ++ names_map (λ v. names_scheme v.scheme) vs) (structures-stand p ss)
        (split-env (type_lines p ts) (value_lines p vs) (names_map names_ty_str ts) (names_map (λ v. names_scheme v.scheme) vs) (types-stand p ts) (values-stand p vs)) h

    structures-stand : (p : List Id) (ss : Structures (TyStr N) (Value N))
        → Within (appear_in (map of_env (structure_lines p ss))) (names_structures names_ty_str (λ v. names_scheme v.scheme) ss)
    structures-stand p no_structure h = h
    structures-stand p (and_structure s E ss) h =
        split-env (lines (p ++ s ∷ []) E) (structure_lines p ss) (names_env E) (names_structures names_ty_str (λ v. names_scheme v.scheme) ss)
        (env-stands (p ++ s ∷ []) E) (structures-stand p ss) h

  body-stands : (p : List Id) (S : Sig N) → Within (appear_in (map of_env (lines p S.body))) (names_sig S)
  body-stands p S h = right n S.names (names_env S.body) (env-stands p S.body h)

  signatures-stand : (gs : Map (Sig N)) → Within (appear_in (signature_lines gs)) (names_map names_sig gs)
  signatures-stand [] h = h
  signatures-stand (e ∷ gs) h =
      split (map of_env (lines (e.0 ∷ []) e.1.body)) (signature_lines gs) (names_sig e.1) (names_map names_sig gs) (body-stands (e.0 ∷ []) e.1) (signatures-stand gs) h

  functors-stand : (fs : Map (FunSig N)) → Within (appear_in (functor_lines fs)) (names_map names_fun_sig fs)
  functors-stand [] h = h
  functors-stand (e ∷ fs) h =
      let p : List Id = e.0 ∷ codes "arg" ∷ [] in
      let q : List Id = e.0 ∷ codes "res" ∷ [] in
      split (map of_env (lines p e.1.argument.body ++ lines q e.1.result.body)) (functor_lines fs) (names_fun_sig e.1) (names_map names_fun_sig fs)
      (split-env (lines p e.1.argument.body) (lines q e.1.result.body) (names_sig e.1.argument) (names_sig e.1.result) (body-stands p e.1.argument) (body-stands q e.1.result))
      (functors-stand fs) h

  pub basis-stands : (D : Basis N) → Within (appear_basis D) (names_basis D)
  basis-stands D h =
      go (either n (names_env D.body) (names_map names_sig D.signatures ++ names_map names_fun_sig D.functors)
      (split (map of_env (lines [] D.body)) (signature_lines D.signatures ++ functor_lines D.functors) (names_env D.body)
      (names_map names_sig D.signatures ++ names_map names_fun_sig D.functors) (env-stands [] D.body)
      (split (signature_lines D.signatures) (functor_lines D.functors) (names_map names_sig D.signatures) (names_map names_fun_sig D.functors)
      (signatures-stand D.signatures) (functors-stand D.functors)) h))
    where
      fs : List N
      fs = names_map names_fun_sig D.functors

      gs : List N
      gs = names_map names_sig D.signatures

      deep : Stands n (fs ++ (gs ++ names_env D.body)) → Stands n (names_basis D)
      deep k = right n D.names (fs ++ (gs ++ names_env D.body)) k

      last : Stands n gs ⊎ Stands n fs → Stands n (names_basis D)
      last (inl k) = deep (right n fs (gs ++ names_env D.body) (left n gs (names_env D.body) k))
      last (inr k) = deep (left n fs (gs ++ names_env D.body) k)

      go : Stands n (names_env D.body) ⊎ Stands n (gs ++ fs) → Stands n (names_basis D)
      go (inl k) = deep (right n fs (gs ++ names_env D.body) (right n gs (names_env D.body) k))
      go (inr k) = last (either n gs fs k)

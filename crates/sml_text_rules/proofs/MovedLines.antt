-- The lines of what is renamed are the lines with their components renamed.
use Rattle.std.proofs.Common.{◌≡◌, List, [], ◌∷◌, ◌++◌, map, codes, refl, ap, ◌∙◌}
use Rattle.std.specs.List.{flat_map}
use Rattle.sml_tree.specs.Trees.{Id}
use Rattle.sml_objects.specs.Maps.{Map}
use Rattle.sml_objects.proofs.Renaming.{parts-image}
use Rattle.sml_core_rules.specs.Objects.{Env, Structures, Value, TyStr, Sig, FunSig, Basis, maps, no_structure, and_structure, replaced, replace, replace_structures, rename_value, rename_ty_str, rename_env, rename_sig, rename_fun_sig, rename_basis, names_map}
use Rattle.sml_module_rules.specs.Lines.{Line, a_structure, a_type, a_value, at_path, path_of, type_lines, value_lines, lines, structure_lines}
use Rattle.sml_rules.specs.Answers.{dotted}
use Rattle.sml_text_rules.specs.BasisLines.{BasisLine, of_env, of_signature, of_functor, signature_lines, functor_lines, basis_lines, bound_names}
use Rattle.sml_text_rules.specs.Texts.{line_pieces, basis_pieces}
use Rattle.sml_text_rules.proofs.MovedPieces.{move_all, move_component, both, said, component-moved}

module _ {A B : Type 0} (f : A → B) where
  abbrev pub move_line : Line (TyStr A) (Value A) → Line (TyStr B) (Value B)
  move_line l = (l.0, move_component f l.1)

  types-moved : (p : List Id) (ts : Map (TyStr A)) → type_lines p (replaced (rename_ty_str f) ts) ≡ map move_line (type_lines p ts)
  types-moved p [] = refl
  types-moved p (e ∷ ts) = ap (λ ls. (at_path p e.0, a_type (rename_ty_str f e.1)) ∷ ls) (types-moved p ts)

  values-moved : (p : List Id) (vs : Map (Value A)) → value_lines p (replaced (rename_value f) vs) ≡ map move_line (value_lines p vs)
  values-moved p [] = refl
  values-moved p (e ∷ vs) = ap (λ ls. (at_path p e.0, a_value (rename_value f e.1)) ∷ ls) (values-moved p vs)

  mutual
    unfolding lines structure_lines replace replace_structures

    pub lines-moved : (p : List Id) (E : Env A) → lines p (rename_env f E) ≡ map move_line (lines p E)
    lines-moved p (maps ss ts vs) =
        parts-image move_line (structure_lines p ss) (type_lines p ts ++ value_lines p vs) _ _ (structures-moved p ss)
        (parts-image move_line (type_lines p ts) (value_lines p vs) _ _ (types-moved p ts) (values-moved p vs))

    structures-moved : (p : List Id) (ss : Structures (TyStr A) (Value A))
        → structure_lines p (replace_structures (rename_ty_str f) (rename_value f) ss) ≡ map move_line (structure_lines p ss)
    structures-moved p no_structure = refl
    structures-moved p (and_structure s E ss) =
        ap (λ ls. (at_path p s, a_structure) ∷ ls)
        (parts-image move_line (lines (p ++ s ∷ []) E) (structure_lines p ss) _ _ (lines-moved (p ++ s ∷ []) E) (structures-moved p ss))

  -- the lines of a basis

  abbrev pub move_basis_line : BasisLine A → BasisLine B
  move_basis_line (of_env l) = of_env (move_line l)
  move_basis_line (of_signature x) = of_signature x
  move_basis_line (of_functor x) = of_functor x

  of-env-moved : (ls : List (Line (TyStr A) (Value A))) → map of_env (map move_line ls) ≡ map move_basis_line (map of_env ls)
  of-env-moved [] = refl
  of-env-moved (l ∷ ls) = ap (λ ms. of_env (move_line l) ∷ ms) (of-env-moved ls)

  env-moved : (p : List Id) (E : Env A) → map of_env (lines p (rename_env f E)) ≡ map move_basis_line (map of_env (lines p E))
  env-moved p E = ap (map of_env) (lines-moved p E) ∙ of-env-moved (lines p E)

  signatures-moved : (gs : Map (Sig A)) → signature_lines (replaced (rename_sig f) gs) ≡ map move_basis_line (signature_lines gs)
  signatures-moved [] = refl
  signatures-moved (e ∷ gs) =
      ap (λ ls. of_signature e.0 ∷ ls)
      (parts-image move_basis_line (map of_env (lines (e.0 ∷ []) e.1.body)) (signature_lines gs) _ _ (env-moved (e.0 ∷ []) e.1.body) (signatures-moved gs))

  functors-moved : (fs : Map (FunSig A)) → functor_lines (replaced (rename_fun_sig f) fs) ≡ map move_basis_line (functor_lines fs)
  functors-moved [] = refl
  functors-moved (e ∷ fs) =
      let p : List Id = e.0 ∷ codes "arg" ∷ [] in
      let q : List Id = e.0 ∷ codes "res" ∷ [] in
      let ls : List (Line (TyStr A) (Value A)) = lines p e.1.argument.body in
      let ms : List (Line (TyStr A) (Value A)) = lines q e.1.result.body in
      ap (λ ls. of_functor e.0 ∷ ls)
      (parts-image move_basis_line (map of_env (ls ++ ms)) (functor_lines fs) _ _
      (ap (map of_env) (parts-image move_line ls ms _ _ (lines-moved p e.1.argument.body) (lines-moved q e.1.result.body)) ∙ of-env-moved (ls ++ ms))
      (functors-moved fs))

  pub basis-lines-moved : (D : Basis A) → basis_lines (rename_basis f D) ≡ map move_basis_line (basis_lines D)
  basis-lines-moved D =
      parts-image move_basis_line (map of_env (lines [] D.body)) (signature_lines D.signatures ++ functor_lines D.functors) _ _ (env-moved [] D.body)
      (parts-image move_basis_line (signature_lines D.signatures) (functor_lines D.functors) _ _ (signatures-moved D.signatures) (functors-moved D.functors))

  -- their pieces

  line-moved : (l : BasisLine A) → line_pieces (move_basis_line l) ≡ move_all f (line_pieces l)
  line-moved (of_env l) = component-moved f (dotted (path_of l.0)) l.1
  line-moved (of_signature x) = said f (codes "  signature " ++ (x ++ codes "\n"))
  line-moved (of_functor x) = said f (codes "  functor " ++ (x ++ codes "\n"))

  all-moved : (ls : List (BasisLine A)) → flat_map line_pieces (map move_basis_line ls) ≡ move_all f (flat_map line_pieces ls)
  all-moved [] = refl
  all-moved (l ∷ ls) = both f (line_pieces l) (flat_map line_pieces ls) _ _ (line-moved l) (all-moved ls)

  pub pieces-moved : (D : Basis A) → basis_pieces (rename_basis f D) ≡ move_all f (basis_pieces D)
  pieces-moved D = ap (flat_map line_pieces) (basis-lines-moved D) ∙ all-moved (basis_lines D)

  -- the names that are bound

  pub map-names : {X Y : Type 0} (r : X → Y) (names : X → List A) (names' : Y → List B) → ((x : X) → names' (r x) ≡ map f (names x))
      → (m : Map X) → names_map names' (replaced r m) ≡ map f (names_map names m)
  map-names r names names' h [] = refl
  map-names r names names' h (e ∷ m) = parts-image f (names e.1) (names_map names m) _ _ (h e.1) (map-names r names names' h m)

  pub bound-moved : (D : Basis A) → bound_names (rename_basis f D) ≡ map f (bound_names D)
  bound-moved D =
      parts-image f (names_map (λ S. S.names) D.signatures) (names_map (λ F. F.argument.names ++ F.result.names) D.functors) _ _
      (map-names (rename_sig f) (λ S. S.names) (λ S. S.names) (λ S. refl) D.signatures)
      (map-names (rename_fun_sig f) (λ F. F.argument.names ++ F.result.names) (λ F. F.argument.names ++ F.result.names)
      (λ F. parts-image f F.argument.names F.result.names _ _ refl refl) D.functors)

-- The pieces of what is renamed are the pieces with their names replaced.
use Rattle.std.proofs.Common.{◌≡◌, ℕ, suc, zero, ◌+◌, Bool, true, false, cond, nat_lt, List, [], ◌∷◌, ◌++◌, length, map, codes, refl, ap, ◌∙◌}
use Rattle.std.specs.Prelude.{slice_index_or}
use Rattle.std.specs.List.{flat_map}
use Rattle.sml_tree.specs.Trees.{Id}
use Rattle.sml_objects.specs.Maps.{Map}
use Rattle.sml_objects.specs.Objects.{Head, MlType, MlTypes, Scheme, arrow, row, name, bound, free, app, no_type, and_type, rename_head, rename_type, rename_types, rename_scheme}
use Rattle.sml_objects.specs.Types.{replace_type, replace_types, instance_from, variables_after, variables_after_all, index_among}
use Rattle.sml_objects.proofs.Renaming.{parts-image}
use Rattle.sml_texts.specs.Text as T
use Rattle.sml_texts.specs.Text.{Piece, byte, a_name, say, variable, joined, bracketed}
use Rattle.sml_core_rules.specs.Objects.{Value, TyStr, replaced, rename_value, rename_ty_str}
use Rattle.sml_module_rules.specs.Lines.{Component, a_structure, a_type, a_value}
use Rattle.sml_text_rules.specs.Texts.{is_tuple, fields, row_pieces, head_pieces, part_levels, type_pieces, types_pieces, variable_name, scheme_pieces, variables_from, parameters, type_word, value_word, typed_line, component_pieces}

module _ {A B : Type 0} (f : A → B) where
  abbrev pub move : Piece A → Piece B
  move (byte b) = byte b
  move (a_name n) = a_name (f n)

  abbrev pub move_all : List (Piece A) → List (Piece B)
  move_all ps = map move ps

  -- two parts
  pub both : (xs ys : List (Piece A)) (us vs : List (Piece B)) → us ≡ move_all xs → vs ≡ move_all ys → us ++ vs ≡ move_all (xs ++ ys)
  both xs ys us vs h k = parts-image move xs ys us vs h k

  choice : (b : Bool) (xs ys : List (Piece A)) (us vs : List (Piece B)) → us ≡ move_all xs → vs ≡ move_all ys → cond b us vs ≡ move_all (cond b xs ys)
  choice true xs ys us vs h k = h
  choice false xs ys us vs h k = k

  pub said : (bs : List ℕ) → say bs ≡ move_all (say bs)
  unfolding say
  said [] = refl
  said (b ∷ bs) = ap (λ ps. byte b ∷ ps) (said bs)

  joined-moved : (bs : List ℕ) (ps : List (List (Piece A))) → joined bs (map move_all ps) ≡ move_all (joined bs ps)
  unfolding joined
  joined-moved bs [] = refl
  joined-moved bs (x ∷ []) = refl
  joined-moved bs (x ∷ y ∷ ys) =
      both x (say bs ++ joined bs (y ∷ ys)) _ _ refl (both (say bs) (joined bs (y ∷ ys)) _ _ (said bs) (joined-moved bs (y ∷ ys)))

  bracketed-moved : (b : Bool) (xs : List (Piece A)) (us : List (Piece B)) → us ≡ move_all xs → bracketed b us ≡ move_all (bracketed b xs)
  unfolding bracketed
  bracketed-moved b xs us h =
      choice b (say (codes "(") ++ (xs ++ say (codes ")"))) xs _ _
      (both (say (codes "(")) (xs ++ say (codes ")")) _ _ (said (codes "(")) (both xs (say (codes ")")) _ _ h (said (codes ")")))) h

  last-name : (n : A) (xs : List (Piece A)) (us : List (Piece B)) → us ≡ move_all xs
      → us ++ (say (codes " ") ++ a_name (f n) ∷ []) ≡ move_all (xs ++ (say (codes " ") ++ a_name n ∷ []))
  last-name n xs us h = both xs (say (codes " ") ++ a_name n ∷ []) _ _ h (both (say (codes " ")) (a_name n ∷ []) _ _ (said (codes " ")) refl)

  shown-moved : (level : ℕ) (h : Head A) (ps : List (List (Piece A))) → T.show_head level (rename_head f h) (map move_all ps) ≡ move_all (T.show_head level h ps)
  unfolding T.show_head
  shown-moved level arrow ps = bracketed-moved (nat_lt 0 level) (joined (codes " -> ") ps) _ (joined-moved (codes " -> ") ps)
  shown-moved level (row ls) [] = said (codes "unit")
  shown-moved level (row ls) (p ∷ ps) = bracketed-moved (nat_lt 1 level) (joined (codes " * ") (p ∷ ps)) _ (joined-moved (codes " * ") (p ∷ ps))
  shown-moved level (name n) [] = refl
  shown-moved level (name n) (p ∷ []) = last-name n p _ refl
  shown-moved level (name n) (p ∷ q ∷ ps) =
      last-name n (bracketed true (joined (codes ", ") (p ∷ q ∷ ps))) _
      (bracketed-moved true (joined (codes ", ") (p ∷ q ∷ ps)) _ (joined-moved (codes ", ") (p ∷ q ∷ ps)))

  fields-moved : (ls : List Id) (ps : List (List (Piece A))) → fields ls (map move_all ps) ≡ map move_all (fields ls ps)
  fields-moved [] ps = refl
  fields-moved (l ∷ ls) [] = refl
  fields-moved (l ∷ ls) (p ∷ ps) = λ i. both (say (l ++ codes " : ")) p _ _ (said (l ++ codes " : ")) refl i ∷ fields-moved ls ps i

  row-moved : (level : ℕ) (ls : List Id) (ps : List (List (Piece A))) → row_pieces level ls (map move_all ps) ≡ move_all (row_pieces level ls ps)
  row-moved level [] ps = said (codes "unit")
  row-moved level (l ∷ ls) ps =
      choice (is_tuple (l ∷ ls)) _ (say (codes "{") ++ (joined (codes ", ") (fields (l ∷ ls) ps) ++ say (codes "}"))) _ _
      (bracketed-moved (nat_lt 1 level) (joined (codes " * ") ps) _ (joined-moved (codes " * ") ps))
      (both (say (codes "{")) (joined (codes ", ") (fields (l ∷ ls) ps) ++ say (codes "}")) _ _ (said (codes "{"))
      (both (joined (codes ", ") (fields (l ∷ ls) ps)) (say (codes "}")) _ _
      (ap (joined (codes ", ")) (fields-moved (l ∷ ls) ps) ∙ joined-moved (codes ", ") (fields (l ∷ ls) ps)) (said (codes "}"))))

  head-moved : (level : ℕ) (h : Head A) (ps : List (List (Piece A))) → head_pieces level (rename_head f h) (map move_all ps) ≡ move_all (head_pieces level h ps)
  head-moved level arrow ps = shown-moved level arrow ps
  head-moved level (row ls) ps = row-moved level ls ps
  head-moved level (name n) ps = shown-moved level (name n) ps

  levels-kept : (h : Head A) (ts : MlTypes A) → part_levels (rename_head f h) (rename_types f ts) ≡ part_levels h ts
  unfolding T.levels rename_types
  levels-kept arrow ts = refl
  levels-kept (row ls) ts = refl
  levels-kept (name n) no_type = refl
  levels-kept (name n) (and_type t no_type) = refl
  levels-kept (name n) (and_type t (and_type u us)) = refl

  mutual
    unfolding type_pieces types_pieces rename_type rename_types

    pub type-moved : (v : ℕ → List ℕ) (level : ℕ) (t : MlType A) → type_pieces v level (rename_type f t) ≡ move_all (type_pieces v level t)
    type-moved v level (bound k) = said (v k)
    type-moved v level (free k) = said (codes "_")
    type-moved v level (app h ts) =
        ap (λ l. head_pieces level (rename_head f h) (types_pieces v l.0 l.1 (rename_types f ts))) (levels-kept h ts)
        ∙ ap (head_pieces level (rename_head f h)) (types-moved v (part_levels h ts).0 (part_levels h ts).1 ts)
        ∙ head-moved level h (types_pieces v (part_levels h ts).0 (part_levels h ts).1 ts)

    types-moved : (v : ℕ → List ℕ) (first others : ℕ) (ts : MlTypes A) → types_pieces v first others (rename_types f ts) ≡ map move_all (types_pieces v first others ts)
    types-moved v first others no_type = refl
    types-moved v first others (and_type t ts) = λ i. type-moved v first t i ∷ types-moved v others others ts i

  mutual
    unfolding replace_type replace_types variables_after variables_after_all rename_type rename_types

    variables-kept : (seen : List ℕ) (t : MlType A) → variables_after seen (instance_from 0 (rename_type f t)) ≡ variables_after seen (instance_from 0 t)
    variables-kept seen (bound k) = refl
    variables-kept seen (free v) = refl
    variables-kept seen (app h ts) = all-variables-kept seen ts

    all-variables-kept : (seen : List ℕ) (ts : MlTypes A)
        → variables_after_all seen (replace_types (λ j. free (0 + j)) free (rename_types f ts)) ≡ variables_after_all seen (replace_types (λ j. free (0 + j)) free ts)
    all-variables-kept seen no_type = refl
    all-variables-kept seen (and_type t ts) =
        ap (λ s. variables_after_all s (replace_types (λ j. free (0 + j)) free (rename_types f ts))) (variables-kept seen t)
        ∙ all-variables-kept (variables_after seen (instance_from 0 t)) ts

  scheme-moved : (σ : Scheme A) → scheme_pieces (rename_scheme f σ) ≡ move_all (scheme_pieces σ)
  unfolding rename_scheme
  scheme-moved σ =
      ap (λ vs. type_pieces (λ k. variable_name (slice_index_or σ.variables k false) (index_among k vs)) 0 (rename_type f σ.body)) (variables-kept [] σ.body)
      ∙ type-moved (λ k. variable_name (slice_index_or σ.variables k false) (index_among k (variables_after [] (instance_from 0 σ.body)))) 0 σ.body

  typed-moved : (front : List ℕ) (σ : Scheme A) → typed_line front (rename_scheme f σ) ≡ move_all (typed_line front σ)
  typed-moved front σ =
      both (say (front ++ codes " : ")) (scheme_pieces σ ++ say (codes "\n")) _ _ (said (front ++ codes " : "))
      (both (scheme_pieces σ) (say (codes "\n")) _ _ (scheme-moved σ) (said (codes "\n")))

  variables-moved : (k n : ℕ) → variables_from k n ≡ map move_all (variables_from k n)
  variables-moved k zero = refl
  variables-moved k (suc n) = λ i. said (variable k) i ∷ variables-moved (suc k) n i

  parameters-moved : (n : ℕ) → parameters n ≡ move_all (parameters n)
  parameters-moved n =
      both (bracketed (nat_lt 1 n) (joined (codes ", ") (variables_from 0 n))) (cond (nat_lt 0 n) (say (codes " ")) []) _ _
      (bracketed-moved (nat_lt 1 n) (joined (codes ", ") (variables_from 0 n)) _
      (ap (joined (codes ", ")) (variables-moved 0 n) ∙ joined-moved (codes ", ") (variables_from 0 n)))
      (choice (nat_lt 0 n) (say (codes " ")) [] _ _ (said (codes " ")) refl)

  constructors-moved : (cs : Map (Scheme A))
      → flat_map (λ c. typed_line (codes "  | " ++ c.0) c.1) (replaced (rename_scheme f) cs) ≡ move_all (flat_map (λ c. typed_line (codes "  | " ++ c.0) c.1) cs)
  constructors-moved [] = refl
  constructors-moved (c ∷ cs) =
      both (typed_line (codes "  | " ++ c.0) c.1) (flat_map (λ c. typed_line (codes "  | " ++ c.0) c.1) cs) _ _
      (typed-moved (codes "  | " ++ c.0) c.1) (constructors-moved cs)

  word-kept : (cs : Map (Scheme A)) → type_word (replaced (rename_scheme f) cs) ≡ type_word cs
  word-kept [] = refl
  word-kept (c ∷ cs) = refl

  -- a component of a line

  abbrev pub move_component : Component (TyStr A) (Value A) → Component (TyStr B) (Value B)
  move_component a_structure = a_structure
  move_component (a_type t) = a_type (rename_ty_str f t)
  move_component (a_value v) = a_value (rename_value f v)

  pub component-moved : (path : List ℕ) (c : Component (TyStr A) (Value A)) → component_pieces path (move_component c) ≡ move_all (component_pieces path c)
  unfolding rename_scheme
  component-moved path a_structure = said (codes "  structure " ++ (path ++ codes "\n"))
  component-moved path (a_value v) = typed-moved (value_word v.status ++ path) v.scheme
  component-moved path (a_type t) =
      let cs : List (Piece A) = flat_map (λ c. typed_line (codes "  | " ++ c.0) c.1) t.constructors in
      let body : List (Piece A) = type_pieces variable 0 t.function.body in
      let after : List (Piece A) = body ++ (say (codes "\n") ++ cs) in
      let path_pieces : List (Piece A) = say (path ++ codes " = ") in
      both (say (type_word t.constructors)) (parameters (length t.function.variables) ++ (path_pieces ++ after)) _ _
      (ap say (word-kept t.constructors) ∙ said (type_word t.constructors))
      (both (parameters (length t.function.variables)) (path_pieces ++ after) _ _ (parameters-moved (length t.function.variables))
      (both path_pieces after _ _ (said (path ++ codes " = "))
      (both body (say (codes "\n") ++ cs) _ _ (type-moved variable 0 t.function.body)
      (both (say (codes "\n")) cs _ _ (said (codes "\n")) (constructors-moved t.constructors)))))

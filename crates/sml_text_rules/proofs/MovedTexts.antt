-- Texts don't change when names are renamed.
use Rattle.std.proofs.Common.{◌≡◌, ℕ, suc, Bool, true, false, cond, not, ◌&&◌, nat_eq, List, [], ◌∷◌, ◌++◌, length, map, codes, decimal, Option, Some, None, refl, ap, sym, ◌∙◌}
use Rattle.std.proofs.lemmas.List.{map-append, length-map}
use Rattle.std.specs.Option.{option_map}
use Rattle.std.specs.List.{flat_map}
use Rattle.sml_tree.specs.Trees.{Id}
use Rattle.sml_objects.specs.Alike.{Renaming}
use Rattle.sml_objects.specs.Canonical.{index_of}
use Rattle.sml_objects.specs.Names.{Naming, Initial, int, word, char, string, bool, exn, real, list, ref}
use Rattle.sml_objects.specs.Objects.{MlType, MlTypes, Scheme, arrow, row, name, bound, free, app, no_type, and_type, rename_type, rename_types, rename_scheme}
use Rattle.sml_objects.proofs.Exchanges.{one_to_one}
use Rattle.sml_objects.proofs.Standing.{stands-map, place-map}
use Rattle.sml_rules.specs.Answers.{refused, accepted, dotted}
use Rattle.sml_texts.specs.Text.{Piece, byte, a_name, initial_text, initial_among, warning_text}
use Rattle.sml_core_rules.specs.Objects.{Env, Value, TyStr, Basis, rename_env, rename_basis}
use Rattle.sml_core_rules.specs.Types.{count_types}
use Rattle.sml_module_rules.specs.Bound.{is_of}
use Rattle.sml_module_rules.specs.Lines.{Line, a_structure, a_type, a_value, lines, path_of}
use Rattle.sml_core_rules.specs.Functions.{are_parameters, named_type, name_of}
use Rattle.sml_text_rules.specs.BasisLines.{bound_names}
use Rattle.sml_text_rules.specs.Paths.{is_initial_path, least, paths_among, path_in}
use Rattle.sml_text_rules.specs.Texts.{Answered, mark, numbered, spell, basis_pieces, lines_text, no_path, answer_text}
use Rattle.sml_text_rules.specs.Statements.{rename_answered, TextsMove}
use Rattle.sml_text_rules.proofs.MovedPieces.{move_all}
use Rattle.sml_text_rules.proofs.MovedLines.{move_line, lines-moved, pieces-moved, bound-moved}

module _ {N : Type 0} (names : Naming N) (f : Renaming names) where
  one : (m n : N) → f.to m ≡ f.to n → m ≡ n
  one m n h = one_to_one names f m n h

  initial-kept : (ks : List Initial) (n : N) → initial_among names ks (f.to n) ≡ initial_among names ks n
  unfolding initial_among
  initial-kept [] n = refl
  initial-kept (k ∷ ks) n = go (names.same (names.initial k) (f.to n)) (names.same (names.initial k) n) (initial-kept ks n)
    where
      go : (d : Dec (names.initial k ≡ f.to n)) (e : Dec (names.initial k ≡ n)) → initial_among names ks (f.to n) ≡ initial_among names ks n
          → ◌≡◌ {A = Option Initial} (elim d [ yes _ ↦ Some k | no _ ↦ initial_among names ks (f.to n) ]) (elim e [ yes _ ↦ Some k | no _ ↦ initial_among names ks n ])
      go (yes d) (yes e) next = refl
      go (yes d) (no e) next = absurd (e (one (names.initial k) n (f.initial k ∙ d)))
      go (no d) (yes e) next = absurd (d (sym (f.initial k) ∙ ap f.to e))
      go (no d) (no e) next = next

  -- spelling

  module _ (path other : N → Option (List Id)) (same-paths : (n : N) → other (f.to n) ≡ path n) (held : List N) where
    numbered-kept : (n : N) (k : ℕ) → numbered names other (map f.to held) (f.to n) k ≡ numbered names path held n k
    numbered-kept n k = λ i. mark (stands-map names f.to one n held i) (sym (f.keeps n) i).equality ++ decimal (suc k)

    next : N → List N → List N
    next n seen = cond (nat_eq (index_of names n seen) (length seen)) (seen ++ n ∷ []) seen

    pushed : (b : Bool) (n : N) (seen : List N) → cond b (map f.to seen ++ f.to n ∷ []) (map f.to seen) ≡ map f.to (cond b (seen ++ n ∷ []) seen)
    pushed true n seen = sym (map-append f.to seen (n ∷ []))
    pushed false n seen = refl

    next-moved : (n : N) (seen : List N) → next (f.to n) (map f.to seen) ≡ map f.to (next n seen)
    unfolding next
    next-moved n seen =
        (λ i. cond (nat_eq (place-map names f.to one n seen i) (length-map seen f.to i)) (map f.to seen ++ f.to n ∷ []) (map f.to seen))
        ∙ pushed (nat_eq (index_of names n seen) (length seen)) n seen

    pub spelt-alike : (seen : List N) (ps : List (Piece N)) → spell names other (map f.to held) (map f.to seen) (move_all f.to ps) ≡ spell names path held seen ps
    unfolding spell next
    spelt-alike seen [] = refl
    spelt-alike seen (byte b ∷ ps) = ap (λ t. b ∷ t) (spelt-alike seen ps)
    spelt-alike seen (a_name n ∷ ps) =
        (λ i. elim (initial-kept (int ∷ word ∷ char ∷ string ∷ bool ∷ exn ∷ real ∷ list ∷ ref ∷ []) n i) [
          | Some k ↦ initial_text k ++ spelt-alike seen ps i
          | None ↦ elim (same-paths n i) [
            | Some p ↦ dotted p ++ spelt-alike seen ps i
            | None ↦ (numbered-kept n (index_of names (f.to n) (map f.to seen)) ∙ ap (numbered names path held n) (place-map names f.to one n seen)) i
                ++ (ap (λ s. spell names other (map f.to held) s (move_all f.to ps)) (next-moved n seen) ∙ spelt-alike (next n seen) ps) i
          ]
        ])

  pub text-kept : (path other : N → Option (List Id)) → ((n : N) → other (f.to n) ≡ path n)
      → (A : Basis N) → lines_text names other (rename_basis f.to A) ≡ lines_text names path A
  text-kept path other h A =
      (λ i. spell names other (bound-moved f.to A i) [] (pieces-moved f.to A i)) ∙ spelt-alike path other h (bound_names A) [] (basis_pieces A)

  -- paths

  count-kept : (ts : MlTypes N) → count_types (rename_types f.to ts) ≡ count_types ts
  unfolding rename_types
  count-kept no_type = refl
  count-kept (and_type t ts) = ap suc (count-kept ts)

  parameters-kept : (k : ℕ) (ts : MlTypes N) → are_parameters k (rename_types f.to ts) ≡ are_parameters k ts
  unfolding are_parameters rename_type rename_types
  parameters-kept k no_type = refl
  parameters-kept k (and_type (bound j) ts) = ap (λ b. nat_eq j k && b) (parameters-kept (suc k) ts)
  parameters-kept k (and_type (free v) ts) = refl
  parameters-kept k (and_type (app h us) ts) = refl

  named-moved : (k : ℕ) (t : MlType N) → named_type k (rename_type f.to t) ≡ option_map f.to (named_type k t)
  unfolding rename_type
  named-moved k (bound j) = refl
  named-moved k (free v) = refl
  named-moved k (app arrow ts) = refl
  named-moved k (app (row ls) ts) = refl
  named-moved k (app (name n) ts) =
      (λ i. cond (nat_eq (count-kept ts i) k && parameters-kept 0 ts i) (Some (f.to n)) None) ∙ go (nat_eq (count_types ts) k && are_parameters 0 ts)
    where
      go : (b : Bool) → cond b (Some (f.to n)) None ≡ option_map f.to (cond b (Some n) None)
      go true = refl
      go false = refl

  name-moved : (θ : Scheme N) → name_of (rename_scheme f.to θ) ≡ option_map f.to (name_of θ)
  unfolding rename_scheme
  name-moved θ = named-moved (length θ.variables) θ.body

  is-of-kept : (n : N) (o : Option N) → is_of names (f.to n) (option_map f.to o) ≡ is_of names n o
  is-of-kept n None = refl
  is-of-kept n (Some m) = go (names.same (f.to m) (f.to n)) (names.same m n)
    where
      go : (d : Dec (f.to m ≡ f.to n)) (e : Dec (m ≡ n)) → ◌≡◌ {A = Bool} (elim d [ yes _ ↦ true | no _ ↦ false ]) (elim e [ yes _ ↦ true | no _ ↦ false ])
      go (yes d) (yes e) = refl
      go (yes d) (no e) = absurd (e (one m n d))
      go (no d) (yes e) = absurd (d (ap f.to e))
      go (no d) (no e) = refl

  paths-kept : (n : N) (ls : List (Line (TyStr N) (Value N))) → paths_among names (f.to n) (map (move_line f.to) ls) ≡ paths_among names n ls
  paths-kept n [] = refl
  paths-kept n ((x, a_structure) ∷ ls) = paths-kept n ls
  paths-kept n ((x, a_value v) ∷ ls) = paths-kept n ls
  paths-kept n ((x, a_type t) ∷ ls) =
      λ i. cond ((ap (is_of names (f.to n)) (name-moved t.function) ∙ is-of-kept n (name_of t.function)) i && not (is_initial_path x))
      (x ∷ paths-kept n ls i) (paths-kept n ls i)

  pub path-kept : (n : N) (E : Env N) → path_in names (f.to n) (rename_env f.to E) ≡ path_in names n E
  path-kept n E = ap (λ xs. option_map path_of (least xs)) (ap (paths_among names (f.to n)) (lines-moved f.to [] E) ∙ paths-kept n (lines [] E))

  -- answers

  pub answer-kept : (path other : N → Option (List Id)) → ((n : N) → other (f.to n) ≡ path n)
      → (asked : Bool) (k : ℕ) (o : Answered N) → answer_text names other asked k (rename_answered f.to o) ≡ answer_text names path asked k o
  answer-kept path other h asked k (refused x) = refl
  answer-kept path other h asked k (accepted r) =
      ap (λ t. decimal k ++ (codes " ok\n" ++ (t ++ cond asked (flat_map warning_text r.1) []))) (text-kept path other h r.0)

pub texts-move : {N : Type 0} (names : Naming N) → TextsMove names
texts-move names = record {
  lines = λ f path other h A. text-kept names f path other h A;
  paths = path-kept names;
  answers = λ f asked k o. answer-kept names f no_path no_path (λ n. refl) asked k o;
  answers_with_paths = λ f B asked k o. answer-kept names f (λ n. path_in names n B.body) (λ n. path_in names n (rename_basis f.to B).body) (λ n. path-kept names f n B.body) asked k o;
}

-- What is claimed of texts: they don't change when names are renamed.
use Rattle.std.specs.Prelude.{◌≡◌, ℕ, Bool, List, Option}
use Rattle.sml_tree.specs.Trees.{Id}
use Rattle.sml_objects.specs.Alike.{Renaming}
use Rattle.sml_objects.specs.Names.{Naming}
use Rattle.sml_rules.specs.Answers.{refused, accepted}
use Rattle.sml_core_rules.specs.Objects.{Env, Basis, rename_env, rename_basis}
use Rattle.sml_text_rules.specs.Paths.{path_in}
use Rattle.sml_text_rules.specs.Texts.{Answered, lines_text, no_path, answer_text}

abbrev pub rename_answered : {A B : Type 0} → (A → B) → Answered A → Answered B
rename_answered f (refused x) = refused x
rename_answered f (accepted r) = accepted (rename_basis f r.0, r.1)

pub record TextsMove {N : Type 0} (names : Naming N) : Type 0 where
  -- the lines of a renamed basis, where each renamed name has the path that the name had
  pub lines : (f : Renaming names) (path other : N → Option (List Id)) → ((n : N) → other (f.to n) ≡ path n)
      → (A : Basis N) → lines_text names other (rename_basis f.to A) ≡ lines_text names path A
  -- the path of a renamed name in a renamed environment
  pub paths : (f : Renaming names) (n : N) (E : Env N) → path_in names (f.to n) (rename_env f.to E) ≡ path_in names n E
  -- answers of the first version
  pub answers : (f : Renaming names) (asked : Bool) (k : ℕ) (o : Answered N) → answer_text names no_path asked k (rename_answered f.to o) ≡ answer_text names no_path asked k o
  -- answers of the second version, with the paths of a basis before
  pub answers_with_paths : (f : Renaming names) (B : Basis N) (asked : Bool) (k : ℕ) (o : Answered N)
      → answer_text names (λ n. path_in names n (rename_basis f.to B).body) asked k (rename_answered f.to o)
      ≡ answer_text names (λ n. path_in names n B.body) asked k o

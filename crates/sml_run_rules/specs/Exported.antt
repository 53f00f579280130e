-- That what a sealed structure exports, and what applying a sealed functor does, is fixed by the basis and the signature expression.
use Rattle.std.specs.Prelude.{◌≡◌, ◌<◌, ℕ, false, []}
use Rattle.sml_lex.specs.declared.fault.Place.{Place}
use Rattle.sml_tree.specs.Structures.{TopDec}
use Rattle.sml_objects.specs.Alike.{Renaming}
use Rattle.sml_objects.specs.Appearance.{Stands}
use Rattle.sml_objects.specs.Initial.{Name, initial, naming}
use Rattle.sml_objects.specs.Names.{Initial}
use Rattle.sml_rules.specs.Answers.{accepted}
use Rattle.sml_core_rules.specs.Objects.{Basis, rename_basis, names_basis}
use Rattle.sml_core_rules.specs.Scopes.{run_scope}
use Rattle.sml_module_rules.specs.Structures.{Added, IsTopReading}
use Rattle.sml_places.specs.Likeness.{AreGroupsAlike}
use Rattle.sml_text_rules.specs.Texts.{answer_text}
use Rattle.sml_reply.specs.declared.form.Version.{Version}
use Rattle.sml_run_rules.specs.Runs.{paths_for}

-- The same is bound, but for new names: each carries the arity, the equality attribute and the constructors of the other, and values
-- have their statuses. The lines of the replies are the same in both versions.
pub record ExportsAlike (B : Basis Name) (A C : Added Place Name) : Type 0 where
  pub renaming : Renaming naming
  pub keeps : (n : Name) → Stands n B.names → renaming.to n ≡ n
  pub bound : C.basis ≡ rename_basis renaming.to A.basis
  pub lines : (version : Version) (k : ℕ)
      → answer_text naming (paths_for version B) false k (accepted (C.basis, [])) ≡ answer_text naming (paths_for version B) false k (accepted (A.basis, []))

-- Over a basis which mentions only names that were made, any two acceptances of groups that are alike, of structures or of functors,
-- bind the same but for new names: the basis and the signature expressions say what.
abbrev pub SealsExport : Type 0
SealsExport =
    (unit : ℕ) → 0 < unit → (B : Basis Name) → ((n : Name) → Stands n (names_basis B) → Stands n B.names) → ((k : Initial) → Stands (initial k) B.names)
    → (p q : Place) (d e : TopDec Place) → AreGroupsAlike d e → (A C : Added Place Name) → IsTopReading (run_scope unit) p B d (accepted A)
    → IsTopReading (run_scope unit) q B e (accepted C) → ExportsAlike B A C

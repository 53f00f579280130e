-- Texts of an answer and of the same answer renamed.
use Rattle.std.specs.Prelude.{◌≡◌, ℕ, Bool, true, false, List, Option, Some, None, is_some}
use mathlib.Core.Path.{refl, sym, ap, ◌∙◌}
use mathlib.Core.Bool.{true≢false}
use Rattle.sml_lex.specs.declared.fault.Warning.{Warning}
use Rattle.sml_objects.specs.Alike.{Renaming}
use Rattle.sml_objects.specs.Initial.{Name, naming}
use Rattle.sml_rules.specs.Answers.{refused, accepted}
use Rattle.sml_core_rules.specs.Objects.{Env, Basis, extend, rename_env, rename_basis}
use Rattle.sml_module_rules.specs.Structures.{unjudged}
use Rattle.sml_module_rules.specs.Programs.{acceptance, basis_after}
use Rattle.sml_module_rules.specs.Statements.{rename_added, rename_shown}
use Rattle.sml_places.specs.Units.{Given}
use Rattle.sml_text_rules.specs.Paths.{path_in}
use Rattle.sml_text_rules.specs.Texts.{Answered, answer_text}
use Rattle.sml_text_rules.specs.Statements.{rename_answered}
use Rattle.sml_text_rules.proofs.MovedTexts.{texts-move}
use Rattle.sml_reply.specs.declared.form.Version.{Version}
use Rattle.sml_reply.specs.declared.form.Version.TheVariants.{One, Two}
use Rattle.sml_run_rules.specs.Runs.{is_acceptance, with_warnings, judged_in, paths_for}
use Rattle.sml_run_rules.proofs.MovedBodies.{sum-moved}

-- an answer in which nothing is to be judged
abbrev pub plain : Given → Given
plain (refused x) = refused x
plain (accepted A) = accepted (unjudged A)

warned-renamed : (f : Name → Name) (o : Given) (ws : List Warning) → with_warnings (rename_added f o) ws ≡ rename_answered f (with_warnings o ws)
warned-renamed f (refused x) ws = refl
warned-renamed f (accepted A) ws = refl

pub judged-renamed : (f : Name → Name) (o : Given) → judged_in (rename_added f o) ≡ judged_in o
judged-renamed f (refused x) = refl
judged-renamed f (accepted A) = refl

pub some-accepted : (o : Given) → is_some (acceptance o) ≡ is_acceptance o
some-accepted (refused x) = refl
some-accepted (accepted A) = refl

abbrev given_or : Given → Option Given → Given
given_or d None = d
given_or d (Some o) = o

abbrev body_or : Env Name → Given → Env Name
body_or E (refused x) = E
body_or E (accepted A) = A.basis.body

-- the text of an answer with these warnings
abbrev pub text_of : Version → Basis Name → Bool → ℕ → Given → List Warning → List ℕ
text_of version B asked k o ws = answer_text naming (paths_for version B) asked k (with_warnings o ws)

-- without warnings it doesn't matter which there are
pub unwarned-text : (version : Version) (B : Basis Name) (k : ℕ) (o : Given) (ws vs : List Warning) → text_of version B false k o ws ≡ text_of version B false k (plain o) vs
unwarned-text version B k (refused x) ws vs = refl
unwarned-text version B k (accepted A) ws vs = refl

module _ (f : Renaming naming) where
  moved-text : (version : Version) (B : Basis Name) (asked : Bool) (k : ℕ) (o : Answered Name)
      → answer_text naming (paths_for version (rename_basis f.to B)) asked k (rename_answered f.to o) ≡ answer_text naming (paths_for version B) asked k o
  moved-text One B asked k o = (texts-move naming).answers f asked k o
  moved-text Two B asked k o = (texts-move naming).answers_with_paths f B asked k o

  -- paths look at the body alone
  by-body : (version : Version) (C D : Basis Name) → C.body ≡ D.body → (asked : Bool) (k : ℕ) (o : Answered Name)
      → answer_text naming (paths_for version C) asked k o ≡ answer_text naming (paths_for version D) asked k o
  by-body One C D h asked k o = refl
  by-body Two C D h asked k o = ap (λ E. answer_text naming (λ n. path_in naming n E) asked k o) h

  pub same-text : (version : Version) (B C : Basis Name) → C.body ≡ rename_env f.to B.body → (asked : Bool) (k : ℕ) (o q : Given) → q ≡ rename_added f.to o → (ws : List Warning)
      → text_of version C asked k q ws ≡ text_of version B asked k o ws
  same-text version B C h asked k o q e ws =
      ap (λ q. text_of version C asked k q ws) e
      ∙ (ap (λ a. answer_text naming (paths_for version C) asked k a) (warned-renamed f.to o ws)
      ∙ (by-body version C (rename_basis f.to B) h asked k (rename_answered f.to (with_warnings o ws)) ∙ moved-text version B asked k (with_warnings o ws)))

  -- what is accepted in both is renamed, but for what is to be judged
  pub both-accepted : (o q : Given) → is_some (acceptance o) ≡ true → acceptance q ≡ rename_shown f.to (acceptance o) → is_some (acceptance q) ≡ true
      → plain q ≡ rename_added f.to (plain o)
  both-accepted (refused x) q h e k = absurd (true≢false (sym h))
  both-accepted (accepted A) (refused y) h e k = absurd (true≢false (sym k))
  both-accepted (accepted A) (accepted C) h e k = ap (given_or (accepted C)) e

  -- the body after a renamed answer
  pub after-moved : (B C : Basis Name) → C.body ≡ rename_env f.to B.body → (o q : Given) → acceptance q ≡ rename_shown f.to (acceptance o)
      → (basis_after C q).body ≡ rename_env f.to (basis_after B o).body
  after-moved B C h (refused x) (refused y) e = h
  after-moved B C h (refused x) (accepted D) e = let n : true ≡ false = ap (λ a. is_some a) e in absurd (true≢false n)
  after-moved B C h (accepted A) (refused y) e = let n : false ≡ true = ap (λ a. is_some a) e in absurd (true≢false (sym n))
  after-moved B C h (accepted A) (accepted D) e =
      let g = ap (λ a. body_or D.basis.body (given_or (accepted D) a)) e in (λ i. extend (h i) (g i)) ∙ sym (sum-moved f B.body A.basis.body)

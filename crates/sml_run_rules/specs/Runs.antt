-- Which replies a project may be given.
use Rattle.std.specs.Prelude.{◌≡◌, ℕ, suc, Bool, true, false, List, [], ◌∷◌, ◌++◌, map, Option, Some, None}
use Rattle.sml_lex.specs.declared.fault.Place.{Place}
use Rattle.sml_lex.specs.declared.fault.Warning.{Warning}
use Rattle.sml_lex.specs.Faults.{Fault}
use Rattle.sml_tree.specs.Trees.{Id}
use Rattle.sml_objects.specs.Initial.{Name, naming}
use Rattle.sml_rules.specs.Answers.{refused, accepted}
use Rattle.sml_core_rules.specs.Initial.{initial_basis}
use Rattle.sml_core_rules.specs.Objects.{Basis}
use Rattle.sml_core_rules.specs.States.{Judged}
use Rattle.sml_module_rules.specs.Programs.{basis_after}
use Rattle.sml_module_rules.specs.Projects.{Exports, beginning, and_unit, exported}
use Rattle.sml_module_rules.specs.Runs.{at_first, AreAnswers}
use Rattle.sml_places.specs.Units.{Given}
use Rattle.sml_text_rules.specs.Paths.{path_in}
use Rattle.sml_text_rules.specs.Texts.{Answered, answer_text, no_path}
use Rattle.sml_run_rules.specs.Warnings.{AreWarnings}
use Rattle.sml_reply.specs.Replies.{form_text, warnings_of, accepts, number_of}
use Rattle.sml_reply.specs.declared.form.Form.{Form}
use Rattle.sml_reply.specs.declared.form.Version.{Version}
use Rattle.sml_reply.specs.declared.form.Version.TheVariants.{One, Two}
use Rattle.sml_reply.specs.declared.reply.Reply.{Reply}
use Rattle.sml_projects.specs.Orders.{UnitText}
use Rattle.sml_run_rules.specs.Sources.{Source, AreSourcesOf, unit_of}

abbrev pub is_acceptance : Given → Bool
is_acceptance (refused f) = false
is_acceptance (accepted A) = true

-- a fault has nothing to be judged
abbrev pub judged_in : Given → List (Judged Place)
judged_in (refused f) = []
judged_in (accepted A) = A.judged

abbrev pub with_warnings : Given → List Warning → Answered Name
with_warnings (refused f) ws = refused f
with_warnings (accepted A) ws = accepted (A.basis, ws)

-- the paths of names in the basis before a declaration, which the second version prints
abbrev pub paths_for : Version → Basis Name → Name → Option (List Id)
paths_for One B = no_path
paths_for Two B = λ n. path_in naming n B.body

-- the reply with this number gives the answer to a declaration over this basis, in every form, with all its warnings
pub record IsReplyTo (number : ℕ) (B : Basis Name) (o : Given) (r : Reply) : Type 0 where
  pub printed : (form : Form) → form_text r form ≡ answer_text naming (paths_for form.version B) form.warnings number (with_warnings o (warnings_of r))
  pub warned : AreWarnings (judged_in o) (warnings_of r)
  pub accepting : accepts r ≡ is_acceptance o
  pub numbered : number_of r ≡ number

-- the replies from this number on, one for each answer
abbrev pub AreRepliesTo : ℕ → Basis Name → List Given → List Reply → Type 0
AreRepliesTo k B [] [] = Unit {0}
AreRepliesTo k B [] (r ∷ rs) = ⊥
AreRepliesTo k B (o ∷ os) [] = ⊥
AreRepliesTo k B (o ∷ os) (r ∷ rs) = IsReplyTo k B o r × AreRepliesTo (suc k) (basis_after B o) os rs

-- a last fault is one more answer
abbrev pub with_last : List Given → Option (Fault Place) → List Given
with_last os None = os
with_last os (Some f) = os ++ refused f ∷ []

-- the name of a unit, and its replies
pub record UnitReplies : Type 0 where
  pub name : List ℕ
  pub replies : List Reply

abbrev pub AreUnitReplies : Exports Name → List Source → List (List Given) → List UnitReplies → Type 0
AreUnitReplies E [] [] [] = Unit {0}
AreUnitReplies E (s ∷ ss) (os ∷ oss) (r ∷ rs) =
    ((r.name ≡ s.name) × AreRepliesTo 1 (beginning initial_basis E s.needs) (with_last os s.last) r.replies)
    × AreUnitReplies (and_unit E (exported os)) ss oss rs
AreUnitReplies E ss oss rs = ⊥

-- The units of a project have these replies: to some answers to what their bytes spell, in their order.
pub record MayReply (us : List UnitText) (rs : List UnitReplies) : Type 0 where
  pub sources : List Source
  pub sources_are : AreSourcesOf us sources
  pub answers : List (List Given)
  pub run : AreAnswers (map unit_of sources) answers
  pub replies : AreUnitReplies at_first sources answers rs

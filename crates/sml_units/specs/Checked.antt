-- Which replies a project may be given.
use Rattle.std.specs.Prelude.{◌≡◌, ℕ, suc, Bool, true, false, List, [], ◌∷◌, ◌++◌, ◌+◌, length, Option, Some, None}
use Rattle.std.specs.Option.{option_to_list}
use Rattle.std.specs.String.{string_bytes}
use Rattle.sml_lex.specs.declared.fault.Place.{Place}
use Rattle.sml_lex.specs.declared.token.Token.{Token}
use Rattle.sml_lex.specs.declared.token.End.{End}
use Rattle.sml_lex.specs.Faults.{Fault}
use Rattle.sml_lex.specs.Pieces.{Spells}
use Rattle.sml_tree.specs.Trees.{Dec}
use Rattle.sml_tree.specs.Structures.{TopDec}
use Rattle.sml_parse.specs.Trees.{AreTrees}
use Rattle.sml_objects.specs.Objects.{Sig, Basis}
use Rattle.sml_objects.specs.Initial.{Name, naming, initial_basis}
use Rattle.sml_rules.specs.Answers.{Answer, refused, accepted}
use Rattle.sml_rules.specs.Every.{Every}
use Rattle.sml_rules.specs.Sound.{IsSound}
use Rattle.sml_texts.specs.Text.{text}
use Rattle.sml_reply.specs.Replies.{reply_text, warnings_of, accepts, number_of}
use Rattle.sml_reply.specs.declared.reply.Reply.{Reply}
use Rattle.sml_units.specs.Runs.{SourceUnit, RunProject, basis_after, start, exports, nothing, specified}
use Rattle.sml_projects.specs.ProjectFiles.{UnitLine}
use Rattle.sml_projects.specs.Orders.{UnitText, unit_texts, IsProjectOf}
use Rattle.sml_projects.specs.declared.project.Project.{Project}
use Rattle.sml_units.specs.declared.project.Replies.{Replies}
use Rattle.sml_units.specs.declared.project.UnitReplies.{UnitReplies}

-- the answer to a declaration
abbrev pub Answered : Type 0
Answered = Answer Place (Sig Name)

-- The bytes of a unit spell tokens, and these whole declarations and perhaps a last fault.
pub record AreSpelt (bytes : List ℕ) (declarations : List (Dec Place)) (last : Option (Fault Place)) : Type 0 where
  pub tokens : List Token
  pub end : End
  pub tokens_spelt : Spells bytes tokens end
  pub tops : List (TopDec Place)
  pub trees : AreTrees bytes tokens end tops declarations last

abbrev pub is_acceptance : Answered → Bool
is_acceptance (refused f) = false
is_acceptance (accepted S) = true

-- the reply with this number gives the answer, and has no warning
pub record IsReplyTo (number : ℕ) (o : Answered) (r : Reply) : Type 0 where
  pub printed : reply_text r false ≡ text naming number o
  pub unwarned : warnings_of r ≡ []
  pub accepting : accepts r ≡ is_acceptance o
  pub numbered : number_of r ≡ number

-- the replies from this number on, one for each answer
abbrev pub AreRepliesTo : ℕ → List Answered → List Reply → Type 0
AreRepliesTo k [] [] = Unit {0}
AreRepliesTo k [] (r ∷ rs) = ⊥
AreRepliesTo k (o ∷ os) [] = ⊥
AreRepliesTo k (o ∷ os) (r ∷ rs) = IsReplyTo k o r × AreRepliesTo (suc k) os rs

-- a last fault is one more answer
abbrev pub with_last : List Answered → Option (Fault Place) → List Answered
with_last os None = os
with_last os (Some f) = os ++ refused f ∷ []

-- each accepted declaration has a derivation in the rules, whose environment is the one given up to names of types
abbrev pub IsSoundAnswer : ℕ → Basis Name → Dec Place → Answered → Type 0
IsSoundAnswer unit B d (refused f) = Unit {0}
IsSoundAnswer unit B d (accepted S) = IsSound naming unit B d S

abbrev pub AreSound : ℕ → Basis Name → List (Dec Place) → List Answered → Type 0
AreSound unit B [] os = Unit {0}
AreSound unit B (d ∷ ds) [] = Unit {0}
AreSound unit B (d ∷ ds) (o ∷ os) = IsSoundAnswer unit B d o × AreSound unit (basis_after B o) ds os

-- No two units stand at one place of the project file.
abbrev pub HaveOwnPlaces : List UnitText → Type 0
HaveOwnPlaces [] = Unit {0}
HaveOwnPlaces (u ∷ us) = Every (λ v. ¬ (u.place ≡ v.place)) us × HaveOwnPlaces us

-- the unit of these declarations
pub record IsSourceOf (u : UnitText) (s : SourceUnit) : Type 0 where
  pub label_is : s.label ≡ u.name
  pub maker_is : s.maker ≡ suc u.place
  pub needs_are : s.needs ≡ u.needs
  pub spelt : AreSpelt u.text s.declarations s.last
  pub number_is : s.number ≡ length spelt.tops

abbrev pub AreSourcesOf : List UnitText → List SourceUnit → Type 0
AreSourcesOf [] [] = Unit {0}
AreSourcesOf [] (s ∷ ss) = ⊥
AreSourcesOf (u ∷ us) [] = ⊥
AreSourcesOf (u ∷ us) (s ∷ ss) = IsSourceOf u s × AreSourcesOf us ss

-- the replies from this number on begin with one for each answer
abbrev pub BeginWith : ℕ → List Answered → List Reply → Type 0
BeginWith k [] rs = Unit {0}
BeginWith k (o ∷ os) [] = ⊥
BeginWith k (o ∷ os) (r ∷ rs) = IsReplyTo k o r × BeginWith (suc k) os rs

-- replies are numbered in order, from this number on
abbrev pub AreNumbered : ℕ → List Reply → Type 0
AreNumbered k [] = Unit {0}
AreNumbered k (r ∷ rs) = (number_of r ≡ k) × AreNumbered (suc k) rs

-- After so many replies stands the one to the last fault, if there is one, and no other.
pub record EndWith (n : ℕ) (last : Option (Fault Place)) (rs : List Reply) : Type 0 where
  pub front : List Reply
  pub ends : List Reply
  pub whole : rs ≡ front ++ ends
  pub many : length front ≡ n
  pub to_last : AreRepliesTo (suc n) (with_last [] last) ends

-- There is a reply to each declaration, whatever it declares, in order and numbered from 1, and after them one to the last
-- fault. They begin with those to these answers and this last fault.
pub record AreReplies (s : SourceUnit) (os : List Answered) (last : Option (Fault Place)) (rs : List Reply) : Type 0 where
  pub begun : BeginWith 1 (with_last os last) rs
  pub number : length rs ≡ s.number + length (option_to_list s.last)
  pub numbered : AreNumbered 1 rs
  pub ended : EndWith s.number s.last rs

-- of each unit, and of what is specified of it
abbrev pub AreUnitReplies : List SourceUnit → List SourceUnit → List (List Answered) → List UnitReplies → Type 0
AreUnitReplies [] [] [] [] = Unit {0}
AreUnitReplies (s ∷ ss) (t ∷ ts) (os ∷ oss) (r ∷ rs) = ((string_bytes r.name ≡ s.label) × AreReplies s os t.last r.replies.items) × AreUnitReplies ss ts oss rs
AreUnitReplies ss ts oss rs = ⊥

-- each accepted declaration of the units has a derivation in the rules, in the basis in which it was answered
abbrev pub AreAllSound : List (Sig Name) → List SourceUnit → List (List Answered) → Type 0
AreAllSound Ss [] oss = Unit {0}
AreAllSound Ss (u ∷ us) [] = Unit {0}
AreAllSound Ss (u ∷ us) (os ∷ oss) = AreSound u.maker (start initial_basis Ss u.needs) u.declarations os × AreAllSound (Ss ++ exports nothing os ∷ []) us oss

-- Some run over what is specified of the project's units, of the declarations that their bytes spell, has the answers with
-- which these replies begin, and what it accepts is sound.
pub record MayReply (p : Project) (rs : Replies) : Type 0 where
  pub sources : List SourceUnit
  pub sources_are : AreSourcesOf (unit_texts p) sources
  pub answers : List (List Answered)
  pub run : RunProject naming initial_basis [] (specified sources) answers
  pub sound : AreAllSound [] (specified sources) answers
  pub replies : AreUnitReplies sources (specified sources) answers rs.units.items

-- The units of a project that was made of unit lines stand at places of their own.
abbrev pub ProjectsHaveOwnPlaces : Type 0
ProjectsHaveOwnPlaces = (us : List UnitLine) (texts : List (List ℕ)) (p : Project) → IsProjectOf us texts p → HaveOwnPlaces (unit_texts p)

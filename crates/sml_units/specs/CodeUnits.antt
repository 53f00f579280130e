-- What the code makes of one unit, and keeps of it for those that need it. No public contract rests on this.
use Rattle.std.specs.Prelude.{◌≡◌, ℕ, suc, Bool, true, false, cond, ◌&&◌, ◌==◌, List, [], ◌∷◌, ◌++◌, ◌+◌, length, Option, Some, None, IfSome}
use Rattle.std.specs.List.{list_all}
use Rattle.std.specs.Option.{is_some, option_to_list}
use Rattle.sml_lex.specs.declared.fault.Place.{Place}
use Rattle.sml_lex.specs.Faults.{Fault, first_place}
use Rattle.sml_tree.specs.Trees.{Dec}
use Rattle.sml_objects.specs.Objects.{Sig, Env, Basis, extend_env}
use Rattle.sml_objects.specs.Initial.{Name, naming, initial_basis}
use Rattle.sml_objects.specs.Views.{env_of, maker_of}
use Rattle.sml_objects.specs.declared.objects.Basis as PB
use Rattle.sml_objects.specs.declared.objects.UnitId.{UnitId}
use Rattle.sml_rules.specs.Answers.{refused, accepted}
use Rattle.sml_rules.specs.Every.{Every}
use Rattle.sml_rules.specs.Open.{OpenEnv}
use Rattle.sml_rules.specs.Readings.{read_top, is_specified}
use Rattle.sml_reply.specs.Replies.{form_text, warnings_of, accepts, number_of}
use Rattle.sml_reply.specs.declared.form.Form.{Form}
use Rattle.sml_reply.specs.declared.reply.Reply.{Reply}
use Rattle.sml_piece.specs.Elaborated.{IsBasisOf, IsBelow}
use Rattle.sml_exports.specs.declared.exports.Exports.{Exports}
use Rattle.sml_units.specs.Runs.{SourceUnit, Run, basis_after, start, needed, all_names, exports, nothing, specified_unit, specified_beginning, flag_at, is_whole}
use Rattle.sml_units.specs.declared.project.Beginning.{Beginning}
use Rattle.sml_units.specs.declared.project.Checked.{Checked}
use Rattle.sml_units.specs.declared.project.UnitReplies.{UnitReplies}
use Rattle.sml_projects.specs.Orders.{UnitText}
use Rattle.sml_units.specs.Checked.{Answered, IsReplyTo, AreRepliesTo, AreNumbered, AreReplies, IsSourceOf, with_last}
use Rattle.sml_units.specs.Complete.{IsComplete}

-- what an answered declaration adds to an environment
abbrev pub env_after : Env Name → Answered → Env Name
env_after E (refused f) = E
env_after E (accepted S) = extend_env E S.body

-- A declaration is answered in the basis, and what it binds if it is accepted is put into it and into what was bound so far.
pub record IsStep (old new was bound : PB.Basis) (B : Basis Name) (d : Dec Place) (number : ℕ) (r : Reply) : Type 0 where
  pub answer : Answered
  pub reading : read_top naming first_place (maker_of old.unit) B d answer
  pub reply : IsReplyTo number answer r
  pub after : IsBasisOf new (basis_after B answer)
  pub unit : new.unit ≡ old.unit
  pub bound_is : env_of bound.env ≡ env_after (env_of was.env) answer

-- The declarations before the first that isn't specified, each in the basis so far, are given these replies, and bind this;
-- or none is, where not all that the unit needs is specified.
pub record IsBegun (maker : ℕ) (ready : Bool) (B : Basis Name) (ds : List (Dec Place)) (b : Beginning) : Type 0 where
  pub answers : List Answered
  pub run : Run naming maker B (cond ready (specified_beginning ds) []) answers
  pub replies : AreRepliesTo 1 answers b.replies.items
  pub bound_is : env_of b.bound.env ≡ (exports nothing answers).body
  pub whole_is : b.is_whole ≡ (ready && list_all is_specified ds)

-- Replies begin with these, there is one to each of so many declarations and to the last fault, numbered in order, and this
-- is the last.
pub record AreEnded (begun : List Reply) (n : ℕ) (last : Option (Fault Place)) (rs : List Reply) : Type 0 where
  pub tail : List Reply
  pub ends : List Reply
  pub replies : rs ≡ (begun ++ tail) ++ ends
  pub number : length begun + length tail ≡ n
  pub one : length ends ≡ length (option_to_list last)
  pub last_is : (os : List Answered) → AreRepliesTo 1 os (begun ++ tail) → AreRepliesTo 1 (with_last os last) rs
  pub numbered : AreNumbered (suc (length begun)) tail
  pub to_last : AreRepliesTo (suc n) (with_last [] last) ends

-- What is kept of a unit for those that need it: what its declarations bind, where all of it is specified.
pub record IsExported (whole : Bool) (S : Sig Name) (x : Exports) : Type 0 where
  pub is_there : is_some x.specified ≡ whole
  pub env_is : IfSome x.specified (λ e. env_of e.value ≡ S.body)

abbrev pub AreExported : List Bool → List (Sig Name) → List Exports → Type 0
AreExported [] [] [] = Unit {0}
AreExported (f ∷ fs) (S ∷ Ss) (x ∷ xs) = IsExported f S x × AreExported fs Ss xs
AreExported fs Ss xs = ⊥

-- What the units before this one export is kept, mentions no name of this one, and has no variable out of its place.
pub record AreReady (maker : ℕ) (fs : List Bool) (Ss : List (Sig Name)) (xs : List Exports) : Type 0 where
  pub kept : AreExported fs Ss xs
  pub below : Every (IsBelow maker 0) (all_names Ss)
  pub opened : Every (λ S. OpenEnv S.body) Ss

-- the basis with the exports of the needs over the initial one, where all of them are specified
abbrev pub NeedsGive : List Bool → List (Sig Name) → List ℕ → UnitId → Option PB.Basis → Type 0
NeedsGive fs Ss ks unit None = list_all (flag_at fs) ks ≡ false
NeedsGive fs Ss ks unit (Some b) = (list_all (flag_at fs) ks ≡ true) × ((needed initial_basis Ss ks).body ≡ env_of b.env) × (b.names.items ≡ []) × (b.unit ≡ unit)

-- where all of so many declarations were answered by the beginning, what it bound is kept
abbrev pub Keeps : Beginning → ℕ → Exports → Type 0
Keeps b n x = (is_some x.specified ≡ (b.is_whole && (length b.replies.items == n))) × IfSome x.specified (λ e. env_of e.value ≡ env_of b.bound.env)

-- A unit is begun and ended so, after others with these flags and exports.
pub record AreBegunAndEnded (maker : ℕ) (fs : List Bool) (Ss : List (Sig Name)) (ks : List ℕ) (ds : List (Dec Place)) (n : ℕ) (last : Option (Fault Place)) (rs : List Reply) (x : Exports) : Type 0 where
  pub beginning_is : Beginning
  pub begun : IsBegun maker (list_all (flag_at fs) ks) (start initial_basis Ss ks) ds beginning_is
  pub ended : AreEnded beginning_is.replies.items n last rs
  pub kept : Keeps beginning_is n x

-- A unit is given these replies, which begin with the answers of some run over what is specified of it, and this is kept
-- of it.
pub record IsAnswered (fs : List Bool) (Ss : List (Sig Name)) (u : UnitText) (rs : List Reply) (x : Exports) : Type 0 where
  pub source : SourceUnit
  pub is : IsSourceOf u source
  pub answers : List Answered
  pub run : Run naming source.maker (start initial_basis Ss source.needs) (specified_unit fs source).declarations answers
  pub replies : AreReplies source answers (specified_unit fs source).last rs
  pub kept : IsExported (is_whole fs source) (exports nothing answers) x

-- the same replies: alike in every form, in what is accepted, in warnings and number
pub record IsCopy (r q : Reply) : Type 0 where
  pub text : (form : Form) → form_text q form ≡ form_text r form
  pub warnings : warnings_of q ≡ warnings_of r
  pub accepting : accepts q ≡ accepts r
  pub number : number_of q ≡ number_of r

abbrev pub AreCopies : List Reply → List Reply → Type 0
AreCopies [] [] = Unit {0}
AreCopies [] (q ∷ qs) = ⊥
AreCopies (r ∷ rs) [] = ⊥
AreCopies (r ∷ rs) (q ∷ qs) = IsCopy r q × AreCopies rs qs

-- with the replies to one unit more
pub record IsOneMore (old new : Checked) (u : UnitText) : Type 0 where
  pub sources : new.sources ≡ old.sources
  pub added : UnitReplies
  pub complete : IsComplete u added
  pub units : new.replies.units.items ≡ old.replies.units.items ++ added ∷ []

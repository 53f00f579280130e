-- Where the faults of replies stand.
use Rattle.std.specs.Prelude.{ℕ, List, [], ◌∷◌, length, IfSome}
use Rattle.sml_lex.specs.declared.token.Token.{Token}
use Rattle.sml_parse.specs.Within.{Extent, extents_of, IsOfToken, StandsLast}
use Rattle.sml_rules.specs.Answers.{refused, accepted}
use Rattle.sml_projects.specs.Orders.{UnitText, unit_texts}
use Rattle.sml_units.specs.Runs.{SourceUnit}
use Rattle.sml_units.specs.Checked.{Answered, AreSpelt, AreSourcesOf, MayReply}
use Rattle.sml_projects.specs.declared.project.Project.{Project}
use Rattle.sml_units.specs.declared.project.Replies.{Replies}

-- a fault stands at a token of the declaration of this extent
abbrev pub AnswerStands : List ℕ → List Token → Extent → Answered → Type 0
AnswerStands bytes tokens extent (refused f) = IsOfToken bytes tokens extent f.place
AnswerStands bytes tokens extent (accepted S) = Unit {0}

-- each in its own
abbrev pub AnswersStand : List ℕ → List Token → List Extent → List Answered → Type 0
AnswersStand bytes tokens extents [] = Unit {0}
AnswersStand bytes tokens [] (o ∷ os) = ⊥
AnswersStand bytes tokens (extent ∷ extents) (o ∷ os) = AnswerStands bytes tokens extent o × AnswersStand bytes tokens extents os

-- the answers to a unit's declarations, and its last fault
pub record UnitStands (bytes : List ℕ) (s : SourceUnit) (spelt : AreSpelt bytes s.declarations s.last) (os : List Answered) : Type 0 where
  pub answers : AnswersStand bytes spelt.tokens (extents_of 0 spelt.trees.nodes) os
  pub last : IfSome s.last (StandsLast bytes spelt.tokens spelt.end spelt.trees.nodes spelt.trees.begun (length s.declarations))

abbrev pub UnitsStand : (us : List UnitText) (ss : List SourceUnit) → AreSourcesOf us ss → List (List Answered) → Type 0
UnitsStand (u ∷ us) (s ∷ ss) spelt (os ∷ oss) = UnitStands u.text s spelt.0.spelt os × UnitsStand us ss spelt.1 oss
UnitsStand us ss spelt oss = Unit {0}

-- Whatever replies a project may be given: the fault of each refused declaration stands at one of its tokens, and the
-- last fault of a unit, by its code, at a token of the next declaration or of what is left of the unit, or where its
-- tokens end.
abbrev pub FaultsStandInTheirDeclarations : Type 0
FaultsStandInTheirDeclarations = (p : Project) (rs : Replies) (may : MayReply p rs) → UnitsStand (unit_texts p) may.sources may.sources_are may.answers

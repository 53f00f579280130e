-- That a project is replied to in one way.
use Rattle.std.specs.Prelude.{◌≡◌, List, [], ◌∷◌}
use Rattle.sml_projects.specs.Orders.{UnitText}
use Rattle.sml_reply.specs.declared.reply.Reply.{Reply}
use Rattle.sml_run_rules.specs.Runs.{MayReply, UnitReplies}
use Rattle.sml_run_rules.specs.Seals.{AreSameBytes}

abbrev pub AreSameReplies : List Reply → List Reply → Type 0
AreSameReplies [] [] = Unit {0}
AreSameReplies [] (q ∷ qs) = ⊥
AreSameReplies (r ∷ rs) [] = ⊥
AreSameReplies (r ∷ rs) (q ∷ qs) = AreSameBytes r q × AreSameReplies rs qs

-- the same names, and the same bytes in every form
abbrev pub AreSameUnitReplies : List UnitReplies → List UnitReplies → Type 0
AreSameUnitReplies [] [] = Unit {0}
AreSameUnitReplies [] (q ∷ qs) = ⊥
AreSameUnitReplies (r ∷ rs) [] = ⊥
AreSameUnitReplies (r ∷ rs) (q ∷ qs) = ((r.name ≡ q.name) × AreSameReplies r.replies q.replies) × AreSameUnitReplies rs qs

-- Any two lists of replies that the units of a project may be given are the same bytes in every form: which new names were taken, and
-- in which type of the patterns a warning was found, is not to be seen. So what is kept where a project is checked again is right if it
-- may be given.
abbrev pub RepliesAreOne : Type 0
RepliesAreOne = (us : List UnitText) (rs qs : List UnitReplies) → MayReply us rs → MayReply us qs → AreSameUnitReplies rs qs

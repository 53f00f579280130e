-- What sealed bodies leave alone in projects and in the replies that they may be given.
use Rattle.std.specs.Prelude.{◌≡◌, ℕ, Bool, true, List, [], ◌∷◌, Option}
use Rattle.std.specs.String.{string_bytes}
use Rattle.sml_lex.specs.declared.fault.Place.{Place}
use Rattle.sml_lex.specs.Faults.{Fault}
use Rattle.sml_tree.specs.Trees.{Dec}
use Rattle.sml_reply.specs.Replies.{reply_text, accepts}
use Rattle.sml_reply.specs.declared.reply.Reply.{Reply}
use Rattle.sml_units.specs.Checked.{AreSpelt, MayReply}
use Rattle.sml_units.specs.Isolation.{AlikeOutsideSeals}
use Rattle.sml_projects.specs.Orders.{UnitText, unit_texts}
use Rattle.sml_units.specs.Runs.{AllSpecified}
use Rattle.sml_projects.specs.declared.project.Project.{Project}
use Rattle.sml_units.specs.declared.project.Replies.{Replies}
use Rattle.sml_units.specs.declared.project.UnitReplies.{UnitReplies}

-- what the bytes of two units spell: the declarations of the one and of the other, and one last fault or none
pub record Pair : Type 0 where
  pub declarations : List (Dec Place)
  pub others : List (Dec Place)
  pub last : Option (Fault Place)

-- The bytes of two units spell declarations that differ in sealed bodies alone, and the same last fault.
pub record SpellAlike (bytes others : List ℕ) (x : Pair) : Type 0 where
  pub spelt : AreSpelt bytes x.declarations x.last
  pub others_spelt : AreSpelt others x.others x.last
  pub alike : AlikeOutsideSeals x.declarations x.others

-- The units of two projects have the same names, places in the project file, needs and order, and files that are alike.
abbrev pub FilesAlike : List UnitText → List UnitText → List Pair → Type 0
FilesAlike [] [] [] = Unit {0}
FilesAlike (u ∷ us) (w ∷ ws) (x ∷ xs) = ((u.name ≡ w.name) × (u.place ≡ w.place) × (u.needs ≡ w.needs) × SpellAlike u.text w.text x) × FilesAlike us ws xs
FilesAlike us ws xs = ⊥

-- each declaration that differs is accepted in both or refused in both
abbrev pub AgreeOnSeals : List (Dec Place) → List (Dec Place) → List Reply → List Reply → Type 0
AgreeOnSeals (d ∷ ds) (e ∷ es) (r ∷ rs) (q ∷ qs) = (¬ (d ≡ e) → accepts r ≡ accepts q) × AgreeOnSeals ds es rs qs
AgreeOnSeals ds es rs qs = Unit {0}

abbrev pub AllAgreeOnSeals : List Pair → List UnitReplies → List UnitReplies → Type 0
AllAgreeOnSeals (x ∷ xs) (r ∷ rs) (q ∷ qs) = AgreeOnSeals x.declarations x.others r.replies.items q.replies.items × AllAgreeOnSeals xs rs qs
AllAgreeOnSeals xs rs qs = Unit {0}

-- two replies are the same bytes, whether warnings are asked for or not
abbrev pub AreSameBytes : Reply → Reply → Type 0
AreSameBytes r q = (asked : Bool) → reply_text r asked ≡ reply_text q asked

-- There are as many replies. Those to equal declarations are the same bytes, those to declarations that are accepted in
-- both, and that to the last fault.
abbrev pub AreEqualReplies : List (Dec Place) → List (Dec Place) → List Reply → List Reply → Type 0
AreEqualReplies (d ∷ ds) (e ∷ es) (r ∷ rs) (q ∷ qs) = (d ≡ e → AreSameBytes r q) × (accepts r ≡ true → accepts q ≡ true → AreSameBytes r q) × AreEqualReplies ds es rs qs
AreEqualReplies [] [] (r ∷ rs) (q ∷ qs) = AreSameBytes r q × AreEqualReplies [] [] rs qs
AreEqualReplies [] [] [] [] = Unit {0}
AreEqualReplies ds es rs qs = ⊥

abbrev pub AllHaveEqualReplies : List Pair → List UnitReplies → List UnitReplies → Type 0
AllHaveEqualReplies [] [] [] = Unit {0}
AllHaveEqualReplies (x ∷ xs) (r ∷ rs) (q ∷ qs) = (string_bytes r.name ≡ string_bytes q.name) × AreEqualReplies x.declarations x.others r.replies.items q.replies.items × AllHaveEqualReplies xs rs qs
AllHaveEqualReplies xs rs qs = ⊥

-- Take two projects whose files are alike outside sealed bodies and spell specified declarations alone, and any replies
-- that they may be given, such that each declaration that differs is accepted in both or refused in both. Then all else is
-- replied to with the same bytes.
abbrev pub SealsIsolateFiles : Type 0
SealsIsolateFiles =
    (p q : Project) (rs qs : Replies) (pairs : List Pair) (h : MayReply p rs) (k : MayReply q qs) → AllSpecified h.sources → AllSpecified k.sources
    → FilesAlike (unit_texts p) (unit_texts q) pairs → AllAgreeOnSeals pairs rs.units.items qs.units.items → AllHaveEqualReplies pairs rs.units.items qs.units.items

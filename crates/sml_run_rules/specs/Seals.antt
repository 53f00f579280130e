-- What is claimed of projects that are alike but for what stands behind seals: of the answers to their declarations
-- (`alike_units_are_answered_alike` of sml_places, which speaks of such projects by `SourcesMakeUnits`), and of the bytes of replies.
use Rattle.std.specs.Prelude.{◌≡◌, true, false, List, [], ◌∷◌, map}
use Rattle.sml_lex.specs.declared.fault.Place.{Place}
use Rattle.sml_tree.specs.Structures.{TopDec}
use Rattle.sml_projects.specs.Orders.{UnitText}
use Rattle.sml_reply.specs.Replies.{form_text, accepts}
use Rattle.sml_reply.specs.declared.form.Form.{Form}
use Rattle.sml_reply.specs.declared.form.Version.{Version}
use Rattle.sml_reply.specs.declared.reply.Reply.{Reply}
use Rattle.sml_places.specs.Units.{AreUnitsAlike}
use Rattle.sml_run_rules.specs.Sources.{Source, unit_of}
use Rattle.sml_run_rules.specs.Runs.{MayReply, UnitReplies}
use Rattle.sml_run_rules.specs.Likeness.{AreSourcesAlike}

-- each declaration that differs is accepted in both or refused in both
abbrev pub AgreeAtSeals : List (TopDec Place) → List (TopDec Place) → List Reply → List Reply → Type 0
AgreeAtSeals (d ∷ ds) (e ∷ es) (r ∷ rs) (q ∷ qs) = (¬ (d ≡ e) → accepts r ≡ accepts q) × AgreeAtSeals ds es rs qs
AgreeAtSeals ds es rs qs = Unit {0}

abbrev pub AllAgreeAtSeals : List Source → List Source → List UnitReplies → List UnitReplies → Type 0
AllAgreeAtSeals (u ∷ us) (w ∷ ws) (r ∷ rs) (q ∷ qs) = AgreeAtSeals u.declarations w.declarations r.replies q.replies × AllAgreeAtSeals us ws rs qs
AllAgreeAtSeals us ws rs qs = Unit {0}

-- the same bytes in every form
abbrev pub AreSameBytes : Reply → Reply → Type 0
AreSameBytes r q = (form : Form) → form_text r form ≡ form_text q form

-- the same bytes in both versions, without warnings
abbrev pub AreSameLines : Reply → Reply → Type 0
AreSameLines r q = (version : Version) → form_text r (record { version = version; warnings = false }) ≡ form_text q (record { version = version; warnings = false })

-- There are as many replies. Those to equal declarations are the same bytes in every form, and so is that to the last fault; those to
-- declarations that differ and are accepted in both are the same lines.
abbrev pub AreEqualReplies : List (TopDec Place) → List (TopDec Place) → List Reply → List Reply → Type 0
AreEqualReplies (d ∷ ds) (e ∷ es) (r ∷ rs) (q ∷ qs) =
    ((d ≡ e → AreSameBytes r q) × (accepts r ≡ true → accepts q ≡ true → AreSameLines r q)) × AreEqualReplies ds es rs qs
AreEqualReplies [] [] (r ∷ rs) (q ∷ qs) = AreSameBytes r q × AreEqualReplies [] [] rs qs
AreEqualReplies [] [] [] [] = Unit {0}
AreEqualReplies ds es rs qs = ⊥

abbrev pub AllHaveEqualReplies : List Source → List Source → List UnitReplies → List UnitReplies → Type 0
AllHaveEqualReplies [] [] [] [] = Unit {0}
AllHaveEqualReplies (u ∷ us) (w ∷ ws) (r ∷ rs) (q ∷ qs) =
    ((r.name ≡ q.name) × AreEqualReplies u.declarations w.declarations r.replies q.replies) × AllHaveEqualReplies us ws rs qs
AllHaveEqualReplies us ws rs qs = ⊥

-- Take two projects that differ only in what stands behind `:>` in structures at top level and in the bodies of functors, and any
-- replies that they may be given, such that each declaration that differs is accepted in both or refused in both. Then all other
-- declarations are replied to with the same bytes, warnings asked for or not, and those that are accepted with the same lines.
abbrev pub SealsIsolate : Type 0
SealsIsolate =
    (us ws : List UnitText) (rs qs : List UnitReplies) (h : MayReply us rs) (k : MayReply ws qs) → AreSourcesAlike h.sources k.sources
    → AllAgreeAtSeals h.sources k.sources rs qs → AllHaveEqualReplies h.sources k.sources rs qs

-- Units of sources that are alike are alike.
abbrev pub SourcesMakeUnits : Type 0
SourcesMakeUnits = (ss ts : List Source) → AreSourcesAlike ss ts → AreUnitsAlike (map unit_of ss) (map unit_of ts)

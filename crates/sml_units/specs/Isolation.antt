-- A sealed body is its maker's own affair.
use Rattle.std.specs.Prelude.{◌≡◌, ◌⊎◌, ◌↔◌, ℕ, suc, List, [], ◌∷◌, map}
use Rattle.sml_lex.specs.declared.fault.Place.{Place}
use Rattle.sml_tree.specs.Trees.{Dec, core, sealed, other}
use Rattle.sml_tree.specs.Forget.{forget}
use Rattle.sml_objects.specs.Names.{Naming}
use Rattle.sml_objects.specs.Objects.{Sig}
use Rattle.sml_objects.specs.Initial.{Name, naming, initial_basis}
use Rattle.sml_rules.specs.Answers.{Answer, refused, accepted}
use Rattle.sml_texts.specs.Text.{text}
use Rattle.sml_units.specs.Runs.{SourceUnit, RunProject}

-- The same structure identifier and signature expression, and perhaps another body; places don't count.
unfoldable pub SealAlike : Dec Place → Dec Place → Type 0
SealAlike (core d) e = ⊥
SealAlike (other p) e = ⊥
SealAlike (sealed s p q ds) (core e) = ⊥
SealAlike (sealed s p q ds) (other p') = ⊥
SealAlike (sealed s p q ds) (sealed s' p' q' ds') = (s ≡ s') × (map forget q ≡ map forget q')

-- the same declarations in the same number, but for the bodies of sealed structures
unfoldable pub AlikeOutsideSeals : List (Dec Place) → List (Dec Place) → Type 0
AlikeOutsideSeals [] [] = Unit {0}
AlikeOutsideSeals [] (e ∷ es) = ⊥
AlikeOutsideSeals (d ∷ ds) [] = ⊥
AlikeOutsideSeals (d ∷ ds) (e ∷ es) = ((d ≡ e) ⊎ SealAlike d e) × AlikeOutsideSeals ds es

-- Two projects with the same unit names, order of lines, needs and last faults, and with declarations that are alike.
unfoldable pub ProjectsAlike : List SourceUnit → List SourceUnit → Type 0
ProjectsAlike [] [] = Unit {0}
ProjectsAlike [] (w ∷ ws) = ⊥
ProjectsAlike (u ∷ us) [] = ⊥
ProjectsAlike (u ∷ us) (w ∷ ws) =
    ((u.label ≡ w.label) × (u.maker ≡ w.maker) × (u.needs ≡ w.needs) × (u.last ≡ w.last) × AlikeOutsideSeals u.declarations w.declarations)
    × ProjectsAlike us ws

unfoldable pub IsAccepted : {X : Type 0} → Answer Place X → Type 0
IsAccepted (refused f) = ⊥
IsAccepted (accepted x) = Unit {0}

-- each declaration that differs is accepted in both or refused in both
unfoldable pub AgreeAtSeals : {X Y : Type 0} → List (Dec Place) → List (Dec Place) → List (Answer Place X) → List (Answer Place Y) → Type 0
AgreeAtSeals (d ∷ ds) (e ∷ es) (o ∷ os) (q ∷ qs) = (¬ (d ≡ e) → IsAccepted o ↔ IsAccepted q) × AgreeAtSeals ds es os qs
AgreeAtSeals ds es os qs = Unit {0}

unfoldable pub ProjectsAgree : {X Y : Type 0} → List SourceUnit → List SourceUnit → List (List (Answer Place X)) → List (List (Answer Place Y)) → Type 0
ProjectsAgree (u ∷ us) (w ∷ ws) (os ∷ oss) (qs ∷ qss) = AgreeAtSeals u.declarations w.declarations os qs × ProjectsAgree us ws oss qss
ProjectsAgree us ws oss qss = Unit {0}

-- From the number k on, the replies to equal declarations have equal texts, and so have those to declarations that
-- are accepted in both.
unfoldable pub EqualReplies : {M N : Type 0} → Naming M → Naming N → ℕ → List (Dec Place) → List (Dec Place)
    → List (Answer Place (Sig M)) → List (Answer Place (Sig N)) → Type 0
EqualReplies a b k (d ∷ ds) (e ∷ es) (o ∷ os) (q ∷ qs) =
    (d ≡ e → text a k o ≡ text b k q) × (IsAccepted o → IsAccepted q → text a k o ≡ text b k q) × EqualReplies a b (suc k) ds es os qs
EqualReplies a b k ds es os qs = Unit {0}

unfoldable pub ProjectsReplyEqually : {M N : Type 0} → Naming M → Naming N → List SourceUnit → List SourceUnit
    → List (List (Answer Place (Sig M))) → List (List (Answer Place (Sig N))) → Type 0
ProjectsReplyEqually a b (u ∷ us) (w ∷ ws) (os ∷ oss) (qs ∷ qss) =
    EqualReplies a b 1 u.declarations w.declarations os qs × ProjectsReplyEqually a b us ws oss qss
ProjectsReplyEqually a b us ws oss qss = Unit {0}

-- If two projects differ only in the bodies of sealed structures, and each declaration that differs is accepted in both
-- or refused in both, then any two runs of them give all other declarations the same replies, byte for byte, and the
-- sealed ones that are accepted too.
abbrev pub SealsIsolate : Type 0
SealsIsolate =
    (us ws : List SourceUnit) (oss qss : List (List (Answer Place (Sig Name))))
    → RunProject naming initial_basis [] us oss → RunProject naming initial_basis [] ws qss
    → ProjectsAlike us ws → ProjectsAgree us ws oss qss
    → ProjectsReplyEqually naming naming us ws oss qss

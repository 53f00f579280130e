-- A project is replied to in one way: it is alike to itself.
use Rattle.std.specs.Prelude.{◌≡◌, List, [], ◌∷◌}
use Rattle.std.proofs.Common.{inl}
use mathlib.Core.Path.{refl, sym, subst, ◌∙◌}
use Rattle.sml_lex.specs.declared.fault.Place.{Place}
use Rattle.sml_tree.specs.Structures.{TopDec}
use Rattle.sml_parse.proofs.OneList.{trees_one}
use Rattle.sml_places.specs.Likeness.{AreDeclarationsAlike}
use Rattle.sml_projects.specs.Orders.{UnitText}
use Rattle.sml_reply.specs.declared.reply.Reply.{Reply}
use Rattle.sml_run_rules.specs.Sources.{Source, IsSourceOf, AreSourcesOf}
use Rattle.sml_run_rules.specs.Runs.{UnitReplies}
use Rattle.sml_run_rules.specs.Likeness.{AreSourcesAlike}
use Rattle.sml_run_rules.specs.Seals.{AgreeAtSeals, AllAgreeAtSeals, AreEqualReplies, AllHaveEqualReplies}
use Rattle.sml_run_rules.specs.One.{AreSameReplies, AreSameUnitReplies, RepliesAreOne}
use Rattle.sml_run_rules.proofs.SealedReplies.{seals-isolate}

one-source : (u : UnitText) (s t : Source) → IsSourceOf u s → IsSourceOf u t → s ≡ t
one-source u s t a b =
    let trees =
    trees_one u.text a.spelt.tokens b.spelt.tokens a.spelt.end b.spelt.end s.declarations t.declarations a.spelt.of_piece b.spelt.of_piece s.last t.last
    a.spelt.tokens_spelt b.spelt.tokens_spelt a.spelt.trees b.spelt.trees in
    let name = a.name_is ∙ sym b.name_is in
    let number = a.number_is ∙ sym b.number_is in
    let needs = a.needs_are ∙ sym b.needs_are in
    λ i. record { name = name i; number = number i; needs = needs i; declarations = trees.0 i; last = trees.2 i }

one-project : (us : List UnitText) (ss ts : List Source) → AreSourcesOf us ss → AreSourcesOf us ts → ss ≡ ts
one-project [] [] [] a b = refl
one-project [] [] (t ∷ ts) a b = absurd b
one-project [] (s ∷ ss) ts a b = absurd a
one-project (u ∷ us) [] ts a b = absurd a
one-project (u ∷ us) (s ∷ ss) [] a b = absurd b
one-project (u ∷ us) (s ∷ ss) (t ∷ ts) a b =
    let one = one-source u s t a.0 b.0 in
    let rest = one-project us ss ts a.1 b.1 in λ i. one i ∷ rest i

-- what is alike to itself

alike-to-itself : (ds : List (TopDec Place)) → AreDeclarationsAlike ds ds
alike-to-itself [] = tt
alike-to-itself (d ∷ ds) = (inl refl, alike-to-itself ds)

sources-alike : (ss : List Source) → AreSourcesAlike ss ss
sources-alike [] = tt
sources-alike (s ∷ ss) = ((refl, refl, refl, refl, alike-to-itself s.declarations), sources-alike ss)

agree-at-none : (ds : List (TopDec Place)) (rs qs : List Reply) → AgreeAtSeals ds ds rs qs
agree-at-none [] rs qs = tt
agree-at-none (d ∷ ds) [] qs = tt
agree-at-none (d ∷ ds) (r ∷ rs) [] = tt
agree-at-none (d ∷ ds) (r ∷ rs) (q ∷ qs) = ((λ n. absurd (n refl)), agree-at-none ds rs qs)

all-agree : (ss : List Source) (rs qs : List UnitReplies) → AllAgreeAtSeals ss ss rs qs
all-agree [] rs qs = tt
all-agree (s ∷ ss) [] qs = tt
all-agree (s ∷ ss) (r ∷ rs) [] = tt
all-agree (s ∷ ss) (r ∷ rs) (q ∷ qs) = (agree-at-none s.declarations r.replies q.replies, all-agree ss rs qs)

-- what isn't changed is replied to with the same bytes

same-replies : (ds : List (TopDec Place)) (rs qs : List Reply) → AreEqualReplies ds ds rs qs → AreSameReplies rs qs
same-replies [] [] [] h = tt
same-replies [] [] (q ∷ qs) h = absurd h
same-replies [] (r ∷ rs) [] h = absurd h
same-replies [] (r ∷ rs) (q ∷ qs) h = (h.0, same-replies [] rs qs h.1)
same-replies (d ∷ ds) [] qs h = absurd h
same-replies (d ∷ ds) (r ∷ rs) [] h = absurd h
same-replies (d ∷ ds) (r ∷ rs) (q ∷ qs) h = (h.0.0 refl, same-replies ds rs qs h.1)

same-units : (ss : List Source) (rs qs : List UnitReplies) → AllHaveEqualReplies ss ss rs qs → AreSameUnitReplies rs qs
same-units [] [] [] h = tt
same-units [] [] (q ∷ qs) h = absurd h
same-units [] (r ∷ rs) qs h = absurd h
same-units (s ∷ ss) [] qs h = absurd h
same-units (s ∷ ss) (r ∷ rs) [] h = absurd h
same-units (s ∷ ss) (r ∷ rs) (q ∷ qs) h = ((h.0.0, same-replies s.declarations r.replies q.replies h.0.1), same-units ss rs qs h.1)

pub replies-are-one : RepliesAreOne
replies-are-one us rs qs h k =
    let e = one-project us h.sources k.sources h.sources_are k.sources_are in
    let alike = subst (AreSourcesAlike h.sources) e (sources-alike h.sources) in
    let agree = subst (λ ts. AllAgreeAtSeals h.sources ts rs qs) e (all-agree h.sources rs qs) in
    let equal = seals-isolate us us rs qs h k alike agree in
    same-units h.sources rs qs (subst (λ ts. AllHaveEqualReplies h.sources ts rs qs) (sym e) equal)

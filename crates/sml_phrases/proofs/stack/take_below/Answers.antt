use Rattle.std.proofs.Common.{◌<◌, [], ◌∷◌, drop, reverse, sym, ap, ◌∙◌, arith}
use Rattle.std.proofs.lemmas.List.{reverse-append}
use Rattle.sml_phrases.specs.Phrases.{first}
use Rattle.sml_phrases.specs.PhraseViews.{phrase_of, held_in}
use Rattle.sml_phrases.proofs.Holding.{less_counted}
use Rattle.sml_phrases.proofs.stack.take_below.Goals as goal

pub returns-clause-some : goal.returns-clause-some
returns-clause-some c = λ t.
    let last = c.in-Some.last.now in
    let before = c.in-Some._before.now in
    let some : 0 < last.below = omega (arith, c.if-last-eq0.false) in
    let e = ap reverse c.in-Some.ensures.cases.0 ∙ reverse-append before (last ∷ []) in
    ap held_in (reverse-append before (_ ∷ []))
    ∙ ap (λ xs. phrase_of last.phrase ∷ xs) (less_counted last (reverse before) some)
    ∙ sym (ap (λ hs. first (held_in hs) ∷ drop 2 (held_in hs)) e)

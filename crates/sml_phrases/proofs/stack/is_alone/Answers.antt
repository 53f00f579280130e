use Rattle.std.proofs.Common.{◌≡◌, ◌&&◌, [], ◌∷◌, reverse, sym, ap, ◌∙◌, subst, arith}
use Rattle.std.proofs.lemmas.List.{reverse-append}
use Rattle.sml_phrases.specs.Phrases.{at, first, nothing, of_exp, exp_in}
use Rattle.sml_phrases.specs.PhraseViews.{phrase_of, held_in, is_alone, is_nothing}
use Rattle.sml_phrases.proofs.Holding.{alone_counted, below_counted, alone_held}
use Rattle.sml_phrases.proofs.stack.is_alone.Goals as goal

pub returns-then-last-gt0-clause-said : goal.returns-then-last-gt0-clause-said
returns-then-last-gt0-clause-said c =
    let last = c.in-Some.last.now in
    let before = c.in-Some.before.now in
    let e = ap reverse c.in-Some.ensures.cases.0 ∙ reverse-append before (last ∷ []) in
    c.is_exp.ensures.said ∙ sym (alone_counted last (reverse before) c.if-last-gt0.true) ∙ sym (ap (λ hs. is_alone (held_in hs)) e)

pub returns-then-last-gt0-clause-alone : goal.returns-then-last-gt0-clause-alone
returns-then-last-gt0-clause-alone c = λ h.
    let last = c.in-Some.last.now in
    let before = c.in-Some.before.now in
    let e = ap reverse c.in-Some.ensures.cases.0 ∙ reverse-append before (last ∷ []) in
    subst (λ hs. (first (held_in hs) ≡ of_exp (exp_in (first (held_in hs)))) × (at (held_in hs) 1 ≡ nothing)) (sym e)
    (c.is_exp.ensures.exp h, below_counted last (reverse before) c.if-last-gt0.true)

pub returns-then-is_exp-clause-said : goal.returns-then-is_exp-clause-said
returns-then-is_exp-clause-said c =
    let last = c.in-Some.last.now in
    let before = c.in-Some.before.now in
    let below = c.in-Some-split_last.below.now in
    let rest = c.in-Some-split_last._rest.now in
    let none : last.below ≡ 0 = omega (arith, c.if-last-gt0.false) in
    let e = ap reverse c.in-Some.ensures.cases.0 ∙ reverse-append before (last ∷ [])
    ∙ ap (λ hs. last ∷ hs) (ap reverse c.in-Some-split_last.ensures.cases.0 ∙ reverse-append rest (below ∷ [])) in
    let exp = sym c.is_exp-in-Some-split_last.ensures.said ∙ c.if-is_exp.true in
    c.is_nothing.ensures.said
    ∙ ap (λ b. b && is_nothing (phrase_of below.phrase)) (sym exp)
    ∙ sym (alone_held last below (reverse rest) none)
    ∙ sym (ap (λ hs. is_alone (held_in hs)) e)

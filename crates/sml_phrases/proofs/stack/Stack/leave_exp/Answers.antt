use Rattle.std.proofs.Common.{◌≡◌, ◌∷◌, ◌++◌, [], drop, replicate, reverse, sym, ap, ◌∙◌, refl, subst, arith}
use Rattle.std.proofs.lemmas.List.{reverse-append}
use Rattle.sml_phrases.specs.Phrases.{at, first, nothing, of_exp, exp_in}
use Rattle.sml_phrases.specs.PhraseViews.{phrase_of, held_in, seen}
use Rattle.sml_phrases.proofs.Holding.{taken_held, written}
use Rattle.sml_phrases.proofs.stack.Stack.leave_exp.Goals as goal

pub returns-clause-taken : goal.returns-clause-taken
returns-clause-taken c = λ t.
    let stack = c.args.self.now in
    let items = stack.held.items in
    let exp = c.take_last-exp.result in
    let below = c.take_last-nothing.result in
    let rest = c.take_last-nothing.new.self.items in
    let all : items ≡ c.take_last-exp.new.self.items ++ exp ∷ [] = sym (written stack.held.len c.take_below.new.held items (c.if-take_below.ensures.kept refl ∙ c.deref_mut.ensures.value) stack.held.ok.0) ∙ c.take_last-exp.ensures.items in
    let turned : reverse items ≡ exp ∷ below ∷ reverse rest = ap reverse all ∙ reverse-append c.take_last-exp.new.self.items (exp ∷ [])
    ∙ ap (λ hs. exp ∷ hs) (ap reverse c.take_last-nothing.ensures.items ∙ reverse-append rest (below ∷ [])) in
    let none = c.if-take_below.ensures.none refl exp (below ∷ reverse rest) (ap reverse c.deref_mut.ensures.value ∙ turned) in
    let zero : stack.nothings ≡ 0 = omega (arith, c.if-self-gt0.false) in
    let whole : seen stack ≡ held_in (reverse items) = ap (λ n. replicate n nothing ++ held_in (reverse items)) zero in
    let alone = subst (λ vs. (first vs ≡ of_exp (exp_in (first vs))) × (at vs 1 ≡ nothing)) (ap (λ hs. held_in (reverse hs)) c.deref.ensures.value ∙ sym whole) (c.if-not-is_alone.ensures.alone refl) in (
      alone.1,
      c.add.ensures ∙ ap (λ vs. phrase_of exp.phrase ∷ vs) (sym (taken_held exp below (reverse rest) none))
          ∙ sym (ap (λ hs. first (held_in hs) ∷ drop 2 (held_in hs)) turned) ∙ sym (ap (λ vs. first vs ∷ drop 2 vs) whole)
          ∙ ap (λ v. v ∷ drop 2 (seen stack)) alone.0,
    )

use Rattle.std.proofs.Common.{◌≡◌, List, [], ◌∷◌, drop, OnOk, Result, Ok, Err, subst, ap, ◌∙◌, refl}
use Rattle.sml_derived.specs.Derived.{if_of}
use Rattle.sml_phrases.specs.Phrases.{Phrase, at, exp_in}
use Rattle.sml_phrases.specs.PhraseViews.{seen}
use Rattle.sml_bare_exps.specs.ExpressionViews.{GivesExp, low_exp_of}
use Rattle.sml_bare_exps.proofs.expression_rules.branches.Goals as goal

at-after : (vs : List Phrase) → at (drop 2 vs) 1 ≡ at vs 3
at-after [] = refl
at-after (v ∷ []) = refl
at-after (v ∷ w ∷ vs) = refl

drop-after : (vs : List Phrase) → drop 2 (drop 2 vs) ≡ drop 4 vs
drop-after [] = refl
drop-after (v ∷ []) = refl
drop-after (v ∷ w ∷ vs) = refl

on_ok : (A E P : Type 0) (r : Result A E) → P → OnOk r P
on_ok A E P (Ok x) p = p
on_ok A E P (Err e) p = tt

pub returns-clause-made : goal.returns-clause-made
returns-clause-made c =
    let vs = seen c.args.stack.now in
    let no : low_exp_of c.after_word-no.result ≡ exp_in (at vs 3) = c.after_word-no.ensures.value ∙ ap (λ s. exp_in (at s 1)) c.after_word-yes.ensures.rest ∙ ap exp_in (at-after vs) in
    subst (λ e. GivesExp (if_of c.args.place (low_exp_of c.args.test) (exp_in (at vs 1)) e) c.low_conditional.result) no
    (subst (λ e. GivesExp (if_of c.args.place (low_exp_of c.args.test) e (low_exp_of c.after_word-no.result)) c.low_conditional.result) c.after_word-yes.ensures.value c.low_conditional.ensures)

pub returns-clause-rest : goal.returns-clause-rest
returns-clause-rest c =
    on_ok _ _ _ c.low_conditional.result (c.after_word-no.ensures.rest ∙ ap (drop 2) c.after_word-yes.ensures.rest ∙ drop-after (seen c.args.stack.now))

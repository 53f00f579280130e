use Rattle.std.proofs.Common.{[], ◌∷◌, ap, sym, subst, ◌∙◌}
use Rattle.sml_tree.specs.PatternViews.{pat_of}
use Rattle.sml_core_rules.specs.Patterns.{pattern_place}
use Rattle.sml_patterns.specs.Views.{meanings}
use Rattle.sml_patterns.specs.declared.judge.Holder.TheVariants.{Val}
use Rattle.sml_warnings.specs.Meanings.{meaning_in}
use Rattle.sml_warnings.specs.Named.{after_pat}
use Rattle.sml_warnings.specs.Added.{Adds}
use Rattle.sml_warnings.proofs.Adding.{adds_none, adds_noted}
use Rattle.sml_warnings.proofs.matches.judge_binding.Goals as goal

pub returns-then-branch-clause-warned : goal.returns-then-branch-clause-warned
returns-then-branch-clause-warned c = λ C m t.
    adds_none (meaning_in C) (Val (pattern_place (pat_of c.args.pat.now))) (pattern_place (pat_of c.args.pat.now), pat_of c.args.pat.now) c.args.warnings.now.items (sym (c.in_ok-matches_everything.ensures.answer C m) ∙ c.if-branch.true)

pub returns-clause-warned : goal.returns-clause-warned
returns-clause-warned c = λ C m t.
    let p = pattern_place (pat_of c.args.pat.now) in
    let K = meanings c.name_meanings.new.names in
    let old = c.args.warnings.now.items in
    let new = c.warn.new.warnings.items in
    adds_noted (meaning_in C) K (Val p) ((p, pat_of c.args.pat.now) ∷ []) old new
    (λ x. c.in_ok-name_meanings.ensures.names C m x ∙ ap (λ k. after_pat (meaning_in C) (pat_of c.args.pat.now) x k) (c.new-names.ensures x)) t
    (subst (λ q. Adds K (Val q) ((q, pat_of c.args.pat.now) ∷ []) old new) c.pattern_place-place.ensures c.in_ok-warn.ensures)

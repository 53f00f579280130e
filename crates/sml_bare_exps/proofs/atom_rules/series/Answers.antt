use Rattle.std.proofs.Common.{◌≡◌, Err, ◌∷◌, map, reverse, subst, sym, ap, ◌∙◌, rules, arith}
use Rattle.std.proofs.lemmas.Grind.{common_steps}
use Rattle.sml_tree.specs.ExpressionViews.{exps_of}
use Rattle.sml_derived.specs.Derived.{sequence_of}
use Rattle.sml_bare_exps.specs.ExpressionRules.{series_of}
use Rattle.sml_bare_exps.specs.ExpressionViews.{GivesExp, low_exp_of}
use Rattle.sml_bare_exps.proofs.ExpressionLists.{onto, onto_fails, sequence_grows, series_begins}
use Rattle.sml_bare_exps.proofs.atom_rules.series.Goals as goal

pub loop-exp-init : goal.loop-exp-init
loop-exp-init c =
    let popped : reverse c.reverse.new.self.items ≡ c.in-Some.whole ∷ reverse c.pop.new.self.items = first_of (search rules, grind (arith, common_steps)) in
    series_begins low_exp_of c.args.place (reverse c.args.exps.items) (reverse c.pop.new.self.items) c.in-Some.whole (ap reverse (sym c.reverse.ensures.items) ∙ popped)

pub returns-in_err-whole : goal.returns-in_err-whole
returns-in_err-whole c =
    let p = c.args.place in
    let whole = series_of p (exps_of (map low_exp_of (reverse c.args.exps.items))) in
    let last = sequence_of p (low_exp_of c.in-Some-pop.exp) (low_exp_of c.loop-exp.whole) in
    let rest = map low_exp_of (reverse c.pop-in-loop-exp.new.self.items) in
    let made : whole ≡ onto (sequence_of p) last rest = first_of (search rules, grind (arith, common_steps)) in
    let given : GivesExp last (Err c.in_err-whole.field-0.0) = c.in_err-whole.ensures in
    let e : c.from_residual.result ≡ Err c.in_err-whole.field-0.0 = first_of (search rules, grind (arith, common_steps)) in
    subst (GivesExp whole) (sym e) (onto_fails (sequence_of p) (sequence_grows p) whole last rest c.in_err-whole.field-0.0 made given)

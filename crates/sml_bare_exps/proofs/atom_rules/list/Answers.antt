use Rattle.std.proofs.Common.{◌≡◌, Err, map, reverse, subst, sym, ap, ◌∙◌, rules, arith}
use Rattle.std.proofs.lemmas.Grind.{common_steps}
use Rattle.sml_tree.specs.ExpressionViews.{exps_of}
use Rattle.sml_derived.specs.Derived.{cons_of}
use Rattle.sml_bare_exps.specs.ExpressionRules.{list_of}
use Rattle.sml_bare_exps.specs.ExpressionViews.{GivesExp, low_exp_of}
use Rattle.sml_bare_exps.proofs.ExpressionLists.{onto, onto_fails, cons_grows, list_begins}
use Rattle.sml_bare_exps.proofs.atom_rules.list.Goals as goal

pub loop-exp-init : goal.loop-exp-init
loop-exp-init c =
    let e = low_exp_of c.in_ok-whole.whole in
    list_begins low_exp_of c.args.place (reverse c.args.exps.items) e c.in_ok-whole.ensures
    ∙ ap (λ zs. onto (cons_of c.args.place) e (map low_exp_of (reverse zs))) (sym c.reverse.ensures.items)

pub returns-in_err-whole-2 : goal.returns-in_err-whole-2
returns-in_err-whole-2 c =
    let p = c.args.place in
    let whole = list_of p (exps_of (map low_exp_of (reverse c.args.exps.items))) in
    let last = cons_of p (low_exp_of c.in-Some.exp) (low_exp_of c.loop-exp.whole) in
    let rest = map low_exp_of (reverse c.pop.new.self.items) in
    let made : whole ≡ onto (cons_of p) last rest = first_of (search rules, grind (arith, common_steps)) in
    let given : GivesExp last (Err c.in_err-whole-2.field-0.0) = c.in_err-whole-2.ensures in
    let e : c.from_residual-in_err-whole-2.result ≡ Err c.in_err-whole-2.field-0.0 = first_of (search rules, grind (arith, common_steps)) in
    subst (GivesExp whole) (sym e) (onto_fails (cons_of p) (cons_grows p) whole last rest c.in_err-whole-2.field-0.0 made given)

use Rattle.std.proofs.Common.{ap, ◌∙◌}
use Rattle.sml_tree.specs.ExpressionViews.{exp_of}
use Rattle.sml_derived.specs.Derived.{var}
use Rattle.sml_derived.proofs.Lists.{next_variable}
use Rattle.sml_derived.proofs.functions.hidden_vars.Goals as goal

pub loop-before-preserved : goal.loop-before-preserved
loop-before-preserved c =
    next_variable exp_of c.loop-before.exps.items c.push.new.self.items c.in_ok-var.field-0 c.args.place c.loop-before.before c.in_ok-push.ensures.items (c.in_ok-var.ensures ∙ ap (var c.args.place) c.in_ok-variable.ensures) c.loop-before.invariant

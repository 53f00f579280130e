use Rattle.std.proofs.Common.{◌∙◌}
use Rattle.sml_derived.proofs.Views.{exp_of-tuple, row_of-others}
use Rattle.sml_derived.proofs.functions.row_of.Goals as goal

pub returns-then-len-ne1 : goal.returns-then-len-ne1
returns-then-len-ne1 c =
    exp_of-tuple c.args.place c.args.exps ∙ row_of-others c.args.place c.args.exps.items (λ e. c.if-len-ne1.true (c.len.ensures ∙ c.args.exps.ok.0 ∙ e))

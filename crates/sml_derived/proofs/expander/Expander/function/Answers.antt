use Rattle.std.proofs.Common.{map, sym, ◌∙◌}
use Rattle.sml_tree.specs.Views.{ident_of}
use Rattle.sml_tree.specs.ExpressionViews.{exp_of}
use Rattle.sml_tree.specs.Clauses.{clause_of}
use Rattle.sml_derived.proofs.Lists.{whole_function, count_is_length}
use Rattle.sml_derived.proofs.Views.{bind_of-parts}
use Rattle.sml_derived.proofs.expander.Expander.function.Goals as goal

pub returns : goal.returns
returns c =
    bind_of-parts c.in_ok-pat_var.field-0 c.in_ok-curried.field-0
    ∙ whole_function (ident_of c.args.name.now) (clause_of c.args.first) (map clause_of c.args.others.items) _ _ (exp_of c.in_ok-body.body) (exp_of c.row_of-subject.result) _ _ c.len-count.result
    c.in_ok-pat_var.ensures (c.len-count.ensures ∙ c.args.first.pats.ok.0 ∙ sym (count_is_length c.args.first.pats.items)) c.in_ok-hidden_vars.ensures c.row_of-subject.ensures c.in_ok-rules.ensures c.in_ok-body.ensures c.in_ok-curried.ensures

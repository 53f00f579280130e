use Rattle.std.proofs.Common.{rules, ◌≡◌, suc, ap, ◌∙◌}
use Rattle.sml_tree.specs.Views.{brackets, exp_of}
use Rattle.sml_tree.proofs.TreeViews.{exp_of-brackets}
use Rattle.sml_piece_trees.proofs.expressions.further_bracket.Goals as goal

pub returns-in-Some : goal.returns-in-Some
returns-in-Some c =
    let more : c.in-Some.more ≡ suc c.args.pairs = search (rules, c.in-Some.ensures) in
    exp_of-brackets c.args.exp c.in-Some.more ∙ ap (λ n. brackets n (exp_of c.args.exp.value)) more

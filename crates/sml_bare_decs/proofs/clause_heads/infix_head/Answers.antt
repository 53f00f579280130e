use Rattle.std.proofs.Common.{◌∙◌, sym, reverse}
use Rattle.std.proofs.lemmas.List.{length-reverse}
use Rattle.sml_tree.specs.PatternViews.{pat_of}
use Rattle.sml_bare_decs.proofs.Headings.{not_three}
use Rattle.sml_bare_decs.proofs.clause_heads.infix_head.Goals as goal

pub returns-then-len-ne2 : goal.returns-then-len-ne2
returns-then-len-ne2 c =
    c.in_ok-nameless.ensures
    ∙ not_three (λ q. pat_of q.tree) (pat_of c.args.first.tree) (reverse c.args.others.trees.items) (λ e. c.if-len-ne2.true (c.len.ensures ∙ c.args.others.trees.ok.0 ∙ sym (length-reverse c.args.others.trees.items) ∙ e))

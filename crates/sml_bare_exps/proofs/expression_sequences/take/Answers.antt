use Rattle.std.proofs.Common.{map, set, ap, ◌∙◌}
use Rattle.std.proofs.lemmas.List.{map-set}
use Rattle.sml_bare_exps.specs.ExpressionViews.{low_exp_of}
use Rattle.sml_bare_exps.proofs.expression_sequences.take.Goals as goal

pub returns-then-index-len-clause-rest : goal.returns-then-index-len-clause-rest
returns-then-index-len-clause-rest c =
    map-set low_exp_of c.args.atoms.now.items c.args.index c.replace.new.dest
    ∙ ap (λ e. set (map low_exp_of c.args.atoms.now.items) c.args.index (low_exp_of e)) c.replace.ensures.after
    ∙ ap (set (map low_exp_of c.args.atoms.now.items) c.args.index) c.no_operand.ensures

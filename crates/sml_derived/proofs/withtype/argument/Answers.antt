use Rattle.std.proofs.Common.{ap, sym, ◌∙◌}
use Rattle.std.specs.Str.{bytes_eq}
use Rattle.sml_tree.specs.Views.{ident_of}
use Rattle.sml_derived.proofs.Searches.{argument_next, argument_nowhere}
use Rattle.sml_derived.proofs.withtype.argument.Goals as goal

pub loop-index-preserved : goal.loop-index-preserved
loop-index-preserved c =
    c.loop-index.invariant ∙ argument_next (ident_of c.args.variable.now) c.args.variables.now c.args.arguments.now c.loop-index.index c.index-variables-index.result c.is_same.result c.loop-index-test.true c.index-variables-index.is
    (c.is_same.ensures ∙ ap (λ x. bytes_eq (ident_of c.args.variable.now) (ident_of x.ident)) (sym c.index-variables-index.is)) c.if-is_same.false

pub returns : goal.returns
returns c = sym (c.loop-index.invariant ∙ argument_nowhere (ident_of c.args.variable.now) c.args.variables.now c.args.arguments.now c.loop-index.index c.loop-index-test.false)

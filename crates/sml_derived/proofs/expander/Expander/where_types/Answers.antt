use Rattle.std.proofs.Common.{ap, ◌∙◌}
use Rattle.sml_tree.specs.Signatures.{where_type}
use Rattle.sml_tree.specs.SignatureViews.{sig_of, where_of}
use Rattle.sml_derived.proofs.Lists.{next_where}
use Rattle.sml_derived.proofs.Views.{sig_of-where}
use Rattle.sml_derived.proofs.expander.Expander.where_types.Goals as goal

pub loop-equation-preserved : goal.loop-equation-preserved
loop-equation-preserved c =
    next_where where_of c.args.place (sig_of c.args.signature) (sig_of c.loop-equation.whole) _ c.loop-equation.yielded c.in-Some.equation
    (sig_of-where c.args.place c.in_ok-new.field-0 c.in-Some.equation ∙ ap (λ s. where_type c.args.place (sig_of s) (where_of c.in-Some.equation)) c.in_ok-new.ensures.ok)
    c.loop-equation.invariant

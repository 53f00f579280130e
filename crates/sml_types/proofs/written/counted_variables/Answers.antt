use Rattle.std.proofs.Common.{◌≡◌, ap, ◌∙◌, arith}
use Rattle.sml_objects.specs.Views.{type_of}
use Rattle.sml_type_maps.specs.Functions.{arity_needed}
use Rattle.sml_type_maps.proofs.Arities.{unneeded}
use Rattle.sml_types.proofs.written.counted_variables.Goals as goal

pub returns-clause-others : goal.returns-clause-others
returns-clause-others c = λ k l b.
    let needed : c.least_arity.result ≡ arity_needed (type_of c.args.function.now.body.value) =
    c.least_arity.ensures ∙ ap (λ t. arity_needed (type_of t)) c.deref.ensures in
    unneeded (type_of c.args.function.now.body.value) k (omega (arith, l, b, needed, c.max.ensures, c.min.ensures, c.len-around.ensures))

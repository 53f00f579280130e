use Rattle.std.proofs.Common.{◌<◌, [], length, sym, ◌∙◌, subst}
use Rattle.std.specs.List.{AllByRecursion}
use Rattle.sml_objects.specs.Views.{type_of}
use Rattle.sml_graph.specs.Graphs.{IsLoose}
use Rattle.sml_schemes.proofs.Bodies.{variables-known}
use Rattle.sml_solve.proofs.Loose.{loose-if}
use Rattle.sml_solve.proofs.read.is_read.Goals as goal

pub are_loose-requires-clause-known : goal.are_loose-requires-clause-known
are_loose-requires-clause-known c =
    let n = length c.args.unknowns.now in
    subst (AllByRecursion (λ v. v < n)) (sym (c.as_slice.ensures.keys ∙ c.in_ok-variables.ensures)) (variables-known n [] (type_of c.args.ty.now) tt c.requires.known)

pub returns : goal.returns
returns c = loose-if c.args.nodes.now c.args.unknowns.now (type_of c.args.ty.now) c.are_loose.result c.requires.known
    (λ e. subst (AllByRecursion (IsLoose c.args.nodes.now c.args.unknowns.now)) (c.as_slice.ensures.keys ∙ c.in_ok-variables.ensures) (c.are_loose.ensures e))

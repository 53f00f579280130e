use Rattle.std.proofs.Common.{◌<◌, [], length, sym, ◌∙◌, subst}
use Rattle.std.specs.List.{AllByRecursion}
use Rattle.sml_objects.specs.Views.{type_of}
use Rattle.sml_schemes.proofs.Bodies.{variables-known, scheme-over}
use Rattle.sml_schemes.proofs.closing.closed.Goals as goal

pub fates-requires-clause-known : goal.fates-requires-clause-known
fates-requires-clause-known c =
    let n = length c.args.unknowns.now in
    subst (AllByRecursion (λ v. v < n)) (sym (c.as_slice.ensures.keys ∙ c.in_ok-places.ensures)) (variables-known n [] (type_of c.args.ty.now) tt c.requires.known)

pub returns-clause-known : goal.returns-clause-known
returns-clause-known c = scheme-over (length c.args.unknowns.now) c.as_slice-2.result.now (type_of c.args.ty.now) c.close_as.result c.requires.known c.close_as.ensures.scheme

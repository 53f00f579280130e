use Rattle.std.proofs.Common.{◌∷◌, ◌+◌, map, take, drop, ap, ◌∙◌}
use Rattle.std.proofs.lemmas.List.{map-append}
use Rattle.sml_types.specs.Datatypes.{constructor_size, meant_argument}
use Rattle.sml_types.proofs.ConstructorSizes.{small-through, too-large}
use Rattle.sml_types.proofs.SideArguments.{mapped-split}
use Rattle.sml_types.proofs.datatypes.small_arguments.Goals as goal

pub returns-in_err-small_argument : goal.returns-in_err-small_argument
returns-in_err-small_argument c =
    let i = c.loop-argument.argument-index in
    let os = c.args.arguments.now in
    let o = c.argument-item.result in
    let size = constructor_size c.args.parameters in
    let before = map meant_argument (take i os) in
    let after = map meant_argument (drop (i + 1) os) in
    small-through c.from_residual.result c.in_err-small_argument.field-0.0 c.args.place _ c.from_residual.ensures.1
    (too-large c.args.place (map size before) (map size after) (map size (map meant_argument os)) (size (meant_argument o)) c.in_err-small_argument.field-0.0
    (ap (map size) (mapped-split meant_argument os i o c.loop-argument-test.true c.argument-item.is) ∙ map-append size before (meant_argument o ∷ after))
    c.in_err-small_argument.ensures)

use Rattle.std.proofs.Common.{◌≡◌, ◌≤◌, length, ap, ◌∙◌, arith}
use Rattle.sml_objects.proofs.TypeViews.{parts_of, type_of-row, type_of-name}
use Rattle.sml_objects.specs.Views.{type_of}
use Rattle.sml_graph.specs.declared.node.Head.TheVariants.{Row, Name}
use Rattle.sml_demands.specs.CodeReads.{stacked}
use Rattle.sml_demands.proofs.Retrieving.{length-stacked, head-taken}
use Rattle.sml_demands.proofs.reading.apply.Goals as goal

pub returns-in_ok-new-in-Row-clause-ty : goal.returns-in_ok-new-in-Row-clause-ty
returns-in_ok-new-in-Row-clause-ty c =
    let more = parts_of c.in_ok-parts-in-Row.parts.items in
    let ts = stacked c.args.types.now.items in
    let n : length ts ≡ length c.args.types.now.items = length-stacked c.args.types.now.items in
    let l : c.args.count ≤ length ts = omega (arith, n, c.requires.enough) in
    ap type_of c.in_ok-new-in-Row.ensures.ok ∙ (type_of-row c.in-Row.labels c.in_ok-parts-in-Row.parts ∙ rw c.in-Row.is (head-taken (Row c.in-Row.labels) c.args.count ts more c.in_ok-parts-in-Row.ensures.parts l))

pub returns-in_ok-new-in-Name-clause-ty : goal.returns-in_ok-new-in-Name-clause-ty
returns-in_ok-new-in-Name-clause-ty c =
    let more = parts_of c.in_ok-parts-in-Name.parts.items in
    let ts = stacked c.args.types.now.items in
    let n : length ts ≡ length c.args.types.now.items = length-stacked c.args.types.now.items in
    let l : c.args.count ≤ length ts = omega (arith, n, c.requires.enough) in
    ap type_of c.in_ok-new-in-Name.ensures.ok ∙ (type_of-name c.in-Name.name c.in_ok-parts-in-Name.parts ∙ rw c.in-Name.is (head-taken (Name c.in-Name.name) c.args.count ts more c.in_ok-parts-in-Name.ensures.parts l))

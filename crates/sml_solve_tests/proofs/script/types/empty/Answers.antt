use Rattle.std.proofs.Common.{◌≡◌, [], ap, sym, subst}
use Rattle.std.specs.List.{AllByRecursion}
use Rattle.sml_objects.specs.Objects as O
use Rattle.sml_objects.specs.Views.{label_list}
use Rattle.sml_objects.proofs.TypeViews.{parts_of, type_of-row}
use Rattle.sml_graph.specs.Interned.{IsOver}
use Rattle.sml_graph.proofs.Interning.{over-app}
use Rattle.sml_solve_tests.proofs.script.types.empty.Goals as goal

pub returns : goal.returns
returns c n =
    let ls = c.in_ok-labels.labels in
    let e : parts_of c.new-2.result.items ≡ [] = ap parts_of c.new-2.ensures.items in
    rw (type_of-row ls c.new-2.result) (over-app n (O.row (label_list ls.value)) (parts_of c.new-2.result.items) (subst (AllByRecursion (IsOver n)) (sym e) tt))

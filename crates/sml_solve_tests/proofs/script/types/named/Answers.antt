use Rattle.std.proofs.Common.{◌≡◌, [], ap, sym, subst}
use Rattle.std.specs.List.{AllByRecursion}
use Rattle.sml_objects.specs.Objects as O
use Rattle.sml_objects.specs.Views.{name_of}
use Rattle.sml_objects.proofs.TypeViews.{parts_of, type_of-name}
use Rattle.sml_graph.specs.Interned.{IsOver}
use Rattle.sml_graph.proofs.Interning.{over-app}
use Rattle.sml_solve_tests.proofs.script.types.named.Goals as goal

pub returns : goal.returns
returns c n =
    let e : parts_of c.new.result.items ≡ [] = ap parts_of c.new.ensures.items in
    rw (type_of-name c.args.name c.new.result) (over-app n (O.name (name_of c.args.name)) (parts_of c.new.result.items) (subst (AllByRecursion (IsOver n)) (sym e) tt))

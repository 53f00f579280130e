use Rattle.std.proofs.Common.{◌≡◌, map, drop}
use Rattle.sml_tree.specs.Trees.{Id}
use Rattle.sml_tree.specs.Views.{exp_of}
use Rattle.sml_objects.specs.Objects.{Env}
use Rattle.sml_objects.specs.Initial.{Name}
use Rattle.sml_objects.specs.Views.{env_of, type_of}
use Rattle.sml_piece.specs.Elaborated.{Shows, numbers_in}
use Rattle.sml_piece.proofs.ExpAnswers.{CarriesExps}
use Rattle.sml_piece.proofs.expressions.+typing.Given as goal

abbrev pub invariant-typed_parts-loop-part : goal.invariant-typed_parts-loop-part
invariant-typed_parts-loop-part l =
    ((x : Id) → numbers_in l.locals x ≡ numbers_in l.fn.locals x)
    × ((C : Env Name) → Shows (numbers_in l.fn.locals) (env_of l.context.outer.now) (env_of l.context.inner.now) C
    → CarriesExps l.made C (map exp_of l.parts) (map exp_of (drop l.part-index l.parts)) l.count (map (λ t. type_of t.value) l.types.items))

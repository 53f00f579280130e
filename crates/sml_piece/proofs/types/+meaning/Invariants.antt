use Rattle.std.proofs.Common.{map, drop}
use Rattle.sml_tree.specs.Views.{ty_of}
use Rattle.sml_objects.specs.Objects.{Env}
use Rattle.sml_objects.specs.Initial.{Name}
use Rattle.sml_objects.specs.Views.{env_of, type_of}
use Rattle.sml_piece.specs.Elaborated.{Shows, Numbers}
use Rattle.sml_piece.proofs.TypeAnswers.{Carries}
use Rattle.sml_piece.proofs.types.+meaning.Given as goal

abbrev pub invariant-types_of-loop-part : goal.invariant-types_of-loop-part
invariant-types_of-loop-part l =
    (locals : Numbers) (C : Env Name) → Shows locals (env_of l.context.outer.now) (env_of l.context.inner.now) C
    → Carries C (map ty_of l.parts) (map ty_of (drop l.part-index l.parts)) (map (λ t. type_of t.value) l.types.items)

use Rattle.std.proofs.Common.{◌≡◌, map, take, length}
use Rattle.sml_objects.specs.Views.{type_of}
use Rattle.sml_type_maps.specs.Counted.{uses_in}
use Rattle.sml_types.proofs.Meanings.{AreAlike, meanings}
use Rattle.sml_types.proofs.written.+made.Given as goal

abbrev pub invariant-all_made-loop-part : goal.invariant-all_made-loop-part
invariant-all_made-loop-part l = map (λ t. type_of t.value) l.types.items ≡ meanings (take l.part-index l.parts)

abbrev pub invariant-made_applied-loop-argument : goal.invariant-made_applied-loop-argument
invariant-made_applied-loop-argument l =
    AreAlike (uses_in (type_of l.function.body.value)) (map (λ t. type_of t.value) l.types.items) (meanings (take (length l.yielded) l.arguments))

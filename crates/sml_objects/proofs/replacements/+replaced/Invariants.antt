use Rattle.std.proofs.Common.{◌≡◌, map, take}
use Rattle.sml_objects.specs.Views.{type_of}
use Rattle.sml_objects.proofs.TypeViews.{parts_of}
use Rattle.sml_objects.proofs.TypeCopies.{copy}
use Rattle.sml_objects.proofs.replacements.+replaced.Given as goal

abbrev pub invariant-replaced_parts-loop-part : goal.invariant-replaced_parts-loop-part
invariant-replaced_parts-loop-part g l =
    parts_of l.copies.items ≡ map (λ t. copy (g.R.Replacement.bound_gives l.by) (g.R.Replacement.free_gives l.by) (g.R.Replacement.name_gives l.by) (type_of t.value)) (take l.part-index l.parts)

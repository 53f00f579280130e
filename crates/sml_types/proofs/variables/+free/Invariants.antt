use Rattle.std.proofs.Common.{◌≡◌, take}
use Rattle.sml_objects.specs.Types.{variables_after_all}
use Rattle.sml_objects.specs.Objects.{types_of}
use Rattle.sml_objects.proofs.TypeViews.{parts_of}
use Rattle.sml_types.proofs.variables.+free.Given as goal

abbrev pub invariant-collect_all_free-loop-part : goal.invariant-collect_all_free-loop-part
invariant-collect_all_free-loop-part l =
    l.seen.keys ≡ variables_after_all l.initial.seen.keys (types_of (parts_of (take l.part-index l.parts)))

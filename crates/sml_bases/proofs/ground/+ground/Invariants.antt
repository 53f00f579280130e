use Rattle.std.proofs.Common.{◌≡◌, false, take}
use Rattle.sml_core_rules.specs.Values.{have_unknown}
use Rattle.sml_objects.specs.Objects.{types_of}
use Rattle.sml_objects.proofs.TypeViews.{parts_of}
use Rattle.sml_bases.proofs.ground.+ground.Given as goal

abbrev pub invariant-are_ground-loop-part : goal.invariant-are_ground-loop-part
invariant-are_ground-loop-part l = have_unknown (types_of (parts_of (take l.part-index l.parts))) ≡ false

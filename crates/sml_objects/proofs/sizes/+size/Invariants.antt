use Rattle.std.proofs.Common.{◌≡◌, min, take}
use Rattle.sml_objects.proofs.TypeViews.{parts_of}
use Rattle.sml_objects.proofs.TypeSizes.{sizes}
use Rattle.sml_objects.proofs.sizes.+size.Given as goal

abbrev pub invariant-sizes_within-loop-part : goal.invariant-sizes_within-loop-part
invariant-sizes_within-loop-part l = l.size ≡ min (sizes (parts_of (take l.part-index l.parts))) l.most

use Rattle.std.proofs.Common.{◌≡◌, true, take}
use Rattle.sml_objects.specs.Equality.{all_admit}
use Rattle.sml_objects.specs.Initial.{naming}
use Rattle.sml_objects.specs.Objects.{types_of}
use Rattle.sml_objects.proofs.TypeViews.{parts_of}
use Rattle.sml_objects.proofs.equality.+admits.Given as goal

abbrev pub invariant-all_admit_equality-loop-part : goal.invariant-all_admit_equality-loop-part
invariant-all_admit_equality-loop-part l = all_admit naming (types_of (parts_of (take l.part-index l.parts))) ≡ true

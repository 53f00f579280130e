use Rattle.std.proofs.Common.{true, take}
use Rattle.sml_objects.specs.Objects.{types_of}
use Rattle.sml_objects.proofs.TypeViews.{parts_of}
use Rattle.sml_piece.specs.CodeMatched.{FitAll, found_in}
use Rattle.sml_piece.proofs.instances.+fitting.Given as goal

abbrev pub invariant-all_fit-loop-index : goal.invariant-all_fit-loop-index
invariant-all_fit-loop-index l =
    FitAll (found_in l.initial.found.entries) (found_in l.found.entries) (types_of (parts_of (take l.index l.bodies))) (types_of (parts_of (take l.index l.types))) true

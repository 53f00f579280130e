use Rattle.std.proofs.Common.{◌≡◌, map}
use Rattle.std.specs.Map.Iter.{deref}
use Rattle.sml_objects.specs.declared.objects.TyName.{TyName}
use Rattle.sml_sigs.proofs.draft.list_of.Given as goal

abbrev pub invariant-loop-name : goal.invariant-loop-name
invariant-loop-name l = l.list.items ≡ map (deref {X = TyName}) l.yielded

use Rattle.std.proofs.Common.{◌≡◌, map}
use Rattle.std.specs.Map.Iter.{deref}
use Rattle.sml_objects.specs.declared.objects.TyName.{TyName}
use Rattle.sml_envs.proofs.canonical.names_from.Given as goal

abbrev pub invariant-loop-name : goal.invariant-loop-name
invariant-loop-name l = l.names.items ≡ map (deref {X = TyName}) l.yielded

use Rattle.std.proofs.Common.{◌≡◌, map}
use Rattle.std.specs.Map.Iter.{deref}
use Rattle.sml_objects.specs.Views.{name_of}
use Rattle.sml_objects.specs.declared.objects.TyName.{TyName}
use Rattle.sml_type_maps.specs.NewNames.{carried_of, carries}
use Rattle.sml_envs.proofs.canonical.carried_by.Given as goal

abbrev pub invariant-loop-name : goal.invariant-loop-name
invariant-loop-name l = map carried_of l.carried.items ≡ map (λ n. carries l.made (name_of n)) (map (deref {X = TyName}) l.yielded)

-- The names are sought that were gone through.
use Rattle.std.proofs.Common.{◌≡◌, map, take}
use Rattle.sml_objects.specs.Appearance.{stands}
use Rattle.sml_objects.specs.Initial.{Name, naming}
use Rattle.sml_objects.specs.Views.{name_of}
use Rattle.sml_match.proofs.realise.realise.Given as goal

abbrev pub invariant-loop-name : goal.invariant-loop-name
invariant-loop-name l = record {
  sought : (n : Name) → stands naming n (map name_of l.bound.keys) ≡ stands naming n (map name_of (take l.name-index l.sig.names.items));
}

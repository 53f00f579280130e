use Rattle.std.proofs.Common.{◌≡◌, map, []}
use Rattle.std.specs.Map.Iter.{deref_pair}
use Rattle.sml_objects.specs.Maps.{join}
use Rattle.sml_objects.specs.Objects.{rename_scheme}
use Rattle.sml_objects.specs.Views.{schemes_of}
use Rattle.sml_objects.proofs.Joins.{mapped}
use Rattle.sml_objects.proofs.renames.renamed_schemes.Given as goal

abbrev pub invariant-loop-name : goal.invariant-loop-name
invariant-loop-name g l =
    schemes_of l.copies.entries ≡ join [] (mapped (rename_scheme (g.M.NameMap.gives l.by)) (schemes_of (map deref_pair l.yielded)))

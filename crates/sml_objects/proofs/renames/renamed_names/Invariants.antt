use Rattle.std.proofs.Common.{◌≡◌, map, take}
use Rattle.sml_objects.specs.Views.{name_of}
use Rattle.sml_objects.proofs.renames.renamed_names.Given as goal

abbrev pub invariant-loop-name : goal.invariant-loop-name
invariant-loop-name g l = map name_of l.copies.items ≡ map (λ n. g.M.NameMap.gives l.by (name_of n)) (take l.name-index l.names)

use Rattle.std.proofs.Common.{[], map, take}
use Rattle.std.specs.Prelude.{slice_index_or}
use Rattle.std.specs.String.{string_bytes}
use Rattle.sml_serve.specs.Overlaid.{ArePathsOf}
use Rattle.sml_serve.proofs.projects.unit_paths.Given as goal

abbrev pub invariant-loop-unit : goal.invariant-loop-unit
invariant-loop-unit l =
    ArePathsOf l.project (map (λ u. slice_index_or (map string_bytes l.listed.files.items) u.id.index []) (take l.unit-index l.unit-items)) (map string_bytes l.paths.items)

use Rattle.std.proofs.Common.{map}
use Rattle.std.specs.String.{string_bytes}
use Rattle.sml_projects.specs.ProjectFiles.{lines_of}
use Rattle.sml_projects.proofs.Manifests.{ReadTo}
use Rattle.sml_projects.proofs.project_file.manifest.Given as goal

abbrev pub invariant-loop-index : goal.invariant-loop-index
invariant-loop-index l =
    ReadTo (lines_of l.text) l.index (map string_bytes l.names.keys) (map string_bytes l.files.items) (map (λ own. map string_bytes own.items) l.needs.items) l.numbers.items

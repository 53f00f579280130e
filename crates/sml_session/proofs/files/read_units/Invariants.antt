use Rattle.std.proofs.Common.{map, take}
use Rattle.std.specs.String.{string_bytes}
use Rattle.sml_session.specs.Files.{AreTexts, Only}
use Rattle.sml_session.proofs.files.read_units.Given as goal

abbrev pub invariant-loop-file : goal.invariant-loop-file
invariant-loop-file g l =
    AreTexts (g.S.Source.gives l.initial.source) l.project (map string_bytes (take l.file-index l.files)) (map (λ t. t.items) l.texts.items)
    × Only (g.S.Source.gives l.initial.source) (g.S.Source.gives l.source)

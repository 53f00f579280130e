use Rattle.std.proofs.Common.{◌≡◌, map}
use Rattle.std.specs.Map.Iter.{deref_pair}
use Rattle.sml_objects.specs.Views.{schemes_of}
use Rattle.sml_texts.specs.Text.{lines}
use Rattle.sml_texts.specs.Spelling.{lines_of, and_pieces}
use Rattle.sml_texts.proofs.texts.Lines.push_lines.Given as goal

abbrev pub invariant-loop-name : goal.invariant-loop-name
invariant-loop-name l =
    lines_of l.self ≡ and_pieces (lines_of l.initial.self) (lines l.word l.prefix l.sign (schemes_of (map deref_pair l.yielded)))

use Rattle.std.proofs.Common.{◌≡◌, take}
use Rattle.sml_objects.specs.Objects.{types_of}
use Rattle.sml_objects.proofs.TypeViews.{parts_of}
use Rattle.sml_texts.specs.Text.{joined, show_types}
use Rattle.sml_texts.specs.Spelling.{lines_of, and_pieces, level}
use Rattle.sml_texts.proofs.texts.Lines.+types.Given as goal

abbrev pub invariant-push_types-loop-index : goal.invariant-push_types-loop-index
invariant-push_types-loop-index l =
    lines_of l.self ≡ and_pieces (lines_of l.initial.self) (joined l.between (show_types (level l.around) (level l.around) (types_of (parts_of (take l.index l.types)))))

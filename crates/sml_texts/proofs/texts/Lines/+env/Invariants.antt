use Rattle.std.proofs.Common.{◌≡◌, map}
use Rattle.std.specs.Map.Iter.{deref_pair}
use Rattle.sml_objects.specs.Views.{structures_of, entries_of, env_of}
use Rattle.sml_texts.specs.Text.{show_structures}
use Rattle.sml_texts.specs.Spelling.{lines_of, and_pieces}
use Rattle.sml_texts.proofs.texts.Lines.+env.Given as goal

abbrev pub invariant-push_structures-loop-name : goal.invariant-push_structures-loop-name
invariant-push_structures-loop-name l =
    lines_of l.self ≡ and_pieces (lines_of l.initial.self) (show_structures l.prefix (structures_of (entries_of (λ s. env_of s.value) (map deref_pair l.yielded))))

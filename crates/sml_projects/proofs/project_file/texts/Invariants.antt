use Rattle.std.proofs.Common.{◌≡◌, map, take, string_bytes}
use Rattle.sml_projects.proofs.project_file.texts.Given as goal

abbrev pub invariant-loop-word : goal.invariant-loop-word
invariant-loop-word l = map string_bytes l.texts.items ≡ map (λ w. w.now) (take l.word-index l.words)

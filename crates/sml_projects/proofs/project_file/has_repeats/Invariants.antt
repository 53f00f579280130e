use Rattle.sml_projects.proofs.Listings.{Apart}
use Rattle.sml_projects.proofs.project_file.has_repeats.Given as goal

abbrev pub invariant-loop-word : goal.invariant-loop-word
invariant-loop-word l = Apart l.words l.word-index l.seen.keys

use Rattle.std.proofs.Common.{◌≡◌, map}
use Rattle.std.specs.Map.Iter.{deref_pair}
use Rattle.sml_objects.specs.Initial.{Name, naming}
use Rattle.sml_objects.specs.Views.{env_of, schemes_of}
use Rattle.sml_rules.specs.Answers.{accepted}
use Rattle.sml_rules.specs.Matching.{realised_by}
use Rattle.sml_rules.specs.Readings.{read_names}
use Rattle.sml_piece.specs.CodeMatched.{sends}
use Rattle.sml_piece.proofs.matching.sent_names.Given as goal

abbrev pub invariant-loop-name : goal.invariant-loop-name
invariant-loop-name l =
    read_names naming l.place (env_of l.structure) (schemes_of (map deref_pair l.yielded)) (accepted tt)
    × ((n : Name) → sends l.realisation.functions.entries n ≡ realised_by naming (env_of l.structure) (schemes_of (map deref_pair l.yielded)) n)

use Rattle.std.proofs.Common.{map}
use Rattle.std.specs.Map.Iter.{deref_pair}
use Rattle.sml_objects.specs.Initial.{naming}
use Rattle.sml_objects.specs.Views.{env_of, schemes_of}
use Rattle.sml_rules.specs.Answers.{accepted}
use Rattle.sml_rules.specs.Readings.{read_types}
use Rattle.sml_piece.specs.CodeMatched.{sends}
use Rattle.sml_piece.proofs.matching.types_agree.Given as goal

abbrev pub invariant-loop-name : goal.invariant-loop-name
invariant-loop-name l =
    read_types naming l.place (env_of l.structure) (sends l.realisation.functions.entries) (schemes_of (map deref_pair l.yielded)) (accepted tt)

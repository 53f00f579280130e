use Rattle.std.proofs.Common.{map}
use Rattle.std.specs.Map.Iter.{deref_pair}
use Rattle.sml_objects.specs.Initial.{naming}
use Rattle.sml_objects.specs.Objects.{values}
use Rattle.sml_objects.specs.Views.{env_of, schemes_of}
use Rattle.sml_rules.specs.Answers.{accepted}
use Rattle.sml_rules.specs.Readings.{read_values}
use Rattle.sml_piece.specs.CodeMatched.{sends, PlainUnder}
use Rattle.sml_piece.proofs.matching.values_agree.Given as goal

abbrev pub invariant-loop-name : goal.invariant-loop-name
invariant-loop-name l =
    PlainUnder (sends l.realisation.functions.entries) (values (env_of l.specified))
    → read_values naming l.place (env_of l.structure) (sends l.realisation.functions.entries) (schemes_of (map deref_pair l.yielded)) (accepted tt)

use Rattle.std.proofs.Common.{map, drop}
use Rattle.sml_lex.specs.declared.fault.Place.{Place}
use Rattle.sml_tree.specs.Views.{core_dec_of}
use Rattle.sml_objects.specs.Objects.{Env, empty_env}
use Rattle.sml_objects.specs.Initial.{Name, naming}
use Rattle.sml_objects.specs.Views.{env_of}
use Rattle.sml_rules.specs.Answers.{Answer}
use Rattle.sml_rules.specs.Readings.{read_cores}
use Rattle.sml_piece.specs.Elaborated.{Shows, no_local}
use Rattle.sml_piece.proofs.expressions.all_declared.Given as goal

abbrev pub invariant-loop-dec : goal.invariant-loop-dec
invariant-loop-dec l =
    (C : Env Name) × Shows no_local (env_of l.outer) (env_of l.bound) C
    × ((o : Answer Place (Env Name)) → read_cores naming C (env_of l.bound) (map core_dec_of (drop l.dec-index l.decs)) o → read_cores naming (env_of l.outer) empty_env (map core_dec_of l.decs) o)

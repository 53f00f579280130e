-- What is left to gather, after what was.
use Rattle.std.proofs.Common.{◌≡◌, [], drop}
use Rattle.sml_closing.specs.Gathered.{ids_of, with_all}
use Rattle.sml_core.proofs.Gathered.{idents}
use Rattle.sml_core.proofs.values.named.Given as goal

abbrev pub invariant-loop-name : goal.invariant-loop-name
invariant-loop-name l = with_all (ids_of l.found.keys) (idents (drop l.name-index l.names)) ≡ with_all [] (idents l.names)

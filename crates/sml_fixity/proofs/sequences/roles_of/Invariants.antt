use Rattle.std.proofs.Common.{◌≡◌, ◌++◌, drop}
use Rattle.sml_fixity.specs.Scopes.{here}
use Rattle.sml_fixity.specs.Sequences.{roles_from}
use Rattle.sml_fixity.proofs.sequences.roles_of.Given as goal

abbrev pub invariant-loop-index : goal.invariant-loop-index
invariant-loop-index l = l.roles.items ++ roles_from (here l.fixities) l.index (drop l.index l.items) ≡ roles_from (here l.fixities) 0 l.items

use Rattle.std.proofs.Common.{◌≡◌, drop}
use Rattle.sml_fixity.specs.Heads.{no_operator}
use Rattle.sml_fixity.specs.Scopes.{here}
use Rattle.sml_fixity.proofs.heads.no_operator.Given as goal

abbrev pub invariant-loop-item : goal.invariant-loop-item
invariant-loop-item l = no_operator (here l.fixities) (drop l.item-index l.items) ≡ no_operator (here l.fixities) l.items

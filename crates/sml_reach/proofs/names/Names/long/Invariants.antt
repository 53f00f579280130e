-- The parts so far, and those of what is left.
use Rattle.std.proofs.Common.{◌≡◌, length, map}
use Rattle.sml_tree.specs.Views.{ident_of}
use Rattle.sml_reach.specs.Idents.{long_id}
use Rattle.sml_reach.proofs.Parts.{after}
use Rattle.sml_reach.proofs.names.Names.long.Given as goal

abbrev pub invariant-loop-dot : goal.invariant-loop-dot
invariant-loop-dot l = long_id l.text ≡ after (map ident_of l.path.items) (long_id l.rest)

abbrev pub decreases-loop-dot : goal.decreases-loop-dot
decreases-loop-dot l = length l.rest

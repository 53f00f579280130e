use Rattle.std.proofs.Common.{◌≡◌, true, false, length}
use Rattle.sml_objects.specs.Objects.{types_of}
use Rattle.sml_objects.proofs.TypeViews.{parts_of}
use Rattle.sml_core_rules.specs.Values.{have_unknown}
use Rattle.sml_graph.specs.Interned.{AreBodiesOver}
use Rattle.sml_match.specs.General.{AreKnown, Becomes}
use Rattle.sml_match.proofs.Making.{MakeFirst}
use Rattle.sml_match.proofs.general.+becomes.Given as goal

abbrev pub invariant-become_all-loop-index : goal.invariant-become_all-loop-index
invariant-become_all-loop-index l =
    AreKnown l.fn.images → AreBodiesOver (length l.fn.images) 0 (types_of (parts_of l.parts)) → have_unknown (types_of (parts_of l.wanted)) ≡ false
    → Becomes l.attributes l.fn.images (MakeFirst l.attributes l.fn.images l.parts l.wanted l.index) true l.images

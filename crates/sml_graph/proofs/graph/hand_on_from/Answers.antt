use Rattle.std.proofs.Common.{sym, subst, None}
use Rattle.sml_objects.specs.Views.{maker_of}
use Rattle.sml_graph.specs.Limits.{IsDoneBut}
use Rattle.sml_graph.proofs.graph.hand_on_from.Goals as goal

pub hand_on_all-requires-clause-but : goal.hand_on_all-requires-clause-but
hand_on_all-requires-clause-but c =
    subst (IsDoneBut (maker_of c.args.unit) c.args.nodes.now c.args.limits.now None) (sym c.in_ok-pending.ensures.items) c.requires.but

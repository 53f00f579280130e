use Rattle.std.proofs.Common.{◌≡◌, ◌+◌, length}
use Rattle.std.specs.Option.{IfSome}
use Rattle.sml_objects.specs.Views.{maker_of}
use Rattle.sml_graph.specs.Changes.{AreInside}
use Rattle.sml_graph.specs.Limits.{IsDoneBut, SameLimits, NoneKeeps, heights}
use Rattle.sml_graph.proofs.limits.hand_on_all.Given as goal

abbrev pub invariant-loop-change : goal.invariant-loop-change
invariant-loop-change l = record {
  len : length l.limits ≡ length l.nodes;
  inside : AreInside (length l.limits) l.pending.items;
  but : IsDoneBut (maker_of l.unit) l.nodes l.limits l.failed l.pending.items;
  same : SameLimits (maker_of l.unit) l.nodes l.initial.limits l.limits;
  fails : IfSome l.failed (NoneKeeps (maker_of l.unit) l.nodes l.initial.limits);
}

abbrev pub decreases-loop-change : goal.decreases-loop-change
decreases-loop-change l = heights l.limits + length l.pending.items

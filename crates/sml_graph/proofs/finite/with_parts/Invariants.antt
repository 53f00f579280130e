use Rattle.std.proofs.Common.{◌<◌, length, take}
use Rattle.std.specs.List.{AllByRecursion}
use Rattle.sml_objects.specs.Appearance.{Stands}
use Rattle.sml_graph.proofs.finite.with_parts.Given as goal

abbrev pub invariant-loop-change : goal.invariant-loop-change
invariant-loop-change l = record {
  inside : AllByRecursion (λ i. i < length l.nodes) l.all.items;
  changed : AllByRecursion (λ c. Stands c.node l.all.items) (take l.change-index l.changed);
}

use Rattle.std.proofs.Common.{◌≡◌, ℕ, suc, ◌<◌, get_or, map, []}
use Rattle.std.specs.declared.cmp.Ordering.TheVariants.{Less}
use Rattle.sml_tree.specs.Views.{ident_of}
use Rattle.sml_objects.specs.Labels.{label_order}
use Rattle.sml_objects.proofs.labels.are_rising.Given as goal

abbrev pub invariant-loop-index : goal.invariant-loop-index
invariant-loop-index l =
    (k : ℕ) → suc k < l.index → label_order (get_or (map ident_of l.list) k []) (get_or (map ident_of l.list) (suc k) []) ≡ Less

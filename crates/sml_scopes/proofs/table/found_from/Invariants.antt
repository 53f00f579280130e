use Rattle.std.proofs.Common.{◌≡◌, ◌≤◌, ◌-◌, drop, length, map, reverse, take}
use Rattle.sml_tree.specs.Views.{ident_of}
use Rattle.sml_bases.specs.CodeStored.{stored_at}
use Rattle.sml_bases.specs.Layers.{first_found}
use Rattle.sml_scopes.proofs.table.found_from.Given as goal

abbrev pub invariant-loop-left : goal.invariant-loop-left
invariant-loop-left g l = record {
  inside : l.left ≤ length l.opened;
  left : first_found (stored_at g.X.Entry.held (ident_of l.name)) (reverse (drop l.first (map (λ e. e.value) l.opened))) ≡ first_found (stored_at g.X.Entry.held (ident_of l.name)) (reverse (drop l.first (take l.left (map (λ e. e.value) l.opened))));
}

abbrev pub decreases-loop-left : goal.decreases-loop-left
decreases-loop-left g l = l.left - l.first

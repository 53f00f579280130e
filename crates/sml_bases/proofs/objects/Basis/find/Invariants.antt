use Rattle.std.proofs.Common.{◌≡◌, ◌≤◌, length, map, reverse, take}
use Rattle.sml_tree.specs.Views.{ident_of}
use Rattle.sml_bases.specs.CodeStored.{stored_at}
use Rattle.sml_bases.specs.Layers.{bases_of, first_found}
use Rattle.sml_bases.specs.declared.objects.Basis.TheViews.{out-Basis}
use Rattle.sml_bases.proofs.objects.Basis.find.Given as goal

abbrev pub invariant-loop-left : goal.invariant-loop-left
invariant-loop-left g l = record {
  inside : l.left ≤ length (out-Basis l.self).below.items;
  left : first_found (stored_at g.T.Bound.stored (ident_of l.name)) (bases_of l.self) ≡ first_found (stored_at g.T.Bound.stored (ident_of l.name)) (reverse (take l.left (map (λ u. u.value) (out-Basis l.self).below.items)));
}

abbrev pub decreases-loop-left : goal.decreases-loop-left
decreases-loop-left g l = l.left

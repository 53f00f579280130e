use Rattle.std.proofs.Common.{◌≡◌, map, take}
use Rattle.sml_tree.specs.Height.{counted}
use Rattle.sml_tree.specs.Heights.{highest, typ_bind_height}
use Rattle.sml_tree.specs.BindingViews.{typ_bind_of}
use Rattle.sml_tree.proofs.heights.height_of_typ_binds.Given as goal

abbrev pub invariant-loop-bind : goal.invariant-loop-bind
invariant-loop-bind l = l.most ≡ counted (highest typ_bind_height (map typ_bind_of (take l.bind-index l.binds)))

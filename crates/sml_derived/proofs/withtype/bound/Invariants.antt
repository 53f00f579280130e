use Rattle.std.proofs.Common.{◌≡◌, map, drop}
use Rattle.sml_tree.specs.Views.{ident_of}
use Rattle.sml_tree.specs.BindingViews.{typ_bind_of}
use Rattle.sml_tree.specs.Withtype.{bound}
use Rattle.sml_derived.proofs.withtype.bound.Given as goal

abbrev pub invariant-loop-bind : goal.invariant-loop-bind
invariant-loop-bind l = bound (ident_of l.constructor) (map typ_bind_of l.binds) ≡ bound (ident_of l.constructor) (map typ_bind_of (drop l.bind-index l.binds))

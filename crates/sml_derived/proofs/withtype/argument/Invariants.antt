use Rattle.std.proofs.Common.{◌≡◌, map}
use Rattle.sml_tree.specs.Views.{ident_of}
use Rattle.sml_tree.specs.TypeViews.{names_of, ty_of, tys_of}
use Rattle.sml_tree.specs.Withtype.{argument}
use Rattle.sml_derived.proofs.Searches.{argument_from}
use Rattle.sml_derived.proofs.withtype.argument.Given as goal

abbrev pub invariant-loop-index : goal.invariant-loop-index
invariant-loop-index l = argument (ident_of l.variable) (names_of l.variables) (tys_of (map ty_of l.arguments)) ≡ argument_from (ident_of l.variable) l.variables l.arguments l.index

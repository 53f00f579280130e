use Rattle.std.proofs.Common.{◌≡◌, map, reverse, length}
use Rattle.sml_tree.specs.TypeViews.{long_name_of}
use Rattle.sml_pat_sequences.specs.LowViews.{low_ty_of}
use Rattle.sml_bare_pats.specs.TypeRules.{constructed}
use Rattle.sml_bare_pats.proofs.type_rules.constructed.Given as goal

-- what is left to do makes the whole
abbrev pub invariant-loop-constructor : goal.invariant-loop-constructor
invariant-loop-constructor l =
    constructed l.fn.place (low_ty_of l.ty) (map long_name_of (reverse l.constructors.items))
    ≡ constructed l.fn.place (low_ty_of l.fn.ty) (map long_name_of (reverse l.fn.constructors.items))

abbrev pub decreases-loop-constructor : goal.decreases-loop-constructor
decreases-loop-constructor l = length l.constructors.items

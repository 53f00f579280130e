use Rattle.std.proofs.Common.{◌≡◌, take}
use Rattle.sml_tree.specs.TypeViews.{names_of}
use Rattle.sml_derived.proofs.expander.copies_of.Given as goal

abbrev pub invariant-loop-name : goal.invariant-loop-name
invariant-loop-name l = names_of l.copies.items ≡ names_of (take l.name-index l.names)

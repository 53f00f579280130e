use Rattle.std.proofs.Common.{◌≡◌, map, take}
use Rattle.sml_tree.specs.Views.{ident_of}
use Rattle.sml_derived.proofs.expander.copies_of_idents.Given as goal

abbrev pub invariant-loop-ident : goal.invariant-loop-ident
invariant-loop-ident l = map ident_of l.copies.items ≡ map ident_of (take l.ident-index l.idents)

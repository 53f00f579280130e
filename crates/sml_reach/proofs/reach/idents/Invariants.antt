-- The identifiers so far, and those of what is left.
use Rattle.std.proofs.Common.{◌≡◌, ◌++◌, map, length}
use Rattle.sml_tree.specs.Views.{ident_of}
use Rattle.sml_reach.specs.Founds.{atoms_of}
use Rattle.sml_reach.specs.Reach.{ids_of}
use Rattle.sml_reach.proofs.reach.idents.Given as goal

abbrev pub invariant-loop-atom : goal.invariant-loop-atom
invariant-loop-atom l = ids_of (atoms_of l.initial.atoms) ≡ map ident_of l.idents.items ++ ids_of (atoms_of l.atoms)

abbrev pub decreases-loop-atom : goal.decreases-loop-atom
decreases-loop-atom l = length l.atoms.items

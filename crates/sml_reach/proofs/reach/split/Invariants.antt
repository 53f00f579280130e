-- The items and tokens so far, those of what is left, and what the first of them has in brackets.
use Rattle.std.proofs.Common.{◌≡◌, ◌++◌, map, length}
use Rattle.sml_fixity.specs.ItemNames.{name_of}
use Rattle.sml_reach.specs.Founds.{Atom, atoms_of}
use Rattle.sml_reach.specs.Reach.{first_inner}
use Rattle.sml_reach.proofs.reach.split.Given as goal

abbrev pub invariant-loop-atom : goal.invariant-loop-atom
invariant-loop-atom l = record {
  items : map (λ (a : Atom). a.name) (atoms_of l.fn.atoms) ≡ map name_of l.sequence.items.items ++ map (λ (a : Atom). a.name) (atoms_of l.atoms);
  tokens : map (λ (a : Atom). a.token) (atoms_of l.fn.atoms) ≡ l.sequence.tokens.items ++ map (λ (a : Atom). a.token) (atoms_of l.atoms);
  inner : map name_of l.sequence.inner.items ≡ first_inner (atoms_of l.fn.atoms);
}

abbrev pub decreases-loop-atom : goal.decreases-loop-atom
decreases-loop-atom l = length l.atoms.items

-- The declarations so far, none too high, and those of what is left.
use Rattle.std.proofs.Common.{◌≡◌, ◌≤◌, ◌++◌, map, length}
use Rattle.sml_tree.specs.StructureViews.{top_of}
use Rattle.sml_reach.specs.Fits.{fitted_of}
use Rattle.sml_bare.specs.Derivations.{bare_decs}
use Rattle.sml_reach.proofs.UpTo.{IsShort}
use Rattle.sml_bare.proofs.Wholes.{somes, rest}
use Rattle.sml_bare.proofs.whole.bare_decs.Given as goal

abbrev pub invariant-loop-i : goal.invariant-loop-i
invariant-loop-i l = record {
  kept : bare_decs l.unit l.tokens 0 l.nodes (map fitted_of l.fitted) ≡ somes (map top_of l.declarations.items) ++ rest l.unit l.tokens l.nodes (map fitted_of l.fitted) l.first l.i (length l.declarations.items);
  short : IsShort l.most (length (somes (map top_of l.declarations.items)));
  few : l.first ≤ l.i;
}

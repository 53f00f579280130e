-- What is left to read, after what was read.
use Rattle.std.proofs.Common.{◌≡◌, List, ◌++◌}
use Rattle.sml_lex.specs.declared.fault.Place.{Place}
use Rattle.sml_objects.specs.Initial.{Name}
use Rattle.sml_core_rules.specs.Objects.{Env}
use Rattle.sml_match.specs.Paths.{path_in}
use Rattle.sml_match.specs.Searches.{AreSought, HasKnownFunctions, IsHeldAt, given_so_far, reading, sought_by}
use Rattle.sml_match.proofs.Walks.{Lines, types-left}
use Rattle.sml_match.proofs.realise.realise_types.Given as goal

abbrev pub invariant-loop-name : goal.invariant-loop-name
invariant-loop-name l = record {
  path : path_in l.search.way ≡ path_in l.fn.search.way;
  names : sought_by l.search ≡ sought_by l.fn.search;
  left : (p : Place) (ns : List Name) (E : Env Name) → AreSought l.fn.search ns → HasKnownFunctions E → IsHeldAt E (path_in l.fn.search.way) l.held → (rest : Lines)
      → reading p ns E (given_so_far l.fn.search) (types-left (path_in l.fn.search.way) l.specified.entries ++ rest)
      ≡ reading p ns E (given_so_far l.search) (types-left (path_in l.fn.search.way) l.name-iterator ++ rest);
}

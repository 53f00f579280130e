use Rattle.std.specs.Prelude.{◌≡◌, map, take}
use Rattle.sml_objects.specs.Fates.{attributes, substitutes, seen_type}
use Rattle.sml_objects.specs.Initial.{initial}
use Rattle.sml_objects.specs.Names.{int}
use Rattle.sml_objects.specs.Objects.{named}
use Rattle.sml_objects.proofs.fates.close_as.Given as goal

abbrev pub invariant-loop-fate : goal.invariant-loop-fate
invariant-loop-fate l = record {
  variables : l.variables.items ≡ attributes (take l.fate-index l.fates);
  types : map seen_type l.types.items ≡ substitutes (named (initial int)) 0 (take l.fate-index l.fates);
}

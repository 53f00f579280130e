-- What was noted is what the first rules tell.
use Rattle.std.proofs.Common.{◌≡◌, map, take}
use Rattle.sml_tree.specs.Trees.{LongId}
use Rattle.sml_objects.specs.Initial.{Name}
use Rattle.sml_core_rules.specs.Objects.{Env}
use Rattle.sml_patterns.specs.Views.{meanings}
use Rattle.sml_patterns.specs.declared.names.Meaning.TheVariants as M
use Rattle.sml_scopes.specs.Means.{Means}
use Rattle.sml_warnings.specs.Meanings.{meaning_in}
use Rattle.sml_warnings.specs.Named.{after_patterns}
use Rattle.sml_warnings.proofs.Ruled.{pattern_of}
use Rattle.sml_warnings.proofs.matches.names_of.Given as goal

abbrev pub invariant-loop-rule : goal.invariant-loop-rule
invariant-loop-rule l = (C : Env Name) → Means l.scopes C → (x : LongId) → meanings l.names x ≡ after_patterns (meaning_in C) (map pattern_of (take l.rule-index l.rules)) x M.Variable

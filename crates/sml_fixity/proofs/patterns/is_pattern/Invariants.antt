use Rattle.std.proofs.Common.{◌≡◌, drop}
use Rattle.sml_fixity.specs.Patterns.{names_of}
use Rattle.sml_fixity.specs.CodeRuns.{runs}
use Rattle.sml_fixity.specs.declared.patterns.Run.TheVariants.{Start}
use Rattle.sml_fixity.proofs.patterns.is_pattern.Given as goal

abbrev pub invariant-loop-role : goal.invariant-loop-role
invariant-loop-role l = runs (names_of l.items) (drop l.role-index l.roles) l.run ≡ runs (names_of l.items) l.roles Start

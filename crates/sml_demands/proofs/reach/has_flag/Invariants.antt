use Rattle.std.specs.Prelude.{take}
use Rattle.std.specs.List.{AllByRecursion}
use Rattle.sml_schemes.specs.Fixed.{IsMarked}
use Rattle.sml_demands.proofs.reach.has_flag.Given as goal

abbrev pub invariant-loop-unknown : goal.invariant-loop-unknown
invariant-loop-unknown l = AllByRecursion (λ v. IsMarked l.flags v → ⊥) (take l.unknown-index l.unknowns)

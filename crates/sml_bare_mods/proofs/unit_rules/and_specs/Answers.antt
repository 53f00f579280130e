use Rattle.std.proofs.Common.{arith}
use Rattle.sml_bare_mods.proofs.Reversed.{specs_joined, joined_height}
use Rattle.sml_bare_mods.proofs.unit_rules.and_specs.Goals as goal

pub invariant_of-put_specs-clause-measured : goal.invariant_of-put_specs-clause-measured
invariant_of-put_specs-clause-measured c = grind (arith, joined_height)

pub returns : goal.returns
returns c = grind (arith, specs_joined)

use Rattle.std.specs.Prelude.{◌≡◌, map, take}
use Rattle.sml_schemes.specs.Schemes.{fate_at}
use Rattle.sml_schemes.proofs.closing.fates.Given as goal

abbrev pub invariant-loop-variable : goal.invariant-loop-variable
invariant-loop-variable l = l.fates.items ≡ map (fate_at l.nodes l.limits l.unknowns l.fixed l.expansive) (take l.variable-index l.variables)

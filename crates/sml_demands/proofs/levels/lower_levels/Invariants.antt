use Rattle.std.proofs.Common.{take}
use Rattle.sml_demands.specs.CodeLevels.{level_of, LowersLevels}
use Rattle.sml_demands.proofs.levels.lower_levels.Given as goal

abbrev pub invariant-loop-part : goal.invariant-loop-part
invariant-loop-part l = LowersLevels l.initial.levels.items l.initial.pending.items (take l.part-index l.parts) (level_of l.level) l.levels.items l.pending.items
